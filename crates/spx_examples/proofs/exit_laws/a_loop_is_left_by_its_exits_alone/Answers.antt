use Rattle.spx_examples.proofs.ExitFlows.{gone, set, unset}
use Rattle.spx_examples.proofs.exit_laws.a_loop_is_left_by_its_exits_alone.Goals as goal

pub returns-clause-gone : goal.returns-clause-gone
returns-clause-gone c = gone

pub returns-clause-set : goal.returns-clause-set
returns-clause-set c = set

pub returns-clause-unset : goal.returns-clause-unset
returns-clause-unset c = unset
