use Rattle.spx_examples.proofs.ExitFlows.{no_way, no_read}
use Rattle.spx_examples.proofs.exit_laws.nothing_is_read_after_a_loop_without_an_exit.Goals as goal

pub returns-clause-no_way : goal.returns-clause-no_way
returns-clause-no_way c = no_way

pub returns-clause-no_read : goal.returns-clause-no_read
returns-clause-no_read c = no_read
