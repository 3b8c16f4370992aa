use Rattle.spx_examples.proofs.BadRuns.{demand_refused, demand_starts, demand_fails, demand_is_false}
use Rattle.spx_examples.proofs.bad_laws.a_precondition_on_an_out_formal_can_be_bad.Goals as goal

pub returns-clause-refused : goal.returns-clause-refused
returns-clause-refused c = demand_refused

pub returns-clause-start : goal.returns-clause-start
returns-clause-start c = demand_starts

pub returns-clause-bad : goal.returns-clause-bad
returns-clause-bad c = demand_fails

pub returns-clause-fails : goal.returns-clause-fails
returns-clause-fails c = demand_is_false
