use Rattle.spx_examples.proofs.CountedFlows.{to_y, gone, from_none}
use Rattle.spx_examples.proofs.count_laws.bounds_flow_to_what_the_body_sets.Goals as goal

pub returns-clause-to_y : goal.returns-clause-to_y
returns-clause-to_y c = to_y

pub returns-clause-gone : goal.returns-clause-gone
returns-clause-gone c = gone

pub returns-clause-from_none : goal.returns-clause-from_none
returns-clause-from_none c = from_none
