use Rattle.spx_examples.proofs.CountedCuts.{high_x, high_y}
use Rattle.spx_examples.proofs.count_laws.a_bound_that_may_change_has_a_name.Goals as goal

pub returns-clause-import : goal.returns-clause-import
returns-clause-import c = high_x

pub returns-clause-export : goal.returns-clause-export
returns-clause-export c = high_y
