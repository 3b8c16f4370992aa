use Rattle.spx_examples.proofs.CountedCuts.{on_to_next, on_to_previous}
use Rattle.spx_examples.proofs.count_laws.a_turn_goes_on_to_the_next_value.Goals as goal

pub returns-clause-up : goal.returns-clause-up
returns-clause-up c = on_to_next

pub returns-clause-down : goal.returns-clause-down
returns-clause-down c = on_to_previous
