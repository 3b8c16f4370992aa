use Rattle.spx_examples.proofs.Weakened.{one_turn_is_few, two_turns_end, no_turn_ends, not_derived}
use Rattle.spx_examples.proofs.weakening_laws.calls_of_different_bounds_are_compared.Goals as goal

pub returns-clause-later : goal.returns-clause-later
returns-clause-later c = one_turn_is_few

pub returns-clause-two : goal.returns-clause-two
returns-clause-two c = two_turns_end

pub returns-clause-none : goal.returns-clause-none
returns-clause-none c = no_turn_ends

pub returns-clause-not_derived : goal.returns-clause-not_derived
returns-clause-not_derived c = not_derived
