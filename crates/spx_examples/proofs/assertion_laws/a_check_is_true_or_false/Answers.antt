use Rattle.spx_examples.proofs.Assertions.{next_of_last, unset_is_below, unset_is_not_above}
use Rattle.spx_examples.proofs.assertion_laws.a_check_is_true_or_false.Goals as goal

pub returns-clause-past_last : goal.returns-clause-past_last
returns-clause-past_last c = next_of_last

pub returns-clause-unset_below : goal.returns-clause-unset_below
returns-clause-unset_below c = unset_is_below

pub returns-clause-unset_above : goal.returns-clause-unset_above
returns-clause-unset_above c = unset_is_not_above
