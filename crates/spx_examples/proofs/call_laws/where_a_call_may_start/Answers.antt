use Rattle.spx_examples.proofs.Starts.{from_41, not_from_last, not_from_unset, not_from_below_first, not_from_truth}
use Rattle.spx_examples.proofs.call_laws.where_a_call_may_start.Goals as goal

pub returns-clause-from_41 : goal.returns-clause-from_41
returns-clause-from_41 c = from_41

pub returns-clause-not_from_last : goal.returns-clause-not_from_last
returns-clause-not_from_last c = not_from_last

pub returns-clause-not_from_unset : goal.returns-clause-not_from_unset
returns-clause-not_from_unset c = not_from_unset

pub returns-clause-not_from_below_first : goal.returns-clause-not_from_below_first
returns-clause-not_from_below_first c = not_from_below_first

pub returns-clause-not_from_truth : goal.returns-clause-not_from_truth
returns-clause-not_from_truth c = not_from_truth
