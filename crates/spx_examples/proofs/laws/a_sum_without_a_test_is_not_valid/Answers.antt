use Rattle.spx_examples.proofs.RefusedConditions.{conditions_are, not_valid, unfit}
use Rattle.spx_examples.proofs.laws.a_sum_without_a_test_is_not_valid.Goals as goal

pub returns-clause-conditions : goal.returns-clause-conditions
returns-clause-conditions c = conditions_are

pub returns-clause-not_valid : goal.returns-clause-not_valid
returns-clause-not_valid c = not_valid

pub returns-clause-unfit : goal.returns-clause-unfit
returns-clause-unfit c = unfit
