use Rattle.spx_examples.proofs.Weakened.{negated_operand, converted_operand, quotient_operand, compared_operand, guarded_operand, tested_operand, bound_operand, small_is_held}
use Rattle.spx_examples.proofs.weakening_laws.an_operand_may_be_too_large.Goals as goal

pub returns-clause-negated : goal.returns-clause-negated
returns-clause-negated c = negated_operand

pub returns-clause-converted : goal.returns-clause-converted
returns-clause-converted c = converted_operand

pub returns-clause-divided : goal.returns-clause-divided
returns-clause-divided c = quotient_operand

pub returns-clause-compared : goal.returns-clause-compared
returns-clause-compared c = compared_operand

pub returns-clause-passed_over : goal.returns-clause-passed_over
returns-clause-passed_over c = guarded_operand

pub returns-clause-tested : goal.returns-clause-tested
returns-clause-tested c = tested_operand

pub returns-clause-bound : goal.returns-clause-bound
returns-clause-bound c = bound_operand

pub returns-clause-small : goal.returns-clause-small
returns-clause-small c = small_is_held
