use Rattle.std.proofs.Common.{pos}
use Rattle.spx_num.specs.Widths.{fits}
use Rattle.spx_tree.specs.declared.expression.InfixOp.TheVariants as op
use Rattle.spx_core.specs.declared.rule.ExprType.TheVariants.{Of}
use Rattle.spx_examples.specs.Powers.{big, constant_at, minus_at, number_at, operation_at, parenthesized_at, power, raised}
use Rattle.spx_examples.proofs.Contexts.{context_is}
use Rattle.spx_examples.proofs.context_laws.the_largest_static_parts_are_converted.Goals as goal

pub returns-clause-sum : goal.returns-clause-sum
unfolding fits
returns-clause-sum c = context_is (Of big.base) (operation_at op.Add 3 (number_at (pos 1) 1) (power (pos 2) 5))

pub returns-clause-sign : goal.returns-clause-sign
unfolding fits
returns-clause-sign c = context_is (Of big.base) (minus_at 1 (parenthesized_at 3 (power (pos 2) 4)))

pub returns-clause-powers : goal.returns-clause-powers
unfolding fits
returns-clause-powers c = context_is (Of big.base) (operation_at op.Multiply 8 (power (pos 2) 1) (power (pos 3) 10))

pub returns-clause-power_of_power : goal.returns-clause-power_of_power
unfolding fits
returns-clause-power_of_power c = context_is (Of big.base) (raised 8 (parenthesized_at 1 (power (pos 2) 2)))

pub returns-clause-operation : goal.returns-clause-operation
unfolding fits
returns-clause-operation c = context_is (Of big.base) (operation_at op.Subtract 7 (operation_at op.Add 3 (number_at (pos 1) 1) (number_at (pos 1) 5)) (power (pos 2) 9))

pub returns-clause-parentheses : goal.returns-clause-parentheses
unfolding fits
returns-clause-parentheses c = context_is (Of big.base) (raised 7 (parenthesized_at 1 (operation_at op.Add 4 (number_at (pos 1) 2) (number_at (pos 1) 6))))

pub returns-clause-named_number : goal.returns-clause-named_number
unfolding fits
returns-clause-named_number c = context_is (Of big.base) (raised 1 (constant_at (pos 2) 1))
