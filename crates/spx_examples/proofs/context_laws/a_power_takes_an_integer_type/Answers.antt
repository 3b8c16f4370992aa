use Rattle.std.proofs.Common.{pos}
use Rattle.spx_num.specs.Widths.{fits}
use Rattle.spx_tree.specs.declared.expression.InfixOp.TheVariants as op
use Rattle.spx_core.specs.declared.entity.TheConstants.{BOOLEAN, INTEGER}
use Rattle.spx_core.specs.declared.rule.ExprType.TheVariants.{Universal, Of}
use Rattle.spx_examples.specs.Declarations.{color}
use Rattle.spx_examples.specs.Powers.{big, number_at, operation_at, power}
use Rattle.spx_examples.proofs.Contexts.{context_is}
use Rattle.spx_examples.proofs.context_laws.a_power_takes_an_integer_type.Goals as goal

pub returns-clause-wide : goal.returns-clause-wide
unfolding fits
returns-clause-wide c = context_is (Of big.base) (power (pos 2) 1)

pub returns-clause-integer : goal.returns-clause-integer
unfolding fits
returns-clause-integer c = context_is (Of INTEGER.base) (power (pos 2) 1)

pub returns-clause-truth_values : goal.returns-clause-truth_values
unfolding fits
returns-clause-truth_values c = context_is (Of BOOLEAN.base) (power (pos 2) 1)

pub returns-clause-literals : goal.returns-clause-literals
unfolding fits
returns-clause-literals c = context_is (Of color.base) (power (pos 2) 1)

pub returns-clause-none : goal.returns-clause-none
unfolding fits
returns-clause-none c = context_is Universal (power (pos 2) 1)

pub returns-clause-sum : goal.returns-clause-sum
unfolding fits
returns-clause-sum c = context_is Universal (operation_at op.Add 8 (power (pos 2) 1) (number_at (pos 5) 10))
