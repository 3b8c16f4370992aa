use Rattle.std.proofs.Common.{pos}
use Rattle.spx_tree.specs.declared.expression.InfixOp.TheVariants as op
use Rattle.spx_core.specs.declared.entity.TheConstants.{INTEGER_FIRST}
use Rattle.spx_term.specs.Meaning.{value_of_op}
use Rattle.spx_examples.specs.Operators.{minus}
use Rattle.spx_examples.proofs.Operators.{meant_two}
use Rattle.spx_examples.proofs.operator_laws.an_annotation_has_a_value.Goals as goal

pub returns-clause-quotient : goal.returns-clause-quotient
unfolding value_of_op
returns-clause-quotient c = meant_two op.Divide (pos 7) (pos 0)

pub returns-clause-remainder : goal.returns-clause-remainder
unfolding value_of_op
returns-clause-remainder c = meant_two op.Rem (pos 7) (pos 0)

pub returns-clause-modulus : goal.returns-clause-modulus
unfolding value_of_op
returns-clause-modulus c = meant_two op.Mod (pos 7) (pos 0)

pub returns-clause-negative : goal.returns-clause-negative
unfolding value_of_op
returns-clause-negative c = meant_two op.Power (pos 2) (minus 1)

pub returns-clause-power : goal.returns-clause-power
unfolding value_of_op
returns-clause-power c = meant_two op.Power (pos 2) (pos 31)

pub returns-clause-past_last : goal.returns-clause-past_last
unfolding value_of_op
returns-clause-past_last c = meant_two op.Divide INTEGER_FIRST (minus 1)
