use Rattle.std.proofs.Common.{pos}
use Rattle.spx_tree.specs.declared.expression.InfixOp.TheVariants as op
use Rattle.spx_core.specs.declared.rule.ExprType.TheVariants.{Universal, Of}
use Rattle.spx_examples.specs.Powers.{big, number_at, operation_at, parenthesized_at, power, raised}
use Rattle.spx_examples.proofs.Contexts.{context_is}
use Rattle.spx_examples.proofs.context_laws.what_meets_no_type_is_an_integer.Goals as goal

pub returns-clause-exponent_beside : goal.returns-clause-exponent_beside
returns-clause-exponent_beside c = context_is (Of big.base) (operation_at op.Power 3 (number_at (pos 2) 1) (parenthesized_at 6 (power (pos 3) 7)))

pub returns-clause-exponent_alone : goal.returns-clause-exponent_alone
returns-clause-exponent_alone c = context_is Universal (operation_at op.Power 3 (number_at (pos 2) 1) (parenthesized_at 6 (power (pos 3) 7)))

pub returns-clause-raised_twice : goal.returns-clause-raised_twice
returns-clause-raised_twice c = context_is Universal (raised 8 (parenthesized_at 1 (power (pos 2) 2)))
