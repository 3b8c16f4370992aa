use Rattle.std.proofs.Common.{pos}
use Rattle.spx_num.specs.Widths.{fits}
use Rattle.spx_tree.specs.declared.expression.InfixOp.TheVariants as op
use Rattle.spx_core.specs.declared.entity.TheConstants.{INTEGER}
use Rattle.spx_core.specs.declared.rule.ExprType.TheVariants.{Universal, Of}
use Rattle.spx_examples.specs.Powers.{big, minus_at, number_at, operation_at, parenthesized_at, power, raised}
use Rattle.spx_examples.proofs.Powers.{judged_there}
use Rattle.spx_examples.proofs.context_laws.a_converted_part_lies_in_the_base_range.Goals as goal

pub returns-clause-wide : goal.returns-clause-wide
unfolding fits
returns-clause-wide c = judged_there (Of big.base) (power (pos 4294967296) 1)

pub returns-clause-universal : goal.returns-clause-universal
unfolding fits
returns-clause-universal c = judged_there Universal (power (pos 4294967296) 1)

pub returns-clause-last : goal.returns-clause-last
unfolding fits
returns-clause-last c = judged_there (Of INTEGER.base) (power (pos 2147483647) 1)

pub returns-clause-after_last : goal.returns-clause-after_last
unfolding fits
returns-clause-after_last c = judged_there (Of INTEGER.base) (power (pos 2147483648) 1)

pub returns-clause-before_first : goal.returns-clause-before_first
unfolding fits
returns-clause-before_first c = judged_there (Of INTEGER.base) (raised 13 (parenthesized_at 1 (minus_at 2 (number_at (pos 2147483649) 3))))

pub returns-clause-past_64_bits : goal.returns-clause-past_64_bits
unfolding fits
returns-clause-past_64_bits c = judged_there (Of big.base) (power (pos 9223372036854775808) 1)

pub returns-clause-part : goal.returns-clause-part
unfolding fits
returns-clause-part c = judged_there (Of INTEGER.base) (operation_at op.Multiply 8 (power (pos 2) 1) (number_at (pos 2147483648) 10))

pub returns-clause-in_order : goal.returns-clause-in_order
unfolding fits
returns-clause-in_order c = judged_there (Of INTEGER.base) (operation_at op.Add 8 (power (pos 2147483648) 1) (power (pos 2147483648) 10))
