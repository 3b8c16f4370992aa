use Rattle.std.proofs.Common.{pos, refl}
use Rattle.spx_core.specs.declared.entity.TheConstants.{INTEGER}
use Rattle.spx_core.specs.declared.rule.ExprType.TheVariants.{Of}
use Rattle.spx_term.specs.Meaning.{value_of_op}
use Rattle.spx_examples.specs.Operators.{minus, number, only_a}
use Rattle.spx_examples.specs.Powers.{big, power}
use Rattle.spx_examples.proofs.Powers.{checks_there, eval_there, term_there}
use Rattle.spx_examples.proofs.context_laws.a_power_is_computed_in_its_type.Goals as goal

pub returns-clause-wide : goal.returns-clause-wide
unfolding value_of_op
returns-clause-wide c f n = eval_there f n (only_a (number (pos 40))) big (pos 2) 1 refl

pub returns-clause-past_64_bits : goal.returns-clause-past_64_bits
unfolding value_of_op
returns-clause-past_64_bits c f n = eval_there f n (only_a (number (pos 63))) big (pos 2) 1 refl

pub returns-clause-integer : goal.returns-clause-integer
unfolding value_of_op
returns-clause-integer c f n = eval_there f n (only_a (number (pos 30))) INTEGER (pos 2) 1 refl

pub returns-clause-past_integer : goal.returns-clause-past_integer
unfolding value_of_op
returns-clause-past_integer c f n = eval_there f n (only_a (number (pos 40))) INTEGER (pos 2) 1 refl

pub returns-clause-negative : goal.returns-clause-negative
unfolding value_of_op
returns-clause-negative c f n = eval_there f n (only_a (number (minus 1))) big (pos 2) 1 refl

pub returns-clause-term : goal.returns-clause-term
returns-clause-term c p entered = term_there p entered (Of big.base) (power (pos 2) 1)

pub returns-clause-wide_check : goal.returns-clause-wide_check
returns-clause-wide_check c p entered rest = checks_there p entered (Of big.base) (power (pos 2) 1) rest

pub returns-clause-integer_check : goal.returns-clause-integer_check
returns-clause-integer_check c p entered rest = checks_there p entered (Of INTEGER.base) (power (pos 2) 1) rest
