use Rattle.std.proofs.Common.{arith, sym, ◌∙◌}
use Rattle.spx_tree.specs.Numbers.{numeral_value}
use Rattle.spx_lexer.proofs.Fitting.{fitting-some, fitting-none}
use Rattle.spx_lexer.proofs.lexer.numbers.exponent_value.Goals as goal

pub returns-in_default : goal.returns-in_default
returns-in_default c = omega (arith, fitting-none (numeral_value 10 c.args.digits.now) (sym c.in_default.is ∙ c.numeral_value.ensures))

pub returns-then-value-from : goal.returns-then-value-from
returns-then-value-from c = omega (arith, fitting-some (numeral_value 10 c.args.digits.now) c.in-Some.value (sym c.in-Some.is ∙ c.numeral_value.ensures))

pub returns-else-value-from : goal.returns-else-value-from
returns-else-value-from c = omega (arith, fitting-some (numeral_value 10 c.args.digits.now) c.in-Some.value (sym c.in-Some.is ∙ c.numeral_value.ensures))
