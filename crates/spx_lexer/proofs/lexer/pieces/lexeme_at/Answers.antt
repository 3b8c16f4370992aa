use Rattle.std.proofs.Common.{arith, sym, ◌∙◌}
use Rattle.spx_lexer.proofs.Numbers.{number_sized}
use Rattle.spx_lexer.proofs.lexer.pieces.lexeme_at.Goals as goal

pub returns-then-is_ascii_digit-clause-within : goal.returns-then-is_ascii_digit-clause-within
returns-then-is_ascii_digit-clause-within c = number_sized c.number_at.result c.args.bytes.now (omega arith) (sym c.is_ascii_digit.ensures.value ∙ c.if-is_ascii_digit.true) c.number_at.ensures.within
