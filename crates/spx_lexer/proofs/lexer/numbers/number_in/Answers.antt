use Rattle.std.proofs.Common.{◌≤◌, ◌^◌, IfSome, sym, subst}
use Rattle.spx_lexer.specs.declared.lexer.numbers.Digits.{Digits}
use Rattle.spx_lexer.proofs.Fitting.{digits_at-fits}
use Rattle.spx_lexer.proofs.lexer.numbers.number_in.Goals as goal

pub value_of-requires-clause-value : goal.value_of-requires-clause-value
value_of-requires-clause-value c = subst (λ (d : Digits). IfSome d.value (λ n. n ≤ 2 ^ 127)) (sym c.digits_at-digits.ensures.value) (digits_at-fits c.args.bytes.now)
