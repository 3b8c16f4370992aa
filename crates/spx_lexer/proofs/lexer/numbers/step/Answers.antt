use Rattle.std.proofs.Common.{◌≡◌, ◌*◌, ◌+◌, arith, ap, ◌∙◌}
use Rattle.spx_lexer.specs.Pieces.{fitting}
use Rattle.spx_lexer.proofs.Fitting.{fitting-wide, fitting-small, step_over, step_fits}
use Rattle.spx_lexer.proofs.lexer.numbers.step.Goals as goal

pub returns-then-value-digit : goal.returns-then-value-digit
returns-then-value-digit c =
    let base = c.from-base.result in
    let digit = c.from-digit.result in
    let same : c.args.value * base + digit ≡ c.args.value * c.args.base + c.args.digit = cc in
    let over = step_over 170141183460469231731687303715884105728 digit base c.args.value (omega arith) (omega arith) c.if-value-digit.true in
    fitting-wide (c.args.value * base + digit) (omega arith) ∙ ap fitting same

pub returns : goal.returns
returns c =
    let base = c.from-base.result in
    let digit = c.from-digit.result in
    let same : c.args.value * base + digit ≡ c.args.value * c.args.base + c.args.digit = cc in
    let fits = step_fits 170141183460469231731687303715884105728 digit base c.args.value (omega arith) (omega arith) c.if-value-digit.false in
    fitting-small (c.args.value * base + digit) (omega arith) ∙ ap fitting same
