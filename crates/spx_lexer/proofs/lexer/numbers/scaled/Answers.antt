use Rattle.std.proofs.Common.{◌≡◌, ◌*◌, ◌+◌, ◌^◌, arith, sym, ap, ◌∙◌}
use Rattle.spx_lexer.specs.Pieces.{fitting}
use Rattle.spx_lexer.proofs.Fitting.{fitting-small, fitting-some, factor_step, factor_wide}
use Rattle.spx_lexer.proofs.lexer.numbers.scaled.Goals as goal

pub returns-in_err-product : goal.returns-in_err-product
returns-in_err-product c =
    let at = c.loop-i in
    let same = ap (λ n. fitting (n * c.args.base + 0)) at.invariant.0 in
    c.from_residual.ensures ∙ factor_wide c.args.value c.args.base at.i c.args.exponent c.requires.base c.loop-i-test.true (sym c.in_err-product.was ∙ c.step.ensures ∙ same)

pub loop-i-preserved : goal.loop-i-preserved
loop-i-preserved c =
    let at = c.loop-i in
    let some = fitting-some (at.product * c.args.base + 0) c.in_ok-product.product (sym c.in_ok-product.was ∙ c.step.ensures) in
    (some.0 ∙ ap (λ n. n * c.args.base + 0) at.invariant.0 ∙ factor_step c.args.value c.args.base at.i, omega (arith, some))

pub returns : goal.returns
returns c =
    let at = c.loop-i in
    let end : at.i ≡ c.args.exponent = omega arith in
    fitting-small at.product at.invariant.1 ∙ ap fitting (at.invariant.0 ∙ ap (λ i. c.args.value * c.args.base ^ i) end)
