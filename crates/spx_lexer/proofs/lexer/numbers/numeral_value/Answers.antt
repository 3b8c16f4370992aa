use Rattle.std.proofs.Common.{◌*◌, ◌+◌, arith, drop, sym, ap, ◌∙◌}
use Rattle.std.proofs.lemmas.List.{take_rest}
use Rattle.spx_tree.specs.Numbers.{numeral_value}
use Rattle.spx_lexer.specs.Pieces.{fitting}
use Rattle.spx_lexer.proofs.Fitting.{fitting-small, fitting-some, value_after, value_after-end, digit_step, digit_wide}
use Rattle.spx_lexer.proofs.lexer.numbers.numeral_value.Goals as goal

pub returns-in_err-value : goal.returns-in_err-value
returns-in_err-value c =
    let at = c.loop-rest in
    c.from_residual.ensures
    ∙ digit_wide c.args.base at.value c.digit_value.result (numeral_value c.args.base c.args.numeral.now) at.rest.now c.requires (omega arith) c.if-byte-ne95.true c.digit_value.ensures.value at.invariant.0 (sym c.in_err-value.was ∙ c.step.ensures)

pub loop-rest-preserved-in_ok-value : goal.loop-rest-preserved-in_ok-value
loop-rest-preserved-in_ok-value c =
    let at = c.loop-rest in
    let some = fitting-some (at.value * c.args.base + c.digit_value.result) c.in_ok-value.value (sym c.in_ok-value.was ∙ c.step.ensures) in
    let step = digit_step c.args.base at.value c.digit_value.result at.rest.now (omega arith) c.if-byte-ne95.true c.digit_value.ensures.value in
    (ap (value_after c.args.base c.in_ok-value.value) (take_rest at.rest.now 1) ∙ ap (λ n. value_after c.args.base n (drop 1 at.rest.now)) some.0 ∙ sym step ∙ at.invariant.0, omega (arith, some))

pub returns : goal.returns
returns c =
    let at = c.loop-rest in
    fitting-small at.value at.invariant.1 ∙ ap fitting (sym (value_after-end c.args.base at.value at.rest.now (omega arith)) ∙ at.invariant.0)
