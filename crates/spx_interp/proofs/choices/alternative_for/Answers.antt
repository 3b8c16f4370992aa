use Rattle.std.proofs.Common.{◌-◌, ◌≡◌, length, arith, ap, sym, ◌∙◌, true, false, drop}
use Rattle.spx_interp.specs.Results.{ran_alternatives}
use Rattle.spx_interp.proofs.ChoiceLaws.{ran_at_end, ran_from}
use Rattle.spx_interp.proofs.choices.alternative_for.Goals as goal

pub returns-then-has_value-clause-runs : goal.returns-then-has_value-clause-runs
returns-then-has_value-clause-runs c f n s =
    c.loop-k.invariant f n s
    ∙ ran_from c.args.value.now f n s c.args.alternatives.now c.loop-k.k c.index-alternatives-k.result true (omega arith) (sym c.if-has_value.true ∙ c.has_value.ensures)

pub loop-k-preserved : goal.loop-k-preserved
loop-k-preserved c f n s =
    c.loop-k.invariant f n s
    ∙ ran_from c.args.value.now f n s c.args.alternatives.now c.loop-k.k c.index-alternatives-k.result false (omega arith) (sym c.if-has_value.false ∙ c.has_value.ensures)

pub returns-clause-runs : goal.returns-clause-runs
returns-clause-runs c f n s =
    let alternatives = c.args.alternatives.now in
    let end : c.loop-k.k ≡ length alternatives - 1 = omega arith in
    c.loop-k.invariant f n s ∙ ap (λ k. ran_alternatives c.args.value.now f n s (drop k alternatives)) end ∙ ran_at_end c.args.value.now f n s alternatives (length alternatives - 1) (omega arith)
