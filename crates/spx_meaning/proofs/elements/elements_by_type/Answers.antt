use Rattle.std.proofs.Common.{◌≡◌, List, ap, sym, ◌∙◌, subst, ◌<◌, ◌≤◌, arith, get_or, length, rules}
use Rattle.spx_core.specs.declared.program.TypeRow.{TypeRow}
use Rattle.spx_meaning.specs.Elements.{elements_in}
use Rattle.spx_meaning.specs.Mirror.{capped}
use Rattle.spx_meaning.proofs.ElementCounts.{all_rows, next_row}
use Rattle.spx_meaning.proofs.elements.elements_by_type.Goals as goal

pub loop-row-preserved : goal.loop-row-preserved
loop-row-preserved c =
    let rows = c.as_slice-row-items.result.now in
    let same = c.as_slice-row-items.ensures in
    let is : c.elements_in.result ≡ capped (elements_in c.loop-row.counts c.row-item.result.form) = c.elements_in.ensures ∙ ap (λ counts. capped (elements_in counts c.row-item.result.form)) c.as_slice.ensures in
    next_row c.args.program.now.types c.loop-row.row-index c.row-item.result c.loop-row.counts c.elements_in.result c.push.new.self (subst (λ (rows : List TypeRow). c.loop-row.row-index < length rows) same c.loop-row-test.true)
    c.loop-row.invariant.known c.loop-row.invariant.rest (is ∙ ap (λ (row : TypeRow). capped (elements_in c.loop-row.counts row.form)) (c.row-item.is ∙ ap (λ (rows : List TypeRow). get_or rows c.loop-row.row-index c.row-item.result) same)) c.in_ok-push.ensures.ok

pub returns : goal.returns
returns c =
    all_rows c.args.program.now.types c.loop-row.row-index c.loop-row.counts (subst (λ (rows : List TypeRow). length rows ≤ c.loop-row.row-index) c.as_slice-row-items.ensures (omega (arith, c.loop-row-test.false)))
    c.loop-row.invariant.known c.loop-row.invariant.rest
