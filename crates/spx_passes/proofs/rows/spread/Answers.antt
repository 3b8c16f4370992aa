use Rattle.std.proofs.Common.{◌∙◌, refl, subst, sym}
use Rattle.spx_passes.specs.declared.occurrence.Occurrence.{Occurrence}
use Rattle.spx_passes.specs.Steps.{Spreads}
use Rattle.spx_passes.proofs.RowLaws.{spreads}
use Rattle.spx_passes.proofs.rows.spread.Goals as goal

pub returns : goal.returns
returns c f g exact_from exact_to =
    let frame = c.args.frame.now in
    let source = c.args.source.now in
    let old = c.args.rows.now in
    let new = c.add_rows_to.new.self in
    let before = c.args.list.now in
    let o : Occurrence = record { place = c.args.place; vars = c.in_ok-vars.vars } in
    subst (Spreads frame f g c.args.place source old new before) (sym c.in_ok-push.ensures.ok)
    (spreads frame f g c.args.place source old new before c.args.from.now c.args.to.now o c.requires.from exact_from exact_to c.add_rows_to.ensures.size c.add_rows_to.ensures.pairs c.requires.beside.rows
    (c.in_ok-vars.ensures.0 ∙ c.requires.beside.size) c.in_ok-vars.ensures.1 refl)
