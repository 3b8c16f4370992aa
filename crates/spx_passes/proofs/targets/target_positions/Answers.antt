use Rattle.std.proofs.Common.{◌++◌, [], ◌∷◌, ap, get_or, sym, ◌∙◌}
use Rattle.spx_passes.specs.Targets.{positions_in}
use Rattle.spx_passes.proofs.PositionLaws.{positions_more}
use Rattle.spx_passes.proofs.targets.target_positions.Goals as goal

pub loop-number-preserved : goal.loop-number-preserved
loop-number-preserved c =
    let set = c.args.vars.now in
    let numbers = c.as_slice-number-items.result.now in
    let i = c.loop-number.number-index in
    c.in_ok-add_position.ensures ∙ ap (λ xs. xs ++ positions_in set (get_or numbers i 0 ∷ [])) c.loop-number.invariant ∙ sym (positions_more set numbers i c.loop-number-test.true)
