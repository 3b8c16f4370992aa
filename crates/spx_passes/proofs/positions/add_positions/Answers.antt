use Rattle.std.proofs.Common.{◌≡◌, [], ◌++◌, append_assoc, ap, get_or, sym, take, ◌∙◌}
use Rattle.std.specs.List.{cons_option}
use Rattle.spx_core.specs.Effects.{Read}
use Rattle.spx_core.specs.Mirror.VarSets.{place_in_set}
use Rattle.spx_passes.specs.Positions.{positions_at}
use Rattle.spx_passes.proofs.PositionLaws.{reads_more}
use Rattle.spx_passes.proofs.positions.add_positions.Goals as goal

pub loop-k-preserved : goal.loop-k-preserved
loop-k-preserved c =
    let set = c.args.vars.now in
    let reads = c.args.reads.now in
    let i = c.loop-k.k in
    let none : Read = (record { file = 0; line = 0; column = 0 }, record { 0 = 0 }) in
    let start = c.args.found.now.items in
    let one = cons_option (place_in_set set (get_or reads i none).1) [] in
    let added : c.add_position.new.found.items ≡ c.loop-k.found.items ++ one = c.in_ok-add_position.ensures in
    added ∙ ap (λ xs. xs ++ one) c.loop-k.invariant ∙ append_assoc start (positions_at set (take i reads)) one ∙ ap (λ xs. start ++ xs) (sym (reads_more set reads i none c.loop-k-test.true))
