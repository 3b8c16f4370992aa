use Rattle.std.proofs.Common.{◌≡◌, ◌∙◌, ◌++◌, ◌<◌, ap, subst, sym}
use Rattle.std.specs.Prelude.{All}
use Rattle.spx_core.specs.Effects.{is_read}
use Rattle.spx_passes.specs.Loops.{read_points}
use Rattle.spx_passes.specs.Points.{Places, size_of}
use Rattle.spx_passes.specs.Positions.{positions_at}
use Rattle.spx_passes.proofs.PointLaws.{all_within, places_of}
use Rattle.spx_passes.proofs.PositionLaws.{read_at, read_within, reads_both}
use Rattle.spx_passes.proofs.positions.positions_of_both.Goals as goal

pub returns-clause-within : goal.returns-clause-within
returns-clause-within c =
    let frame = c.args.frame.now in
    let reads = c.args.reads.now in
    let more = c.args.more.now in
    let first = positions_at frame.vars reads in
    let second = positions_at frame.vars more in
    let is : c.add_positions-2.new.found.items ≡ positions_at frame.vars (reads ++ more) =
    c.in_ok-add_positions-2.ensures ∙ ap (λ xs. xs ++ second) (c.in_ok-add_positions.ensures ∙ ap (λ xs. xs ++ first) c.new-found.ensures.items) ∙ sym (reads_both frame.vars reads more) in
    subst (All (λ k. k < size_of frame)) (sym is) (all_within frame (positions_at frame.vars (reads ++ more)) (read_within frame.vars (reads ++ more)))

pub returns-clause-exact : goal.returns-clause-exact
returns-clause-exact c =
    let frame = c.args.frame.now in
    let reads = c.args.reads.now in
    let more = c.args.more.now in
    let first = positions_at frame.vars reads in
    let second = positions_at frame.vars more in
    let is : c.add_positions-2.new.found.items ≡ positions_at frame.vars (reads ++ more) =
    c.in_ok-add_positions-2.ensures ∙ ap (λ xs. xs ++ second) (c.in_ok-add_positions.ensures ∙ ap (λ xs. xs ++ first) c.new-found.ensures.items) ∙ sym (reads_both frame.vars reads more) in
    subst (λ found. Places frame found (read_points (reads ++ more))) (sym is)
    (places_of frame (λ v. is_read v (reads ++ more)) (positions_at frame.vars (reads ++ more)) (read_within frame.vars (reads ++ more)) (λ k v stands. read_at frame.vars c.requires k v stands (reads ++ more)))
