use Rattle.std.proofs.Common.{◌≡◌, ◌∙◌, ◌++◌, ◌<◌, ap, subst, sym}
use Rattle.std.specs.Prelude.{All}
use Rattle.spx_core.specs.Effects.{is_read}
use Rattle.spx_passes.specs.Loops.{read_points}
use Rattle.spx_passes.specs.Points.{Places, size_of}
use Rattle.spx_passes.specs.Positions.{positions_at}
use Rattle.spx_passes.proofs.PointLaws.{all_within, places_of}
use Rattle.spx_passes.proofs.PositionLaws.{read_at, read_within}
use Rattle.spx_passes.proofs.positions.positions_read.Goals as goal

pub returns-clause-within : goal.returns-clause-within
returns-clause-within c =
    let frame = c.args.frame.now in
    let read = positions_at frame.vars c.args.reads.now in
    let is : c.add_positions.new.found.items ≡ read = c.in_ok-add_positions.ensures ∙ ap (λ xs. xs ++ read) c.new-found.ensures.items in
    subst (All (λ k. k < size_of frame)) (sym is) (all_within frame read (read_within frame.vars c.args.reads.now))

pub returns-clause-exact : goal.returns-clause-exact
returns-clause-exact c =
    let frame = c.args.frame.now in
    let reads = c.args.reads.now in
    let read = positions_at frame.vars reads in
    let is : c.add_positions.new.found.items ≡ read = c.in_ok-add_positions.ensures ∙ ap (λ xs. xs ++ read) c.new-found.ensures.items in
    subst (λ found. Places frame found (read_points reads)) (sym is) (places_of frame (λ v. is_read v reads) read (read_within frame.vars reads) (λ k v stands. read_at frame.vars c.requires k v stands reads))
