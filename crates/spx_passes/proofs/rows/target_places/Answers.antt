use Rattle.std.proofs.Common.{◌<◌, All, subst, sym}
use Rattle.spx_core.specs.Mirror.VarSets.{holds}
use Rattle.spx_passes.specs.Points.{Places, on_variables, size_of}
use Rattle.spx_passes.specs.Targets.{positions_in}
use Rattle.spx_passes.proofs.PointLaws.{all_within, places_of}
use Rattle.spx_passes.proofs.PositionLaws.{numbers_at, numbers_within}
use Rattle.spx_passes.proofs.rows.target_places.Goals as goal

pub returns-clause-within : goal.returns-clause-within
returns-clause-within c =
    let frame = c.args.frame.now in
    let keys = c.args.targets.now.keys in
    subst (All (λ k. k < size_of frame)) (sym c.in_ok-to.ensures) (all_within frame (positions_in frame.vars keys) (numbers_within frame.vars keys))

pub returns-clause-exact : goal.returns-clause-exact
returns-clause-exact c =
    let frame = c.args.frame.now in
    let keys = c.args.targets.now.keys in
    subst (λ found. Places frame found (on_variables (λ v. holds keys v))) (sym c.in_ok-to.ensures)
    (places_of frame (λ v. holds keys v) (positions_in frame.vars keys) (numbers_within frame.vars keys) (λ k v stands. numbers_at frame.vars c.requires k v stands keys))
