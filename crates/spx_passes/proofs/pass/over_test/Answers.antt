use Rattle.std.proofs.Common.{◌++◌, subst, sym}
use Rattle.std.proofs.lemmas.Result.{on_ok_weaker}
use Rattle.spx_core.specs.Mirror.VarSets.{holds}
use Rattle.spx_passes.specs.Directions.{Tests}
use Rattle.spx_passes.specs.Loops.{read_points}
use Rattle.spx_passes.specs.Points.{reached}
use Rattle.spx_passes.proofs.pass.over_test.Goals as goal

pub returns-in-Forward : goal.returns-in-Forward
returns-in-Forward c =
    let l = c.args.is_exit in
    let keys = c.args.targets.now.keys in
    let reads = c.args.reads.now ++ c.args.selector.now in
    let new = c.spread.new in
    on_ok_weaker c.spread.result
    (λ spreads. subst (λ d. Tests d c.args.frame.now l (λ v. holds keys v) reads c.args.place c.args.rows.now c.args.ends.now new.rows c.args.list.now new.list) (sym c.in-Forward.is)
    (spreads (read_points reads) (reached l (λ v. holds keys v)) (rw (sym c.as_slice-from.ensures.value) at c.in_ok-from.ensures.exact) (rw (sym c.as_slice-to.ensures.value) at c.in_ok-to.ensures.exact)))
    c.spread.ensures

pub returns : goal.returns
returns c =
    let l = c.args.is_exit in
    let keys = c.args.targets.now.keys in
    let reads = c.args.reads.now ++ c.args.selector.now in
    let new = c.spread-in-Backward.new in
    on_ok_weaker c.spread-in-Backward.result
    (λ spreads. subst (λ d. Tests d c.args.frame.now l (λ v. holds keys v) reads c.args.place c.args.rows.now c.args.ends.now new.rows c.args.list.now new.list) (sym c.in-Backward.is)
    (spreads (reached l (λ v. holds keys v)) (read_points reads) (rw (sym c.as_slice-to.ensures.value) at c.in_ok-to.ensures.exact) (rw (sym c.as_slice-from.ensures.value) at c.in_ok-from.ensures.exact)))
    c.spread-in-Backward.ensures
