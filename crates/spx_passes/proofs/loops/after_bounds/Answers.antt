use Rattle.std.proofs.Common.{refl, subst, sym}
use Rattle.spx_core.specs.Mirror.VarSets.{holds}
use Rattle.spx_passes.specs.Loops.{IsLeft, read_points}
use Rattle.spx_passes.specs.Points.{Places, on_variables}
use Rattle.spx_passes.proofs.loops.after_bounds.Goals as goal

pub returns-in-None : goal.returns-in-None
returns-in-None c =
    let keys = c.args.targets.now.keys in
    subst (λ b. IsLeft c.args.frame.now b (λ x. on_variables (λ v. holds keys v) x) c.args.place c.args.state.now c.args.ends.now c.args.ends.now c.args.lambda.now c.args.lambda.now) (sym c.in-None.is) (refl, refl)

pub returns-in_ok-spread-in-Some : goal.returns-in_ok-spread-in-Some
returns-in_ok-spread-in-Some c =
    let frame = c.args.frame.now in
    let keys = c.args.targets.now.keys in
    let reads = c.in-Some.reads in
    let from = c.in_ok-from-in-Some in
    let exact = subst (λ rs. Places frame from.from.items (read_points rs)) c.as_slice.ensures from.ensures.exact in
    let test = c.in_ok-spread-in-Some.ensures (read_points reads) (on_variables (λ v. holds keys v)) (rw (sym c.as_slice-from.ensures.value) at exact) (rw (sym c.as_slice-to.ensures.value) at c.in_ok-to-in-Some.ensures.exact) in
    subst (λ b. IsLeft frame b (λ x. on_variables (λ v. holds keys v) x) c.args.place c.args.state.now c.args.ends.now c.spread.new.rows c.args.lambda.now c.spread.new.list) (sym c.in-Some.is) test
