use Rattle.std.proofs.Common.{Some, ap, ap₂, sym, ◌∙◌}
use Rattle.spx_core.specs.Places.{place_of}
use Rattle.spx_meaning.specs.Runs.{assign}
use Rattle.spx_interp.specs.Results.{frame_of}
use Rattle.spx_interp.proofs.RunLaws.{set_given, set_stops}
use Rattle.spx_interp.proofs.statements.run_assignment.Goals as goal

pub returns-in-Some : goal.returns-in-Some
returns-in-Some c =
    let p = c.args.body.now.program.now in
    let s = c.args.store.now in
    let whole = c.is_empty.ensures.0 c.if-not-is_empty.false in
    set_given (frame_of c.args.body.now) c.args.turns s c.args.target.now c.args.expr.now whole c.in-Ok.value c.in-Ok.ensures
    ∙ ap₂ (λ place var. Some (assign p place var s c.in-Ok.value)) (sym c.place.ensures) (sym c.in-Some.ensures)
    ∙ ap Some c.assign.ensures

pub returns-in-None : goal.returns-in-None
returns-in-None c =
    let p = c.args.body.now.program.now in
    let s = c.args.store.now in
    let whole = c.is_empty.ensures.0 c.if-not-is_empty.false in
    set_given (frame_of c.args.body.now) c.args.turns s c.args.target.now c.args.expr.now whole c.in-Ok.value c.in-Ok.ensures
    ∙ ap (λ var. Some (assign p (place_of c.args.expr.now) var s c.in-Ok.value)) (sym c.in-None.ensures)

pub returns-in-Err : goal.returns-in-Err
returns-in-Err c =
    let s = c.args.store.now in
    let whole = c.is_empty.ensures.0 c.if-not-is_empty.false in
    rw c.step.ensures (set_stops (frame_of c.args.body.now) c.args.turns s c.args.target.now c.args.expr.now whole c.in-Err.stop s c.in-Err.ensures)
