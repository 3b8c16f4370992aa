use Rattle.std.proofs.Common.{Some, ap, sym, ◌∙◌}
use Rattle.spx_interp.specs.Results.{frame_of}
use Rattle.spx_interp.proofs.RunForms.{looked_at_is, on_truth, unlooked}
use Rattle.spx_interp.proofs.statements.look_at.Goals as goal

pub returns-in-Ok-true : goal.returns-in-Ok-true
returns-in-Ok-true c =
    looked_at_is (frame_of c.args.body.now) c.args.store.now c.args.kind c.args.place c.args.annotation.now
    ∙ ap (λ o. on_truth o c.args.kind c.args.place c.args.store.now) (sym c.in-Ok-true.ensures ∙ ap Some c.in-Ok-true.field-0-test)

pub returns-in-Ok-false : goal.returns-in-Ok-false
returns-in-Ok-false c =
    looked_at_is (frame_of c.args.body.now) c.args.store.now c.args.kind c.args.place c.args.annotation.now
    ∙ ap (λ o. on_truth o c.args.kind c.args.place c.args.store.now) (sym c.in-Ok-false.ensures ∙ ap Some c.in-Ok-false.field-0-test)

pub returns-in-Err : goal.returns-in-Err
returns-in-Err c = unlooked (frame_of c.args.body.now) c.args.store.now c.args.kind c.args.place c.args.annotation.now c.in-Err.fault c.in-Err.ensures
