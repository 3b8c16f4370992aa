use Rattle.std.proofs.Common.{◌∙◌}
use Rattle.spx_interp.specs.Results.{frame_of}
use Rattle.spx_interp.proofs.WayLaws.{placed_more}
use Rattle.spx_interp.proofs.assignment.placed_steps.Goals as goal

pub loop-step-preserved : goal.loop-step-preserved
loop-step-preserved c = λ go.
    let l = c.loop-step in
    l.invariant go
    ∙ placed_more (frame_of c.args.body.now) c.args.turns c.args.store.now c.args.way.now l.step-index c.step-item.result l.steps c.push.new.self c.in_ok-placed.placed c.loop-step-test.true c.step-item.is
    c.in_ok-placed.ensures c.in_ok-push.ensures.ok go
