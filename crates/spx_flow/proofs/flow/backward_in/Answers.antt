use Rattle.std.proofs.Common.{ap}
use Rattle.std.proofs.lemmas.Result.{IfOk-weaker}
use Rattle.spx_lower.specs.Meaning.{effect_in}
use Rattle.spx_passes.specs.declared.frame.Frame.{Frame}
use Rattle.spx_flow.proofs.FlowLaws.{framed_covers, framed_fits, is_backward_flow}
use Rattle.spx_flow.proofs.flow.backward_in.Goals as goal

pub backward-requires-clause-covers : goal.backward-requires-clause-covers
backward-requires-clause-covers c = framed_covers c.args.sub.now (effect_in c.args.items.now) c.in_ok-frame.frame c.requires.items c.in_ok-frame.ensures c.requires.covers

pub backward-requires-clause-size : goal.backward-requires-clause-size
backward-requires-clause-size c = framed_fits c.args.sub.now c.in_ok-frame.frame (ap (λ (f : Frame). f.vars) c.in_ok-frame.ensures) c.requires.size

pub returns : goal.returns
returns c =
    let vars = ap (λ (f : Frame). f.vars) c.in_ok-frame.ensures in
    IfOk-weaker c.backward.result _ _ (λ back led. is_backward_flow c.args.sub.now back.rho back.mu (rw (vars, c.requires.items) at led)) c.backward.ensures
