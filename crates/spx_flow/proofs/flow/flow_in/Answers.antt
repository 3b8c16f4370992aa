use Rattle.std.proofs.Common.{ap}
use Rattle.spx_lower.specs.Meaning.{effect_in}
use Rattle.spx_passes.specs.declared.frame.Frame.{Frame}
use Rattle.spx_flow.proofs.FlowLaws.{framed_covers, framed_fits, is_flow}
use Rattle.spx_flow.proofs.flow.flow_in.Goals as goal

pub forward-requires-clause-covers : goal.forward-requires-clause-covers
forward-requires-clause-covers c = framed_covers c.args.sub.now (effect_in c.args.items.now) c.in_ok-frame.frame c.requires.items c.in_ok-frame.ensures c.requires.covers

pub forward-requires-clause-size : goal.forward-requires-clause-size
forward-requires-clause-size c = framed_fits c.args.sub.now c.in_ok-frame.frame (ap (λ (f : Frame). f.vars) c.in_ok-frame.ensures) c.requires.size

pub returns : goal.returns
returns c =
    let vars = ap (λ (f : Frame). f.vars) c.in_ok-frame.ensures in
    is_flow c.args.sub.now (record { lambda = c.in_ok-lambda.lambda; mu = c.args.back.mu; rho = c.args.back.rho; defines = c.in_ok-defines.defines })
    c.requires.back
    (rw vars at c.in_ok-lambda.ensures.rows)
    (rw (vars, c.requires.items) at c.in_ok-lambda.ensures.lambda)
    (rw c.requires.items at c.in_ok-defines.ensures)
