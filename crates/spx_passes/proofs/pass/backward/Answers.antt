use Rattle.std.proofs.Common.{◌∙◌}
use Rattle.spx_lower.specs.Meaning.{effect_in}
use Rattle.spx_passes.proofs.EndLaws.{leads_on}
use Rattle.spx_passes.proofs.pass.backward.Goals as goal

pub returns : goal.returns
returns c =
    let frame = c.args.frame.now in
    let turn = c.in_ok-turn in
    let rho = c.in_ok-rho in
    let mu = c.in_ok-mu in
    let count = c.len-count.ensures in
    leads_on frame (effect_in c.args.items.now) turn.turn.flow rho.rho turn.turn.inner mu.mu turn.ensures (rho.ensures.0 ∙ count) (rw count at rho.ensures.1) (rw count at mu.ensures.rows) (rw count at mu.ensures.related) mu.ensures.listed
