use Rattle.std.proofs.Common.{◌∙◌}
use Rattle.std.proofs.lemmas.Result.{IfOk-weaker}
use Rattle.spx_lower.specs.Meaning.{effect_in}
use Rattle.spx_passes.proofs.Ways.{over_turned}
use Rattle.spx_passes.proofs.pass.over_body.Goals as goal

pub returns : goal.returns
returns c =
    let start = c.in_ok-start in
    IfOk-weaker c.over_turn.result _ _
    (λ turn steps. over_turned c.args.direction c.args.frame.now (effect_in c.args.items.now) start.start turn.flow turn.inner (start.ensures.0 ∙ c.requires.size, rw c.requires.size at start.ensures.1) steps) c.over_turn.ensures
