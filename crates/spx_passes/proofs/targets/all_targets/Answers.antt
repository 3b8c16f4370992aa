use Rattle.std.proofs.Common.{◌||◌, ap, ◌∙◌}
use Rattle.spx_core.specs.Effects.{sets}
use Rattle.spx_lower.specs.Meaning.{effect_in}
use Rattle.spx_core.specs.Mirror.VarSets.{holds}
use Rattle.spx_passes.proofs.TargetLaws.{or_nothing}
use Rattle.spx_passes.proofs.targets.all_targets.Goals as goal

pub returns : goal.returns
returns c v =
    let own = sets v (effect_in c.args.items.now) in
    c.in_ok-add_all_targets.ensures v ∙ ap (λ keys. own || holds keys v) c.in_ok-found.ensures ∙ or_nothing own
