use Rattle.std.proofs.Common.{◌||◌, ap, ap₂, ◌∙◌, sym}
use Rattle.std.proofs.lemmas.Result.{on_ok_weaker}
use Rattle.spx_core.specs.Effects.{sets}
use Rattle.spx_core.specs.Mirror.VarSets.{holds}
use Rattle.spx_lower.specs.Meaning.{effect_in}
use Rattle.spx_passes.specs.Targets.{arms_set}
use Rattle.spx_passes.proofs.TargetLaws.{or_assoc, sets_branch}
use Rattle.spx_passes.proofs.targets.+add_targets.Goals as goal

pub add_targets-returns-in_ok-add_all_targets-in-Branch : goal.add_targets-returns-in_ok-add_all_targets-in-Branch
add_targets-returns-in_ok-add_all_targets-in-Branch t c =
    let here = c.in-Branch in
    on_ok_weaker c.add_targets_of_arms.result (λ are v.
    let old = holds c.args.found.now.keys v in
    let arms = arms_set v here.arms in
    let otherwise = sets v (effect_in here.otherwise) in
    are v ∙ ap₂ ◌||◌ (ap (arms_set v) (c.as_slice-in-Branch.ensures ∙ c.get-in-Branch-2.ensures)) (c.in_ok-add_all_targets-in-Branch.ensures v ∙ ap (λ xs. sets v (effect_in xs) || old) (c.as_slice.ensures ∙ c.get-in-Branch.ensures))
    ∙ sym (or_assoc arms otherwise old) ∙ ap (λ b. b || old) (sym (sets_branch c.args.item.now here.field-0 here.arms here.field-2 here.otherwise here.is v))) c.add_targets_of_arms.ensures
