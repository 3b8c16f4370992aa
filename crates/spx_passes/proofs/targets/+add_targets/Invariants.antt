use Rattle.std.proofs.Common.{◌≡◌, ◌||◌, drop}
use Rattle.spx_core.specs.declared.entity.VarId.{VarId}
use Rattle.spx_core.specs.Effects.{sets}
use Rattle.spx_core.specs.Mirror.VarSets.{holds}
use Rattle.spx_lower.specs.Meaning.{effect_in}
use Rattle.spx_passes.specs.Targets.{arms_set}
use Rattle.spx_passes.proofs.targets.+add_targets.Given as goal

abbrev pub invariant-add_targets_of_arms-loop-arm : goal.invariant-add_targets_of_arms-loop-arm
invariant-add_targets_of_arms-loop-arm l = (v : VarId) → (arms_set v (drop l.arm-index l.arms) || holds l.found.keys v) ≡ (arms_set v l.arms || holds l.initial.found.keys v)

abbrev pub invariant-add_all_targets-loop-item : goal.invariant-add_all_targets-loop-item
invariant-add_all_targets-loop-item l = (v : VarId) → (sets v (effect_in (drop l.item-index l.items)) || holds l.found.keys v) ≡ (sets v (effect_in l.items) || holds l.initial.found.keys v)
