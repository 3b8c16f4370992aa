use Rattle.std.proofs.Common.{◌≡◌, drop}
use Rattle.spx_lower.specs.Meaning.{effect_in}
use Rattle.spx_passes.specs.Positions.{exits_in}
use Rattle.spx_passes.specs.Targets.{arms_exit}
use Rattle.spx_passes.proofs.exits.+exits.Given as goal

-- none before this one has an exit
abbrev pub invariant-arms_exit-loop-arm : goal.invariant-arms_exit-loop-arm
invariant-arms_exit-loop-arm l = arms_exit l.deep l.arms ≡ arms_exit l.deep (drop l.arm-index l.arms)

abbrev pub invariant-have_exits-loop-item : goal.invariant-have_exits-loop-item
invariant-have_exits-loop-item l = exits_in l.deep (effect_in l.items) ≡ exits_in l.deep (effect_in (drop l.item-index l.items))
