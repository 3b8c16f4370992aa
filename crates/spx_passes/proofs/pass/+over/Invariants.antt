use Rattle.std.proofs.Common.{drop, map}
use Rattle.spx_lower.specs.Meaning.{arm_of, effect_in}
use Rattle.spx_passes.specs.Branches.{Arms}
use Rattle.spx_passes.specs.Directions.{Steps}
use Rattle.spx_passes.specs.Steps.{StepsBack}
use Rattle.spx_passes.proofs.PassLaws.{Led}
use Rattle.spx_passes.proofs.pass.+over.Given as goal

abbrev pub invariant-after_all-loop-item : goal.invariant-after_all-loop-item
invariant-after_all-loop-item l = Led l.frame (effect_in l.items) (effect_in (drop l.item-index l.items)) l.initial.rows l.rows l.initial.list l.list

-- the items from k on have been gone over
abbrev pub invariant-before_all-loop-k : goal.invariant-before_all-loop-k
invariant-before_all-loop-k l = StepsBack l.frame (effect_in (drop l.k l.items)) l.initial.rows l.rows l.initial.list l.list

-- the arms from k on have been gone over
abbrev pub invariant-over_arms-loop-k : goal.invariant-over_arms-loop-k
invariant-over_arms-loop-k l = Arms (λ e. Steps l.direction l.frame e l.rows) l.frame l.selector (map arm_of (drop l.k l.arms)) l.initial.ends l.ends l.initial.targets.keys l.targets.keys l.initial.list l.list
