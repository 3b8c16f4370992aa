use Rattle.std.proofs.Common.{◌≡◌, ◌||◌, drop}
use Rattle.spx_core.specs.declared.entity.VarId.{VarId}
use Rattle.spx_core.specs.Uses.{mentions}
use Rattle.spx_core.specs.Mirror.VarSets.{holds}
use Rattle.spx_rules.proofs.named.variables.Given as goal

abbrev pub invariant-loop-name : goal.invariant-loop-name
invariant-loop-name l = (v : VarId) → (mentions v (drop l.name-index l.names) || holds l.set v) ≡ mentions v l.names
