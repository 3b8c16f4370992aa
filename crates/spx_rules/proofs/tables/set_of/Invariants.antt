use Rattle.std.proofs.Common.{◌≡◌, ◌||◌, drop}
use Rattle.spx_core.specs.declared.entity.VarId.{VarId}
use Rattle.spx_core.specs.Formals.{stands_in}
use Rattle.spx_core.specs.Mirror.VarSets.{holds}
use Rattle.spx_rules.proofs.tables.set_of.Given as goal

abbrev pub invariant-loop-var : goal.invariant-loop-var
invariant-loop-var l = (v : VarId) → (stands_in v (drop l.var-index l.vars) || holds l.set v) ≡ stands_in v l.vars
