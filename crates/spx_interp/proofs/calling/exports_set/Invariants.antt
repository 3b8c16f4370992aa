use Rattle.std.proofs.Common.{◌≡◌, drop}
use Rattle.std.specs.Prelude.{◌||◌, is_some, not}
use Rattle.std.specs.List.{list_all}
use Rattle.spx_core.specs.declared.entity.VarId.{VarId}
use Rattle.spx_core.specs.Dependency.{exports}
use Rattle.spx_meaning.specs.Runs.{exports_set}
use Rattle.spx_meaning.specs.Stores.{look}
use Rattle.spx_interp.proofs.calling.exports_set.Given as goal

abbrev pub invariant-loop-var : goal.invariant-loop-var
invariant-loop-var l = exports_set l.sub l.store ≡ list_all (λ (v : VarId). not (exports v l.sub) || is_some (look l.store v)) (drop l.var-index l.var-items)
