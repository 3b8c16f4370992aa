use Rattle.std.proofs.Common.{◌≡◌, ◌++◌, drop, length, map}
use Rattle.spx_core.specs.DeclaredNames.{declaring_all}
use Rattle.spx_core.specs.ResolvedDeclarations.{declared_by_params, resolved_params}
use Rattle.spx_core.specs.Resolved.{var_of}
use Rattle.spx_scope.specs.Seen.{seen}
use Rattle.spx_naming.proofs.declaration.resolve_params.Given as goal

abbrev pub invariant-loop-param : goal.invariant-loop-param
invariant-loop-param l =
    (l.resolved ++ resolved_params (seen l.outer) l.region (length l.vars) (drop l.param-index l.params) ≡ resolved_params (seen l.outer) l.initial.region (length l.initial.vars) l.params)
    × (declaring_all l.region (declared_by_params (resolved_params (seen l.outer) l.region (length l.vars) (drop l.param-index l.params)))
    ≡ declaring_all l.initial.region (declared_by_params (resolved_params (seen l.outer) l.initial.region (length l.initial.vars) l.params)))
    × (l.vars ++ map var_of (declared_by_params (resolved_params (seen l.outer) l.region (length l.vars) (drop l.param-index l.params)))
    ≡ l.initial.vars ++ map var_of (declared_by_params (resolved_params (seen l.outer) l.initial.region (length l.initial.vars) l.params)))
