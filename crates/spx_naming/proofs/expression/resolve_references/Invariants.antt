use Rattle.std.proofs.Common.{◌≡◌, map, take}
use Rattle.spx_core.specs.ResolvedExpressions.{resolved_reference}
use Rattle.spx_scope.specs.Seen.{seen}
use Rattle.spx_naming.proofs.expression.resolve_references.Given as goal

abbrev pub invariant-loop-name : goal.invariant-loop-name
invariant-loop-name l = l.resolved ≡ map (resolved_reference (seen l.scope)) (take l.name-index l.names)
