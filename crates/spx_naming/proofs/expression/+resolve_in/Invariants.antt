use Rattle.std.proofs.Common.{◌≡◌, map, take}
use Rattle.spx_core.specs.ResolvedExpressions.{resolved_in}
use Rattle.spx_scope.specs.Seen.{seen}
use Rattle.spx_naming.proofs.expression.+resolve_in.Given as goal

abbrev pub invariant-resolve_parts-loop-part : goal.invariant-resolve_parts-loop-part
invariant-resolve_parts-loop-part l = l.resolved.items ≡ map (resolved_in l.scene (seen l.scope)) (take l.part-index l.parts)
