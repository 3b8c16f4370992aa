use Rattle.std.proofs.Common.{◌≡◌, map, take}
use Rattle.spx_core.specs.ResolvedStatements.{resolved_item}
use Rattle.spx_scope.specs.Seen.{seen}
use Rattle.spx_naming.proofs.statement.resolve_items.Given as goal

abbrev pub invariant-loop-item : goal.invariant-loop-item
invariant-loop-item l = l.resolved ≡ map (resolved_item (seen l.scope)) (take l.item-index l.items)
