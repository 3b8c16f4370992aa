use Rattle.std.proofs.Common.{◌≡◌, ◌++◌, [], drop}
use Rattle.spx_core.specs.ResolvedDeclarations.{resolved_fields}
use Rattle.spx_scope.specs.Seen.{seen}
use Rattle.spx_naming.proofs.composites.resolve_fields.Given as goal

abbrev pub invariant-loop-field : goal.invariant-loop-field
invariant-loop-field l = l.resolved ++ resolved_fields (seen l.outer) l.region (drop l.field-index l.fields) ≡ resolved_fields (seen l.outer) [] l.fields
