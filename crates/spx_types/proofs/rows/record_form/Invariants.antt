use Rattle.std.proofs.Common.{◌≡◌, take}
use Rattle.std.specs.List.{flat_map}
use Rattle.spx_core.specs.ResolvedDeclarations.{fields_by}
use Rattle.spx_types.proofs.rows.record_form.Given as goal

abbrev pub invariant-loop-decl : goal.invariant-loop-decl
invariant-loop-decl l = l.fields ≡ flat_map fields_by (take l.decl-index l.decls)
