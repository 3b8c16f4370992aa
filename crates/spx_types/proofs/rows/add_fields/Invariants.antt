use Rattle.std.proofs.Common.{◌≡◌, ◌++◌, map, take}
use Rattle.spx_core.specs.ResolvedDeclarations.{field_with}
use Rattle.spx_types.proofs.rows.add_fields.Given as goal

abbrev pub invariant-loop-name : goal.invariant-loop-name
invariant-loop-name l = l.fields ≡ l.initial.fields ++ map (field_with l.subtype) (take l.name-index l.names)
