use Rattle.std.proofs.Common.{◌≡◌, ◌*◌, ◌+◌, map, take}
use Rattle.spx_core.specs.declared.program.Field.{Field}
use Rattle.spx_meaning.specs.Mirror.{types_before}
use Rattle.spx_meaning.specs.Stores.{first_value}
use Rattle.spx_meaning.proofs.firsts.+first.Given as goal

abbrev pub decreases-first_before : goal.decreases-first_before
decreases-first_before l = 3 * l.size + 1

abbrev pub decreases-first_composite : goal.decreases-first_composite
decreases-first_composite l = 3 * l.size

abbrev pub decreases-first_fields : goal.decreases-first_fields
decreases-first_fields l = 3 * l.size + 2

abbrev pub invariant-first_fields-loop-field : goal.invariant-first_fields-loop-field
invariant-first_fields-loop-field l = l.found ≡ map (λ (field : Field). first_value (types_before l.program l.size) field.subtype) (take l.field-index l.fields)
