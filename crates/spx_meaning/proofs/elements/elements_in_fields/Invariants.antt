use Rattle.std.proofs.Common.{◌≡◌, ◌≤◌, ◌+◌, drop}
use Rattle.std.specs.List.{sum_by}
use Rattle.spx_core.specs.declared.program.Field.{Field}
use Rattle.spx_meaning.specs.Elements.{elements_at}
use Rattle.spx_meaning.specs.Mirror.{capped}
use Rattle.spx_meaning.proofs.elements.elements_in_fields.Given as goal

abbrev pub invariant-loop-field : goal.invariant-loop-field
invariant-loop-field l = record {
  least : l.total ≤ 1000001;
  total : capped (l.total + sum_by (λ (field : Field). elements_at l.counts field.subtype.base.id) (drop l.field-index l.fields)) ≡ capped (sum_by (λ (field : Field). elements_at l.counts field.subtype.base.id) l.fields);
}
