use Rattle.spx_examples.proofs.PartPrograms.{field_effect, field_is, field_set, field_unset, no_field}
use Rattle.spx_examples.proofs.part_program_laws.an_assignment_sets_one_field.Goals as goal

pub returns : goal.returns
returns c = record { value = field_is; no_value = no_field; set = field_set; unset = field_unset; reads = field_effect }
