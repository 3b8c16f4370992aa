use Rattle.spx_examples.proofs.PartPrograms.{field_changes}
use Rattle.spx_examples.proofs.part_program_laws.a_field_of_an_element_changes_alone.Goals as goal

pub returns : goal.returns
returns c = field_changes
