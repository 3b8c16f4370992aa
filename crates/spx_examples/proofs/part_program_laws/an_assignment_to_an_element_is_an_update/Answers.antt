use Rattle.spx_examples.proofs.PartPrograms.{walks}
use Rattle.spx_examples.proofs.part_program_laws.an_assignment_to_an_element_is_an_update.Goals as goal

pub returns : goal.returns
returns c = walks
