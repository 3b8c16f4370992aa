use Rattle.spx_examples.proofs.PartPrograms.{puts}
use Rattle.spx_examples.proofs.part_program_laws.an_assignment_sets_one_element.Goals as goal

pub returns : goal.returns
returns c = puts
