use Rattle.spx_examples.proofs.PartPrograms.{unset}
use Rattle.spx_examples.proofs.part_program_laws.an_unset_array_takes_no_element.Goals as goal

pub returns : goal.returns
returns c = unset
