use Rattle.spx_examples.proofs.PartPrograms.{effect_is}
use Rattle.spx_examples.proofs.part_program_laws.elements_are_one_variable.Goals as goal

pub returns : goal.returns
returns c = effect_is
