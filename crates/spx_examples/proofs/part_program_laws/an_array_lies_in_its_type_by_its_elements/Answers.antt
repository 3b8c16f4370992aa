use Rattle.spx_examples.proofs.PartPrograms.{looks, one_in, three_in}
use Rattle.spx_examples.proofs.part_program_laws.an_array_lies_in_its_type_by_its_elements.Goals as goal

pub returns : goal.returns
returns c = record { looks = looks; inside = three_in 4 5 6; past_last = three_in 4 5 2147483648; too_few = one_in }
