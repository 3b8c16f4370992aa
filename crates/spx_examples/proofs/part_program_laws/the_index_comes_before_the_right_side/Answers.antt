use Rattle.spx_examples.proofs.PartPrograms.{index_first, then_range, then_right}
use Rattle.spx_examples.proofs.part_program_laws.the_index_comes_before_the_right_side.Goals as goal

pub returns : goal.returns
returns c = record { index = index_first; right_side = then_right; range = then_range }
