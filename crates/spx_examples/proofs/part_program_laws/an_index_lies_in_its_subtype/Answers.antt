use Rattle.spx_examples.proofs.PartPrograms.{above, below, checks_index, inside}
use Rattle.spx_examples.proofs.part_program_laws.an_index_lies_in_its_subtype.Goals as goal

pub returns : goal.returns
returns c = record { inside = inside; below = below; above = above; check = checks_index }
