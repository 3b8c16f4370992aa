use Rattle.spx_examples.proofs.PartTables.{none_made, none_looks}
use Rattle.spx_examples.proofs.part_laws.a_type_comes_after_those_of_its_parts.Goals as goal

pub returns : goal.returns
returns c = record { made = none_made; looks = none_looks }
