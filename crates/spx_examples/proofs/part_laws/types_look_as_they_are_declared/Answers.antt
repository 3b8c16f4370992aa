use Rattle.spx_examples.proofs.PartTables.{are_made, array_looks, record_looks, nested_looks, array_is}
use Rattle.spx_examples.proofs.part_laws.types_look_as_they_are_declared.Goals as goal

pub returns : goal.returns
returns c = record { made = are_made; array = array_looks; flat = record_looks; nested = nested_looks; said = array_is }
