use Rattle.std.proofs.Common.{pos}
use Rattle.spx_examples.specs.Operators.{true_at}
use Rattle.spx_examples.specs.PartPrograms.{a_at, i_at}
use Rattle.spx_examples.proofs.PartPrograms.{by_name, by_number}
use Rattle.spx_examples.proofs.part_program_laws.an_index_is_of_its_type.Goals as goal

pub returns : goal.returns
returns c = record {
  element = by_name (a_at 4) (i_at 7);
  past_subtype = by_number (a_at 4) (pos 4);
  past_base = by_number (a_at 4) (pos 2147483648);
  no_number = by_name (a_at 4) (true_at 6 7);
  no_array = by_name (i_at 4) (i_at 7);
}
