use Rattle.std.proofs.Common.{refl}
use Rattle.spx_examples.proofs.PartPrograms.{not_made, types_made}
use Rattle.spx_examples.proofs.part_program_laws.types_of_programs_are_made_in_their_order.Goals as goal

pub returns : goal.returns
returns c = record { made = types_made; formed = refl; not_made = not_made }
