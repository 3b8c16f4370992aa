use Rattle.spx_examples.proofs.PartPrograms.{meant_out_of_range, meant_set, meant_unset}
use Rattle.spx_examples.proofs.part_program_laws.an_annotation_gives_each_element_a_value.Goals as goal

pub returns : goal.returns
returns c = record { set = meant_set; out_of_range = meant_out_of_range; unset = meant_unset }
