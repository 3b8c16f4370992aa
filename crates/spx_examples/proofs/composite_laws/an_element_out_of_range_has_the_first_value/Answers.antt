use Rattle.spx_examples.proofs.CompositeMeaning.{outside_is_first}
use Rattle.spx_examples.proofs.composite_laws.an_element_out_of_range_has_the_first_value.Goals as goal

pub returns : goal.returns
returns c = outside_is_first
