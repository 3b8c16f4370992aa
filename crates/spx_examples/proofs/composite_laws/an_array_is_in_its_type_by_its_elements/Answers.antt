use Rattle.spx_examples.proofs.CompositeValues.{elements_in, ten_out}
use Rattle.spx_examples.proofs.CompositeSorts.{number_has, range_has, others_has}
use Rattle.spx_examples.proofs.composite_laws.an_array_is_in_its_type_by_its_elements.Goals as goal

pub returns : goal.returns
returns c = record {
  inside = elements_in;
  outside = ten_out;
  sorted = range_has _ _ 1 1 (others_has _ (number_has _)) (number_has _);
}
