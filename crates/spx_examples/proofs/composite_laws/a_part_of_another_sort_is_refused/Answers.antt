use Rattle.spx_examples.proofs.CompositeSorts.{number_has, truth_has, variable_has, update_refused, in_t_refused, element_refuses_truth, element_refuses_record}
use Rattle.spx_examples.proofs.composite_laws.a_part_of_another_sort_is_refused.Goals as goal

pub returns : goal.returns
returns c = record {
  index = element_refuses_truth _ _ (variable_has _) (truth_has _);
  array = element_refuses_record _ _ (variable_has _) (number_has _);
  element = update_refused _ _ _ (variable_has _) (number_has _) (truth_has _);
  membership = in_t_refused _ (variable_has _);
}
