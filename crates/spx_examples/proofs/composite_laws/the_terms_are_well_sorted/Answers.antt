use Rattle.spx_term.specs.declared.term.Quantifier.TheVariants.{All}
use Rattle.spx_examples.proofs.CompositeSorts.{number_has, variable_has, blank_has, element_has, update_has, range_has, others_has, digit_has, with_f_has, pair_has, part_has, with_part_has, with_digit_has, in_t_has, is_has, quantified_has}
use Rattle.spx_examples.proofs.composite_laws.the_terms_are_well_sorted.Goals as goal

pub returns : goal.returns
returns c = record {
  element = element_has _ _ (update_has _ _ _ (variable_has _) (number_has _) (number_has _)) (number_has _);
  field = digit_has _ (with_f_has _ _ (variable_has _) (number_has _));
  ranges = range_has _ _ 1 1 (range_has _ _ 2 3 (blank_has 0) (number_has _)) (number_has _);
  others = range_has _ _ 1 1 (others_has _ (number_has _)) (number_has _);
  fields = pair_has;
  nested = element_has _ _ (part_has _ (with_digit_has _ _ (with_part_has _ _ (variable_has _) (update_has _ _ _ (variable_has _) (number_has _) (number_has _))) (number_has _))) (number_has _);
  quantifier = quantified_has All _ _ _ (number_has _) (number_has _) (is_has _ 1 (variable_has _));
  membership = in_t_has _ (variable_has _);
}
