use Rattle.spx_examples.proofs.CompositePlain.{answers, open_is}
use Rattle.spx_examples.proofs.CompositeValid.{negative_sorted, negative_fails, negative_not_valid}
use Rattle.spx_examples.proofs.composite_laws.an_element_has_no_bounds_of_its_own.Goals as goal

pub returns : goal.returns
returns c = record {
  not_plain = open_is _ _ answers.1;
  sorted = negative_sorted;
  negative = negative_fails;
  not_valid = negative_not_valid;
}
