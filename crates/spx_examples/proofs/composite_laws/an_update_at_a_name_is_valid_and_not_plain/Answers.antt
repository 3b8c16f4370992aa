use Rattle.spx_examples.proofs.CompositePlain.{answers, open_is}
use Rattle.spx_examples.proofs.CompositeValid.{updated_valid, four_sorted, at_four, updated_not_valid}
use Rattle.spx_examples.proofs.composite_laws.an_update_at_a_name_is_valid_and_not_plain.Goals as goal

pub returns : goal.returns
returns c = record {
  valid = updated_valid;
  not_plain = open_is _ _ answers.10;
  sorted = four_sorted;
  at_four = at_four;
  not_valid = updated_not_valid;
}
