use Rattle.spx_examples.proofs.CompositePlain.{answers, open_is}
use Rattle.spx_examples.proofs.CompositeValid.{other_part_not_valid}
use Rattle.spx_examples.proofs.composite_laws.a_type_of_another_part_sets_no_bounds.Goals as goal

pub returns : goal.returns
returns c = record {
  of_the_part = open_is _ _ answers.7;
  not_valid = other_part_not_valid;
  of_another_array = open_is _ _ answers.8;
  of_another_field = open_is _ _ answers.9;
}
