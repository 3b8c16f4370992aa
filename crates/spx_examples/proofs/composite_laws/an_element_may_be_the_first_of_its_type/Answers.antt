use Rattle.spx_examples.proofs.CompositePlain.{answers, open_is}
use Rattle.spx_examples.proofs.CompositeValid.{zero_not_valid}
use Rattle.spx_examples.proofs.composite_laws.an_element_may_be_the_first_of_its_type.Goals as goal

pub returns : goal.returns
returns c = record {
  not_plain = open_is _ _ answers.2;
  not_valid = zero_not_valid;
}
