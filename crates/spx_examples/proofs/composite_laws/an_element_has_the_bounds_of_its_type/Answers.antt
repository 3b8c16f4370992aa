use Rattle.spx_examples.proofs.CompositePlain.{answers, closed}
use Rattle.spx_examples.proofs.CompositeValid.{element_valid}
use Rattle.spx_examples.proofs.composite_laws.an_element_has_the_bounds_of_its_type.Goals as goal

pub returns : goal.returns
returns c = record {
  plain = closed _ _ answers.0;
  valid = element_valid;
}
