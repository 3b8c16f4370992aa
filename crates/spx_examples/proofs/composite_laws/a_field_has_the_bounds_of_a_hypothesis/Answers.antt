use Rattle.spx_examples.proofs.CompositePlain.{answers, closed, open_is}
use Rattle.spx_examples.proofs.CompositeValid.{field_valid}
use Rattle.spx_examples.proofs.composite_laws.a_field_has_the_bounds_of_a_hypothesis.Goals as goal

pub returns : goal.returns
returns c = record {
  plain = closed _ _ answers.3;
  valid = field_valid;
  another = open_is _ _ answers.4;
}
