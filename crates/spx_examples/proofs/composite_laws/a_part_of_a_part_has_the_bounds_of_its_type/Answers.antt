use Rattle.spx_examples.proofs.CompositePlain.{answers, closed}
use Rattle.spx_examples.proofs.CompositeValid.{whole_valid, part_valid}
use Rattle.spx_examples.proofs.composite_laws.a_part_of_a_part_has_the_bounds_of_its_type.Goals as goal

pub returns : goal.returns
returns c = record {
  whole = closed _ _ answers.5;
  whole_valid = whole_valid;
  part = closed _ _ answers.6;
  part_valid = part_valid;
}
