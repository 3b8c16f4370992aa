use Rattle.spx_examples.proofs.CompositeValues.{ranges_are, outermost_is, others_are, fields_are}
use Rattle.spx_examples.proofs.composite_laws.an_aggregate_has_a_value.Goals as goal

pub returns : goal.returns
returns c = record {
  ranges = ranges_are;
  outermost = outermost_is;
  others = others_are;
  fields = fields_are;
}
