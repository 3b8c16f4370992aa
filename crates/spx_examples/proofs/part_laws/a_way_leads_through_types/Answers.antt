use Rattle.std.proofs.Common.{refl, inl, inr}
use Rattle.spx_examples.specs.CompositeExamples.{name_x}
use Rattle.spx_examples.proofs.CompositeSorts.{array_said, part_said, variable_has}
use Rattle.spx_examples.proofs.part_laws.a_way_leads_through_types.Goals as goal

pub returns : goal.returns
returns c = record {
  terms = (part_said, refl, (array_said, refl, variable_has name_x, refl));
  elsewhere = inr (refl, inl refl);
  in_another_field = inl refl;
}
