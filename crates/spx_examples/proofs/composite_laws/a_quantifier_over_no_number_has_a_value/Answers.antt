use Rattle.std.proofs.Common.{pos}
use Rattle.spx_term.specs.declared.term.Quantifier.TheVariants.{All, Some}
use Rattle.spx_examples.proofs.CompositeMeaning.{over_literals}
use Rattle.spx_examples.proofs.composite_laws.a_quantifier_over_no_number_has_a_value.Goals as goal

pub returns : goal.returns
returns c = record {
  all = λ v p. over_literals v All (pos 2) (pos 1) p;
  some = λ v p. over_literals v Some (pos 2) (pos 1) p;
}
