use Rattle.std.proofs.Common.{pos}
use Rattle.spx_term.specs.declared.term.Quantifier.TheVariants.{All, Some}
use Rattle.spx_examples.proofs.CompositeMeaning.{one_in}
use Rattle.spx_examples.proofs.composite_laws.a_quantifier_takes_each_number.Goals as goal

pub returns : goal.returns
returns c = record {
  all_of_one = λ v. one_in v All (pos 1) (pos 1);
  all_of_two = λ v. one_in v All (pos 1) (pos 2);
  some_of_two = λ v. one_in v Some (pos 1) (pos 2);
  some_past_it = λ v. one_in v Some (pos 2) (pos 3);
}
