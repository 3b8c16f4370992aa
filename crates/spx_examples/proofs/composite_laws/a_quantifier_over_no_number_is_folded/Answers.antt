use Rattle.std.proofs.Common.{refl}
use denote.Hole.Carrier.{hidden}
use Rattle.spx_term.specs.declared.term.Term.TheBlock.{hidden-the_row-Term-0}
use Rattle.spx_term.specs.Folding.{simplified, before_literal, simplified_ternary}
use Rattle.spx_examples.proofs.CompositeFolding.{number_to, variable_to, infix_to, ternary_to}
use Rattle.spx_examples.proofs.composite_laws.a_quantifier_over_no_number_is_folded.Goals as goal

pub returns : goal.returns
unfolding simplified before_literal simplified_ternary hidden hidden-the_row-Term-0
returns c = record {
  all = λ p. ternary_to _ _ _ _ number_to number_to refl refl;
  some = λ p. ternary_to _ _ _ _ number_to number_to refl refl;
  all_of_one = ternary_to _ _ _ _ number_to number_to (infix_to _ _ _ variable_to number_to refl) refl;
  some_of_one = ternary_to _ _ _ _ number_to number_to (infix_to _ _ _ variable_to number_to refl) refl;
  all_of_names = ternary_to _ _ _ _ variable_to number_to (infix_to _ _ _ variable_to number_to refl) refl;
}
