use Rattle.std.proofs.Common.{refl}
use denote.Hole.Carrier.{hidden}
use Rattle.spx_term.specs.declared.term.Term.TheBlock.{hidden-the_row-Term-0}
use Rattle.spx_term.specs.Folding.{simplified_unary, simplified_binary, simplified_ternary, found_in_binary, found_in_ternary, taken}
use Rattle.spx_examples.proofs.CompositeFolding.{number_to, variable_to, unary_to, binary_to, ternary_to}
use Rattle.spx_examples.proofs.composite_laws.a_part_of_a_part_is_read.Goals as goal

pub returns : goal.returns
unfolding simplified_unary simplified_binary simplified_ternary found_in_binary found_in_ternary taken hidden hidden-the_row-Term-0
returns c = record {
  updated = binary_to _ _ _ (unary_to _ _ (binary_to _ _ _ (binary_to _ _ _ variable_to (ternary_to _ _ _ _ variable_to number_to number_to refl) refl) number_to refl) refl) number_to refl;
  another = binary_to _ _ _ (unary_to _ _ (binary_to _ _ _ (binary_to _ _ _ variable_to (ternary_to _ _ _ _ variable_to number_to number_to refl) refl) number_to refl) refl) number_to refl;
}
