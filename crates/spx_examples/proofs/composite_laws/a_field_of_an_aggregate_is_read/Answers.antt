use Rattle.std.proofs.Common.{refl}
use denote.Hole.Carrier.{hidden}
use Rattle.spx_term.specs.declared.term.Term.TheBlock.{hidden-the_row-Term-0}
use Rattle.spx_term.specs.Folding.{simplified_unary, simplified_binary, found_in_binary, taken}
use Rattle.spx_examples.proofs.CompositeFolding.{number_to, blank_to, unary_to, binary_to}
use Rattle.spx_examples.proofs.composite_laws.a_field_of_an_aggregate_is_read.Goals as goal

pub returns : goal.returns
unfolding simplified_unary simplified_binary found_in_binary taken hidden hidden-the_row-Term-0
returns c = record {
  first = unary_to _ _ (binary_to _ _ _ (binary_to _ _ _ blank_to number_to refl) number_to refl) refl;
  second = unary_to _ _ (binary_to _ _ _ (binary_to _ _ _ blank_to number_to refl) number_to refl) refl;
  updated = unary_to _ _ (binary_to _ _ _ (binary_to _ _ _ (binary_to _ _ _ blank_to number_to refl) number_to refl) number_to refl) refl;
  another = unary_to _ _ (binary_to _ _ _ (binary_to _ _ _ (binary_to _ _ _ blank_to number_to refl) number_to refl) number_to refl) refl;
}
