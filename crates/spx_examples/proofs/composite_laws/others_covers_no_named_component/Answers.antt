use Rattle.std.proofs.Common.{refl}
use denote.Hole.Carrier.{hidden}
use Rattle.spx_term.specs.declared.term.Term.TheBlock.{hidden-the_row-Term-0}
use Rattle.spx_term.specs.Folding.{simplified_unary, simplified_binary, found_in_unary, found_in_binary, taken}
use Rattle.spx_examples.proofs.CompositeFolding.{number_to, unary_to, binary_to}
use Rattle.spx_examples.proofs.composite_laws.others_covers_no_named_component.Goals as goal

pub returns : goal.returns
unfolding simplified_unary simplified_binary found_in_unary found_in_binary taken hidden hidden-the_row-Term-0
returns c = record {
  covered = binary_to _ _ _ (binary_to _ _ _ (unary_to _ _ number_to refl) number_to refl) number_to refl;
  named = binary_to _ _ _ (binary_to _ _ _ (unary_to _ _ number_to refl) number_to refl) number_to refl;
}
