use Rattle.std.proofs.Common.{refl}
use denote.Hole.Carrier.{hidden}
use Rattle.spx_term.specs.declared.term.Term.TheBlock.{hidden-the_row-Term-0}
use Rattle.spx_term.specs.Folding.{simplified_unary, simplified_binary, found_in_binary, taken}
use Rattle.spx_examples.proofs.CompositeFolding.{number_to, variable_to, unary_to, binary_to}
use Rattle.spx_examples.proofs.composite_laws.an_updated_field_is_read.Goals as goal

pub returns : goal.returns
unfolding simplified_unary simplified_binary found_in_binary taken hidden hidden-the_row-Term-0
returns c = record {
  updated = unary_to _ _ (binary_to _ _ _ variable_to number_to refl) refl;
  another = unary_to _ _ (binary_to _ _ _ variable_to number_to refl) refl;
}
