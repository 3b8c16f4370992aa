use Rattle.spx_term.specs.Sizes.{size_of}
use Rattle.spx_term.proofs.Terms.{fold-Number, fold-Variable, fold-Infix, fold-Binary, fold-Ternary}
use Rattle.spx_examples.proofs.composite_laws.an_update_is_a_node_more.Goals as goal

pub returns : goal.returns
unfolding size_of
returns c = record {
  element = simp (fold-Ternary, fold-Variable, fold-Number);
  field = simp (fold-Binary, fold-Variable, fold-Number);
  quantifier = simp (fold-Ternary, fold-Infix, fold-Variable, fold-Number);
}
