use Rattle.std.proofs.Common.{arith}
use Rattle.spx_term.specs.Sizes.{size_of}
use Rattle.spx_term.proofs.Terms.{fold-Number, fold-Blank, fold-Unary, fold-Binary}
use Rattle.spx_examples.proofs.composite_laws.an_aggregate_is_one_node.Goals as goal

pub returns : goal.returns
unfolding size_of
returns c = record {
  ranges = simp (fold-Binary, fold-Blank, fold-Number);
  others = simp (fold-Binary, fold-Unary, fold-Number);
  fields = simp (fold-Binary, fold-Blank, fold-Number);
  wide = simp (fold-Binary, fold-Blank, fold-Number);
  range = λ t e low high. simp fold-Binary (omega arith);
}
