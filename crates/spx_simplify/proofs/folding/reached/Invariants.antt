use Rattle.std.proofs.Common.{◌≡◌, ◌<◌, length}
use Rattle.spx_term.specs.Folding.{taken}
use Rattle.spx_arena.specs.Sharing.{tree_at}
use Rattle.spx_simplify.proofs.folding.reached.Given as goal

abbrev pub invariant-chain : goal.invariant-chain
invariant-chain l = record {
  within : l.at.0 < length l.terms;
  same : taken l.reading (tree_at l.terms l.fn.id) ≡ taken l.reading (tree_at l.terms l.at);
}

abbrev pub decreases-chain : goal.decreases-chain
decreases-chain l = l.at.0
