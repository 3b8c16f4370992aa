use Rattle.spx_vcg.specs.Largeness.{AreSizes}
use Rattle.spx_vcg.proofs.limit.list_sizes.Given as goal

abbrev pub invariant-loop-at : goal.invariant-loop-at
invariant-loop-at l = AreSizes l.at l.terms l.facts l.sizes
