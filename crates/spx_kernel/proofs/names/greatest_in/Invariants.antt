use Rattle.std.proofs.Common.{◌≡◌, max, drop}
use Rattle.spx_kernel.specs.Names.{greatest_in}
use Rattle.spx_kernel.proofs.names.greatest_in.Given as goal

abbrev pub invariant-loop-term : goal.invariant-loop-term
invariant-loop-term l = greatest_in l.terms ≡ max l.most (greatest_in (drop l.term-index l.terms))
