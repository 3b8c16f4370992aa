use Rattle.std.proofs.Common.{◌≡◌, get_or}
use Rattle.spx_rows.specs.Relations.{Of}
use Rattle.spx_rows.proofs.Growth.{Grown}
use Rattle.spx_rows.proofs.relation.Relation.add_rows_to.Given as goal

abbrev pub invariant-loop-x : goal.invariant-loop-x
invariant-loop-x l = Grown l.fn.self l.self l.x-index (λ k a b. (get_or l.to k 0 ≡ a) × Of l.from l.other b)
