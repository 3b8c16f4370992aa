use Rattle.std.proofs.Common.{◌≡◌, get_or}
use Rattle.spx_rows.specs.Relations.{Holds}
use Rattle.spx_rows.proofs.Growth.{Grown}
use Rattle.spx_rows.proofs.relation.Relation.spread_row.Given as goal

abbrev pub invariant-loop-x : goal.invariant-loop-x
invariant-loop-x l = Grown l.fn.self l.self l.x-index (λ k a b. (get_or l.to k 0 ≡ a) × Holds l.fn.self l.from b)
