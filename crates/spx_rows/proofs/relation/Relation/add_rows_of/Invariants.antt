use Rattle.std.proofs.Common.{◌≡◌, get_or}
use Rattle.spx_rows.specs.Relations.{Holds}
use Rattle.spx_rows.proofs.Growth.{Grown}
use Rattle.spx_rows.proofs.relation.Relation.add_rows_of.Given as goal

abbrev pub invariant-loop-x : goal.invariant-loop-x
invariant-loop-x l = Grown l.fn.self l.self l.x-index (λ k a b. (l.to ≡ a) × Holds l.other (get_or l.from k 0) b)
