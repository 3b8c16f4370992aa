use Rattle.std.proofs.Common.{length, ◌*◌}
use Rattle.spx_rows.specs.Relations.{Has, Holds}
use Rattle.spx_rows.proofs.Growth.{Collected}
use Rattle.spx_rows.proofs.relation.Relation.union_through.Given as goal

abbrev pub invariant-loop-at : goal.invariant-loop-at
invariant-loop-at l = Collected (length l.self) l.row (64 * l.at) (λ k w. Has l.from k × Holds l.self k w)
