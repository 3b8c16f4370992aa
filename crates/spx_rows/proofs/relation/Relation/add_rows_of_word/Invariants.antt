use Rattle.std.proofs.Common.{◌≡◌, ◌/◌}
use Rattle.spx_rows.specs.Relations.{Has, Holds}
use Rattle.spx_rows.proofs.Growth.{Joined}
use Rattle.spx_rows.proofs.relation.Relation.add_rows_of_word.Given as goal

abbrev pub invariant-loop-x : goal.invariant-loop-x
invariant-loop-x l = Joined l.fn.row l.row l.x (λ k w. (k / 64 ≡ l.at) × (Has l.from k × Holds l.self k w))
