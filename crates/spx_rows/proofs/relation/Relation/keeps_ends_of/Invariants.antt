use Rattle.std.proofs.Common.{ℕ, ◌<◌}
use Rattle.spx_rows.specs.Relations.{Holds}
use Rattle.spx_rows.proofs.relation.Relation.keeps_ends_of.Given as goal

abbrev pub invariant-loop-v : goal.invariant-loop-v
invariant-loop-v l = (w : ℕ) → w < l.v → Holds l.self w w
