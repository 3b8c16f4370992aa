use Rattle.std.proofs.Common.{◌≡◌, ℕ, ◌<◌, ◌/◌}
use Rattle.spx_rows.specs.Relations.{Holds}
use Rattle.spx_rows.proofs.relation.Relation.is_alone.Given as goal

abbrev pub invariant-loop-at : goal.invariant-loop-at
invariant-loop-at l = (w : ℕ) → w / 64 < l.at → Holds l.self l.u w → l.u ≡ w
