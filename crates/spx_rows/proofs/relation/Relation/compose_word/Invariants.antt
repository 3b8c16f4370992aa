use Rattle.std.proofs.Common.{◌≡◌, ◌/◌}
use Rattle.spx_rows.specs.Relations.{Holds}
use Rattle.spx_rows.proofs.Growth.{Grown}
use Rattle.spx_rows.proofs.relation.Relation.compose_word.Given as goal

abbrev pub invariant-loop-v : goal.invariant-loop-v
invariant-loop-v l = Grown l.fn.self l.self l.v (λ k a b. (k / 64 ≡ l.at) × (Holds l.first l.u k × ((l.u ≡ a) × Holds l.second k b)))
