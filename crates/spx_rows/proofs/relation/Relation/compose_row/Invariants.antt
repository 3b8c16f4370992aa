use Rattle.std.proofs.Common.{◌≡◌, ◌*◌}
use Rattle.spx_rows.specs.Relations.{Holds}
use Rattle.spx_rows.proofs.Growth.{Grown}
use Rattle.spx_rows.proofs.relation.Relation.compose_row.Given as goal

abbrev pub invariant-loop-at : goal.invariant-loop-at
invariant-loop-at l = Grown l.fn.self l.self (64 * l.at) (λ k a b. Holds l.first l.u k × ((l.u ≡ a) × Holds l.second k b))
