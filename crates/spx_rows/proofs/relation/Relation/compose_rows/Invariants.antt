use Rattle.std.proofs.Common.{◌≡◌}
use Rattle.spx_rows.specs.Relations.{Holds, Then}
use Rattle.spx_rows.proofs.Growth.{Grown}
use Rattle.spx_rows.proofs.relation.Relation.compose_rows.Given as goal

abbrev pub invariant-loop-u : goal.invariant-loop-u
invariant-loop-u l = Grown l.fn.self l.self l.u (λ k a b. (k ≡ a) × Then (Holds l.first) (Holds l.second) k b)
