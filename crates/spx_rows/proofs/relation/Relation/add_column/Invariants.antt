use Rattle.std.proofs.Common.{◌≡◌}
use Rattle.spx_rows.specs.Relations.{Holds}
use Rattle.spx_rows.proofs.Growth.{Grown}
use Rattle.spx_rows.proofs.relation.Relation.add_column.Given as goal

abbrev pub invariant-loop-u : goal.invariant-loop-u
invariant-loop-u l = Grown l.fn.self l.self l.u (λ k a b. Holds l.first k l.v × ((k ≡ a) × Holds l.second l.v b))
