use Rattle.std.proofs.Common.{◌≡◌}
use Rattle.spx_rows.proofs.Growth.{Grown}
use Rattle.spx_rows.proofs.relation.Relation.identity.Given as goal

abbrev pub invariant-loop-k : goal.invariant-loop-k
invariant-loop-k l = Grown l.initial.r l.r l.k (λ k a b. (k ≡ a) × (k ≡ b))
