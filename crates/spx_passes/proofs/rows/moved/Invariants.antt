use Rattle.std.proofs.Common.{◌≡◌, length}
use Rattle.spx_passes.proofs.RowLaws.{Moved}
use Rattle.spx_passes.proofs.rows.moved.Given as goal

-- the first rows are there
abbrev pub invariant-loop-k : goal.invariant-loop-k
invariant-loop-k l = (length l.moved ≡ length l.rows) × Moved l.from l.to l.k l.rows l.moved
