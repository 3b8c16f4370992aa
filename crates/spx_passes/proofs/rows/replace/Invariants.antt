use Rattle.std.proofs.Common.{◌≡◌, length}
use Rattle.spx_passes.proofs.RowLaws.{ReplacedBelow}
use Rattle.spx_passes.proofs.rows.replace.Given as goal

-- the rows before this one are replaced
abbrev pub invariant-loop-k : goal.invariant-loop-k
invariant-loop-k l = (length l.rows ≡ length l.fn.rows) × ReplacedBelow l.k l.fn.rows l.head l.rows
