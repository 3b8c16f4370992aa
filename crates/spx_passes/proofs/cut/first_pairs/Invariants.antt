use Rattle.std.proofs.Common.{◌≡◌, length}
use Rattle.spx_passes.proofs.CutLaws.{RowsCut}
use Rattle.spx_passes.proofs.cut.first_pairs.Given as goal

-- the rows before this one are there
abbrev pub invariant-loop-a : goal.invariant-loop-a
invariant-loop-a l = (length l.cut ≡ l.count) × RowsCut l.a l.count l.fn.rows l.cut
