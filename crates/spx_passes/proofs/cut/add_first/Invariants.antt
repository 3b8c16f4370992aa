use Rattle.std.proofs.Common.{◌≡◌, length}
use Rattle.spx_passes.proofs.CutLaws.{RowGained}
use Rattle.spx_passes.proofs.cut.add_first.Given as goal

-- the pairs with the numbers below b are there
abbrev pub invariant-loop-b : goal.invariant-loop-b
invariant-loop-b l = (length l.cut ≡ l.count) × RowGained l.row l.b l.rows l.fn.cut l.cut
