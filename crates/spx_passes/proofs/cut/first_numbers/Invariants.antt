use Rattle.std.proofs.Common.{◌≡◌, length}
use Rattle.spx_passes.proofs.CutLaws.{FirstOf}
use Rattle.spx_passes.proofs.cut.first_numbers.Given as goal

-- the numbers below b are there
abbrev pub invariant-loop-b : goal.invariant-loop-b
invariant-loop-b l = (length l.cut ≡ l.count) × FirstOf l.b l.row l.cut
