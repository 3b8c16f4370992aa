use Rattle.std.proofs.Common.{take}
use Rattle.spx_passes.proofs.CutLaws.{ListCut}
use Rattle.spx_passes.proofs.cut.first_occurrences.Given as goal

-- the occurrences before this one are there
abbrev pub invariant-loop-occurrence : goal.invariant-loop-occurrence
invariant-loop-occurrence l = ListCut l.count (take l.occurrence-index l.occurrence-items) l.cut
