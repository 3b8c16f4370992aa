use Rattle.std.proofs.Common.{length, take}
use Rattle.spx_passes.specs.Loops.{Carries}
use Rattle.spx_passes.proofs.turns.carry.Given as goal

-- the occurrences before this one are added
abbrev pub invariant-loop-occurrence : goal.invariant-loop-occurrence
invariant-loop-occurrence l = Carries (length l.through) l.through (take l.occurrence-index l.inner) l.fn.list l.list
