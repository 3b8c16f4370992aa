use Rattle.std.proofs.Common.{◌≡◌, length}
use Rattle.spx_steps.proofs.parts.parts_of.Given as goal

abbrev pub invariant-loop-at : goal.invariant-loop-at
invariant-loop-at l = length l.marks ≡ l.at
