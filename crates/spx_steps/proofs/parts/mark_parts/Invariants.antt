use Rattle.std.proofs.Common.{◌≡◌, ◌≤◌, length}
use Rattle.spx_steps.proofs.parts.mark_parts.Given as goal

abbrev pub invariant-terms : goal.invariant-terms
invariant-terms l = record {
  count : length l.marks ≡ length l.initial.marks;
  within : l.left ≤ length l.marks;
}

abbrev pub decreases-terms : goal.decreases-terms
decreases-terms l = l.left
