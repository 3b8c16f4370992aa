use Rattle.std.proofs.Common.{◌≡◌, ◌≤◌, drop, length}
use Rattle.spx_meaning.specs.Runs.{cleared}
use Rattle.spx_interp.proofs.entry.clear.Given as goal

abbrev pub invariant-loop-left : goal.invariant-loop-left
invariant-loop-left l =
    (l.left ≤ length l.vars) × (length l.store ≡ length l.initial.store) × (l.store ≡ cleared l.program l.initial.store (drop l.left l.vars))

abbrev pub decreases-loop-left : goal.decreases-loop-left
decreases-loop-left l = l.left
