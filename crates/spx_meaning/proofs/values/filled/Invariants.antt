use Rattle.std.proofs.Common.{◌≡◌, ◌≤ℤ◌, pos, ◌+ℤ◌, ◌-ℤ◌, length, replicate}
use Rattle.spx_term.specs.Values.{natural}
use Rattle.spx_meaning.proofs.values.filled.Given as goal

abbrev pub invariant-loop-items : goal.invariant-loop-items
invariant-loop-items l = (l.index ≡ l.first +ℤ pos (length l.items)) × (l.index ≤ℤ l.last) × (l.items ≡ replicate (length l.items) l.value)

abbrev pub decreases-loop-items : goal.decreases-loop-items
decreases-loop-items l = natural (l.last -ℤ l.index)
