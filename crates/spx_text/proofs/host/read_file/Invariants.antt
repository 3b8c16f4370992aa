use Rattle.std.proofs.Common.{◌≡◌, length, take}
use Rattle.spx_text.proofs.host.read_file.Given as goal

abbrev pub invariant-loop-file : goal.invariant-loop-file
invariant-loop-file g l = take (length l.fn.into.items) l.into.items ≡ l.fn.into.items

abbrev pub decreases-loop-file : goal.decreases-loop-file
decreases-loop-file g l = l.room
