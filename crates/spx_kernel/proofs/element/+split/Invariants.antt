use Rattle.std.proofs.Common.{◌*◌, ◌+◌}
use Rattle.spx_kernel.proofs.element.+split.Given as goal

abbrev pub decreases-split : goal.decreases-split
decreases-split l = 2 * l.room

abbrev pub decreases-split_binary : goal.decreases-split_binary
decreases-split_binary l = 2 * l.room + 1

abbrev pub decreases-split_update : goal.decreases-split_update
decreases-split_update l = 2 * l.room + 1
