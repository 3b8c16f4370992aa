use Rattle.std.proofs.Common.{◌*◌, ◌+◌}
use Rattle.spx_interp.proofs.firsts.+left.Given as goal

abbrev pub decreases-left_after : goal.decreases-left_after
decreases-left_after l = 3 * l.levels + 1

abbrev pub decreases-left_after_composite : goal.decreases-left_after_composite
decreases-left_after_composite l = 3 * l.levels

abbrev pub decreases-left_after_fields : goal.decreases-left_after_fields
decreases-left_after_fields l = 3 * l.levels + 2
