use Rattle.std.proofs.Common.{length}
use Rattle.spx_formula.proofs.way.+with_end_id.Given as goal

abbrev pub decreases-with_end_id : goal.decreases-with_end_id
decreases-with_end_id l = length l.way.now
