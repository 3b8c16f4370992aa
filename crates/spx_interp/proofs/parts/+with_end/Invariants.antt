use Rattle.std.proofs.Common.{length}
use Rattle.spx_interp.proofs.parts.+with_end.Given as goal

abbrev pub decreases-with_end : goal.decreases-with_end
decreases-with_end l = length l.way.now
