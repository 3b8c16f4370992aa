use Rattle.std.proofs.Common.{length}
use Rattle.spx_formula.proofs.goals.+under.Given as goal

abbrev pub decreases-under : goal.decreases-under
decreases-under l = length l.lefts.now
