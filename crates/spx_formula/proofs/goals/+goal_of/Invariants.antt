use Rattle.std.proofs.Common.{length}
use Rattle.spx_formula.proofs.goals.+goal_of.Given as goal

abbrev pub decreases-goal_of : goal.decreases-goal_of
decreases-goal_of l = length l.goals.now
