use Rattle.std.proofs.Common.{length}
use Rattle.spx_simplify.specs.Verdicts.{Drops}
use Rattle.spx_simplify.proofs.goals.next.Given as goal

abbrev pub invariant-left : goal.invariant-left
invariant-left l = Drops l.initial.left l.left l.yes

abbrev pub decreases-left : goal.decreases-left
decreases-left l = length l.left
