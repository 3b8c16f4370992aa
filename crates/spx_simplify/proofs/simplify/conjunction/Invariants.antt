use Rattle.std.proofs.Common.{◌<◌, drop, length}
use Rattle.spx_term.specs.Goals.{goal_of}
use Rattle.spx_arena.specs.Claims.{trees_at}
use Rattle.spx_arena.specs.Sharing.{Grows, IsId}
use Rattle.spx_simplify.proofs.simplify.conjunction.Given as goal

abbrev pub invariant-join : goal.invariant-join
invariant-join l = record {
  within : l.at < length l.goals;
  grown : Grows l.fn.terms l.terms;
  all : IsId l.terms l.all (goal_of (drop l.at (trees_at l.fn.terms l.goals)));
}

abbrev pub decreases-join : goal.decreases-join
decreases-join l = l.at
