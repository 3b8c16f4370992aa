use Rattle.std.proofs.Common.{take}
use Rattle.spx_arena.specs.Claims.{trees_at}
use Rattle.spx_steps.specs.Trees.{cut_trees}
use Rattle.spx_steps.specs.Walks.{ClaimsAll}
use Rattle.spx_steps.proofs.walk.Walk.walk_cuts.Given as goal

abbrev pub invariant-loop-cut : goal.invariant-loop-cut
invariant-loop-cut l = ClaimsAll l.steps.terms l.initial.self l.self (cut_trees l.steps (trees_at l.steps.terms l.known) (take l.cut-index l.cuts))
