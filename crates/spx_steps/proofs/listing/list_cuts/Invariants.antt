use Rattle.std.proofs.Common.{◌≡◌, ◌++◌, flat_map, take}
use Rattle.spx_term.specs.Paths.{branches}
use Rattle.spx_arena.specs.Claims.{trees_at}
use Rattle.spx_steps.specs.Listing.{steps_in}
use Rattle.spx_steps.specs.Trees.{cut_trees}
use Rattle.spx_steps.proofs.listing.list_cuts.Given as goal

abbrev pub invariant-loop-cut : goal.invariant-loop-cut
invariant-loop-cut l = steps_in l.found ≡ steps_in l.initial.found ++ flat_map branches (cut_trees l.steps (trees_at l.steps.terms l.known) (take l.cut-index l.cuts))
