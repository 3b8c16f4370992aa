use Rattle.std.proofs.Common.{◌+◌, reverse}
use Rattle.spx_steps.specs.Forks.{ends_in, ends_left}
use Rattle.spx_steps.specs.Trees.{step_tree}
use Rattle.spx_steps.specs.Walks.{claims_from}
use Rattle.spx_steps.proofs.ForkLaws.{Left}
use Rattle.spx_steps.proofs.walk.Walk.walk.Given as goal

abbrev pub invariant-paths : goal.invariant-paths
invariant-paths l = Left l.steps (claims_from l.initial.self (step_tree l.steps l.fn.from)) l.self l.at l.waiting

abbrev pub decreases-paths : goal.decreases-paths
decreases-paths l = ends_in (step_tree l.steps l.at) + ends_left l.steps (reverse l.waiting)
