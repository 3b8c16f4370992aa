use Rattle.std.proofs.Common.{◌<◌, length}
use Rattle.spx_steps.specs.Forks.{Comes}
use Rattle.spx_steps.specs.Trees.{step_tree}
use Rattle.spx_steps.proofs.walk.Walk.walk_straight.Given as goal

abbrev pub invariant-steps : goal.invariant-steps
invariant-steps l = record {
  within : l.at.0 < length l.steps.nodes;
  comes : Comes l.steps.terms l.initial.self l.self (step_tree l.steps l.fn.from) (step_tree l.steps l.at);
}

abbrev pub decreases-steps : goal.decreases-steps
decreases-steps l = l.at.0
