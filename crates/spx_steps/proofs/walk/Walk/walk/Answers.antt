use Rattle.std.proofs.Common.{subst}
use Rattle.spx_steps.specs.Forks.{StopsAt}
use Rattle.spx_steps.specs.Trees.{step_tree}
use Rattle.spx_steps.specs.Walks.{claims_from}
use Rattle.spx_steps.proofs.ForkLaws.{left_first, left_fork, left_next}
use Rattle.spx_steps.proofs.walk.Walk.walk.Goals as goal

pub paths-init : goal.paths-init
paths-init c = left_first c.args.steps.now c.args.self.now c.args.from c.new-waiting.result c.requires.within c.requires.ready c.new-waiting.ensures

pub paths-preserved-in-Some : goal.paths-preserved-in-Some
paths-preserved-in-Some c =
    let s = c.args.steps.now in
    let stops = subst (StopsAt s c.paths.self c.walk_straight.new.self c.paths.at) c.in-Some.is c.in_ok-fork.ensures in
    left_fork s (claims_from c.args.self.now (step_tree s c.args.from)) c.paths.self c.walk_straight.new.self c.paths.at c.paths.waiting c.paths.invariant c.in-Some.fork stops c.wait.new.waiting c.in_ok-wait-in-Some.ensures

pub paths-preserved : goal.paths-preserved
paths-preserved c =
    let s = c.args.steps.now in
    let stops = subst (StopsAt s c.paths.self c.walk_straight.new.self c.paths.at) c.in-None.is c.in_ok-fork.ensures in
    left_next s (claims_from c.args.self.now (step_tree s c.args.from)) c.paths.self c.walk_straight.new.self c.paths.at c.paths.waiting c.paths.invariant stops c.resumed.new.self c.in-Some-resumed.next c.resumed.new.waiting c.in-Some-resumed.ensures
