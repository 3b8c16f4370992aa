use Rattle.spx_arena.specs.Claims.{trees_at}
use Rattle.spx_steps.proofs.SharedSteps.{claim_goes, goes_after, goes_twice}
use Rattle.spx_steps.proofs.WalkLaws.{made_trees}
use Rattle.spx_steps.proofs.walk.Walk.checked.Goals as goal

pub all_assumed-requires-clause-ready : goal.all_assumed-requires-clause-ready
all_assumed-requires-clause-ready c =
    let m = c.in_ok-ids.ensures in
    (claim_goes m.only.ready c.in_ok-ids.ids c.args.kind c.args.place (trees_at c.args.names.now c.args.goals.now) m.within (made_trees c.requires.ready m) c.in_ok-push.ensures.ok).ready

pub returns : goal.returns
returns c =
    let m = c.in_ok-ids.ensures in
    goes_after c.requires.ready m.only (goes_twice (claim_goes m.only.ready c.in_ok-ids.ids c.args.kind c.args.place (trees_at c.args.names.now c.args.goals.now) m.within (made_trees c.requires.ready m) c.in_ok-push.ensures.ok) c.in_ok-all_assumed.ensures)
