use Rattle.spx_steps.specs.Trees.{step_tree}
use Rattle.spx_paths.proofs.BoundLaws.{range_entered}
use Rattle.spx_paths.proofs.CheckSteps.{also_waits}
use Rattle.spx_paths.proofs.draft.Draft.enter_range.Goals as goal

pub checked_id-requires-clause-whole : goal.checked_id-requires-clause-whole
checked_id-requires-clause-whole c = let shown = c.in_ok-checked.ensures in record { order = shown.order; checks = shown.are }

pub lay-requires-clause-order : goal.lay-requires-clause-order
lay-requires-clause-order c = c.in_ok-checked_id.ensures.keeps.whole.order

pub lay-requires-clause-checks : goal.lay-requires-clause-checks
lay-requires-clause-checks c = c.in_ok-checked_id.ensures.keeps.whole.checks

pub returns : goal.returns
returns c =
    let p = c.args.body.now.program.now in
    let sub = c.args.body.now.sub.now in
    let range = c.args.range.now in
    range_entered p sub c.args.count.now range c.place-place.result c.first_name.result c.last_name.result c.get-3.result.now c.get-2.result.now c.get-4.result.now c.get-5.result.now c.get.result.now
    (step_tree c.args.self.now.steps c.args.into) (step_tree c.args.self.now.steps c.args.out) c.requires.ready c.requires.range c.in_ok-at.ensures c.in_ok-at-2.ensures c.in_ok-at-3.ensures c.in_ok-checked.ensures (also_waits c.in_ok-checked_id.ensures.keeps c.in_ok-checked_id.ensures.within c.in_ok-checked_id.ensures.makes) c.in_ok-id.ensures
    c.place-place.ensures c.first_name.ensures c.last_name.ensures c.get-3.ensures c.get-2.ensures c.get-4.ensures c.get-5.ensures c.get.ensures
