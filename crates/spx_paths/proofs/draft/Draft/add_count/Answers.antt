use Rattle.std.proofs.Common.{refl}
use Rattle.spx_paths.proofs.BoundLaws.{order_terms}
use Rattle.spx_paths.proofs.KnownLaws.{bounds_more}
use Rattle.spx_paths.proofs.draft.Draft.add_count.Goals as goal

pub low_id-requires-clause-order : goal.low_id-requires-clause-order
low_id-requires-clause-order c = order_terms c.in_ok-add_value.ensures.order c.in_ok-value.ensures.grown

pub returns : goal.returns
returns c =
    let p = c.args.body.now.program.now in
    let sub = c.args.body.now.sub.now in
    let value = c.in_ok-value.ensures in
    bounds_more {a = c.args.self.now} {b = c.add_value.new.self} {e = c.high_id.new.self} {g = record { steps = record { terms = c.infix-2.new.self; nodes = c.high_id.new.self.steps.nodes }; checks = c.high_id.new.self.checks }}
    c.args.facts.now c.add_value.new.facts p sub c.args.count.now c.now-name.result c.in_ok-add_value.ensures value.grown value.made c.in_ok-low.ensures c.in_ok-high.ensures c.in_ok-least.ensures.added c.in_ok-most.ensures.added refl refl c.now-name.ensures
    c.in_ok-push.ensures.ok c.in_ok-push-2.ensures.ok
