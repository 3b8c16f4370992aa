use Rattle.std.proofs.Common.{refl}
use Rattle.std.proofs.lemmas.Result.{MatchResult-weaker}
use Rattle.spx_arena.proofs.Growth.{grows_twice}
use Rattle.spx_paths.proofs.BoundLaws.{end_is, order_terms, term_along, turn_made, turn_terms}
use Rattle.spx_paths.specs.Walks.{end_term}
use Rattle.spx_paths.proofs.draft.Draft.count_on.Goals as goal

pub limit_id-requires-clause-order : goal.limit_id-requires-clause-order
limit_id-requires-clause-order c = order_terms c.requires.ready.order c.in_ok-value.ensures.grown

pub assign-requires-clause-whole : goal.assign-requires-clause-whole
assign-requires-clause-whole c =
    let grows = grows_twice c.in_ok-one.ensures.grown (grows_twice c.in_ok-next.ensures.added.grown (grows_twice c.in_ok-before.ensures.added.grown c.in_ok-same.ensures.added.grown)) in
    order_terms c.in_ok-end.ensures.order grows

pub returns : goal.returns
returns c =
    let p = c.args.body.now.program.now in
    let sub = c.args.body.now.sub.now in
    let end = term_along (end_term p sub c.args.count.now) c.in_ok-end.ensures (end_is p sub c.args.count.now c.args.count.now.is_reverse) in
    let terms = turn_terms p sub c.args.count.now c.now.result c.step_op.result c.test_op.result c.in_ok-value.ensures.grown c.in_ok-value.ensures.made end.grown.terms end.made c.in_ok-one.ensures.grown c.in_ok-one.ensures.made
    c.in_ok-next.ensures.added c.in_ok-before.ensures.added c.in_ok-same.ensures.added c.now.ensures c.step_op.ensures c.test_op.ensures in
    MatchResult-weaker c.split.result c.split.ensures (λ id s.
    turn_made {a = c.args.self.now} {e = record { steps = record { terms = c.infix-3.new.self; nodes = c.limit_id.new.self.steps.nodes }; checks = c.limit_id.new.self.checks }} {i = record { steps = c.split.new.self; checks = c.limit_id.new.self.checks }}
    p sub c.args.count.now c.now-2.result c.args.into c.args.out c.requires.ready c.requires.within.0 c.requires.within.1 terms end.nodes end.checks c.now-2.ensures c.in_ok-first.ensures c.in_ok-on.ensures c.in_ok-left.ensures s refl) (λ _ _. _)
