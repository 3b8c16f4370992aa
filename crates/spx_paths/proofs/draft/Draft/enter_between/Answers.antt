use Rattle.std.proofs.Common.{refl}
use Rattle.spx_steps.specs.Trees.{step_tree}
use Rattle.spx_term.specs.declared.term.Term.TheVariants.{Infix}
use Rattle.spx_term.specs.declared.term.TermOp.TheVariants as operator
use Rattle.spx_term.specs.Steps.{Assign}
use Rattle.spx_formula.specs.Terms.{now}
use Rattle.spx_paths.specs.Walks.{high_term, low_term, start_term}
use Rattle.spx_paths.proofs.BoundLaws.{Compared, between_checked, compared, lays_ways, order_terms, stays_within}
use Rattle.spx_paths.proofs.draft.Draft.enter_between.Goals as goal

pub begin_count-requires-clause-order : goal.begin_count-requires-clause-order
begin_count-requires-clause-order c =
    let p = c.args.body.now.program.now in
    let sub = c.args.body.now.sub.now in
    let count = c.args.count.now in
    let all = compared {e = record { steps = record { terms = c.infix-2.new.self; nodes = c.high_id.new.self.steps.nodes }; checks = c.high_id.new.self.checks }}
    (low_term p sub count) (high_term p sub count) c.in_ok-low.ensures c.in_ok-high.ensures c.in_ok-some.ensures.added c.in_ok-none.ensures.added refl refl in
    all.only.order

pub check-requires-clause-whole : goal.check-requires-clause-whole
check-requires-clause-whole c = order_terms c.in_ok-at.ensures.whole c.in_ok-goals.ensures.grown

pub returns : goal.returns
returns c =
    let p = c.args.body.now.program.now in
    let sub = c.args.body.now.sub.now in
    let count = c.args.count.now in
    let low = low_term p sub count in
    let high = high_term p sub count in
    let made : Compared c.args.self.now (record { steps = record { terms = c.infix-2.new.self; nodes = c.high_id.new.self.steps.nodes }; checks = c.high_id.new.self.checks }) c.in_ok-low.low c.in_ok-high.high c.in_ok-some.some c.in_ok-none.none low high =
    compared {e = record { steps = record { terms = c.infix-2.new.self; nodes = c.high_id.new.self.steps.nodes }; checks = c.high_id.new.self.checks }} low high c.in_ok-low.ensures c.in_ok-high.ensures c.in_ok-some.ensures.added c.in_ok-none.ensures.added refl refl in
    let out = stays_within c.args.out made.only c.requires.within.1 in
    let start = Assign (now p count.parameter) (start_term p sub count) (step_tree (record { terms = c.infix-2.new.self; nodes = c.high_id.new.self.steps.nodes }) c.args.into) in
    let ways = lays_ways {f = c.begin_count.new.self} (Infix operator.LessOrEqual low high) (Infix operator.Greater low high) start c.args.out out made.enters made.passes c.in_ok-first.ensures c.in_ok-entered.ensures c.in_ok-passed.ensures c.in_ok-at.ensures in
    between_checked {i = record { steps = c.split.new.self; checks = c.begin_count.new.self.checks }} {k = record { steps = c.check.new.self; checks = c.begin_count.new.self.checks }} {j = record { terms = c.range_goal.new.terms; nodes = c.split.new.self.nodes }}
    p sub count c.args.place c.type_of-subtype.result c.args.into c.args.out c.requires.within.0 c.requires.within.1 made ways c.type_of-subtype.ensures c.in_ok-goals.ensures refl c.in_ok-id.ensures refl
