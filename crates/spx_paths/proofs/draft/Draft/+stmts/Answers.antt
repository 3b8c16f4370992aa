use Rattle.std.proofs.Common.{ℕ, ◌+◌, ◌-◌, ◌<◌, ◌≡◌, All, List, [], refl, ◌∙◌, ap, arith, flat_map, get_or, length, map, reverse, rules, subst, sym}
use Rattle.spx_core.specs.declared.statement.CoreAlternative.{CoreAlternative, out-CoreAlternative}
use Rattle.spx_core.specs.declared.statement.CoreArm.{CoreArm, out-CoreArm}
use Rattle.spx_core.specs.declared.statement.CoreStmt.{CoreStmt, the_lemmas}
use Rattle.spx_core.specs.Commands.{alternative, command, commands, select, head_of}
use Rattle.spx_term.specs.Steps.{Tree}
use Rattle.spx_arena.specs.Claims.{AreIds, trees_at}
use Rattle.spx_arena.specs.Sharing.{tree_at}
use Rattle.spx_arena.proofs.Ids.{wider_ids}
use Rattle.spx_steps.specs.Trees.{step_tree}
use Rattle.spx_steps.proofs.Arena.{more_not, more_twice, more_terms, order_kept}
use Rattle.spx_formula.specs.Terms.{now_term, term_of}
use Rattle.spx_paths.specs.Drafts.{AddsCuts, Builds, BuildsAlternatives, BuildsArms, BuildsCuts, Stands, arm_cuts}
use Rattle.spx_paths.specs.Enclosing.{counts}
use Rattle.spx_paths.proofs.BuildLaws.{all_arms, alternatives_begin, as_many_facts, begun_kept, builds_as, builds_next, builds_not, builds_within, case_begins, cuts_as, cuts_of_case, cuts_of_if, decided_as, facts_known, known_within, leads_kept, more_with, next_alternative, next_alternative_cuts, next_cuts, no_arms, no_cuts, no_parts, none_selected, one_arm, one_part, ready_with, reversed_more, selected, with_terms}
use Rattle.spx_paths.proofs.Forms.{case_is, if_is}
use Rattle.spx_core.proofs.statement.CoreStmt.TheLaws.{the_size}
use Rattle.spx_paths.proofs.LoopLaws.{again_kept, assert_at, form_at, most_part, not_reached, parted_in, repeated_cuts, repeated_from, root_stands, step_within, with_cut, with_cut_cuts, without_cut, without_cut_cuts}
use Rattle.spx_paths.proofs.draft.Draft.+stmts.Goals as goal

pub arms-loop-arm-init : goal.arms-loop-arm-init
arms-loop-arm-init t c = record {
  builds = no_arms c.args.body.now.program.now c.args.body.now.sub.now c.args.otherwise c.args.next.now.rest c.args.next.now.leave c.requires.ready c.requires.otherwise;
  cuts = no_parts c.args.cuts.now c.args.next.now.rest c.args.next.now.leave;
}

pub arms-decided-requires-clause-within : goal.arms-decided-requires-clause-within
arms-decided-requires-clause-within t c =
    let inv = c.loop-arm.invariant.builds in
    let rest = c.requires.leads.rest in
    let leave = c.requires.leads.leave in
    let before = inv.grown.more in
    let body = c.in_ok-holds.ensures.made in
    let more = body.grown.more in
    let within = inv.within in
    (builds_within c.args.body.now.program.now c.args.body.now.sub.now c.args.next.now.rest c.args.next.now.leave (omega (arith, rest, before)) (omega (arith, leave, before)) body, omega (arith, within, more))

pub arms-loop-arm-preserved : goal.arms-loop-arm-preserved
arms-loop-arm-preserved t c =
    let p = c.args.body.now.program.now in
    let sub = c.args.body.now.sub.now in
    let rest = c.args.next.now.rest in
    let leave = c.args.next.now.leave in
    let around = counts c.args.next.now.within.now in
    let arm = c.in-Some.arm.now in
    let arms = reverse (map (λ s. s.now) c.loop-arm.yielded) in
    let first = commands (out-CoreArm arm).body in
    let inv = c.loop-arm.invariant in
    let holds = step_tree c.stmts.new.self.steps c.in_ok-holds.holds in
    let fails = step_tree c.stmts.new.self.steps c.loop-arm.at in
    let made = builds_as p sub first rest leave c.in_ok-holds.ensures.made (ap commands (sym c.as_slice.ensures)) in
    let cuts = cuts_as first rest leave c.in_ok-holds.ensures.cuts (ap commands (sym c.as_slice.ensures)) in
    record {
      builds = subst (λ (xs : List CoreArm). BuildsArms p sub c.args.self.now c.decided.new.self xs c.args.otherwise rest leave c.in_ok-at.at) (sym (reversed_more c.loop-arm.yielded c.in-Some.arm))
          (one_arm p sub arm arms c.args.otherwise rest leave inv.builds made (decided_as p (out-CoreArm arm).condition holds fails c.in_ok-at.ensures c.get.ensures));
      cuts = subst (λ (xs : List CoreArm). (on out : ℕ → Tree) → Stands c.args.self.now rest on → Stands c.args.self.now leave out → AddsCuts p sub c.decided.new.self c.args.cuts.now c.stmts.new.cuts (flat_map (arm_cuts p sub around on out) xs)) (sym (reversed_more c.loop-arm.yielded c.in-Some.arm))
          (one_part first (λ on out. flat_map (arm_cuts p sub around on out) arms) inv.builds.grown made.grown c.in_ok-at.ensures.grown inv.cuts cuts);
    }

pub stmt-arms-requires : goal.stmt-arms-requires
stmt-arms-requires t c =
    let last = c.in_ok-last-in-If.ensures.made in
    let within : c.in_ok-last-in-If.last.0 < length c.stmts.new.self.steps.nodes = builds_within c.args.body.now.program.now c.args.body.now.sub.now c.args.next.now.rest c.args.next.now.leave c.requires.leads.rest c.requires.leads.leave last in
    (search (rules, the_lemmas), (last.ready, (begun_kept c.requires.begun last.grown, (leads_kept c.requires.leads last.grown, within))))

pub stmt-returns-in_ok-id-in-If-clause-made : goal.stmt-returns-in_ok-id-in-If-clause-made
stmt-returns-in_ok-id-in-If-clause-made t c =
    let p = c.args.body.now.program.now in
    let sub = c.args.body.now.sub.now in
    let rest = c.args.next.now.rest in
    let leave = c.args.next.now.leave in
    let otherwise = c.done_otherwise-otherwise in
    builds_as p sub (command c.args.stmt.now) rest leave (all_arms p sub (commands otherwise.result.now) c.as_slice.result.now rest leave c.in_ok-last-in-If.ensures.made c.in_ok-id-in-If.ensures.made)
    (if_is c.args.stmt.now c.in-If.arms c.in-If.otherwise c.in-If.field-2 c.in-If.is c.as_slice.result.now otherwise.result.now c.as_slice.ensures otherwise.ensures)

pub stmt-returns-in_ok-id-in-If-clause-cuts : goal.stmt-returns-in_ok-id-in-If-clause-cuts
stmt-returns-in_ok-id-in-If-clause-cuts t c =
    let rest = c.args.next.now.rest in
    let leave = c.args.next.now.leave in
    let otherwise = c.done_otherwise-otherwise in
    let last = c.in_ok-last-in-If.ensures in
    let arms = c.in_ok-id-in-If.ensures in
    cuts_as (command c.args.stmt.now) rest leave (cuts_of_if (commands otherwise.result.now) c.as_slice.result.now rest leave last.made arms.made.grown last.cuts arms.cuts)
    (if_is c.args.stmt.now c.in-If.arms c.in-If.otherwise c.in-If.field-2 c.in-If.is c.as_slice.result.now otherwise.result.now c.as_slice.ensures otherwise.ensures)

pub stmt-returns-in_ok-id-in-Case-clause-made : goal.stmt-returns-in_ok-id-in-Case-clause-made
stmt-returns-in_ok-id-in-Case-clause-made t c =
    let x = c.in-Case in
    let cases = c.as_slice-cases.result.now in
    builds_as c.args.body.now.program.now c.args.body.now.sub.now (command c.args.stmt.now) c.args.next.now.rest c.args.next.now.leave (c.in_ok-id-in-Case.ensures.made x.field-0)
    (case_is c.args.stmt.now x.field-0 x.selector x.alternatives x.field-3 x.is cases c.as_slice-cases.ensures ∙ ap (λ e. select x.field-0 e (map alternative cases)) (sym c.get-in-Case.ensures))

pub stmt-returns-in_ok-id-in-Case-clause-cuts : goal.stmt-returns-in_ok-id-in-Case-clause-cuts
stmt-returns-in_ok-id-in-Case-clause-cuts t c =
    let x = c.in-Case in
    let cases = c.as_slice-cases.result.now in
    cuts_as (command c.args.stmt.now) c.args.next.now.rest c.args.next.now.leave (c.in_ok-id-in-Case.ensures.cuts x.field-0)
    (case_is c.args.stmt.now x.field-0 x.selector x.alternatives x.field-3 x.is cases c.as_slice-cases.ensures ∙ ap (λ e. select x.field-0 e (map alternative cases)) (sym c.get-in-Case.ensures))

pub stmts-loop-stmt-init : goal.stmts-loop-stmt-init
stmts-loop-stmt-init t c = record {
  within = c.requires.leads.rest;
  builds = builds_not c.args.body.now.program.now c.args.body.now.sub.now (commands []) c.args.next.now.rest c.args.next.now.leave (λ on out made. refl) c.requires.ready;
  cuts = no_cuts (commands []) c.args.cuts.now c.args.next.now.rest c.args.next.now.leave (λ on out. refl);
}

pub stmts-loop-stmt-preserved : goal.stmts-loop-stmt-preserved
stmts-loop-stmt-preserved t c =
    let p = c.args.body.now.program.now in
    let sub = c.args.body.now.sub.now in
    let rest = c.args.next.now.rest in
    let leave = c.args.next.now.leave in
    let around = counts c.args.next.now.within.now in
    let inv = c.loop-stmt.invariant in
    let out = c.requires.leads.leave in
    let before = inv.builds.grown.more in
    let others = reverse (map (λ s. s.now) c.loop-stmt.yielded) in
    let first = command c.in-Some.stmt.now in
    let made = c.in_ok-at.ensures.made in
    let more = sym (reversed_more c.loop-stmt.yielded c.in-Some.stmt) in
    record {
      within = builds_within p sub c.loop-stmt.at leave inv.within (omega (arith, out, before)) made;
      builds = subst (λ (ss : List CoreStmt). Builds p sub c.args.self.now c.stmt.new.self (commands ss) rest leave c.in_ok-at.at) more (builds_next p sub first (commands others) rest leave inv.builds made);
      cuts = subst (λ (ss : List CoreStmt). BuildsCuts p sub around c.args.self.now c.stmt.new.self c.args.cuts.now c.stmt.new.cuts (commands ss) rest leave) more
          (next_cuts first (commands others) rest leave inv.builds made.grown inv.cuts c.in_ok-at.ensures.cuts);
    }

pub stmt-case-requires : goal.stmt-case-requires
stmt-case-requires t c = (search (rules, the_lemmas), (c.requires.ready, (c.requires.begun, c.requires.leads)))

pub alternatives-alternatives-init : goal.alternatives-alternatives-init
alternatives-alternatives-init t c =
    let alternatives = c.args.alternatives.now in
    let rest = c.args.next.now.rest in
    let leave = c.args.next.now.leave in
    record {
      within = omega arith;
      builds = alternatives_begin c.args.facts.now alternatives (length alternatives) rest leave c.requires.ready refl c.requires.many;
      cuts = case_begins (counts c.args.next.now.within.now) c.args.cuts.now alternatives (length alternatives) rest leave refl;
    }

pub alternatives-alternative-requires-clause-facts : goal.alternatives-alternative-requires-clause-facts
alternatives-alternative-requires-clause-facts t c =
    let inv = c.alternatives.invariant in
    let below = inv.within in
    let some = c.alternatives-test.true in
    let many = c.requires.many in
    let facts = c.args.facts.now in
    let known = c.as_slice.result.now in
    let i = c.alternatives.left - 1 in
    let grown = more_twice inv.builds.grown c.in_ok-done.ensures.made.grown in
    wider_ids known grown.terms.more
    (known_within (length c.args.self.now.steps.terms) facts known i (omega (arith, below, some, many)) (subst (λ x. x ≡ get_or facts i x) (sym c.as_slice.ensures) c.index-facts-left.is) c.requires.facts)

pub alternatives-alternative-requires-clause-within : goal.alternatives-alternative-requires-clause-within
alternatives-alternative-requires-clause-within t c =
    let before = c.alternatives.invariant.builds.grown.more in
    let rest = c.requires.leads.rest in
    let leave = c.requires.leads.leave in
    builds_within c.args.body.now.program.now c.args.body.now.sub.now c.args.next.now.rest c.args.next.now.leave (omega (arith, rest, before)) (omega (arith, leave, before)) c.in_ok-done.ensures.made

pub alternatives-alternatives-preserved : goal.alternatives-alternatives-preserved
alternatives-alternatives-preserved t c =
    let inv = c.alternatives.invariant in
    let below = inv.within in
    let some = c.alternatives-test.true in
    let p = c.args.body.now.program.now in
    let sub = c.args.body.now.sub.now in
    let rest = c.args.next.now.rest in
    let leave = c.args.next.now.leave in
    let alternatives = c.args.alternatives.now in
    let facts = c.args.facts.now in
    let known = c.as_slice.result.now in
    let first = c.index-alternatives-left.result in
    let left = c.alternatives.left in
    let i = left - 1 in
    let body = commands (out-CoreAlternative first).body in
    let is = ap (λ (x : CoreAlternative). commands (out-CoreAlternative x).body) c.index-alternatives-left.is ∙ ap commands (sym c.as_slice-stmts.ensures) in
    let made = builds_as p sub body rest leave c.in_ok-done.ensures.made is in
    let cuts = cuts_as body rest leave c.in_ok-done.ensures.cuts is in
    let lays = c.in_ok-alternative.ensures in
    let w : i < length alternatives = omega (arith, below, some) in
    let e : left ≡ i + 1 = omega (arith, some) in
    record {
      within = omega (arith, below);
      builds = next_alternative facts alternatives known first i left rest leave w e c.requires.many (subst (λ x. x ≡ get_or facts i x) (sym c.as_slice.ensures) c.index-facts-left.is) c.index-alternatives-left.is c.requires.facts inv.builds made lays;
      cuts = next_alternative_cuts alternatives first i left rest leave w e c.index-alternatives-left.is inv.builds.grown made.grown lays.grown inv.cuts cuts;
    }

pub case-alternatives-requires : goal.case-alternatives-requires
case-alternatives-requires t c =
    let term = c.in_ok-value.ensures in
    let facts = c.in_ok-facts.ensures in
    let terms = c.facts_of_all.new.terms in
    let grown = more_with terms term facts.grown in
    let made = with_terms c.code_id.new.self terms in (
      search (rules, the_lemmas),
      (
        ready_with terms c.requires.ready term facts.grown,
        (
          begun_kept {b = made} c.requires.begun grown,
          (
            leads_kept {b = made} c.requires.leads grown,
            (ap length c.as_slice.ensures ∙ as_many_facts (tree_at c.code_id.new.self.steps.terms c.in_ok-value.value) c.args.alternatives.now facts, subst (All (AreIds (length terms))) (sym c.as_slice.ensures) facts.within),
          ),
        ),
      ),
    )

pub case-returns-clause-made : goal.case-returns-clause-made
case-returns-clause-made t c = λ place.
    let term = c.in_ok-value.ensures in
    let facts = c.in_ok-facts.ensures in
    let terms = c.facts_of_all.new.terms in
    let p = c.args.body.now.program.now in
    let sub = c.args.body.now.sub.now in
    let selector = c.args.selector.now in
    let alternatives = c.args.alternatives.now in
    let rest = c.args.next.now.rest in
    let leave = c.args.next.now.leave in
    let made = with_terms c.code_id.new.self terms in
    let slice = c.as_slice.result.now in
    selected {b = made} place selector alternatives rest leave (more_with terms term facts.grown) (facts_known (term_of p (now_term p) selector) slice alternatives c.as_slice.ensures facts term.made.tree)
    (subst (BuildsAlternatives p sub made c.alternatives.new.self (map (trees_at terms) slice) alternatives rest leave) c.in-Some.is c.in_ok-first.ensures.made)
    c.in_ok-checked-in-Some.ensures c.in_ok-id-in-Some.ensures

pub case-returns-clause-cuts : goal.case-returns-clause-cuts
case-returns-clause-cuts t c = λ place.
    let terms = c.facts_of_all.new.terms in
    cuts_of_case {b = with_terms c.code_id.new.self terms} place c.args.selector.now c.args.alternatives.now c.args.next.now.rest c.args.next.now.leave (more_with terms c.in_ok-value.ensures c.in_ok-facts.ensures.grown)
    (more_twice c.in_ok-checked-in-Some.ensures.grown c.in_ok-id-in-Some.ensures.grown) c.in_ok-first.ensures.cuts

pub case-returns-in-None-clause-made : goal.case-returns-in-None-clause-made
case-returns-in-None-clause-made t c = λ place.
    let term = c.in_ok-value.ensures in
    let facts = c.in_ok-facts.ensures in
    let terms = c.facts_of_all.new.terms in
    let p = c.args.body.now.program.now in
    let sub = c.args.body.now.sub.now in
    let selector = c.args.selector.now in
    let alternatives = c.args.alternatives.now in
    let rest = c.args.next.now.rest in
    let leave = c.args.next.now.leave in
    let made = with_terms c.code_id.new.self terms in
    let slice = c.as_slice.result.now in
    let known = term_of p (now_term p) selector in
    none_selected {b = made} place known selector alternatives rest leave (more_with terms term facts.grown) c.requires.leads.rest c.requires.leads.leave (facts_known known slice alternatives c.as_slice.ensures facts term.made.tree)
    (subst (BuildsAlternatives p sub made c.alternatives.new.self (map (trees_at terms) slice) alternatives rest leave) c.in-None.is c.in_ok-first.ensures.made)

pub case-returns-in-None-clause-cuts : goal.case-returns-in-None-clause-cuts
case-returns-in-None-clause-cuts t c = λ place.
    let terms = c.facts_of_all.new.terms in
    cuts_of_case {b = with_terms c.code_id.new.self terms} place c.args.selector.now c.args.alternatives.now c.args.next.now.rest c.args.next.now.leave (more_with terms c.in_ok-value.ensures c.in_ok-facts.ensures.grown)
    (more_not c.alternatives.new.self.steps) c.in_ok-first.ensures.cuts

pub part-stmts-requires-2 : goal.part-stmts-requires-2
part-stmts-requires-2 t c =
    let part = most_part the_size (c.args.to - c.args.from) c.args.from c.args.stmts.now in
    (search (rules, the_lemmas), (c.requires.ready, (c.requires.begun, c.requires.leads)))

-- ---- loop_with_cut
pub loop_with_cut-unreachable-requires : goal.loop_with_cut-unreachable-requires
loop_with_cut-unreachable-requires t c = not_reached c.index-stmts-at.result (assert_at c.args.stmts.now c.args.at c.index-stmts-at.result c.index-stmts-at.is c.requires.own) c.in_default.not-Assertion

pub loop_with_cut-part-requires : goal.loop_with_cut-part-requires
loop_with_cut-part-requires t c =
    let end = c.in_ok-end.ensures in
    let w = c.requires.own.0 in
    (search (rules, the_lemmas), (end.ready, (begun_kept c.requires.begun end.grown, (record { rest = end.made.within; leave = step_within c.args.out c.requires.out end.grown }, (omega arith, omega (arith, w))))))

pub loop_with_cut-again-requires-clause-within : goal.loop_with_cut-again-requires-clause-within
loop_with_cut-again-requires-clause-within t c =
    let end = c.in_ok-end.ensures in
    let into = c.in_ok-into.ensures.made in
    let out = step_within c.args.out c.requires.out end.grown in
    (builds_within c.args.body.now.program.now c.args.body.now.sub.now c.in_ok-end.end c.args.out end.made.within out into, step_within c.args.out out into.grown)

pub loop_with_cut-part-requires-2 : goal.loop_with_cut-part-requires-2
loop_with_cut-part-requires-2 t c =
    let end = c.in_ok-end.ensures in
    let into = c.in_ok-into.ensures.made in
    let again = c.in_ok-again.ensures in
    let more = more_twice end.grown (more_twice into.grown again.grown) in
    let w = c.requires.own.0 in
    (search (rules, the_lemmas), (again.ready, (begun_kept c.requires.begun more, (record { rest = again.made.within; leave = step_within c.args.out c.requires.out more }, (omega (arith, w), omega arith)))))

pub loop_with_cut-begin_cut-requires-clause-leads : goal.loop_with_cut-begin_cut-requires-clause-leads
loop_with_cut-begin_cut-requires-clause-leads t c =
    let end = c.in_ok-end.ensures in
    let into = c.in_ok-into.ensures.made in
    let again = c.in_ok-again.ensures in
    let after = c.in_ok-after.ensures.made in
    let out = step_within c.args.out c.requires.out (more_twice end.grown (more_twice into.grown again.grown)) in
    record {
      rest = builds_within c.args.body.now.program.now c.args.body.now.sub.now c.in_ok-again.again c.args.out again.made.within out after;
      leave = step_within c.args.out out after.grown;
    }

pub loop_with_cut-entering-requires-clause-within : goal.loop_with_cut-entering-requires-clause-within
loop_with_cut-entering-requires-clause-within t c =
    let end = c.in_ok-end.ensures in
    let into = c.in_ok-into.ensures.made in
    let out = step_within c.args.out c.requires.out end.grown in
    let more = more_twice c.in_ok-again.ensures.grown (more_twice c.in_ok-after.ensures.made.grown c.in_ok-begin_cut.ensures.grown) in
    let within = builds_within c.args.body.now.program.now c.args.body.now.sub.now c.in_ok-end.end c.args.out end.made.within out into in
    (step_within c.in_ok-into.into within more, step_within c.args.out out (more_twice into.grown more))

pub loop_with_cut-entering-requires-clause-same : goal.loop_with_cut-entering-requires-clause-same
loop_with_cut-entering-requires-clause-same t c =
    let end = c.in_ok-end.ensures in
    let into = c.in_ok-into.ensures.made in
    let out = step_within c.args.out c.requires.out end.grown in
    let within = builds_within c.args.body.now.program.now c.args.body.now.sub.now c.in_ok-end.end c.args.out end.made.within out into in
    again_kept c.args.body.now.program.now c.args.body.now.sub.now (head_of c.args.scheme.now) within (step_within c.args.out out into.grown) c.in_ok-again.ensures (more_twice c.in_ok-after.ensures.made.grown c.in_ok-begin_cut.ensures.grown)

pub loop_with_cut-returns-clause-cuts : goal.loop_with_cut-returns-clause-cuts
loop_with_cut-returns-clause-cuts t c =
    let s = c.index-stmts-at in
    let x = c.in-Assertion in
    with_cut_cuts c.args.body.now.program.now c.args.body.now.sub.now (head_of c.args.scheme.now) c.args.stmts.now _ _ s.result x.place c.get-condition.result.now (parted_in c.args.stmts.now c.args.at s.result c.requires.own.0 s.is)
    (form_at c.args.stmts.now c.args.at s.result x.field-0 x.place x.condition c.get-condition.result.now s.is x.is c.get-condition.ensures c.requires.own) c.requires.begun.cut c.in_ok-end.ensures c.in_ok-into.ensures.made c.in_ok-again.ensures c.in_ok-after.ensures.made c.in_ok-begin_cut.ensures.grown c.in_ok-id.ensures (counts c.args.within.now)
    c.new-before.ensures c.in_ok-into.ensures.cuts c.in_ok-after.ensures.cuts c.in_ok-begin_cut.ensures.cuts c.in_ok-append.ensures

pub loop_with_cut-returns-clause-made : goal.loop_with_cut-returns-clause-made
loop_with_cut-returns-clause-made t c =
    let s = c.index-stmts-at in
    let x = c.in-Assertion in
    with_cut c.args.body.now.program.now c.args.body.now.sub.now (head_of c.args.scheme.now) c.args.stmts.now _ _ s.result x.place c.get-condition.result.now (parted_in c.args.stmts.now c.args.at s.result c.requires.own.0 s.is)
    (form_at c.args.stmts.now c.args.at s.result x.field-0 x.place x.condition c.get-condition.result.now s.is x.is c.get-condition.ensures c.requires.own) c.requires.begun.cut c.in_ok-end.ensures c.in_ok-into.ensures.made c.in_ok-again.ensures c.in_ok-after.ensures.made c.in_ok-begin_cut.ensures.grown c.in_ok-id.ensures

-- ---- loop_without_cut
pub loop_without_cut-from_cut-requires-clause-order : goal.loop_without_cut-from_cut-requires-clause-order
loop_without_cut-from_cut-requires-clause-order t c = order_kept {old = c.stmts.new.self.steps} {new = record { terms = c.make.new.self; nodes = c.stmts.new.self.steps.nodes }} c.in_ok-first.ensures.made.ready.order c.in_ok-truth.ensures.grown refl

pub loop_without_cut-from_cut-requires-clause-within : goal.loop_without_cut-from_cut-requires-clause-within
loop_without_cut-from_cut-requires-clause-within t c =
    let again = c.in_ok-again.ensures in
    builds_within c.args.body.now.program.now c.args.body.now.sub.now c.in_ok-again.again c.args.out again.made.within (step_within c.args.out c.requires.out again.grown) c.in_ok-first.ensures.made

pub loop_without_cut-entering-requires-clause-begun : goal.loop_without_cut-entering-requires-clause-begun
loop_without_cut-entering-requires-clause-begun t c =
    let first = c.in_ok-first.ensures.made in
    let m = more_terms {old = c.stmts.new.self.steps} {new = record { terms = c.make.new.self; nodes = c.stmts.new.self.steps.nodes }} first.ready.order c.in_ok-truth.ensures.grown refl in
    begun_kept c.requires.begun (more_twice c.in_ok-again.ensures.grown (more_twice first.grown (more_twice m c.in_ok-cut.ensures.grown)))

pub loop_without_cut-entering-requires-clause-same : goal.loop_without_cut-entering-requires-clause-same
loop_without_cut-entering-requires-clause-same t c =
    let first = c.in_ok-first.ensures.made in
    let m = more_terms {old = c.stmts.new.self.steps} {new = record { terms = c.make.new.self; nodes = c.stmts.new.self.steps.nodes }} first.ready.order c.in_ok-truth.ensures.grown refl in
    again_kept c.args.body.now.program.now c.args.body.now.sub.now (head_of c.args.scheme.now) c.requires.begun.cut.within c.requires.out c.in_ok-again.ensures (more_twice first.grown (more_twice m c.in_ok-cut.ensures.grown))

pub loop_without_cut-returns-clause-cuts : goal.loop_without_cut-returns-clause-cuts
loop_without_cut-returns-clause-cuts t c =
    let p = c.args.body.now.program.now in
    let sub = c.args.body.now.sub.now in
    let again = c.in_ok-again.ensures in
    let first = c.in_ok-first.ensures.made in
    let m = more_terms {old = c.stmts.new.self.steps} {new = record { terms = c.make.new.self; nodes = c.stmts.new.self.steps.nodes }} first.ready.order c.in_ok-truth.ensures.grown refl in
    let within = builds_within p sub c.in_ok-again.again c.args.out again.made.within (step_within c.args.out c.requires.out again.grown) first in
    without_cut_cuts p sub (head_of c.args.scheme.now) (commands c.args.stmts.now) c.requires.own c.requires.begun.cut again first (more_twice m c.in_ok-cut.ensures.grown) c.in_ok-id.ensures (counts c.args.within.now) c.in_ok-cut.cut c.in_ok-first.ensures.cuts
    (root_stands p sub (counts c.args.within.now) c.in_ok-truth.truth m within c.in_ok-truth.ensures.made.tree c.in_ok-cut.ensures.made) c.in_ok-push.ensures.ok

pub loop_without_cut-returns-clause-made : goal.loop_without_cut-returns-clause-made
loop_without_cut-returns-clause-made t c =
    let first = c.in_ok-first.ensures.made in
    let m = more_terms {old = c.stmts.new.self.steps} {new = record { terms = c.make.new.self; nodes = c.stmts.new.self.steps.nodes }} first.ready.order c.in_ok-truth.ensures.grown refl in
    without_cut c.args.body.now.program.now c.args.body.now.sub.now (head_of c.args.scheme.now) (commands c.args.stmts.now) c.requires.own c.requires.begun.cut c.in_ok-again.ensures first (more_twice m c.in_ok-cut.ensures.grown) c.in_ok-id.ensures

-- ---- repeated
pub repeated-returns-in_ok-id-in-Some-clause-cuts : goal.repeated-returns-in_ok-id-in-Some-clause-cuts
repeated-returns-in_ok-id-in-Some-clause-cuts t c =
    repeated_cuts c.args.body.now.program.now c.args.body.now.sub.now (head_of c.args.scheme.now) (commands c.args.stmts.now) c.args.next.now.rest c.args.next.now.leave c.in_ok-out.ensures (counts c.args.next.now.within.now) (counts c.inside-inner.result) c.inside-inner.ensures c.in_ok-id-in-Some.ensures.cuts

pub repeated-returns-in_ok-id-in-Some-clause-made : goal.repeated-returns-in_ok-id-in-Some-clause-made
repeated-returns-in_ok-id-in-Some-clause-made t c =
    repeated_from c.args.body.now.program.now c.args.body.now.sub.now (head_of c.args.scheme.now) (commands c.args.stmts.now) c.args.next.now.rest c.args.next.now.leave c.in_ok-out.ensures c.in_ok-id-in-Some.ensures.made

pub repeated-returns-in_ok-id-in-None-clause-cuts : goal.repeated-returns-in_ok-id-in-None-clause-cuts
repeated-returns-in_ok-id-in-None-clause-cuts t c =
    repeated_cuts c.args.body.now.program.now c.args.body.now.sub.now (head_of c.args.scheme.now) (commands c.args.stmts.now) c.args.next.now.rest c.args.next.now.leave c.in_ok-out.ensures (counts c.args.next.now.within.now) (counts c.inside-inner.result) c.inside-inner.ensures c.in_ok-id-in-None.ensures.cuts

pub repeated-returns-in_ok-id-in-None-clause-made : goal.repeated-returns-in_ok-id-in-None-clause-made
repeated-returns-in_ok-id-in-None-clause-made t c =
    repeated_from c.args.body.now.program.now c.args.body.now.sub.now (head_of c.args.scheme.now) (commands c.args.stmts.now) c.args.next.now.rest c.args.next.now.leave c.in_ok-out.ensures c.in_ok-id-in-None.ensures.made
