use Rattle.std.proofs.Common.{◌≡◌, [], ◌+◌, ◌-◌, ◌<◌, ◌||◌, All, arith, ap, ap₂, ◌∙◌, drop, length, map, not, refl, rules, subst, sym}
use Rattle.std.proofs.lemmas.List.{drop_all}
use Rattle.std.proofs.lemmas.Result.{on_ok_weaker}
use Rattle.std.proofs.lemmas.List.Elements.{All-contains, All-nil}
use Rattle.spx_core.specs.Effects.{assign, sets}
use Rattle.spx_core.specs.Mirror.VarSets.{holds}
use Rattle.spx_lower.specs.declared.item.Arm.{Arm, out-Arm}
use Rattle.spx_lower.specs.declared.item.Assignment.{Assignment}
use Rattle.spx_lower.specs.declared.item.Item.{the_lemmas}
use Rattle.spx_lower.specs.Meaning.{arm_of, branch, effect_in, effect_of, ended, loop_over}
use Rattle.spx_lower.proofs.LowerLaws.{effect-Assign, effect-Branch, effect-Loop, effect-Nothing, effect-Observe, test_of}
use Rattle.spx_passes.specs.declared.occurrence.Occurrence.{Occurrence}
use Rattle.spx_passes.specs.Branches.{ArmPass, Arms, Done}
use Rattle.spx_passes.specs.Directions.{Steps}
use Rattle.spx_passes.specs.Occurrences.{AreRows}
use Rattle.spx_passes.specs.Points.{size_of}
use Rattle.spx_passes.specs.Positions.{Covers, CoversArm}
use Rattle.spx_passes.specs.Steps.{StepsBack}
use Rattle.spx_passes.proofs.CoversLaws.{branch_covered, covers_left, covers_one, ended_covered, loop_covered}
use Rattle.spx_passes.proofs.LoopPasses.{shallow}
use Rattle.spx_passes.proofs.PassLaws.{Led, arms_more, arms_none, back_next, back_null, led_end, led_next, led_start, left_from, left_of}
use Rattle.spx_passes.proofs.TargetLaws.{or_nothing}
use Rattle.spx_passes.proofs.Ways.{arm_passed, last_passed, over_copied, over_null, over_observed, steps_rows, steps_size}
use Rattle.spx_passes.proofs.pass.+over.Goals as goal

-- ---- one item

pub over-returns-in-Nothing : goal.over-returns-in-Nothing
over-returns-in-Nothing t c =
    let d = c.args.direction in
    let frame = c.args.frame.now in
    let m = c.args.rows.now in
    let list = c.args.list.now in
    subst (λ e. Steps d frame e m m list list) (sym (ap effect_of c.in-Nothing.is ∙ effect-Nothing)) (over_null d frame m list c.requires.covers.once c.requires.rows)

pub over-returns-in-Observe : goal.over-returns-in-Observe
over-returns-in-Observe t c =
    let d = c.args.direction in
    let frame = c.args.frame.now in
    let m = c.args.rows.now in
    let list = c.args.list.now in
    let reads = c.in-Observe.field-0 in
    subst (λ e. Steps d frame e m m list list) (sym (ap effect_of c.in-Observe.is ∙ effect-Observe reads)) (over_observed d frame reads m list c.requires.covers.once c.requires.rows)

pub over-over_assignment-requires : goal.over-over_assignment-requires
over-over_assignment-requires t c =
    let i = c.in-Assign in
    let covers = subst (Covers c.args.frame.now) (ap effect_of i.is ∙ effect-Assign i.assignment ∙ ap (λ (a : Assignment). assign a.target a.reads a.place) (sym c.get.ensures)) c.requires.covers in
    record { covers = covers; size = c.requires.size; rows = c.requires.rows }

pub over-returns-in-Assign : goal.over-returns-in-Assign
over-returns-in-Assign t c =
    let i = c.in-Assign in
    let new = c.over_assignment.new in
    on_ok_weaker c.over_assignment.result
    (λ steps. subst (λ e. Steps c.args.direction c.args.frame.now e c.args.rows.now new.rows c.args.list.now new.list)
    (sym (ap effect_of i.is ∙ effect-Assign i.assignment ∙ ap (λ (a : Assignment). assign a.target a.reads a.place) (sym c.get.ensures))) steps) c.over_assignment.ensures

-- ---- branches

pub over-over_otherwise-requires : goal.over-over_otherwise-requires
over-over_otherwise-requires t c =
    let frame = c.args.frame.now in
    let i = c.in-Branch in
    let covers = subst (Covers frame) (ap effect_of i.is ∙ effect-Branch i.selector i.arms i.last i.otherwise) c.requires.covers in
    let others = ended_covered frame i.selector i.last (effect_in i.otherwise) (branch_covered frame i.selector (ended i.selector i.last (effect_in i.otherwise)) i.arms covers).1 in
    (search (rules, the_lemmas), (subst (λ xs. Covers frame (effect_in xs)) (sym (c.as_slice-otherwise.ensures ∙ c.get-in-Branch-2.ensures)) others, (c.requires.size, (c.in_ok-set-in-Branch.ensures, c.requires.rows))))

pub over-over_arms-requires : goal.over-over_arms-requires
over-over_arms-requires t c =
    let d = c.args.direction in
    let frame = c.args.frame.now in
    let i = c.in-Branch in
    let covers = subst (Covers frame) (ap effect_of i.is ∙ effect-Branch i.selector i.arms i.last i.otherwise) c.requires.covers in
    let arms = (branch_covered frame i.selector (ended i.selector i.last (effect_in i.otherwise)) i.arms covers).0 in
    let done = c.in_ok-ends-in-Branch.ensures.steps in
    let e = ended c.as_slice-selector.result.now i.last (effect_in c.as_slice-otherwise.result.now) in
    let ends = c.in_ok-ends-in-Branch.ends in
    let list = c.over_otherwise.new.list in (
      search (rules, the_lemmas),
      (
        subst (All (λ (arm : Arm). CoversArm frame (arm_of arm))) (sym (c.as_slice-arms.ensures ∙ c.get-in-Branch-3.ensures)) arms,
        record {
          once = c.requires.covers.once;
          size = c.requires.size;
          ends = steps_size d frame e c.args.rows.now ends c.args.list.now list done ∙ c.requires.size;
          rows = steps_rows d frame e c.args.rows.now ends c.args.list.now list done;
        },
      ),
    )

pub over-returns-in_ok-over_arms-in-Branch : goal.over-returns-in_ok-over_arms-in-Branch
over-returns-in_ok-over_arms-in-Branch t c =
    let d = c.args.direction in
    let frame = c.args.frame.now in
    let i = c.in-Branch in
    let new = c.over_arms.new in
    let selector = c.as_slice-selector.result.now in
    let otherwise = c.as_slice-otherwise.result.now in
    let is = ap effect_of i.is ∙ effect-Branch i.selector i.arms i.last i.otherwise
    ∙ ap (λ s. branch s (ended s i.last (effect_in i.otherwise)) (map arm_of i.arms)) (sym (c.as_slice-selector.ensures ∙ c.get-in-Branch.ensures))
    ∙ ap (λ o. branch selector (ended selector i.last (effect_in o)) (map arm_of i.arms)) (sym (c.as_slice-otherwise.ensures ∙ c.get-in-Branch-2.ensures))
    ∙ ap (λ xs. branch selector (ended selector i.last (effect_in otherwise)) (map arm_of xs)) (sym (c.as_slice-arms.ensures ∙ c.get-in-Branch-3.ensures)) in
    subst (λ e. Steps d frame e c.args.rows.now new.ends c.args.list.now new.list) (sym is) (c.in_ok-over_arms-in-Branch.ensures.done (ended selector i.last (effect_in otherwise)) c.args.list.now c.in_ok-ends-in-Branch.ensures).steps

pub over_otherwise-over_all-requires : goal.over_otherwise-over_all-requires
over_otherwise-over_all-requires t c = (search (rules, the_lemmas), record { covers = c.requires.covers; size = c.in_ok-ends.ensures.0 ∙ c.requires.size; rows = c.requires.rows })

pub over_otherwise-over_test-requires-clause-beside : goal.over_otherwise-over_test-requires-clause-beside
over_otherwise-over_test-requires-clause-beside t c =
    let d = c.args.direction in
    let e = effect_in c.args.items.now in
    let new = c.over_all.new in
    record {
      once = c.requires.covers.once;
      size = c.requires.size;
      ends = steps_size d c.args.frame.now e c.in_ok-ends.ends new.rows c.args.list.now new.list c.in_ok-over_all.ensures ∙ c.in_ok-ends.ensures.0 ∙ c.requires.size;
      rows = steps_rows d c.args.frame.now e c.in_ok-ends.ends new.rows c.args.list.now new.list c.in_ok-over_all.ensures;
    }

pub over_otherwise-returns-in-None : goal.over_otherwise-returns-in-None
over_otherwise-returns-in-None t c =
    let d = c.args.direction in
    let frame = c.args.frame.now in
    let body = effect_in c.args.items.now in
    let copy = c.in_ok-ends in
    let mid = c.over_all.new in
    let all = c.add_all_targets.new.found.keys in
    subst (λ last. Done (λ e. Steps d frame e c.args.rows.now) (ended c.args.selector.now last body) mid.rows all c.args.list.now mid.list) (sym c.in-None.is)
    (record {
      targets = λ v. c.in_ok-add_all_targets.ensures v ∙ ap (λ keys. sets v body || holds keys v) c.requires.none ∙ or_nothing (sets v body);
      steps = over_copied d frame body c.args.rows.now copy.ends mid.rows c.args.list.now mid.list c.requires.covers.once copy.ensures.0 copy.ensures.1 c.in_ok-over_all.ensures;
    })

pub over_otherwise-returns-in_ok-over_test-in-Some : goal.over_otherwise-returns-in_ok-over_test-in-Some
over_otherwise-returns-in_ok-over_test-in-Some t c =
    let d = c.args.direction in
    let frame = c.args.frame.now in
    let body = effect_in c.args.items.now in
    let copy = c.in_ok-ends in
    let mid = c.over_all.new in
    let new = c.over_test.new in
    let all = c.add_all_targets.new.found.keys in
    let place = c.in-Some.place in
    let pass = over_copied d frame body c.args.rows.now copy.ends mid.rows c.args.list.now mid.list c.requires.covers.once copy.ensures.0 copy.ensures.1 c.in_ok-over_all.ensures in
    subst (λ last. Done (λ e. Steps d frame e c.args.rows.now) (ended c.args.selector.now last body) new.ends all c.args.list.now new.list) (sym c.in-Some.is)
    (last_passed d frame c.args.selector.now body place c.args.rows.now mid.rows new.ends all c.args.list.now mid.list new.list (λ v. c.in_ok-add_all_targets.ensures v ∙ ap (λ keys. sets v body || holds keys v) c.requires.none ∙ or_nothing (sets v body)) pass
    (rw c.get-place.ensures at c.in_ok-over_test-in-Some.ensures))

-- ---- arms

pub over_arm-over_all-requires : goal.over_arm-over_all-requires
over_arm-over_all-requires t c =
    let frame = c.args.frame.now in
    let is = ap (λ test. test.done) (test_of c.args.arm.now) ∙ ap effect_in (sym c.as_slice-body.ensures) in
    (search (rules, the_lemmas), record { covers = subst (Covers frame) is c.requires.covers.body; size = c.in_ok-start.ensures.size; rows = c.requires.beside.rows })

pub over_arm-over_test-requires-clause-beside : goal.over_arm-over_test-requires-clause-beside
over_arm-over_test-requires-clause-beside t c =
    let new = c.over_all.new in
    record {
      once = c.requires.beside.once;
      size = c.requires.beside.size;
      ends = c.union_with.ensures.size ∙ c.requires.beside.ends;
      rows = steps_rows c.args.direction c.args.frame.now (effect_in c.as_slice-body.result.now) c.in_ok-start.start new.rows c.args.list.now new.list c.in_ok-over_all.ensures;
    }

pub over_arm-returns : goal.over_arm-returns
over_arm-returns t c =
    let d = c.args.direction in
    let frame = c.args.frame.now in
    let arm = out-Arm c.args.arm.now in
    let body = effect_in c.as_slice-body.result.now in
    let reads = c.as_slice-reads.result.now in
    let mid = c.over_all.new in
    let new = c.over_test.new in
    let all = c.add_all_targets.new.found.keys in
    let is = test_of c.args.arm.now
    ∙ ap (λ rs. record { place = arm.place; reads = rs; is_exit = arm.is_exit; done = effect_in arm.body }) (sym c.as_slice-reads.ensures)
    ∙ ap (λ xs. record { place = arm.place; reads = reads; is_exit = arm.is_exit; done = effect_in xs }) (sym c.as_slice-body.ensures) in
    let covers = subst (Covers frame) (ap (λ test. test.done) is) c.requires.covers.body in
    subst (λ test. ArmPass (λ e. Steps d frame e c.args.rows.now) frame test c.args.selector.now c.args.ends.now new.ends c.args.targets.now.keys all c.args.list.now new.list) (sym is)
    (arm_passed frame c.requires.beside.once arm.is_exit reads c.args.selector.now body arm.place covers c.args.rows.now c.args.ends.now c.union_with.new.self new.ends c.args.targets.now.keys all c.args.list.now mid.list new.list c.union_with.ensures.size c.in_ok-add_all_targets.ensures
    d c.in_ok-start.start mid.rows c.in_ok-end.end c.in_ok-start.ensures.begins c.in_ok-over_all.ensures c.in_ok-end.ensures.ends c.union_with.ensures.pairs c.in_ok-over_test.ensures)

pub over_arms-over_arm-requires : goal.over_arms-over_arm-requires
over_arms-over_arm-requires t c =
    let frame = c.args.frame.now in
    let arms = c.args.arms.now in
    let k = c.loop-k.k in
    let arm = c.index-arms-k.result in
    let within : k - 1 < length arms = omega arith in
    let one = All-contains (λ (a : Arm). CoversArm frame (arm_of a)) arms arm c.requires.covers (k - 1, within, sym c.index-arms-k.is) in (
      search (rules, the_lemmas),
      (one, record { once = c.requires.beside.once; size = c.requires.beside.size; ends = c.loop-k.invariant.size ∙ c.requires.beside.ends; rows = c.loop-k.invariant.rows }),
    )

pub over_arms-loop-k-init : goal.over_arms-loop-k-init
over_arms-loop-k-init t c =
    let arms = c.args.arms.now in
    subst (λ xs. Arms (λ e. Steps c.args.direction c.args.frame.now e c.args.rows.now) c.args.frame.now c.args.selector.now (map arm_of xs) c.args.ends.now c.args.ends.now c.args.targets.now.keys c.args.targets.now.keys c.args.list.now c.args.list.now)
    (sym (drop_all (length arms) arms (omega arith)))
    (arms_none (λ e. Steps c.args.direction c.args.frame.now e c.args.rows.now) c.args.frame.now c.args.selector.now c.args.ends.now c.args.targets.now.keys c.args.list.now c.requires.beside.rows)

pub over_arms-loop-k-preserved : goal.over_arms-loop-k-preserved
over_arms-loop-k-preserved t c =
    let d = c.args.direction in
    let frame = c.args.frame.now in
    let m = c.args.rows.now in
    let arms = c.args.arms.now in
    let k = c.loop-k.k in
    let arm = c.index-arms-k.result in
    let within : k - 1 < length arms = omega arith in
    let new = c.over_arm.new in
    let old = c.loop-k in
    subst (λ xs. Arms (λ e. Steps d frame e m) frame c.args.selector.now (map arm_of xs) c.args.ends.now new.ends c.args.targets.now.keys new.targets.keys c.args.list.now new.list) (sym (left_of arms k arm c.loop-k-test.true within c.index-arms-k.is))
    (arms_more (λ e. Steps d frame e m) frame c.args.selector.now (arm_of arm) (map arm_of (drop k arms)) c.args.ends.now old.ends new.ends c.args.targets.now.keys old.targets.keys new.targets.keys c.args.list.now old.list new.list old.invariant c.in_ok-over_arm.ensures)

pub over_arms-returns : goal.over_arms-returns
over_arms-returns t c =
    let last : c.loop-k.k ≡ 0 = omega arith in
    subst (λ n. Arms (λ e. Steps c.args.direction c.args.frame.now e c.args.rows.now) c.args.frame.now c.args.selector.now (map arm_of (drop n c.args.arms.now)) c.args.ends.now c.loop-k.ends c.args.targets.now.keys c.loop-k.targets.keys c.args.list.now c.loop-k.list)
    last c.loop-k.invariant

-- ---- loops

pub over-over_loop-requires : goal.over-over_loop-requires
over-over_loop-requires t c =
    let i = c.in-Loop in
    let covers = subst (Covers c.args.frame.now) (ap effect_of i.is ∙ effect-Loop i.head i.body ∙ ap₂ (λ h xs. loop_over h (effect_in xs)) (sym c.get-in-Loop.ensures) (sym c.as_slice.ensures)) c.requires.covers in
    (search (rules, the_lemmas), record { covers = covers; size = c.requires.size; rows = c.requires.rows })

pub over-returns-in-Loop : goal.over-returns-in-Loop
over-returns-in-Loop t c =
    let i = c.in-Loop in
    let new = c.over_loop.new in
    on_ok_weaker c.over_loop.result
    (λ steps. subst (λ e. Steps c.args.direction c.args.frame.now e c.args.rows.now new.rows c.args.list.now new.list)
    (sym (ap effect_of i.is ∙ effect-Loop i.head i.body ∙ ap₂ (λ h xs. loop_over h (effect_in xs)) (sym c.get-in-Loop.ensures) (sym c.as_slice.ensures))) steps) c.over_loop.ensures

pub over_loop-over_turn-requires : goal.over_loop-over_turn-requires
over_loop-over_turn-requires t c =
    let frame = c.args.frame.now in
    (search (rules, the_lemmas), (loop_covered frame c.args.head.now (effect_in c.args.body.now) c.requires.covers, c.in_ok-start.ensures.size))

pub over_turn-over_all-requires : goal.over_turn-over_all-requires
over_turn-over_all-requires t c =
    let n = size_of c.args.frame.now in
    (search (rules, the_lemmas), record { covers = c.requires.covers; size = c.requires.size; rows = subst (AreRows n) (sym c.new-inner.ensures) (All-nil (λ (o : Occurrence). length o.vars ≡ n)) })

pub over_loop-close_loop-requires : goal.over_loop-close_loop-requires
over_loop-close_loop-requires t c =
    let body = effect_in c.args.body.now in
    let turn = c.in_ok-turn.turn in
    record {
      once = c.requires.covers.once;
      turn = steps_size c.args.direction c.args.frame.now body c.in_ok-start.start turn.flow [] turn.inner c.in_ok-turn.ensures ∙ c.in_ok-start.ensures.size;
      inner = steps_rows c.args.direction c.args.frame.now body c.in_ok-start.start turn.flow [] turn.inner c.in_ok-turn.ensures;
      size = c.requires.size;
      rows = c.requires.rows;
    }

pub over_loop-returns : goal.over_loop-returns
over_loop-returns t c =
    let body = effect_in c.args.body.now in
    on_ok_weaker c.close_loop.result (λ closes. closes body c.in_ok-start.start c.requires.covers c.in_ok-targets.ensures (ap not (c.have_exits-stays.ensures ∙ shallow body)) c.in_ok-start.ensures.begins c.in_ok-turn.ensures) c.close_loop.ensures

-- ---- items in a row

pub after_all-loop-item-init : goal.after_all-loop-item-init
after_all-loop-item-init t c = led_start c.args.frame.now (effect_in c.args.items.now) c.args.rows.now c.args.list.now c.requires.size c.requires.rows

pub after_all-over-requires : goal.after_all-over-requires
after_all-over-requires t c =
    let items = c.args.items.now in (
      search (rules, the_lemmas),
      record {
        covers = covers_one c.args.frame.now items c.item-item.result c.requires.covers (c.loop-item.item-index, c.loop-item-test.true, sym c.item-item.is);
        size = c.loop-item.invariant.size;
        rows = c.loop-item.invariant.rows;
      },
    )

pub after_all-loop-item-preserved : goal.after_all-loop-item-preserved
after_all-loop-item-preserved t c =
    let frame = c.args.frame.now in
    let items = c.args.items.now in
    let k = c.loop-item.item-index in
    let i = c.item-item.result in
    let old = c.loop-item.rows in
    let list = c.loop-item.list in
    led_next frame (effect_in items) (effect_of i) (effect_in (drop (k + 1) items)) c.args.rows.now old c.over.new.rows c.args.list.now list c.over.new.list (covers_one frame items i c.requires.covers (k, c.loop-item-test.true, sym c.item-item.is))
    (subst (λ xs. Led frame (effect_in items) (effect_in xs) c.args.rows.now old c.args.list.now list) (left_from items k i c.loop-item-test.true c.item-item.is) c.loop-item.invariant) c.in_ok-over.ensures

pub after_all-returns : goal.after_all-returns
after_all-returns t c =
    let frame = c.args.frame.now in
    let items = c.args.items.now in
    let new = c.loop-item.rows in
    let list = c.loop-item.list in
    led_end frame (effect_in items) c.args.rows.now new c.args.list.now list c.requires.covers.once
    (subst (λ xs. Led frame (effect_in items) (effect_in xs) c.args.rows.now new c.args.list.now list) (drop_all c.loop-item.item-index items c.loop-item-test.false) c.loop-item.invariant)

pub before_all-loop-k-init : goal.before_all-loop-k-init
before_all-loop-k-init t c =
    let items = c.args.items.now in
    let m = c.args.rows.now in
    subst (λ xs. StepsBack c.args.frame.now (effect_in xs) m m c.args.list.now c.args.list.now) (sym (drop_all (length items) items (omega arith)))
    (back_null c.args.frame.now m m c.args.list.now c.requires.covers.once c.requires.rows refl (λ a b. (λ h. h, λ h. h)))

pub before_all-over-requires : goal.before_all-over-requires
before_all-over-requires t c =
    let items = c.args.items.now in
    let k = c.loop-k.k in
    let i = c.index-items-k.result in
    let within : k - 1 < length items = omega arith in (
      search (rules, the_lemmas),
      record {
        covers = covers_one c.args.frame.now items i c.requires.covers (k - 1, within, sym c.index-items-k.is);
        size = c.loop-k.invariant.size ∙ c.requires.size;
        rows = c.loop-k.invariant.rows;
      },
    )

pub before_all-loop-k-preserved : goal.before_all-loop-k-preserved
before_all-loop-k-preserved t c =
    let frame = c.args.frame.now in
    let items = c.args.items.now in
    let k = c.loop-k.k in
    let i = c.index-items-k.result in
    let within : k - 1 < length items = omega arith in
    let new = c.over.new in
    subst (λ xs. StepsBack frame (effect_in xs) c.args.rows.now new.rows c.args.list.now new.list) (sym (left_of items k i c.loop-k-test.true within c.index-items-k.is))
    (back_next frame (effect_of i) (effect_in (drop k items)) c.args.rows.now c.loop-k.rows new.rows c.args.list.now c.loop-k.list new.list (covers_left frame k items c.requires.covers) c.loop-k.invariant c.in_ok-over.ensures)
