use Rattle.std.proofs.Common.{[], ◌∷◌, ◌++◌, ◌+◌, ◌-◌, ◌<◌, ◌&&◌, Some, arith, ap, ap₂, drop, length, map, not, refl, subst, sym, ◌∙◌}
use Rattle.std.proofs.lemmas.List.{drop_all}
use Rattle.std.proofs.lemmas.Result.{on_ok_weaker}
use Rattle.spx_core.specs.Uses.{is_same}
use Rattle.spx_core.specs.Effects.{assign, chosen, count as loop_over_values, reads_in}
use Rattle.spx_lower.specs.declared.item.Arm.{out-Arm}
use Rattle.spx_lower.specs.declared.item.Assignment.{Assignment}
use Rattle.spx_lower.specs.Meaning.{arm_of, branch, effect_in, effect_of, ended, loop_over}
use Rattle.spx_lower.proofs.LowerLaws.{effect-Nothing, effect-Assign, effect-Observe, effect-Branch, effect-Loop, test_of}
use Rattle.spx_define.specs.declared.reached.Reached.TheVariants.{NoWay}
use Rattle.spx_define.specs.Passes.{Finds, Passes}
use Rattle.spx_define.proofs.FoundLaws.{finds_both}
use Rattle.spx_define.proofs.PassLaws.{passes_assign, passes_choose, passes_copied, passes_exit, passes_next, passes_nothing, passes_observe, passes_once}
use Rattle.spx_define.proofs.LoopLaws.{SetsToo, passes_between, passes_endless, passes_over, passes_repeat}
use Rattle.spx_define.proofs.Elements.{left_before, left_of}
use Rattle.spx_define.proofs.define.+go_over.Goals as goal

pub go_over-returns-in-Nothing : goal.go_over-returns-in-Nothing
go_over-returns-in-Nothing t c =
    let here = c.args.here.now in
    let exits = c.args.exits.now in
    let found = c.args.found.now.keys in
    subst (λ e. Passes e here here exits exits found found) (sym (ap effect_of c.in-Nothing.is ∙ effect-Nothing)) (passes_nothing (λ v. refl))

pub go_over-returns-in_ok-add_unset_reads-in-Assign : goal.go_over-returns-in_ok-add_unset_reads-in-Assign
go_over-returns-in_ok-add_unset_reads-in-Assign t c =
    let i = c.in-Assign in
    let a = c.get-assignment.result.now in
    let here = c.args.here.now in
    let exits = c.args.exits.now in
    let end = c.set_target.new.here in
    let old = c.args.found.now.keys in
    let new = c.add_unset_reads.new.found.keys in
    on_ok_weaker c.set_target.result
    (λ set. subst (λ e. Passes e here end exits exits old new) (sym (ap effect_of i.is ∙ effect-Assign i.assignment ∙ ap (λ (x : Assignment). assign x.target x.reads x.place) (sym c.get-assignment.ensures)))
    (passes_assign a.target a.reads a.place set (subst (λ rs. Finds here rs old new) c.as_slice.ensures c.in_ok-add_unset_reads-in-Assign.ensures)))
    c.set_target.ensures

pub go_over-returns-in-Observe : goal.go_over-returns-in-Observe
go_over-returns-in-Observe t c =
    let here = c.args.here.now in
    let exits = c.args.exits.now in
    let old = c.args.found.now.keys in
    let new = c.add_unset_reads-in-Observe.new.found.keys in
    let reads = c.in-Observe.reads in
    on_ok_weaker c.add_unset_reads-in-Observe.result
    (λ finds. subst (λ e. Passes e here here exits exits old new) (sym (ap effect_of c.in-Observe.is ∙ effect-Observe reads)) (passes_observe reads (subst (λ rs. Finds here rs old new) c.as_slice-in-Observe.ensures finds)))
    c.add_unset_reads-in-Observe.ensures

pub go_over-returns-in_ok-go_over_arms-in-Branch : goal.go_over-returns-in_ok-go_over_arms-in-Branch
go_over-returns-in_ok-go_over_arms-in-Branch t c =
    let i = c.in-Branch in
    let start = c.args.here.now in
    let exits = c.args.exits.now in
    let found = c.args.found.now.keys in
    let new = c.go_over_arms.new in
    let selector = c.as_slice-selector.result.now in
    let otherwise = c.as_slice-otherwise.result.now in
    let arms = c.as_slice-arms.result.now in
    let is = ap effect_of i.is ∙ effect-Branch i.selector i.arms i.last i.otherwise
    ∙ ap (λ s. branch s (ended s i.last (effect_in i.otherwise)) (map arm_of i.arms)) (sym (c.as_slice-selector.ensures ∙ c.get.ensures))
    ∙ ap (λ o. branch selector (ended selector i.last (effect_in o)) (map arm_of i.arms)) (sym (c.as_slice-otherwise.ensures ∙ c.get-in-Branch.ensures))
    ∙ ap (λ xs. branch selector (ended selector i.last (effect_in otherwise)) (map arm_of xs)) (sym (c.as_slice-arms.ensures ∙ c.get-in-Branch-2.ensures)) in
    subst (λ e. Passes e start new.ends exits new.exits found new.found.keys) (sym is) (c.in_ok-go_over_arms-in-Branch.ensures (ended selector i.last (effect_in otherwise)) exits found c.in_ok-ends-in-Branch.ensures)

pub go_over-returns-in-Loop : goal.go_over-returns-in-Loop
go_over-returns-in-Loop t c =
    let i = c.in-Loop in
    let exits = c.args.exits.now in
    let new = c.go_over_loop.new in
    on_ok_weaker c.go_over_loop.result
    (λ pass. subst (λ e. Passes e c.args.here.now new.here exits exits c.args.found.now.keys new.found.keys) (sym (ap effect_of i.is ∙ effect-Loop i.head i.body ∙ ap₂ (λ h b. loop_over h (effect_in b)) (sym c.get-in-Loop.ensures) (sym c.as_slice-in-Loop.ensures))) (pass exits))
    c.go_over_loop.ensures

pub go_over_otherwise-returns-in_ok-go_over_all-in-None : goal.go_over_otherwise-returns-in_ok-go_over_all-in-None
go_over_otherwise-returns-in_ok-go_over_all-in-None t c =
    let selector = c.args.selector.now in
    let body = effect_in c.args.items.now in
    let start = c.args.here.now in
    let exits = c.args.exits.now in
    let new = c.go_over_all.new in
    subst (λ last. Passes (ended selector last body) start new.here exits new.exits c.args.found.now.keys new.found.keys) (sym c.in-None.is) (passes_copied c.in_ok-ends.ensures c.in_ok-go_over_all-in-None.ensures)

pub go_over_otherwise-returns-in_ok-go_over_all-in-Some : goal.go_over_otherwise-returns-in_ok-go_over_all-in-Some
go_over_otherwise-returns-in_ok-go_over_all-in-Some t c =
    let selector = c.args.selector.now in
    let body = effect_in c.args.items.now in
    let start = c.args.here.now in
    let exits = c.args.exits.now in
    let new = c.go_over_all-in-Some.new in
    subst (λ last. Passes (ended selector last body) start new.here exits new.exits c.args.found.now.keys new.found.keys) (sym c.in-Some.is)
    (passes_once selector body c.in-Some.field-0 c.in_ok-add_unset_reads-in-Some.ensures (passes_copied c.in_ok-ends.ensures c.in_ok-go_over_all-in-Some.ensures))

pub go_over_all-loop-item-preserved : goal.go_over_all-loop-item-preserved
go_over_all-loop-item-preserved t c end exits found rest =
    let items = c.args.items.now in
    let k = c.loop-item.item-index in
    let i = c.item-item.result in
    let l = c.loop-item in
    l.invariant end exits found (subst (λ xs. Passes (effect_in xs) l.here end l.exits exits l.found.keys found) (sym (left_of items k i c.loop-item-test.true c.item-item.is))
    (passes_next (effect_of i) (effect_in (drop (k + 1) items)) c.in_ok-go_over.ensures rest))

pub go_over_all-returns : goal.go_over_all-returns
go_over_all-returns t c =
    let l = c.loop-item in
    l.invariant l.here l.exits l.found.keys
    (subst (λ xs. Passes (effect_in xs) l.here l.here l.exits l.exits l.found.keys l.found.keys) (sym (drop_all l.item-index c.args.items.now c.loop-item-test.false)) (passes_nothing (λ v. refl)))

pub go_over_arm-returns-then-arm : goal.go_over_arm-returns-then-arm
go_over_arm-returns-then-arm t c otherwise outer before rest =
    let start = c.args.here.now in
    let arm = out-Arm c.args.arm.now in
    let selector = c.args.selector.now in
    let body = effect_in arm.body in
    let new = c.go_over_all.new in
    let mid = c.add_unset_reads.new.found.keys in
    let read = c.add_unset_reads-2.new.found.keys in
    let ends = c.args.ends.now in
    let exits = c.in_ok-exits.field-0 in
    let own = subst (λ rs. Finds start rs c.args.found.now.keys mid) c.as_slice.ensures c.in_ok-add_unset_reads.ensures in
    let finds = finds_both start arm.reads selector c.args.found.now.keys mid read own c.in_ok-add_unset_reads-2.ensures in
    let pass = subst (λ xs. Passes (effect_in xs) c.in_ok-end.end new.here NoWay new.exits read new.found.keys) c.as_slice-body.ensures c.in_ok-go_over_all.ensures in
    subst (λ a. Passes (branch selector otherwise (a ∷ [])) start ends outer exits before new.found.keys) (sym (test_of c.args.arm.now))
    (subst (λ l. Passes (chosen l (arm.reads ++ selector) body otherwise arm.place) start ends outer exits before new.found.keys) (sym c.if-arm.true)
    (passes_exit (arm.reads ++ selector) body otherwise arm.place rest finds (passes_copied c.in_ok-end.ensures pass) c.in_ok-exits.ensures))

pub go_over_arm-returns : goal.go_over_arm-returns
go_over_arm-returns t c otherwise outer before rest =
    let start = c.args.here.now in
    let arm = out-Arm c.args.arm.now in
    let selector = c.args.selector.now in
    let body = effect_in arm.body in
    let new = c.go_over_all-else-arm.new in
    let mid = c.add_unset_reads.new.found.keys in
    let read = c.add_unset_reads-2.new.found.keys in
    let ends = c.in_ok-ends.field-0 in
    let own = subst (λ rs. Finds start rs c.args.found.now.keys mid) c.as_slice.ensures c.in_ok-add_unset_reads.ensures in
    let finds = finds_both start arm.reads selector c.args.found.now.keys mid read own c.in_ok-add_unset_reads-2.ensures in
    let pass = subst (λ xs. Passes (effect_in xs) c.in_ok-end.end new.here c.args.exits.now new.exits read new.found.keys) c.as_slice-body.ensures c.in_ok-go_over_all-2.ensures in
    subst (λ a. Passes (branch selector otherwise (a ∷ [])) start ends outer new.exits before new.found.keys) (sym (test_of c.args.arm.now))
    (subst (λ l. Passes (chosen l (arm.reads ++ selector) body otherwise arm.place) start ends outer new.exits before new.found.keys) (sym c.if-arm.false)
    (passes_choose (arm.reads ++ selector) body otherwise arm.place rest finds (passes_copied c.in_ok-end.ensures pass) c.in_ok-ends.ensures))

pub go_over_arms-loop-k-preserved : goal.go_over_arms-loop-k-preserved
go_over_arms-loop-k-preserved t c otherwise exits found rest =
    let arms = c.args.arms.now in
    let k = c.loop-k.k in
    let arm = c.index-arms-k.result in
    let selector = c.args.selector.now in
    let start = c.args.here.now in
    let new = c.go_over_arm.new in
    let within : k - 1 < length arms = omega arith in
    let others = branch selector otherwise (map arm_of (drop k arms)) in
    subst (λ xs. Passes (branch selector otherwise (map arm_of xs)) start new.ends exits new.exits found new.found.keys) (sym (left_before arms k arm c.loop-k-test.true within c.index-arms-k.is))
    (c.in_ok-go_over_arm.ensures others exits found (c.loop-k.invariant otherwise exits found rest))

pub go_over_loop-returns-in_ok-turn-in-Tested : goal.go_over_loop-returns-in_ok-turn-in-Tested
go_over_loop-returns-in_ok-turn-in-Tested t c =
    let start = c.args.here.now in
    let body = effect_in c.args.body.now in
    let here = c.in-Tested in
    let old = c.args.found.now.keys in
    let mid = c.add_unset_reads.new.found.keys in
    let tests = subst (λ rs. Finds start rs old mid) c.as_slice.ensures c.in_ok-add_unset_reads-in-Tested.ensures in
    on_ok_weaker c.go_over_all.result
    (λ pass exits. subst (λ h. Passes (loop_over h body) start start exits exits old c.go_over_all.new.found.keys) (sym here.is) (passes_repeat here.reads body here.field-1 tests (passes_copied c.in_ok-turn-in-Tested.ensures pass)))
    c.go_over_all.ensures

pub go_over_loop-returns-in_ok-go_over_all-in-Endless : goal.go_over_loop-returns-in_ok-go_over_all-in-Endless
go_over_loop-returns-in_ok-go_over_all-in-Endless t c exits =
    let new = c.go_over_all-in-Endless.new in
    subst (λ h. Passes (loop_over h (effect_in c.args.body.now)) c.args.here.now new.exits exits exits c.args.found.now.keys new.found.keys) (sym c.in-Endless.is)
    (passes_endless (effect_in c.args.body.now) c.in_ok-go_over_all-in-Endless.ensures)

pub go_over_loop-returns-in-Counted : goal.go_over_loop-returns-in-Counted
go_over_loop-returns-in-Counted t c =
    let start = c.args.here.now in
    let body = effect_in c.args.body.now in
    let old = c.args.found.now.keys in
    let new = c.go_over_count.new in
    on_ok_weaker c.go_over_count.result
    (λ pass exits. subst (λ h. Passes (loop_over h body) start new.here exits exits old new.found.keys) (sym c.in-Counted.is) (pass c.in-Counted.field-2 exits))
    c.go_over_count.ensures

pub go_over_count-returns-in-None : goal.go_over_count-returns-in-None
go_over_count-returns-in-None t c =
    let parameter = c.args.parameter in
    let start = c.args.here.now in
    let body = effect_in c.args.body.now in
    let old = c.args.found.now.keys in
    let middle = c.add_unset_bounds.new.found.keys in
    let new = c.go_over_all.new in
    let past = c.go_past.new.self in
    let finds = subst (λ bounds. Finds start (reads_in bounds) old middle) c.in-None.is c.in_ok-add_unset_bounds.ensures in
    let sets : SetsToo parameter start c.insert.new.self = λ v. c.in_ok-insert.ensures v ∙ ap (λ b. not (is_same v (Some parameter)) && b) (c.in_ok-turn.ensures v) in
    on_ok_weaker c.go_past.result
    (λ after place exits. subst (λ bounds. Passes (loop_over_values parameter bounds body place) start past exits exits old new.found.keys) (sym c.in-None.is)
    (passes_over parameter body place _ _ _ _ _ _ _ sets c.in_ok-go_over_all.ensures _ _ c.in_ok-ends-in-None.ensures after finds))
    c.go_past.ensures

pub go_over_count-returns : goal.go_over_count-returns
go_over_count-returns t c place exits =
    let parameter = c.args.parameter in
    let start = c.args.here.now in
    let body = effect_in c.args.body.now in
    let old = c.args.found.now.keys in
    let middle = c.add_unset_bounds.new.found.keys in
    let new = c.go_over_all.new in
    let reads = c.in-Some.field-0 in
    let finds = subst (λ bounds. Finds start (reads_in bounds) old middle) c.in-Some.is c.in_ok-add_unset_bounds.ensures in
    let sets : SetsToo parameter start c.insert.new.self = λ v. c.in_ok-insert.ensures v ∙ ap (λ b. not (is_same v (Some parameter)) && b) (c.in_ok-turn.ensures v) in
    subst (λ bounds. Passes (loop_over_values parameter bounds body place) start start exits exits old new.found.keys) (sym c.in-Some.is)
    (passes_between parameter body place _ _ _ _ _ _ _ sets c.in_ok-go_over_all.ensures reads finds)
