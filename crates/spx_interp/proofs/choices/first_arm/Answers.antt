use Rattle.std.proofs.Common.{◌∙◌, ◌+◌, drop, map, true, false}
use Rattle.std.specs.Prelude.{if◌then◌else◌}
use Rattle.spx_core.specs.Commands.{arm_before, arms_before}
use Rattle.spx_interp.specs.Results.{arm_at, frame_of, ran}
use Rattle.spx_interp.proofs.ChoiceLaws.{arm_stopped, at_truth, ran_arms, where_tested}
use Rattle.spx_interp.proofs.choices.first_arm.Goals as goal

pub returns-in-Ok-true-clause-runs : goal.returns-in-Ok-true-clause-runs
returns-in-Ok-true-clause-runs c otherwise =
    let f = frame_of c.args.body.now in
    let n = c.args.turns in
    let s = c.args.store.now in
    let arms = c.args.arms.now in
    let k = c.loop-k.k in
    c.loop-k.invariant otherwise
    ∙ ran_arms f n s otherwise arms k c.index-arms-k.result c.loop-k-test.true
    ∙ where_tested true _ (λ b. if b then ran f n s (arm_at arms k) else ran f n s (arms_before otherwise (map arm_before (drop (k + 1) arms)))) (at_truth true c.in-Ok-true.field-0 _ c.in-Ok-true.field-0-test (rw c.get.ensures at c.in-Ok-true.ensures))

pub returns-in-Err-clause-runs : goal.returns-in-Err-clause-runs
returns-in-Err-clause-runs c otherwise =
    let f = frame_of c.args.body.now in
    let n = c.args.turns in
    let s = c.args.store.now in
    let arms = c.args.arms.now in
    let parts = c.loop-k.invariant otherwise ∙ ran_arms f n s otherwise arms c.loop-k.k c.index-arms-k.result c.loop-k-test.true in
    rw parts (arm_stopped c.in-Err.stop _ _ (λ k. ran f n s (arm_at arms k)) (ran f n s otherwise) (rw c.get.ensures at c.in-Err.ensures))

pub loop-k-preserved : goal.loop-k-preserved
loop-k-preserved c otherwise =
    let f = frame_of c.args.body.now in
    let n = c.args.turns in
    let s = c.args.store.now in
    let arms = c.args.arms.now in
    let k = c.loop-k.k in
    c.loop-k.invariant otherwise
    ∙ ran_arms f n s otherwise arms k c.index-arms-k.result c.loop-k-test.true
    ∙ where_tested false _ (λ b. if b then ran f n s (arm_at arms k) else ran f n s (arms_before otherwise (map arm_before (drop (k + 1) arms)))) (at_truth false c.in-Ok-false.field-0 _ c.in-Ok-false.field-0-test (rw c.get.ensures at c.in-Ok-false.ensures))
