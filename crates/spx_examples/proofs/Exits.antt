-- Runs of loops that are left by exits.
use Rattle.std.proofs.Common.{◌≡◌, ℕ, zero, suc, pos, if◌then◌else◌, Some, refl, ap, ◌∙◌}
use Rattle.spx_term.specs.Meaning.{as_truth, value_of_op}
use Rattle.spx_meaning.specs.Stores.{Store}
use Rattle.spx_meaning.specs.Frames.{Frame}
use Rattle.spx_meaning.specs.Evaluation.{Answer, read}
use Rattle.spx_meaning.specs.Runs.{Outcome, Ended, Later, Left, after_turn, run, then_do, use_value}
use Rattle.spx_examples.specs.Exits.{exit_below, exit_in_each, half_turn, loop, never_left, step_and_exit}
use Rattle.spx_examples.specs.Increment.{place, x}
use Rattle.spx_examples.specs.Loops.{only, runs_from, step_in}
use Rattle.spx_examples.proofs.Loops.{from_98, from_99}
use Rattle.spx_examples.proofs.NextRuns.{below_of, eval_below}
use Rattle.spx_examples.proofs.Successor.{step_runs, x_is}

-- `exit when X < 100`
module _ (f : Frame) (s : Store) where
  abbrev exiting : Answer → Outcome
  exiting test = use_value test (λ v. if as_truth v then Left s else Ended s)

  exits : (n : ℕ) → run f n s exit_below ≡ exiting (below_of (read s (place 5 7) (Some x)))
  exits n = ap exiting (eval_below f n s)

  -- `if X < 100 then X := X + 1; exit; end if`, where its arm has this outcome
  abbrev stepping : Answer → Outcome → Outcome
  stepping test step = use_value test (λ v. if as_truth v then then_do step (λ t. then_do (Left t) Ended) else Ended s)

  steps : (n : ℕ) → run f n s step_and_exit ≡ stepping (below_of (read s (place 5 7) (Some x))) (run f n s (step_in 7))
  steps n = ap (λ test. stepping test (run f n s (step_in 7))) (eval_below f n s)

pub half : runs_from 1 (pos 98) half_turn ≡ Ended (x_is (pos 99))
unfolding value_of_op
half =
    let again : Store → Outcome = λ t. run from_98 0 t half_turn in
    let last : Store → Outcome = λ t. then_do (run from_98 0 t (step_in 8)) Ended in
    ap (λ o. after_turn (then_do o (λ t. then_do (run from_98 0 t exit_below) last)) again) (step_runs from_98 0 (x_is (pos 98)) 6 7 12)
    ∙ ap (λ o. after_turn (then_do o last) again) (exits from_98 (x_is (pos 99)) 0)

pub later : runs_from 1 (pos 99) half_turn ≡ Later
unfolding value_of_op
later =
    let again : Store → Outcome = λ t. run from_99 0 t half_turn in
    let last : Store → Outcome = λ t. then_do (run from_99 0 t (step_in 8)) Ended in
    ap (λ o. after_turn (then_do o (λ t. then_do (run from_99 0 t exit_below) last)) again) (step_runs from_99 0 (x_is (pos 99)) 6 7 12)
    ∙ ap (λ o. after_turn (then_do o last) again) (exits from_99 (x_is (pos 100)) 0)
    ∙ ap (λ o. after_turn (then_do o Ended) again) (step_runs from_99 0 (x_is (pos 100)) 8 7 12)

pub inner : runs_from 2 (pos 98) exit_in_each ≡ Ended (x_is (pos 99))
unfolding value_of_op
inner =
    let again : Store → Outcome = λ t. run from_98 1 t exit_in_each in
    let inner_again : Store → Outcome = λ t. run from_98 0 t (loop (only exit_below)) in
    let last : Store → Outcome = λ t. then_do (run from_98 1 t exit_below) Ended in
    ap (λ o. after_turn (then_do (after_turn (then_do o Ended) inner_again) (λ t. then_do (run from_98 1 t (step_in 8)) last)) again) (exits from_98 (x_is (pos 98)) 0)
    ∙ ap (λ o. after_turn (then_do o last) again) (step_runs from_98 1 (x_is (pos 98)) 8 7 12)
    ∙ ap (λ o. after_turn (then_do o Ended) again) (exits from_98 (x_is (pos 99)) 1)

pub with_step : runs_from 1 (pos 98) (loop (only step_and_exit)) ≡ Ended (x_is (pos 99))
unfolding value_of_op
with_step =
    let again : Store → Outcome = λ t. run from_98 0 t (loop (only step_and_exit)) in
    ap (λ o. after_turn (then_do o Ended) again) (steps from_98 (x_is (pos 98)) 0)
    ∙ ap (λ o. after_turn (then_do (then_do o (λ t. then_do (Left t) Ended)) Ended) again) (step_runs from_98 0 (x_is (pos 98)) 7 7 12)

pub never_ends : (f : Frame) (n : ℕ) (s : Store) → run f n s never_left ≡ Later
never_ends f zero s = refl
never_ends f (suc n) s = never_ends f n s
