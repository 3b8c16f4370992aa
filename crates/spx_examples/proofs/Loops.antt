-- Runs of loops.
use Rattle.std.proofs.Common.{◌≡◌, ℕ, zero, suc, pos, if◌then◌else◌, Some, ap, ap₂, ◌∙◌}
use Rattle.spx_core.specs.declared.expression.CoreExpr.TheVariants.{Number}
use Rattle.spx_core.specs.Commands.{Set}
use Rattle.spx_core.specs.Places.{place_of}
use Rattle.spx_term.specs.declared.value.Value.TheVariants as value
use Rattle.spx_term.specs.Meaning.{as_truth, value_of_op}
use Rattle.spx_meaning.specs.Stores.{Store}
use Rattle.spx_meaning.specs.Frames.{Frame, around}
use Rattle.spx_meaning.specs.Evaluation.{Answer, Gives, read, eval-Number}
use Rattle.spx_meaning.specs.Runs.{Outcome, Ended, Later, after_turn, assign, run, then_do, use_value}
use Rattle.spx_examples.specs.Increment.{place, x, x_at}
use Rattle.spx_examples.specs.Loops.{counting, counting_again, endless, runs_from}
use Rattle.spx_examples.specs.Names.{target_to}
use Rattle.spx_examples.specs.Operators.{true_at}
use Rattle.spx_examples.specs.Refused.{inc_without_pre, increment_without_pre}
use Rattle.spx_examples.proofs.Evaluations.{eval_name}
use Rattle.spx_examples.proofs.NextRuns.{below_of, eval_below}
use Rattle.spx_examples.proofs.Successor.{assigning, step_runs, successor_of, x_is}

-- ---- `while X < 100 loop X := X + 1; end loop`

module _ (f : Frame) (s : Store) where
  -- where no turn is left
  abbrev ending : Answer → Outcome
  ending test = use_value test (λ v. if as_truth v then Later else Ended s)

  no_turn_left : run f 0 s counting ≡ ending (below_of (read s (place 5 7) (Some x)))
  no_turn_left = ap ending (eval_below f 0 s)

  -- where one is, and the body has this outcome
  abbrev turning : ℕ → Answer → Outcome → Outcome
  turning n test body = use_value test (λ v. if as_truth v then after_turn (then_do body Ended) (λ t. run f n t counting) else Ended s)

  turn : (n : ℕ) → run f (suc n) s counting ≡ turning n (below_of (read s (place 5 7) (Some x))) (assigning f.program s (place 6 14) (successor_of (place 6 14) (read s (place 6 12) (Some x))))
  turn n = ap₂ (turning n) (eval_below f (suc n) s) (step_runs f n s 6 7 12)

  -- `X := 98`
  given : (n : ℕ) → run f n s (Set (target_to (x_at 8 4)) (Number (pos 98) (place 8 9))) ≡ use_value (Gives (value.Number (pos 98))) (assign f.program (place_of (Number (pos 98) (place 8 9))) (Some x) s)
  given n = ap (λ a. use_value a (assign f.program (place_of (Number (pos 98) (place 8 9))) (Some x) s)) (eval-Number f n s (pos 98) (place 8 9))

-- around a run from 98
abbrev pub from_98 : Frame
from_98 = around increment_without_pre inc_without_pre (x_is (pos 98))

-- and from 99
abbrev pub from_99 : Frame
from_99 = around increment_without_pre inc_without_pre (x_is (pos 99))

pub ended : runs_from 2 (pos 98) counting ≡ Ended (x_is (pos 100))
unfolding value_of_op
ended = turn from_98 (x_is (pos 98)) 1 ∙ turn from_98 (x_is (pos 99)) 0 ∙ no_turn_left from_98 (x_is (pos 100))

pub later : runs_from 1 (pos 98) counting ≡ Later
unfolding value_of_op
later = turn from_98 (x_is (pos 98)) 0 ∙ no_turn_left from_98 (x_is (pos 99))

pub no_turn : runs_from 0 (pos 100) counting ≡ Ended (x_is (pos 100))
unfolding value_of_op
no_turn = no_turn_left (around increment_without_pre inc_without_pre (x_is (pos 100))) (x_is (pos 100))

pub again : runs_from 2 (pos 98) counting_again ≡ Ended (x_is (pos 100))
again =
    let last : Store → Outcome = λ u. then_do (run from_98 2 u counting) Ended in
    ap (λ o. then_do o (λ t. then_do (run from_98 2 t (Set (target_to (x_at 8 4)) (Number (pos 98) (place 8 9)))) last)) ended
    ∙ ap (λ o. then_do o last) (given from_98 (x_is (pos 100)) 2)
    ∙ ap (λ o. then_do o Ended) ended

-- ---- `while True loop null; end loop`

pub endless_is_later : (f : Frame) (n : ℕ) (s : Store) → run f n s endless ≡ Later
endless_is_later f zero s = ap (λ a. use_value a (λ v. if as_truth v then Later else Ended s)) (eval_name f 0 s (true_at 5 10))
endless_is_later f (suc n) s = ap (λ a. use_value a (λ v. if as_truth v then run f n s endless else Ended s)) (eval_name f (suc n) s (true_at 5 10)) ∙ endless_is_later f n s
