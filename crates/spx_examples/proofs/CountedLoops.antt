-- Runs of loops that count.
use Rattle.std.proofs.Common.{◌≡◌, ℕ, suc, ℤ, pos, Bool, true, false, if◌then◌else◌, [], ◌∷◌, Some, None, ap, ap₂, ◌∙◌}
use Rattle.std.specs.Ordering.{int_eq}
use Rattle.spx_core.specs.declared.entity.TheConstants.{POSITIVE}
use Rattle.spx_core.specs.declared.expression.CoreExpr.TheVariants.{Name}
use Rattle.spx_core.specs.Places.{place_in, place_of}
use Rattle.spx_core.proofs.Callers.Expressions.{fold-Number}
use Rattle.spx_term.specs.declared.value.Value.TheVariants.{Number}
use Rattle.spx_term.specs.Meaning.{as_number}
use Rattle.spx_meaning.specs.declared.bad.BadKind.TheVariants.{Range}
use Rattle.spx_meaning.specs.Stores.{Store, put}
use Rattle.spx_meaning.specs.Frames.{Frame, around}
use Rattle.spx_meaning.specs.Evaluation.{Answer, Gives, read, eval-Number}
use Rattle.spx_meaning.specs.Runs.{Bad, Ended, Later, Outcome, after_turn, assign, counted, in_bounds, over_range, run, then_do, use_value, value_after}
use Rattle.spx_examples.specs.CountedLoops.{after, before, between_numbers, each, i, i_at, number_at, over, runs_at, taking_i, with_parameter}
use Rattle.spx_examples.specs.Flag.{flag, y}
use Rattle.spx_examples.specs.Increment.{place}
use Rattle.spx_examples.specs.Variants.{number}
use Rattle.spx_examples.proofs.Evaluations.{eval_name}

-- around a run from the start
abbrev frame : Frame
frame = around with_parameter flag (before (pos 0))

-- `Y := I`, where I is read as this
abbrev taking : Store → Answer → Outcome
taking s answer = then_do (use_value answer (assign with_parameter (place_of (Name (i_at 6 12))) (Some y) s)) Ended

takes : (n : ℕ) (s : Store) → run frame n s taking_i ≡ taking s (read s (place 6 12) (Some i))
takes n s = ap (taking s) (eval_name frame n s (i_at 6 12))

module _ (is_reverse : Bool) where
  -- the turns from this value on, over numbers
  abbrev turns : (last : ℤ) → ℕ → ℤ → Store → Outcome
  turns last n k s = counted (over is_reverse (between_numbers (pos 1) (pos 2))) (λ m t. run frame m t taking_i) last n k s

  -- a turn with this value, whose body has this outcome
  abbrev turning : (last : ℤ) → ℕ → ℤ → Outcome → Outcome
  turning last n k body = after_turn body (λ t. if int_eq k last then Ended t else turns last n (value_after (over is_reverse (between_numbers (pos 1) (pos 2))) k) t)

  turn : (last : ℤ) (n : ℕ) (k : ℤ) (s : Store) → turns last (suc n) k s ≡ turning last n k (taking (put s i (Some (Number k))) (read (put s i (Some (Number k))) (place 6 12) (Some i)))
  turn last n k s = ap (turning last n k) (takes n (put s i (Some (Number k))))

  -- where the bounds have these values
  abbrev looping : ℕ → (low high : ℤ) → (first last : Answer) → Outcome
  looping n low high first last =
      use_value first (λ a.
      use_value last (λ b.
      then_do (in_bounds POSITIVE (place_of (number_at low 28)) (as_number a) (as_number b) (before (pos 0)))
      (over_range (over is_reverse (between_numbers low high)) (λ m t. run frame m t taking_i) n (as_number a) (as_number b))))

  loops : (n : ℕ) (low high : ℤ) → runs_at n (each is_reverse (between_numbers low high) taking_i) ≡ looping n low high (Gives (Number low)) (Gives (Number high))
  loops n low high = ap₂ (looping n low high) (eval-Number frame n (before (pos 0)) low (place 5 28)) (eval-Number frame n (before (pos 0)) high (place 5 33))

-- past the loop
abbrev leaving : Outcome → Outcome
leaving turns = then_do turns (λ t. Ended (put t i None))

pub up : runs_at 2 (each false (between_numbers (pos 1) (pos 2)) taking_i) ≡ Ended (after (pos 2))
up =
    loops false 2 (pos 1) (pos 2)
    ∙ ap leaving (turn false (pos 2) 1 (pos 1) (before (pos 0)) ∙ turn false (pos 2) 0 (pos 2) (number (pos 7) ∷ number (pos 1) ∷ number (pos 1) ∷ []))

pub down : runs_at 2 (each true (between_numbers (pos 1) (pos 2)) taking_i) ≡ Ended (after (pos 1))
down =
    loops true 2 (pos 1) (pos 2)
    ∙ ap leaving (turn true (pos 1) 1 (pos 2) (before (pos 0)) ∙ turn true (pos 1) 0 (pos 1) (number (pos 7) ∷ number (pos 2) ∷ number (pos 2) ∷ []))

pub later : runs_at 1 (each false (between_numbers (pos 1) (pos 2)) taking_i) ≡ Later
later = loops false 1 (pos 1) (pos 2) ∙ ap leaving (turn false (pos 2) 0 (pos 1) (before (pos 0)))

pub outside : runs_at 2 (each false (between_numbers (pos 0) (pos 1)) taking_i) ≡ Bad Range (place 5 28)
outside = loops false 2 (pos 0) (pos 1) ∙ ap (Bad Range) (fold-Number place_in (pos 0) (place 5 28))

pub empty : runs_at 0 (each false (between_numbers (pos 2) (pos 0)) taking_i) ≡ Ended (after (pos 0))
empty = loops false 0 (pos 2) (pos 0)
