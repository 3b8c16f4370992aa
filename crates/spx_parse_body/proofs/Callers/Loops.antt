-- A loop goes on turn by turn, whatever number bounds the turns.
use Rattle.std.proofs.Common.{◌≡◌, ℕ, zero, suc, ◌≤◌, ◌<◌, List, [], ◌∷◌, length, Option, Some, None, Ok, Err, refl, sym, ap, ◌∙◌, arith}
use Rattle.spx_tree.specs.Form.{Form}
use Rattle.spx_cursor.specs.Reading.{Outcome, Reader, and_then, turn, turns, loop}

-- the same outcome of what comes next gives the same outcome of all
pub and_then_same : {A B : Type 0} (r : Outcome A) (f g : A → Reader B) → ((x : A) (fs : List Form) → r ≡ Ok (x, fs) → f x fs ≡ g x fs) → and_then r f ≡ and_then r g
and_then_same (Ok x) f g h = h x.0 x.1 refl
and_then_same (Err e) f g h = refl

-- what finds a value leaves less
abbrev pub Shortens : {A : Type 0} → Reader A → List Form → Type 0
Shortens {A} p fs = (x : A) (r : List Form) → p fs ≡ Ok (x, r) → length r < length fs

module _ {K S : Type 0} (look : List Form → K) (step : S → K → Option (Reader S)) where
  -- a loop ends at the end of the forms, and each turn takes a form
  pub record Shrinks : Type 0 where
    pub at_end : (s : S) → step s (look []) ≡ None
    pub shortens : (s : S) (fs : List Form) (p : Reader S) → step s (look fs) ≡ Some p → Shortens p fs

  module _ (shrinks : Shrinks) where
    turn_same : (f g : S → Reader S) (s : S) (fs : List Form) (o : Option (Reader S)) → step s (look fs) ≡ o → ((x : S) (r : List Form) → length r < length fs → f x r ≡ g x r) → turn f s o fs ≡ turn g s o fs
    turn_same f g s fs None e h = refl
    turn_same f g s fs (Some p) e h = and_then_same (p fs) f g (λ x r is. h x r (shrinks.shortens s fs p e x r is))

    turn_end : (f : S → Reader S) (s : S) → turn f s (step s (look [])) [] ≡ Ok (s, [])
    turn_end f s = ap (λ (o : Option (Reader S)). turn f s o []) (shrinks.at_end s)

    -- a greater number changes nothing
    pub same_turns : (m n : ℕ) (s : S) (fs : List Form) → length fs ≤ m → length fs ≤ n → turns look step m s fs ≡ turns look step n s fs
    unfolding turns
    same_turns zero zero s fs p q = refl
    same_turns zero (suc n) s [] p q = sym (turn_end (turns look step n) s)
    same_turns (suc m) zero s [] p q = turn_end (turns look step m) s
    same_turns zero (suc n) s (t ∷ fs) p q = absurd (omega arith)
    same_turns (suc m) zero s (t ∷ fs) p q = absurd (omega arith)
    same_turns (suc m) (suc n) s fs p q = turn_same (turns look step m) (turns look step n) s fs (step s (look fs)) refl (λ x r lt. same_turns m n x r (omega arith) (omega arith))

    pub loop_is : (s : S) (fs : List Form) → loop look step s fs ≡ turn (loop look step) s (step s (look fs)) fs
    unfolding loop turns
    loop_is s fs =
        same_turns (length fs) (suc (length fs)) s fs (omega arith) (omega arith)
        ∙ turn_same (turns look step (length fs)) (loop look step) s fs (step s (look fs)) refl (λ x r lt. same_turns (length fs) (length r) x r (omega arith) (omega arith))
