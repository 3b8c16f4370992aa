-- Assignments to parts.
use Rattle.std.proofs.Common.{◌≡◌, ℕ, zero, suc, List, [], ◌∷◌, Option, Some, None, Ok, Err, refl, sym, ap, ◌∙◌}
use Rattle.spx_text.specs.declared.place.Place.{Place}
use Rattle.spx_core.specs.declared.entity.TheConstants.{UNIVERSAL}
use Rattle.spx_core.specs.declared.entity.VarId.{VarId}
use Rattle.spx_core.specs.declared.expression.CoreExpr.{CoreExpr}
use Rattle.spx_core.specs.declared.part.PartStep.{PartStep}
use Rattle.spx_core.specs.declared.part.Target.{Target}
use Rattle.spx_core.specs.declared.program.Program.{Program}
use Rattle.spx_core.specs.Commands.{Set}
use Rattle.spx_core.specs.Judged.{part_type}
use Rattle.spx_core.specs.Places.{place_of}
use Rattle.spx_core.specs.Uses.{variable_of}
use Rattle.spx_term.specs.declared.value.Value.{Value}
use Rattle.spx_term.specs.Parts.{Step, with_end}
use Rattle.spx_term.specs.Values.{Types}
use Rattle.spx_meaning.specs.Evaluation.{Answer, Gives, Fails, Waits, eval, eval_on, in_part, read, read_at, with_value, with_way}
use Rattle.spx_meaning.specs.Frames.{Frame}
use Rattle.spx_meaning.specs.Runs.{Outcome, Ended, stored_on, use_value}
use Rattle.spx_meaning.specs.Stores.{Store, look, put, types_of, with_at}
use Rattle.spx_interp.specs.declared.stop.Stop.{Stop}
use Rattle.spx_interp.specs.declared.stop.Stop.TheVariants as stop
use Rattle.spx_interp.specs.Results.{Done, ran, stopped}
use Rattle.spx_interp.specs.Ways.{OnValue, OnWay, part_set}

-- what is put last counts
pub put_again : (s : Store) (v : VarId) (x y : Option Value) → put (put s v x) v y ≡ put s v y
put_again s v x y = at_place s v.0
  where
    at_place : (s : Store) (k : ℕ) → with_at (with_at s k x) k y ≡ with_at s k y
    at_place [] zero = refl
    at_place [] (suc k) = ap (λ (t : Store). None ∷ t) (at_place [] k)
    at_place (z ∷ s) zero = refl
    at_place (z ∷ s) (suc k) = ap (λ (t : Store). z ∷ t) (at_place s k)

-- what becomes of a store
abbrev stored_part : Store → Option VarId → Value → Outcome
stored_part s (Some v) x = Ended (put s v (Some x))
stored_part s None x = Ended s

use_same : (a : Answer) (o : Option VarId) (first : PartStep) (rest : List PartStep) (p : Program) (place : Place) (s : Store) → use_value a (stored_on (first ∷ rest) p place o s) ≡ use_value a (stored_part s o)
use_same (Gives x) (Some v) first rest p place s = refl
use_same (Gives x) None first rest p place s = refl
use_same (Fails kind at) o first rest p place s = refl
use_same Waits o first rest p place s = refl

module _ (f : Frame) (n : ℕ) (s : Store) (target : Target) (e : CoreExpr) where
  -- the read of the whole, and what it gives
  abbrev pub last : List Step → Value → Answer
  last steps x = with_value (read s target.root.name.place (variable_of target.root.entity)) (λ old. Gives (with_end (types_of f.program) steps old x))

  abbrev after_steps : List PartStep → List Step → Answer
  after_steps way steps = with_value (eval f n s e) (λ x. in_part (part_type UNIVERSAL way) (place_of e) x (last steps x))

  -- what comes after the way
  abbrev pub after_way : List Step → Answer
  after_way = after_steps target.way

  by_way : (way : List PartStep) → (way ≡ [] → ⊥)
      → use_value (eval_on way f n s target.root e) (stored_on way f.program (place_of e) (variable_of target.root.entity) s)
      ≡ use_value (with_way f n s way (after_steps way)) (stored_part s (variable_of target.root.entity))
  by_way [] isnt = absurd (isnt refl)
  by_way (first ∷ rest) isnt = use_same (eval_on (first ∷ rest) f n s target.root e) (variable_of target.root.entity) first rest f.program (place_of e) s

  module _ (part : target.way ≡ [] → ⊥) where
    ran-Part : ran f n s (Set target e) ≡ Some (use_value (with_way f n s target.way after_way) (stored_part s (variable_of target.root.entity)))
    unfolding ran
    ran-Part = ap Some (by_way target.way part)

    -- an index has no value
    pub way_stops : (x : Stop) (t : Store) → OnWay (Err x) after_way (with_way f n s target.way after_way) → Done (stopped x) t (ran f n s (Set target e))
    way_stops (stop.Failed fault) t on = ran-Part ∙ ap (λ a. Some (use_value a (stored_part s (variable_of target.root.entity)))) on
    way_stops stop.Memory t on = tt

    -- nor has the right side
    pub right_stops : (steps : List Step) (x : Stop) (t : Store) → with_way f n s target.way after_way ≡ after_way steps → OnValue (Err x) (last steps) (after_way steps) → Done (stopped x) t (ran f n s (Set target e))
    right_stops steps (stop.Failed fault) t way on = ran-Part ∙ ap (λ a. Some (use_value a (stored_part s (variable_of target.root.entity)))) (way ∙ on)
    right_stops steps stop.Memory t way on = tt

    given : (steps : List Step) (x : Value) → with_way f n s target.way after_way ≡ after_way steps → OnValue (Ok x) (last steps) (after_way steps)
        → ran f n s (Set target e) ≡ Some (use_value (last steps x) (stored_part s (variable_of target.root.entity)))
    given steps x way on = ran-Part ∙ ap (λ a. Some (use_value a (stored_part s (variable_of target.root.entity)))) (way ∙ on)

    -- a variable
    pub part_of_variable : (steps : List Step) (x : Value) (v : VarId) → with_way f n s target.way after_way ≡ after_way steps → OnValue (Ok x) (last steps) (after_way steps) → variable_of target.root.entity ≡ Some v
        → ran f n s (Set target e) ≡ Some (part_set (types_of f.program) target.root.name.place v steps x s)
    part_of_variable steps x v way on is =
        given steps x way on
        ∙ ap (λ o. Some (use_value (with_value (read s target.root.name.place o) (λ old. Gives (with_end (types_of f.program) steps old x))) (stored_part s o))) is

    -- or none
    pub part_of_none : (steps : List Step) (x : Value) → with_way f n s target.way after_way ≡ after_way steps → OnValue (Ok x) (last steps) (after_way steps) → variable_of target.root.entity ≡ None
        → ran f n s (Set target e) ≡ Some (Ended s)
    part_of_none steps x way on is =
        given steps x way on
        ∙ ap (λ o. Some (use_value (with_value (read s target.root.name.place o) (λ old. Gives (with_end (types_of f.program) steps old x))) (stored_part s o))) is

-- the value with the part is put in the place of the old one, which was taken out
pub part_put : (types : Types) (place : Place) (v : VarId) (steps : List Step) (x old new : Value) (s t u : Store) → look s v ≡ Some old → t ≡ put s v None → new ≡ with_end types steps old x → u ≡ put t v (Some new)
    → Some (part_set types place v steps x s) ≡ Some (Ended u)
part_put types place v steps x old new s t u is rest ends last =
    ap (λ o. Some (use_value (with_value (read_at place o) (λ y. Gives (with_end types steps y x))) (λ y. Ended (put s v (Some y))))) is
    ∙ ap (λ w. Some (Ended w)) (ap (λ y. put s v (Some y)) (sym ends) ∙ sym (put_again s v None (Some new)) ∙ ap (λ w. put w v (Some new)) (sym rest) ∙ sym last)
