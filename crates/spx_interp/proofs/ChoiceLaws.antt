-- Which arm of an `if` is run, and which alternative of a `case`.
use Rattle.std.proofs.Common.{◌≡◌, ℕ, zero, suc, ◌+◌, ◌<◌, ◌==◌, Bool, false, List, [], ◌∷◌, length, get_or, drop, length-drop, map, Option, Some, Ok, Err, refl, sym, ap, subst, ◌∙◌, arith}
use Rattle.std.specs.Prelude.{if◌then◌else◌}
use Rattle.std.proofs.lemmas.Bool.Decides.{nat_tests}
use Rattle.std.proofs.lemmas.List.{drop_more}
use Rattle.spx_text.specs.declared.place.Place.{Place}
use Rattle.spx_core.specs.declared.expression.CoreExpr.{CoreExpr}
use Rattle.spx_core.specs.declared.statement.CoreArm.{CoreArm, out-CoreArm}
use Rattle.spx_core.specs.declared.statement.CoreAlternative.{CoreAlternative, out-CoreAlternative, fold_out-CoreAlternative}
use Rattle.spx_core.specs.declared.statement.CoreChoice.{CoreChoice}
use Rattle.spx_core.specs.Commands.{Command, alternative, alternative_step, alternatives_of, arm_before, arm_step, arms_before, commands, select, stmt_step}
use Rattle.spx_core.proofs.Callers.CommandForms.{command_alternative, command_arm}
use Rattle.spx_term.specs.declared.value.Value.{Value}
use Rattle.spx_term.specs.Meaning.{as_truth}
use Rattle.spx_meaning.specs.Evaluation.{Answer, Gives, Fails, Waits, eval}
use Rattle.spx_meaning.specs.Frames.{Frame}
use Rattle.spx_meaning.specs.Runs.{Outcome, has_value}
use Rattle.spx_meaning.specs.Runs as runs
use Rattle.spx_meaning.specs.Stores.{Store}
use Rattle.spx_interp.specs.declared.stop.Stop.{Stop}
use Rattle.spx_interp.specs.declared.stop.Stop.TheVariants as stop
use Rattle.spx_interp.specs.Results.{Answers, Done, OnArm, alternative_at, arm_at, ran, ran_alternatives, stopped, truth_answered}
use Rattle.spx_interp.proofs.RunForms.{on_value, ran-Choose, ran-Select, ran-Skip, ran_for-Last, ran_for-When}

-- ---- tests that have an answer

pub where_tested : (b : Bool) (x : Answer) (go : Bool → Option Outcome) → truth_answered (Ok b) x → on_value x (λ v. go (as_truth v)) ≡ go b
where_tested b (Gives v) go is = ap go (sym is)
where_tested b (Fails kind place) go is = absurd is
where_tested b Waits go is = absurd is

-- and those that have none
pub where_stopped : (e : Stop) (t : Store) (x : Answer) (go : Value → Option Outcome) → truth_answered (Err e) x → Done (stopped e) t (on_value x go)
where_stopped (stop.Failed fault) t x go is = ap (λ a. on_value a go) is
where_stopped stop.Memory t x go is = tt

pub arm_stopped : (e : Stop) (x : Answer) (go : Value → Option Outcome) (arm : ℕ → Option Outcome) (otherwise : Option Outcome) → truth_answered (Err e) x → OnArm (Err e) arm otherwise (on_value x go)
arm_stopped (stop.Failed fault) x go arm otherwise is = ap (λ a. on_value a go) is
arm_stopped stop.Memory x go arm otherwise is = tt

pub at_truth : (b r : Bool) (x : Answer) → r ≡ b → truth_answered (Ok r) x → truth_answered (Ok b) x
at_truth b r x is h = subst (λ (t : Bool). truth_answered (Ok t) x) is h

-- ---- arms

pub arm_at_is : (arms : List CoreArm) (k : ℕ) (d : CoreArm) → k < length arms → arm_at arms k ≡ commands (out-CoreArm (get_or arms k d)).body
arm_at_is [] k d within = absurd (omega arith)
arm_at_is (arm ∷ arms) zero d within = refl
arm_at_is (arm ∷ arms) (suc k) d within = arm_at_is arms k d (omega arith)

-- the arms from one on
pub ran_arms : (f : Frame) (n : ℕ) (s : Store) (otherwise : Command) (arms : List CoreArm) (k : ℕ) (d : CoreArm) → k < length arms
    → ran f n s (arms_before otherwise (map arm_before (drop k arms)))
    ≡ on_value (eval f n s (out-CoreArm (get_or arms k d)).condition) (λ v. if as_truth v then ran f n s (arm_at arms k) else ran f n s (arms_before otherwise (map arm_before (drop (k + 1) arms))))
ran_arms f n s otherwise arms k d within =
    let rest = arms_before otherwise (map arm_before (drop (k + 1) arms)) in
    let arm = get_or arms k d in
    let layer = out-CoreArm arm in
    ap (λ xs. ran f n s (arms_before otherwise (map arm_before xs))) (drop_more arms k d within)
    ∙ ap (ran f n s) (command_arm arm rest)
    ∙ ran-Choose f n s layer.place layer.condition (commands layer.body) rest
    ∙ ap (λ c. on_value (eval f n s layer.condition) (λ v. if as_truth v then ran f n s c else ran f n s rest)) (sym (arm_at_is arms k d within))

-- ---- alternatives

abbrev Chosen : Type 0
Chosen = Option (List CoreChoice) × Command

choices_of : (a : CoreAlternative) → (alternative a).0 ≡ (out-CoreAlternative a).choices
choices_of a = ap (λ (chosen : Chosen). chosen.0) (fold_out-CoreAlternative Command Chosen (Command → Command) stmt_step alternative_step arm_step a)

pub alternative_at_is : (alternatives : List CoreAlternative) (k : ℕ) (d : CoreAlternative) → k < length alternatives
    → alternative_at alternatives k ≡ commands (out-CoreAlternative (get_or alternatives k d)).body
alternative_at_is [] k d within = absurd (omega arith)
alternative_at_is (a ∷ rest) zero d within = refl
alternative_at_is (a ∷ rest) (suc k) d within = alternative_at_is rest k d (omega arith)

module _ (x : Value) (f : Frame) (n : ℕ) (s : Store) where
  ran_first : (a : CoreAlternative) (rest : List CoreAlternative) → 0 < length rest
      → ran_alternatives x f n s (a ∷ rest) ≡ (if has_value (out-CoreAlternative a).choices x then ran f n s (commands (out-CoreAlternative a).body) else ran_alternatives x f n s rest)
  ran_first a [] some = absurd (omega arith)
  ran_first a (b ∷ rest) some =
      ran_for-When f n s x (alternative a).0 (alternative a).1 (alternatives_of (alternative b) (map alternative rest))
      ∙ ap (λ choices. if has_value choices x then ran f n s (alternative a).1 else ran_alternatives x f n s (b ∷ rest)) (choices_of a)
      ∙ ap (λ c. if has_value (out-CoreAlternative a).choices x then ran f n s c else ran_alternatives x f n s (b ∷ rest)) (command_alternative a)

  ran_last : (a : CoreAlternative) → ran_alternatives x f n s (a ∷ []) ≡ ran f n s (commands (out-CoreAlternative a).body)
  ran_last a = ran_for-Last f n s x (alternative a).0 (alternative a).1 ∙ ap (ran f n s) (command_alternative a)

  -- the alternatives from one on, which is not the last
  pub ran_from : (alternatives : List CoreAlternative) (k : ℕ) (d : CoreAlternative) (b : Bool) → k + 1 < length alternatives → b ≡ has_value (out-CoreAlternative (get_or alternatives k d)).choices x
      → ran_alternatives x f n s (drop k alternatives) ≡ (if b then ran f n s (alternative_at alternatives k) else ran_alternatives x f n s (drop (k + 1) alternatives))
  ran_from alternatives k d b within test =
      let rest = drop (k + 1) alternatives in
      let a = get_or alternatives k d in
      let some : 0 < length rest = omega (arith, length-drop (k + 1) alternatives) in
      ap (ran_alternatives x f n s) (drop_more alternatives k d (omega arith))
      ∙ ran_first a rest some
      ∙ ap (λ t. if t then ran f n s (commands (out-CoreAlternative a).body) else ran_alternatives x f n s rest) (sym test)
      ∙ ap (λ c. if b then ran f n s c else ran_alternatives x f n s rest) (sym (alternative_at_is alternatives k d (omega arith)))

  -- the last alternative
  pub ran_at_end : (alternatives : List CoreAlternative) (k : ℕ) → k + 1 ≡ length alternatives → ran_alternatives x f n s (drop k alternatives) ≡ ran f n s (alternative_at alternatives k)
  ran_at_end [] k end = absurd (omega arith)
  ran_at_end (a ∷ rest) zero end = by_rest rest (omega arith)
    where
      by_rest : (rest : List CoreAlternative) → length rest ≡ 0 → ran_alternatives x f n s (a ∷ rest) ≡ ran f n s (commands (out-CoreAlternative a).body)
      by_rest [] none = ran_last a
      by_rest (b ∷ rest) none = absurd (omega arith)
  ran_at_end (a ∷ rest) (suc k) end = ran_at_end rest k (omega arith)

-- ---- the choice of an alternative

pub more_than_none : (n : ℕ) → (n == 0) ≡ false → 0 < n
more_than_none n some = grind (arith, nat_tests)

pub ran_unselected : (f : Frame) (n : ℕ) (s : Store) (place : Place) (selector : CoreExpr) (alternatives : List CoreAlternative) → length alternatives ≡ 0
    → ran f n s (select place selector (map alternative alternatives)) ≡ Some (runs.Ended s)
ran_unselected f n s place selector [] none = ran-Skip f n s
ran_unselected f n s place selector (a ∷ rest) none = absurd (omega arith)

pub ran_select : (f : Frame) (n : ℕ) (s : Store) (place : Place) (selector : CoreExpr) (alternatives : List CoreAlternative) → 0 < length alternatives
    → ran f n s (select place selector (map alternative alternatives)) ≡ on_value (eval f n s selector) (λ v. ran_alternatives v f n s alternatives)
ran_select f n s place selector [] some = absurd (omega arith)
ran_select f n s place selector (a ∷ rest) some = ran-Select f n s place selector (alternatives_of (alternative a) (map alternative rest))

-- the selector has a value
pub ran_selected : (f : Frame) (n : ℕ) (s : Store) (place : Place) (selector : CoreExpr) (alternatives : List CoreAlternative) → 0 < length alternatives → (x : Value) → eval f n s selector ≡ Gives x
    → ran f n s (select place selector (map alternative alternatives)) ≡ ran_alternatives x f n s alternatives
ran_selected f n s place selector alternatives some x is = ran_select f n s place selector alternatives some ∙ ap (λ a. on_value a (λ v. ran_alternatives v f n s alternatives)) is

-- the selector has none
pub ran_unevaluated : (f : Frame) (n : ℕ) (s : Store) (place : Place) (selector : CoreExpr) (alternatives : List CoreAlternative) → 0 < length alternatives → (e : Stop) (t : Store) → Answers (Err e) (eval f n s selector)
    → Done (stopped e) t (ran f n s (select place selector (map alternative alternatives)))
ran_unevaluated f n s place selector alternatives some (stop.Failed fault) t is = ran_select f n s place selector alternatives some ∙ ap (λ a. on_value a (λ v. ran_alternatives v f n s alternatives)) (sym is)
ran_unevaluated f n s place selector alternatives some stop.Memory t is = tt
