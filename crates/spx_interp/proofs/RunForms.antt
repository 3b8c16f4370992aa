-- The run of a command under the limit, at each form.
use Rattle.std.proofs.Common.{◌≡◌, ℕ, zero, suc, ℤ, Bool, true, false, List, [], Option, Some, None, Err, refl, sym, ap, ◌∙◌}
use Rattle.std.specs.Prelude.{not, ◌||◌, ◌&&◌, is_none, option_map, if◌then◌else◌}
use Rattle.std.specs.Ordering.{int_eq}
use Rattle.spx_text.specs.declared.place.Place.{Place}
use Rattle.spx_tree.specs.declared.statement.AssertionKind.{AssertionKind}
use Rattle.spx_core.specs.declared.expression.CoreExpr.{CoreExpr}
use Rattle.spx_core.specs.declared.part.PartStep.{PartStep}
use Rattle.spx_core.specs.declared.part.Target.{Target}
use Rattle.spx_core.specs.declared.statement.CoreChoice.{CoreChoice}
use Rattle.spx_core.specs.declared.statement.CoreCount.{CoreCount}
use Rattle.spx_core.specs.Commands.{Command, Skip, Set, Then, Choose, Select, Assertion, Repeat, Leave, Tested, Endless, Alternatives, Last, When}
use Rattle.spx_core.specs.Places.{place_of}
use Rattle.spx_core.specs.Uses.{variable_of}
use Rattle.spx_term.specs.declared.value.Value.{Value}
use Rattle.spx_term.specs.declared.value.Value.TheVariants.{Number}
use Rattle.spx_term.specs.Meaning.{as_truth}
use Rattle.spx_meaning.specs.declared.bad.BadKind.{BadKind}
use Rattle.spx_meaning.specs.Stores.{Store, put}
use Rattle.spx_meaning.specs.Frames.{Frame}
use Rattle.spx_meaning.specs.Evaluation.{Answer, Gives, Fails, Waits, eval, eval_on}
use Rattle.spx_meaning.specs.Annotations.{meant}
use Rattle.spx_meaning.specs.Runs.{Outcome, Ended, Left, Bad, Later, run, run_for, counted, then_do, use_value, after_turn, assign, demand, untrue, has_value, stored_on, value_after}
use Rattle.spx_meaning.specs.Bits.{computed}
use Rattle.spx_meaning.specs.Limits.{where_ended, where_given, passes, passes_for, passes_in_count}
use Rattle.spx_interp.specs.Results.{Computes, Done, limited, looked_at, ran, ran_for, ran_count}
use Rattle.spx_interp.specs.declared.fault.RunFault.{RunFault}
use Rattle.spx_interp.specs.declared.fault.RunFault.TheVariants.{TooLarge, Memory}
use Rattle.spx_meaning.proofs.Callers.Annotations.{computed_is_meant}

-- ---- what follows a run, a turn or a value

abbrev pub on_ended : Option Outcome → (Store → Option Outcome) → Option Outcome
on_ended (Some (Ended s)) go = go s
on_ended (Some (Left s)) go = Some (Left s)
on_ended (Some (Bad kind place)) go = Some (Bad kind place)
on_ended (Some Later) go = Some Later
on_ended None go = None

abbrev pub on_turn : Option Outcome → (Store → Option Outcome) → Option Outcome
on_turn (Some (Ended s)) go = go s
on_turn (Some (Left s)) go = Some (Ended s)
on_turn (Some (Bad kind place)) go = Some (Bad kind place)
on_turn (Some Later) go = Some Later
on_turn None go = None

abbrev pub on_value : Answer → (Value → Option Outcome) → Option Outcome
on_value (Gives x) go = go x
on_value (Fails kind place) go = Some (Bad kind place)
on_value Waits go = Some Later

pub limited_ended : (p : Bool) (o : Outcome) (q : Store → Bool) (go : Store → Outcome) → limited (p || where_ended o q) (then_do o go) ≡ on_ended (limited p o) (λ t. limited (q t) (go t))
limited_ended true o q go = refl
limited_ended false (Ended s) q go = refl
limited_ended false (Left s) q go = refl
limited_ended false (Bad kind place) q go = refl
limited_ended false Later q go = refl

limited_turn : (p : Bool) (o : Outcome) (q : Store → Bool) (go : Store → Outcome) → limited (p || where_ended o q) (after_turn o go) ≡ on_turn (limited p o) (λ t. limited (q t) (go t))
limited_turn true o q go = refl
limited_turn false (Ended s) q go = refl
limited_turn false (Left s) q go = refl
limited_turn false (Bad kind place) q go = refl
limited_turn false Later q go = refl

limited_if : (b p q : Bool) (o r : Outcome) → limited (if b then p else q) (if b then o else r) ≡ (if b then limited p o else limited q r)
limited_if true p q o r = refl
limited_if false p q o r = refl

some_if : (b : Bool) (o r : Outcome) → limited false (if b then o else r) ≡ (if b then Some o else Some r)
some_if true o r = refl
some_if false o r = refl

limited_and : (b p : Bool) (o r : Outcome) → limited (b && p) (if b then o else r) ≡ (if b then limited p o else Some r)
limited_and true p o r = refl
limited_and false p o r = refl

-- ---- commands

module _ (f : Frame) (n : ℕ) (s : Store) where
  pub ran-Skip : ran f n s Skip ≡ Some (Ended s)
  unfolding ran
  ran-Skip = refl

  pub ran-Leave : (place : Place) → ran f n s (Leave place) ≡ Some (Left s)
  unfolding ran
  ran-Leave place = refl

  -- an assignment to a whole variable
  pub ran-Set : (target : Target) (e : CoreExpr) → target.way ≡ [] → ran f n s (Set target e) ≡ Some (use_value (eval f n s e) (assign f.program (place_of e) (variable_of target.root.entity) s))
  unfolding ran
  ran-Set target e whole = ap (λ (way : List PartStep). Some (use_value (eval_on way f n s target.root e) (stored_on way f.program (place_of e) (variable_of target.root.entity) s))) whole

  pub ran-Then : (a b : Command) → ran f n s (Then a b) ≡ on_ended (ran f n s a) (λ t. ran f n t b)
  unfolding ran
  ran-Then a b = limited_ended (passes f n s a) (run f n s a) (λ t. passes f n t b) (λ t. run f n t b)

  chosen : (x : Answer) (a b : Command)
      → limited (where_given x (λ v. if as_truth v then passes f n s a else passes f n s b)) (use_value x (λ v. if as_truth v then run f n s a else run f n s b))
      ≡ on_value x (λ v. if as_truth v then ran f n s a else ran f n s b)
  unfolding ran
  chosen (Gives v) a b = limited_if (as_truth v) (passes f n s a) (passes f n s b) (run f n s a) (run f n s b)
  chosen (Fails kind place) a b = refl
  chosen Waits a b = refl

  pub ran-Choose : (place : Place) (condition : CoreExpr) (a b : Command)
      → ran f n s (Choose place condition a b) ≡ on_value (eval f n s condition) (λ v. if as_truth v then ran f n s a else ran f n s b)
  unfolding ran
  ran-Choose place condition a b = chosen (eval f n s condition) a b

  selected : (x : Answer) (alternatives : Alternatives)
      → limited (where_given x (λ v. passes_for v f n s alternatives)) (use_value x (λ v. run_for v f n s alternatives)) ≡ on_value x (λ v. ran_for v f n s alternatives)
  unfolding ran_for
  selected (Gives v) alternatives = refl
  selected (Fails kind place) alternatives = refl
  selected Waits alternatives = refl

  pub ran-Select : (place : Place) (selector : CoreExpr) (alternatives : Alternatives)
      → ran f n s (Select place selector alternatives) ≡ on_value (eval f n s selector) (λ v. ran_for v f n s alternatives)
  unfolding ran
  ran-Select place selector alternatives = selected (eval f n s selector) alternatives

  pub ran_for-Last : (x : Value) (choices : Option (List CoreChoice)) (a : Command) → ran_for x f n s (Last choices a) ≡ ran f n s a
  unfolding ran ran_for
  ran_for-Last x choices a = refl

  pub ran_for-When : (x : Value) (choices : Option (List CoreChoice)) (a : Command) (rest : Alternatives)
      → ran_for x f n s (When choices a rest) ≡ (if has_value choices x then ran f n s a else ran_for x f n s rest)
  unfolding ran ran_for
  ran_for-When x choices a rest = limited_if (has_value choices x) (passes f n s a) (passes_for x f n s rest) (run f n s a) (run_for x f n s rest)

  pub ran-Assertion : (kind : AssertionKind) (place : Place) (condition : CoreExpr) → ran f n s (Assertion kind place condition) ≡ looked_at f s (untrue kind) place condition
  unfolding ran
  ran-Assertion kind place condition = refl

-- ---- loops

module _ (f : Frame) (body : Command) where
  turned : (x : Answer) (n : ℕ) (s : Store) (go : Store → Outcome) (q : Store → Bool)
      → limited (where_given x (λ v. as_truth v && (passes f n s body || where_ended (run f n s body) q))) (use_value x (λ v. if as_truth v then after_turn (run f n s body) go else Ended s))
      ≡ on_value x (λ v. if as_truth v then on_turn (ran f n s body) (λ t. limited (q t) (go t)) else Some (Ended s))
  unfolding ran
  turned (Gives v) n s go q =
      limited_and (as_truth v) (passes f n s body || where_ended (run f n s body) q) (after_turn (run f n s body) go) (Ended s)
      ∙ ap (λ o. if as_truth v then o else Some (Ended s)) (limited_turn (passes f n s body) (run f n s body) q go)
  turned (Fails kind place) n s go q = refl
  turned Waits n s go q = refl

  pub ran-Tested : (place : Place) (condition : CoreExpr) (n : ℕ) (s : Store)
      → ran f (suc n) s (Repeat (Tested place condition) body)
      ≡ on_value (eval f (suc n) s condition) (λ v. if as_truth v then on_turn (ran f n s body) (λ t. ran f n t (Repeat (Tested place condition) body)) else Some (Ended s))
  unfolding ran
  ran-Tested place condition n s = turned (eval f (suc n) s condition) n s (λ t. run f n t (Repeat (Tested place condition) body)) (λ t. passes f n t (Repeat (Tested place condition) body))

  stopped : (x : Answer) (s : Store) → limited false (use_value x (λ v. if as_truth v then Later else Ended s)) ≡ on_value x (λ v. if as_truth v then Some Later else Some (Ended s))
  stopped (Gives v) s = some_if (as_truth v) Later (Ended s)
  stopped (Fails kind place) s = refl
  stopped Waits s = refl

  pub ran-Tested-zero : (place : Place) (condition : CoreExpr) (s : Store)
      → ran f zero s (Repeat (Tested place condition) body) ≡ on_value (eval f zero s condition) (λ v. if as_truth v then Some Later else Some (Ended s))
  unfolding ran
  ran-Tested-zero place condition s = stopped (eval f zero s condition) s

  pub ran-Endless : (n : ℕ) (s : Store) → ran f (suc n) s (Repeat Endless body) ≡ on_turn (ran f n s body) (λ t. ran f n t (Repeat Endless body))
  unfolding ran
  ran-Endless n s = limited_turn (passes f n s body) (run f n s body) (λ t. passes f n t (Repeat Endless body)) (λ t. run f n t (Repeat Endless body))

  pub ran-Endless-zero : (s : Store) → ran f zero s (Repeat Endless body) ≡ Some Later
  unfolding ran
  ran-Endless-zero s = refl

  pub ran_count-zero : (c : CoreCount) (last k : ℤ) (s : Store) → ran_count f c body last zero k s ≡ Some Later
  unfolding ran_count
  ran_count-zero c last k s = refl

  turn_or_end : (b : Bool) (o : Option Outcome) (p : Store → Bool) (go : Store → Outcome)
      → on_turn o (λ t. limited (not b && p t) (if b then Ended t else go t)) ≡ on_turn o (λ t. if b then Some (Ended t) else limited (p t) (go t))
  turn_or_end true o p go = refl
  turn_or_end false o p go = refl

  pub ran_count-suc : (c : CoreCount) (last : ℤ) (n : ℕ) (k : ℤ) (s : Store)
      → ran_count f c body last (suc n) k s
      ≡ on_turn (ran f n (put s c.parameter (Some (Number k))) body) (λ t. if int_eq k last then Some (Ended t) else ran_count f c body last n (value_after c k) t)
  unfolding ran ran_count
  ran_count-suc c last n k s =
      let here : Store = put s c.parameter (Some (Number k)) in
      let passes_on : Store → Bool = λ t. passes_in_count c (λ i u. run f i u body) (λ i u. passes f i u body) last n (value_after c k) t in
      let goes_on : Store → Outcome = λ t. counted c (λ i u. run f i u body) last n (value_after c k) t in
      limited_turn (passes f n here body) (run f n here body) (λ t. not (int_eq k last) && passes_on t) (λ t. if int_eq k last then Ended t else goes_on t)
      ∙ turn_or_end (int_eq k last) (limited (passes f n here body) (run f n here body)) passes_on goes_on

-- ---- annotations

-- what an annotation with this value does, if it has one
abbrev pub demanded : Option Value → BadKind → Place → Store → Option Outcome
demanded (Some x) kind place s = Some (demand (as_truth x) kind place s)
demanded None kind place s = None

looked : (c : Option Value) (m : Value) (kind : BadKind) (place : Place) (s : Store) → ((x : Value) → c ≡ Some x → m ≡ x)
    → limited (is_none c) (demand (as_truth m) kind place s) ≡ demanded c kind place s
looked (Some x) m kind place s is = ap (λ v. Some (demand (as_truth v) kind place s)) (is x refl)
looked None m kind place s is = refl

-- the same, by its truth
abbrev pub on_truth : Option Bool → BadKind → Place → Store → Option Outcome
on_truth (Some b) kind place s = Some (demand b kind place s)
on_truth None kind place s = None

by_truth : (c : Option Value) (kind : BadKind) (place : Place) (s : Store) → demanded c kind place s ≡ on_truth (option_map as_truth c) kind place s
by_truth (Some x) kind place s = refl
by_truth None kind place s = refl

pub looked_at_is : (f : Frame) (s : Store) (kind : BadKind) (place : Place) (e : CoreExpr) → looked_at f s kind place e ≡ on_truth (option_map as_truth (computed f s e)) kind place s
looked_at_is f s kind place e = looked (computed f s e) (meant f s e) kind place s (computed_is_meant f s e) ∙ by_truth (computed f s e) kind place s

-- where it computes nothing, there is no answer
pub unlooked : (f : Frame) (s : Store) (kind : BadKind) (place : Place) (e : CoreExpr) (fault : RunFault) → Computes (Err fault) (option_map as_truth (computed f s e)) → Done (Err fault) s (looked_at f s kind place e)
unlooked f s kind place e (TooLarge limit) is = looked_at_is f s kind place e ∙ ap (λ o. on_truth o kind place s) (sym is)
unlooked f s kind place e Memory is = tt

-- ---- all of them

pub ruleset run_forms = (ran-Skip, ran-Leave, ran-Then, ran-Choose, ran-Select, ran_for-Last, ran_for-When, ran-Assertion)
