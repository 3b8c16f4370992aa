-- The run of statements in a row, and of loops, one step after another.
use Rattle.std.proofs.Common.{◌≡◌, ℕ, zero, suc, ◌+◌, ◌<◌, ◌≤◌, ℤ, Bool, true, false, List, [], length, get_or, drop, Option, Some, None, Result, Ok, Err, refl, sym, ap, ap₂, subst, ◌∙◌, arith}
use Rattle.std.specs.Prelude.{◌&&◌, int_le, int_lt, if◌then◌else◌}
use Rattle.std.specs.Ordering.{int_eq}
use Rattle.std.proofs.lemmas.Int.{ints}
use Rattle.std.proofs.lemmas.List.{drop_all, drop_more}
use Rattle.spx_core.specs.declared.function.Span.{Span}
use Rattle.spx_core.specs.declared.statement.CoreCount.{CoreCount}
use Rattle.spx_core.specs.declared.statement.CoreStmt.{CoreStmt}
use Rattle.spx_core.specs.declared.expression.CoreExpr.{CoreExpr}
use Rattle.spx_core.specs.declared.part.Target.{Target}
use Rattle.spx_core.specs.Places.{place_of}
use Rattle.spx_core.specs.Uses.{variable_of}
use Rattle.spx_core.specs.Commands.{Command, Set, Repeat, Head, Tested, Counted, Endless, command, commands}
use Rattle.spx_term.specs.declared.value.Value.{Value}
use Rattle.spx_term.specs.declared.value.Value.TheVariants.{Number}
use Rattle.spx_term.specs.Meaning.{as_truth}
use Rattle.spx_meaning.specs.Evaluation.{Gives, eval}
use Rattle.spx_meaning.specs.Frames.{Frame}
use Rattle.spx_meaning.specs.Limits.{passes, passes_after_bounds, passes_in_count, passes_in_range}
use Rattle.spx_meaning.specs.Runs.{Outcome, Ended, Left, Later, assign, counted, end_of, over_range, run, start_of, then_do, use_value, value_after, with_bounds}
use Rattle.spx_meaning.specs.Runs as runs
use Rattle.spx_meaning.specs.Stores.{Store, put, type_of}
use Rattle.spx_interp.specs.declared.step.Step.{Step}
use Rattle.spx_interp.specs.declared.step.Step.TheVariants as step
use Rattle.spx_interp.specs.declared.stop.Stop.{Stop}
use Rattle.spx_interp.specs.declared.stop.Stop.TheVariants as stop
use Rattle.spx_interp.specs.declared.fault.RunFault.{RunFault}
use Rattle.spx_interp.specs.declared.fault.RunFault.TheVariants.{TooLarge, Memory}
use Rattle.spx_interp.specs.Results.{Answers, Done, OnBounds, WhereBounds, has_ended, limited, outcome_of, past_loop, ran, ran_count, stopped, test_of, truth_answered}
use Rattle.spx_interp.specs.Rooms.{IsTested}
use Rattle.spx_interp.proofs.RunForms.{on_ended, on_turn, on_value, ran-Endless, ran-Endless-zero, ran-Set, ran-Skip, ran-Tested, ran-Tested-zero, ran-Then, ran_count-suc, ran_count-zero}
use Rattle.spx_interp.proofs.ChoiceLaws.{where_stopped, where_tested}

-- ---- statements in a row

-- the statements from one on
pub ran_stmts : (f : Frame) (n : ℕ) (s : Store) (stmts : List CoreStmt) (k : ℕ) (stmt : CoreStmt) → k < length stmts → stmt ≡ get_or stmts k stmt
    → ran f n s (commands (drop k stmts)) ≡ on_ended (ran f n s (command stmt)) (λ t. ran f n t (commands (drop (k + 1) stmts)))
ran_stmts f n s stmts k stmt within is =
    let rest = commands (drop (k + 1) stmts) in
    ap (λ xs. ran f n s (commands xs)) (drop_more stmts k stmt within) ∙ ran-Then f n s (command (get_or stmts k stmt)) rest ∙ ap (λ x. on_ended (ran f n s (command x)) (λ t. ran f n t rest)) (sym is)

pub ran_none : (f : Frame) (n : ℕ) (s : Store) (stmts : List CoreStmt) (k : ℕ) → length stmts ≤ k → ran f n s (commands (drop k stmts)) ≡ Some (Ended s)
ran_none f n s stmts k end = ap (λ xs. ran f n s (commands xs)) (drop_all k stmts end) ∙ ran-Skip f n s

-- ---- what a step leads to

-- what follows a run that has ended
pub after_end : {A : Type 0} (K : Option Outcome → A) (o : Option Outcome) (r : Step) (t : Store) → o ≡ Some (outcome_of r t) → has_ended r ≡ true → K o ≡ K (Some (Ended t))
after_end K o step.Ended t is ended = ap K is
after_end K o step.Left t is ended = absurd cc
after_end K o (step.Failed fault) t is ended = absurd cc
after_end K o step.Later t is ended = absurd cc

pub ended_is : (r : Step) (t : Store) → has_ended r ≡ true → Some (Ended t) ≡ Some (outcome_of r t)
ended_is step.Ended t ended = refl
ended_is step.Left t ended = absurd cc
ended_is (step.Failed fault) t ended = absurd cc
ended_is step.Later t ended = absurd cc

-- what comes after a run that has not ended is not done
pub unended : (o : Option Outcome) (r : Step) (t : Store) (go : Store → Option Outcome) → o ≡ Some (outcome_of r t) → has_ended r ≡ false → on_ended o go ≡ Some (outcome_of r t)
unended o step.Ended t go is ended = absurd cc
unended o step.Left t go is ended = ap (λ x. on_ended x go) is
unended o (step.Failed fault) t go is ended = ap (λ x. on_ended x go) is
unended o step.Later t go is ended = ap (λ x. on_ended x go) is

-- nor are further turns
pub turn_leaves : (o : Option Outcome) (r : Step) (t : Store) (go : Store → Option Outcome) → o ≡ Some (outcome_of r t) → has_ended r ≡ false → on_turn o go ≡ Some (outcome_of (past_loop r) t)
turn_leaves o step.Ended t go is ended = absurd cc
turn_leaves o step.Left t go is ended = ap (λ x. on_turn x go) is
turn_leaves o (step.Failed fault) t go is ended = ap (λ x. on_turn x go) is
turn_leaves o step.Later t go is ended = ap (λ x. on_turn x go) is

-- where a part has no answer, the whole has none
pub refused : (K : Option Outcome → Option Outcome) (fault : RunFault) (r : Result Step RunFault) (s t : Store) (o whole : Option Outcome) → K None ≡ None → r ≡ Err fault → Done (Err fault) s o → whole ≡ K o → Done r t whole
refused K fault r s t o whole none is done parts = subst (λ x. Done x t whole) (sym is) (subst (Done (Err fault) t) (sym parts) (handed fault done))
  where
    handed : (fault : RunFault) → Done (Err fault) s o → Done (Err fault) t (K o)
    handed (TooLarge limit) done = ap K done ∙ none
    handed Memory done = tt

-- ---- assignments to whole variables

module _ (f : Frame) (n : ℕ) (s : Store) (target : Target) (e : CoreExpr) (whole : target.way ≡ []) where
  -- the right side has a value
  pub set_given : (x : Value) → Gives x ≡ eval f n s e → ran f n s (Set target e) ≡ Some (assign f.program (place_of e) (variable_of target.root.entity) s x)
  set_given x is = ran-Set f n s target e whole ∙ ap (λ a. Some (use_value a (assign f.program (place_of e) (variable_of target.root.entity) s))) (sym is)

  -- it has none
  pub set_stops : (x : Stop) (t : Store) → Answers (Err x) (eval f n s e) → Done (stopped x) t (ran f n s (Set target e))
  set_stops (stop.Failed fault) t is = ran-Set f n s target e whole ∙ ap (λ a. Some (use_value a (assign f.program (place_of e) (variable_of target.root.entity) s))) (sym is)
  set_stops stop.Memory t is = tt

-- ---- loops that do not count

module _ (f : Frame) (head : Head) (body : Command) where
  again : (head : Head) → IsTested head → (n : ℕ) (s : Store)
      → ran f (suc n) s (Repeat head body) ≡ on_value (test_of f (suc n) s head) (λ v. if as_truth v then on_turn (ran f n s body) (λ t. ran f n t (Repeat head body)) else Some (Ended s))
  again (Tested place condition) is n s = ran-Tested f body place condition n s
  again (Counted c) is n s = absurd is
  again Endless is n s = ran-Endless f body n s

  at_zero : (head : Head) → IsTested head → (s : Store) → ran f zero s (Repeat head body) ≡ on_value (test_of f zero s head) (λ v. if as_truth v then Some Later else Some (Ended s))
  at_zero (Tested place condition) is s = ran-Tested-zero f body place condition s
  at_zero (Counted c) is s = absurd is
  at_zero Endless is s = ran-Endless-zero f body s

  -- the test is false
  pub loop_ends : IsTested head → (n : ℕ) (s : Store) → truth_answered (Ok false) (test_of f n s head) → ran f n s (Repeat head body) ≡ Some (Ended s)
  loop_ends is zero s tested = at_zero head is s ∙ where_tested false (test_of f zero s head) (λ b. if b then Some Later else Some (Ended s)) tested
  loop_ends is (suc n) s tested =
      again head is n s ∙ where_tested false (test_of f (suc n) s head) (λ b. if b then on_turn (ran f n s body) (λ t. ran f n t (Repeat head body)) else Some (Ended s)) tested

  -- the test has no answer
  pub loop_fails : IsTested head → (n : ℕ) (s : Store) (e : Stop) (t : Store) → truth_answered (Err e) (test_of f n s head) → Done (stopped e) t (ran f n s (Repeat head body))
  loop_fails is zero s e t tested = subst (Done (stopped e) t) (sym (at_zero head is s)) (where_stopped e t (test_of f zero s head) (λ v. if as_truth v then Some Later else Some (Ended s)) tested)
  loop_fails is (suc n) s e t tested =
      subst (Done (stopped e) t) (sym (again head is n s))
      (where_stopped e t (test_of f (suc n) s head) (λ v. if as_truth v then on_turn (ran f n s body) (λ t. ran f n t (Repeat head body)) else Some (Ended s)) tested)

  -- the test is true, and the bound is used up
  pub loop_waits : IsTested head → (n : ℕ) (s : Store) → n ≡ 0 → truth_answered (Ok true) (test_of f n s head) → ran f n s (Repeat head body) ≡ Some Later
  loop_waits is zero s none tested = at_zero head is s ∙ where_tested true (test_of f zero s head) (λ b. if b then Some Later else Some (Ended s)) tested
  loop_waits is (suc n) s none tested = absurd (omega arith)

  -- the test is true, and a turn is taken
  pub loop_turns : IsTested head → (n m : ℕ) (s : Store) → n ≡ m + 1 → truth_answered (Ok true) (test_of f n s head)
      → ran f n s (Repeat head body) ≡ on_turn (ran f m s body) (λ t. ran f m t (Repeat head body))
  loop_turns is zero m s one tested = absurd (omega arith)
  loop_turns is (suc n) m s one tested =
      let same : n ≡ m = omega arith in
      again head is n s
      ∙ where_tested true (test_of f (suc n) s head) (λ b. if b then on_turn (ran f n s body) (λ t. ran f n t (Repeat head body)) else Some (Ended s)) tested
      ∙ ap (λ k. on_turn (ran f k s body) (λ t. ran f k t (Repeat head body))) same

-- ---- loops that count

limited_then : (p : Bool) (o : Outcome) (go : Store → Outcome) → limited p (then_do o go) ≡ on_ended (limited p o) (λ t. Some (go t))
limited_then true o go = refl
limited_then false (Ended s) go = refl
limited_then false (Left s) go = refl
limited_then false (runs.Bad kind place) go = refl
limited_then false Later go = refl

module _ (f : Frame) (c : CoreCount) (body : Command) where
  abbrev unset_after : Store → Outcome
  unset_after t = Ended (put t c.parameter None)

  abbrev HasBounds : ℕ → Store → Result Span Stop → Type 0
  HasBounds n s r =
      ((go : (low high : ℤ) → Store → Outcome) → OnBounds r s go (with_bounds f n s (type_of f.program c.parameter) c.bounds go))
      × ((test : (low high : ℤ) → Store → Bool) → WhereBounds r s test (passes_after_bounds f n s (type_of f.program c.parameter) c.bounds test))

  by_bounds : (n : ℕ) (s : Store) (span : Span) → HasBounds n s (Ok span)
      → ran f n s (Repeat (Counted c) body) ≡ limited (passes_in_range c (λ k t. run f k t body) (λ k t. passes f k t body) n span.first span.last s) (over_range c (λ k t. run f k t body) n span.first span.last s)
  unfolding ran
  by_bounds n s span has = ap₂ limited (has.1 (passes_in_range c (λ k t. run f k t body) (λ k t. passes f k t body) n)) (has.0 (over_range c (λ k t. run f k t body) n))

  -- a bound has no value
  pub count_fails : (n : ℕ) (s : Store) (e : Stop) (t : Store) → HasBounds n s (Err e) → Done (stopped e) t (ran f n s (Repeat (Counted c) body))
  unfolding ran
  count_fails n s (stop.Failed fault) t has = ap₂ limited (has.1 (passes_in_range c (λ k t. run f k t body) (λ k t. passes f k t body) n)) (has.0 (over_range c (λ k t. run f k t body) n))
  count_fails n s stop.Memory t has = tt

  in_range : (b : Bool) (p : Bool) (o : Outcome) (s : Store) → limited (b && p) (then_do (if b then o else Ended s) unset_after) ≡ (if b then on_ended (limited p o) (λ t. Some (unset_after t)) else Some (unset_after s))
  in_range true p o s = limited_then p o unset_after
  in_range false p o s = refl

  over : (n : ℕ) (s : Store) (span : Span) → HasBounds n s (Ok span)
      → ran f n s (Repeat (Counted c) body)
      ≡ (if int_le span.first span.last
      then on_ended (ran_count f c body (end_of c span.first span.last) n (start_of c span.first span.last) s) (λ t. Some (unset_after t))
      else Some (unset_after s))
  unfolding ran_count
  over n s span has =
      let low = span.first in
      let high = span.last in
      by_bounds n s span has
      ∙ in_range (int_le low high)
      (passes_in_count c (λ k t. run f k t body) (λ k t. passes f k t body) (end_of c low high) n (start_of c low high) s)
      (counted c (λ k t. run f k t body) (end_of c low high) n (start_of c low high) s) s

  -- there is no value between the bounds
  pub count_none : (n : ℕ) (s : Store) (span : Span) → HasBounds n s (Ok span) → int_le span.first span.last ≡ false → ran f n s (Repeat (Counted c) body) ≡ Some (unset_after s)
  count_none n s span has tested =
      over n s span has
      ∙ ap (λ b. if b then on_ended (ran_count f c body (end_of c span.first span.last) n (start_of c span.first span.last) s) (λ t. Some (unset_after t)) else Some (unset_after s)) tested

  -- there are turns
  pub count_some : (n : ℕ) (s : Store) (span : Span) → HasBounds n s (Ok span) → int_le span.first span.last ≡ true → (way : Span) → way.first ≡ start_of c span.first span.last → way.last ≡ end_of c span.first span.last
      → ran f n s (Repeat (Counted c) body) ≡ on_ended (ran_count f c body way.last n way.first s) (λ t. Some (unset_after t))
  count_some n s span has tested way first last =
      over n s span has
      ∙ ap (λ b. if b then on_ended (ran_count f c body (end_of c span.first span.last) n (start_of c span.first span.last) s) (λ t. Some (unset_after t)) else Some (unset_after s)) tested
      ∙ ap (λ k. on_ended (ran_count f c body k n (start_of c span.first span.last) s) (λ t. Some (unset_after t))) (sym last)
      ∙ ap (λ k. on_ended (ran_count f c body way.last n k s) (λ t. Some (unset_after t))) (sym first)

  -- what follows the turn for this value
  abbrev pub after_value : (last : ℤ) → ℕ → ℤ → Store → Option Outcome
  after_value last n k t = if int_eq k last then Some (Ended t) else ran_count f c body last n (value_after c k) t

  -- a turn for one value, from the store in which the parameter has it
  pub count_turns : (last : ℤ) (n m : ℕ) (k : ℤ) (s here : Store) → n ≡ m + 1 → here ≡ put s c.parameter (Some (Number k)) → ran_count f c body last n k s ≡ on_turn (ran f m here body) (after_value last m k)
  count_turns last zero m k s here one is = absurd (omega arith)
  count_turns last (suc n) m k s here one is =
      let same : n ≡ m = omega arith in
      ran_count-suc f body c last n k s ∙ ap (λ i. on_turn (ran f i (put s c.parameter (Some (Number k))) body) (after_value last i k)) same
      ∙ ap (λ t. on_turn (ran f m t body) (after_value last m k)) (sym is)

  -- the bound is used up
  pub count_waits : (last : ℤ) (n : ℕ) (k : ℤ) (s : Store) → n ≡ 0 → ran_count f c body last n k s ≡ Some Later
  count_waits last zero k s none = ran_count-zero f body c last k s
  count_waits last (suc n) k s none = absurd (omega arith)

-- ---- numbers in code

pub at_most : (m n : ℤ) → int_lt n m ≡ false → int_le m n ≡ true
at_most m n is = grind (arith, ints)

pub equal : (m n : ℤ) → m ≡ n → int_eq m n ≡ true
equal m n is = grind (arith, ints)

pub unequal : (m n : ℤ) → (m ≡ n → ⊥) → int_eq m n ≡ false
unequal m n other = grind (arith, ints)
