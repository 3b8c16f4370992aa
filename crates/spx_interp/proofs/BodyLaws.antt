-- The run of a body and of a call, one part after another.
use Rattle.std.proofs.Common.{◌≡◌, ℕ, Bool, true, false, ◌++◌, List, length, get_or, take, drop, Option, Some, None, Result, Err, refl, sym, ap, subst, ◌∙◌}
use Rattle.std.specs.Prelude.{◌||◌, slice_get}
use Rattle.std.proofs.Math.Seq.{take-append_seam}
use Rattle.std.proofs.lemmas.Option.{get_or_from_slice_get}
use Rattle.spx_core.specs.declared.program.Program.{Program}
use Rattle.spx_core.specs.declared.statement.Around.TheVariants as around
use Rattle.spx_core.specs.declared.subprogram.CorePredicate.{CorePredicate}
use Rattle.spx_core.specs.declared.subprogram.Sub.{Sub}
use Rattle.spx_core.specs.Commands.{commands}
use Rattle.spx_core.specs.Rules.{ObeysRules}
use Rattle.spx_meaning.specs.declared.bad.BadKind.TheVariants as bad
use Rattle.spx_meaning.specs.Frames.{Frame, around as frame_around}
use Rattle.spx_meaning.specs.Limits.{call_passes, passes, passes_in_predicate, where_ended}
use Rattle.spx_meaning.specs.Runs.{Outcome, Ended, Left, Bad, Later, call, demand, demand_post, demand_pre, entry_of, exports_set, run, then_do}
use Rattle.spx_meaning.specs.Stores.{Store}
use Rattle.spx_meaning.proofs.Callers.Exits.{Stays, none_leaves, run_stays, stays_demand}
use Rattle.spx_interp.specs.declared.fault.RunLimit.{RunLimit}
use Rattle.spx_interp.specs.declared.fault.RunFault.{RunFault}
use Rattle.spx_interp.specs.declared.fault.RunFault.TheVariants.{TooLarge, Memory}
use Rattle.spx_interp.specs.declared.step.Step.{Step}
use Rattle.spx_interp.specs.Calls.{IsCall, in_bits}
use Rattle.spx_meaning.specs.Elements.{has_many_elements}
use Rattle.spx_interp.specs.Results.{Done, body_ended, body_ran, call_ran, limited, outcome_of, predicate_looked_at, ran}
use Rattle.spx_interp.proofs.RunForms.{limited_ended, on_ended}

on_ended_same : (o : Option Outcome) (go go' : Store → Option Outcome) → ((t : Store) → go t ≡ go' t) → on_ended o go ≡ on_ended o go'
on_ended_same (Some (Ended t)) go go' same = same t
on_ended_same (Some (Left t)) go go' same = refl
on_ended_same (Some (Bad kind place)) go go' same = refl
on_ended_same (Some Later) go go' same = refl
on_ended_same None go go' same = refl

pre_looked_at : (f : Frame) (pre : Option CorePredicate) (s : Store) → limited (passes_in_predicate f pre s) (demand_pre f pre s) ≡ predicate_looked_at f s bad.Pre pre
pre_looked_at f (Some pre) s = refl
pre_looked_at f None s = refl

module _ (f : Frame) (n : ℕ) where
  stmts_then_end : (s : Store)
      → limited
      (passes f n s (commands f.sub.statements) || where_ended (run f n s (commands f.sub.statements)) (λ t. where_ended (demand (exports_set f.sub t) bad.Unset f.sub.end t) (λ u. passes_in_predicate f f.sub.post u)))
      (then_do (run f n s (commands f.sub.statements)) (λ t. then_do (demand (exports_set f.sub t) bad.Unset f.sub.end t) (λ u. demand_post f f.sub.post u)))
      ≡ on_ended (ran f n s (commands f.sub.statements)) (body_ended f)
  unfolding ran
  stmts_then_end s =
      limited_ended (passes f n s (commands f.sub.statements)) (run f n s (commands f.sub.statements))
      (λ t. where_ended (demand (exports_set f.sub t) bad.Unset f.sub.end t) (λ u. passes_in_predicate f f.sub.post u))
      (λ t. then_do (demand (exports_set f.sub t) bad.Unset f.sub.end t) (λ u. demand_post f f.sub.post u))

  -- the precondition, then the statements, then what must hold at the end
  pub body_parts : (s : Store) → s ≡ f.entry → body_ran f n ≡ on_ended (predicate_looked_at f s bad.Pre f.sub.pre) (λ t. on_ended (ran f n t (commands f.sub.statements)) (body_ended f))
  unfolding body_ran
  body_parts s is =
      limited_ended (passes_in_predicate f f.sub.pre f.entry) (demand_pre f f.sub.pre f.entry)
      (λ t. passes f n t (commands f.sub.statements) || where_ended (run f n t (commands f.sub.statements)) (λ t. where_ended (demand (exports_set f.sub t) bad.Unset f.sub.end t) (λ u. passes_in_predicate f f.sub.post u)))
      (λ t. then_do (run f n t (commands f.sub.statements)) (λ t. then_do (demand (exports_set f.sub t) bad.Unset f.sub.end t) (λ u. demand_post f f.sub.post u)))
      ∙ on_ended_same _ _ _ stmts_then_end
      ∙ ap (λ o. on_ended o (λ t. on_ended (ran f n t (commands f.sub.statements)) (body_ended f))) (pre_looked_at f f.sub.pre f.entry ∙ ap (λ t. predicate_looked_at f t bad.Pre f.sub.pre) (sym is))

-- ---- calls

pub call_body : (p : Program) (n : ℕ) (sub : Sub) (s entry : Store) → entry ≡ entry_of p sub s → call_ran p n sub s ≡ body_ran (frame_around p sub entry) n
unfolding body_ran
call_body p n sub s entry is = ap (λ t. body_ran (frame_around p sub t) n) (sym is)

-- what is known of an answer
pub within_limit : (b : Bool) (o q : Outcome) → limited b o ≡ Some q → (b ≡ false) × (o ≡ q)
within_limit true o q is = absurd cc
within_limit false o q is = (refl, (let same : o ≡ q = cc in same))

pub past_limit : (b : Bool) (o : Outcome) → limited b o ≡ None → b ≡ true
past_limit true o is = refl
past_limit false o is = absurd cc

-- the subprogram that is read in the code
pub in_place : (subs read : List Sub) (k : ℕ) (first : Sub) → read ≡ subs → first ≡ get_or read k first → first ≡ get_or subs k first
in_place subs read k first is at = at ∙ ap (λ xs. get_or xs k first) is

pub the_sub : (subs read : List Sub) (k : ℕ) (first sub : Sub) → read ≡ subs → first ≡ get_or read k first → slice_get subs k ≡ Some sub → first ≡ sub
the_sub subs read k first sub is at found = in_place subs read k first is at ∙ get_or_from_slice_get subs k sub first found

-- how a call ends that has an answer
pub call_ended : (p : Program) (n : ℕ) (first sub : Sub) (s t : Store) (r q : Step) → first ≡ sub → call_ran p n first s ≡ Some (outcome_of r t) → r ≡ q → (call_passes p n sub s ≡ false) × (call p n sub s ≡ outcome_of q t)
call_ended p n first sub s t r q same ran is =
    subst (λ x. (call_passes p n x s ≡ false) × (call p n x s ≡ outcome_of q t)) same
    (within_limit (call_passes p n first s) (call p n first s) (outcome_of q t) (ran ∙ ap (λ x. Some (outcome_of x t)) is))

-- ---- no call is left by an exit

stays_then : (o : Outcome) (go : Store → Outcome) → Stays o → ((t : Store) → Stays (go t)) → Stays (then_do o go)
stays_then (Ended t) go first second = second t
stays_then (Left t) go first second = first
stays_then (Bad kind place) go first second = tt
stays_then Later go first second = tt

module _ (p : Program) (sub : Sub) (obeys : ObeysRules p sub) (n : ℕ) (s : Store) where
  stmts_stay : (f : Frame) (t : Store) → Stays (run f n t (commands sub.statements))
  stmts_stay f t = run_stays f n t around.Other (commands sub.statements) refl (none_leaves (commands sub.statements) obeys.exits) obeys.exits

  pre_stays : (f : Frame) (pre : Option CorePredicate) (t : Store) → Stays (demand_pre f pre t)
  pre_stays f (Some pre) t = stays_demand _ bad.Pre pre.place t
  pre_stays f None t = tt

  post_stays : (f : Frame) (post : Option CorePredicate) (t : Store) → Stays (demand_post f post t)
  post_stays f (Some post) t = stays_demand _ bad.Post post.place t
  post_stays f None t = tt

  call_stays : Stays (call p n sub s)
  call_stays =
      let f = frame_around p sub (entry_of p sub s) in
      stays_then _ _ (pre_stays f sub.pre f.entry) (λ t.
      stays_then _ _ (stmts_stay f t) (λ u.
      stays_then _ _ (stays_demand (exports_set sub u) bad.Unset sub.end u) (λ v. post_stays f sub.post v)))

  pub never_left : (t : Store) → call p n sub s ≡ Left t → ⊥
  never_left t is = subst Stays is call_stays

-- a fault that is no limit says nothing, and one that is one says that the limit on bits is passed, where that on elements is not
pub faulted : (p : Program) (sub : Sub) (n : ℕ) (s : Store) (fault : RunFault) → has_many_elements p sub ≡ false → ((limit : RunLimit) → fault ≡ TooLarge limit → call_passes p n sub s ≡ true) → IsCall p sub n s (Err (in_bits fault)) s
faulted p sub n s (TooLarge limit) few passed = (few, passed limit refl, refl)
faulted p sub n s Memory few passed = refl

-- a part that has passed the limit
pub limited_by : {A : Type 0} (fault : RunFault) (limit : RunLimit) (s : Store) (o : Option Outcome) (r : Result A RunFault) → r ≡ Err fault → r ≡ Err (TooLarge limit) → Done (Err fault) s o → o ≡ None
limited_by fault limit s o r is wide done = let same : fault ≡ TooLarge limit = cc in subst (λ x. Done (Err x) s o) same done

-- what a slice of all places has written is the whole list
pub written : (new items : Store) (len : ℕ) → length new ≡ len → take len (new ++ drop (length new) items) ≡ new
written new items len is = ap (λ k. take k (new ++ drop (length new) items)) (sym is) ∙ take-append_seam new (drop (length new) items)
