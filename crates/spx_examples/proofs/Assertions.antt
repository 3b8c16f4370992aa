-- What assertions mean, and calls of the procedures that have them.
use Rattle.std.proofs.Common.{◌≡◌, ℕ, ◌+◌, ℤ, pos, true, [], ◌∷◌, Option, Some, None, ap, ap₂, ◌∙◌}
use Rattle.spx_text.specs.declared.place.Place.{Place}
use Rattle.spx_tree.specs.declared.expression.InfixOp.{InfixOp}
use Rattle.spx_tree.specs.declared.expression.InfixOp.TheVariants as op
use Rattle.spx_tree.specs.declared.statement.AssertionKind.{AssertionKind}
use Rattle.spx_tree.specs.declared.statement.AssertionKind.TheVariants as assertion
use Rattle.spx_core.specs.declared.entity.TheConstants.{INTEGER_FIRST, INTEGER_LAST}
use Rattle.spx_core.specs.declared.expression.CoreExpr.{CoreExpr}
use Rattle.spx_core.specs.declared.expression.CoreExpr.TheVariants.{Name, Number, Infix}
use Rattle.spx_core.specs.declared.subprogram.Sub.{Sub}
use Rattle.spx_core.specs.Commands.{Assertion, Skip, Then, commands}
use Rattle.spx_core.proofs.Callers.Expressions.{fold-Entry, fold-Name, fold-Number, fold-Infix}
use Rattle.spx_core.proofs.Callers.CommandForms.{command-Assertion, command-Assignment}
use Rattle.spx_term.specs.declared.value.Value.{Value}
use Rattle.spx_term.specs.declared.value.Value.TheVariants as value
use Rattle.spx_term.specs.Meaning.{as_truth, value_of_op}
use Rattle.spx_meaning.specs.declared.bad.BadKind.TheVariants as bad
use Rattle.spx_meaning.specs.Stores.{Store, reading}
use Rattle.spx_meaning.specs.Frames.{Frame, around}
use Rattle.spx_meaning.specs.Annotations.{meant, meant_step}
use Rattle.spx_meaning.specs.Evaluation.{applied, read}
use Rattle.spx_meaning.specs.Runs.{Outcome, Ended, Bad, then_do, demand, demand_post, exports_set, run, call, untrue}
use Rattle.spx_examples.specs.Assertions.{entry_at, after_entry, is_kept, is_next, is_positive, promising, program_of, checking, noting, step_and, step_and_assert, step_and_check, check_and_step, only_checking, unset_and_promising, checking_unset}
use Rattle.spx_examples.specs.Increment.{place, x, x_at, successor, step}
use Rattle.spx_examples.specs.Names.{target_to}
use Rattle.spx_examples.specs.Variants.{local_program, local_sub, local_y_at, out_program, only_null}
use Rattle.spx_examples.proofs.IncrementRuns.{body_runs}
use Rattle.spx_examples.proofs.Statements.{assertion_is, null_is}
use Rattle.spx_examples.proofs.Successor.{assigning, step_command, step_runs, successor_of, x_is}

-- ---- what conditions mean

module _ (f : Frame) (s : Store) (line column : ℕ) where
  pub meant_x : meant f s (Name (x_at line column)) ≡ reading f.program s x
  meant_x = fold-Name (meant_step f s) (x_at line column)

  pub meant_entry : meant f s (entry_at line column) ≡ reading f.program f.entry x
  meant_entry = fold-Entry (meant_step f s) (x_at line column) true

module _ (f : Frame) (s : Store) (line column : ℕ) where
  -- X against a value
  compared : (o : InfixOp) (at : Place) (e : CoreExpr) (v : Value) → meant f s e ≡ v → meant f s (Infix o at (Name (x_at line column)) e) ≡ applied o (reading f.program s x) v
  compared o at e v is = fold-Infix (meant_step f s) o at (Name (x_at line column)) e ∙ ap₂ (applied o) (meant_x f s line column) is

  pub kept_means : meant f s (is_kept line column) ≡ applied op.Equal (reading f.program s x) (reading f.program f.entry x)
  kept_means = compared op.Equal (place line (column + 2)) (entry_at line (column + 4)) _ (meant_entry f s line (column + 4))

  after_means : (c : ℕ) → meant f s (after_entry line c) ≡ applied op.Add (reading f.program f.entry x) (value.Number (pos 1))
  after_means c =
      fold-Infix (meant_step f s) op.Add (place line (c + 3)) (entry_at line c) (Number (pos 1) (place line (c + 5)))
      ∙ ap₂ (applied op.Add) (meant_entry f s line c) (fold-Number (meant_step f s) (pos 1) (place line (c + 5)))

  pub next_means : meant f s (is_next line column) ≡ applied op.Equal (reading f.program s x) (applied op.Add (reading f.program f.entry x) (value.Number (pos 1)))
  next_means = compared op.Equal (place line (column + 2)) (after_entry line (column + 4)) _ (after_means (column + 4))

  pub positive_means : meant f s (is_positive line column) ≡ applied op.Greater (reading f.program s x) (value.Number (pos 0))
  positive_means = compared op.Greater (place line (column + 2)) (Number (pos 0) (place line (column + 4))) _ (fold-Number (meant_step f s) (pos 0) (place line (column + 4)))

-- ---- postconditions

-- the end of a body, after this outcome
abbrev to_promise : Frame → Outcome → Outcome
to_promise f outcome = then_do outcome (λ t. then_do (demand (exports_set f.sub t) bad.Unset f.sub.end t) (λ u. demand_post f f.sub.post u))

-- around the call from this value of X
abbrev from : Sub → ℤ → Frame
from sub m = around (program_of sub) sub (x_is m)

-- the end where X has this value, and the postcondition means this
abbrev ending_at : ℤ → Value → Outcome
ending_at m v = demand (as_truth v) bad.Post (place 3 5) (x_is m)

promise_runs : (n : ℕ) (condition : CoreExpr) → call (program_of (promising condition)) n (promising condition) (x_is (pos 41)) ≡ ending_at (pos 42) (meant (from (promising condition) (pos 41)) (x_is (pos 42)) condition)
unfolding value_of_op
promise_runs n condition = let f : Frame = from (promising condition) (pos 41) in ap (to_promise f) (body_runs f n (x_is (pos 41)))

pub promise_holds : (n : ℕ) → call (program_of (promising (is_next 3 10))) n (promising (is_next 3 10)) (x_is (pos 41)) ≡ Ended (x_is (pos 42))
unfolding value_of_op
promise_holds n = promise_runs n (is_next 3 10) ∙ ap (ending_at (pos 42)) (next_means (from (promising (is_next 3 10)) (pos 41)) (x_is (pos 42)) 3 10)

pub promise_fails : (n : ℕ) → call (program_of (promising (is_kept 3 10))) n (promising (is_kept 3 10)) (x_is (pos 41)) ≡ Bad bad.Post (place 3 5)
unfolding value_of_op
promise_fails n = promise_runs n (is_kept 3 10) ∙ ap (ending_at (pos 42)) (kept_means (from (promising (is_kept 3 10)) (pos 41)) (x_is (pos 42)) 3 10)

pub unset_is_first : (n : ℕ) (v : Option Value) → call (record (out_program only_null) { subs = unset_and_promising ∷ [] }) n unset_and_promising (v ∷ []) ≡ Bad bad.Unset (place 7 1)
unset_is_first n v =
    let f : Frame = around (record (out_program only_null) { subs = unset_and_promising ∷ [] }) unset_and_promising (None ∷ []) in
    ap (λ c. to_promise f (run f n (None ∷ []) c)) (null_is (place 6 4))

-- ---- assertions among statements

-- `assert` or `check` this, in this line, as it means this
abbrev looking_at : AssertionKind → ℕ → Value → Store → Outcome
looking_at kind line v s = demand (as_truth v) (untrue kind) (place line 8) s

after_step : (kind : AssertionKind) (condition : CoreExpr) → commands (step ∷ noting kind 7 condition ∷ []) ≡ Then (step_command 6 4 9) (Then (Assertion kind (place 7 8) condition) Skip)
after_step kind condition = ap₂ (λ a b. Then a (Then b Skip)) (command-Assignment (target_to (x_at 6 4)) (successor 6 9)) (command-Assertion kind (place 7 8) condition)

before_step : (condition : CoreExpr) → commands (checking 5 condition ∷ step ∷ []) ≡ Then (Assertion assertion.Check (place 5 8) condition) (Then (step_command 6 4 9) Skip)
before_step condition = ap₂ (λ a b. Then a (Then b Skip)) (command-Assertion assertion.Check (place 5 8) condition) (command-Assignment (target_to (x_at 6 4)) (successor 6 9))

-- the body, where the assignment has this outcome
abbrev then_looking : AssertionKind → Frame → CoreExpr → Outcome → Outcome
then_looking kind f condition outcome = to_promise f (then_do outcome (λ t. then_do (looking_at kind 7 (meant f t condition) t) Ended))

step_runs_first : (kind : AssertionKind) (n : ℕ) (m : ℤ) (condition : CoreExpr) → call (program_of (step_and kind condition)) n (step_and kind condition) (x_is m)
    ≡ then_looking kind (from (step_and kind condition) m) condition (assigning (program_of (step_and kind condition)) (x_is m) (place 6 11) (successor_of (place 6 11) (read (x_is m) (place 6 9) (Some x))))
step_runs_first kind n m condition =
    let f : Frame = from (step_and kind condition) m in
    ap (λ c. to_promise f (run f n (x_is m) c)) (after_step kind condition)
    ∙ ap (then_looking kind f condition) (step_runs f n (x_is m) 6 4 9)

-- after the assignment X has this value, and the condition means this
abbrev noted_at : AssertionKind → Sub → ℤ → ℤ → Value → Outcome
noted_at kind sub m k v = to_promise (from sub m) (then_do (looking_at kind 7 v (x_is k)) Ended)

pub next_asserted : (n : ℕ) → call (program_of (step_and_assert (is_next 7 15))) n (step_and_assert (is_next 7 15)) (x_is (pos 41)) ≡ Ended (x_is (pos 42))
unfolding value_of_op
next_asserted n =
    let sub : Sub = step_and_assert (is_next 7 15) in
    step_runs_first assertion.Assert n (pos 41) (is_next 7 15) ∙ ap (noted_at assertion.Assert sub (pos 41) (pos 42)) (next_means (from sub (pos 41)) (x_is (pos 42)) 7 15)

pub kept_asserted : (n : ℕ) → call (program_of (step_and_assert (is_kept 7 15))) n (step_and_assert (is_kept 7 15)) (x_is (pos 41)) ≡ Bad bad.Assert (place 7 8)
unfolding value_of_op
kept_asserted n =
    let sub : Sub = step_and_assert (is_kept 7 15) in
    step_runs_first assertion.Assert n (pos 41) (is_kept 7 15) ∙ ap (noted_at assertion.Assert sub (pos 41) (pos 42)) (kept_means (from sub (pos 41)) (x_is (pos 42)) 7 15)

pub positive_after : (n : ℕ) → call (program_of (step_and_check (is_positive 7 14))) n (step_and_check (is_positive 7 14)) (x_is (pos 0)) ≡ Ended (x_is (pos 1))
unfolding value_of_op
positive_after n =
    let sub : Sub = step_and_check (is_positive 7 14) in
    step_runs_first assertion.Check n (pos 0) (is_positive 7 14) ∙ ap (noted_at assertion.Check sub (pos 0) (pos 1)) (positive_means (from sub (pos 0)) (x_is (pos 1)) 7 14)

pub next_after : (n : ℕ) → call (program_of (step_and_check (is_next 7 14))) n (step_and_check (is_next 7 14)) (x_is (pos 41)) ≡ Ended (x_is (pos 42))
unfolding value_of_op
next_after n =
    let sub : Sub = step_and_check (is_next 7 14) in
    step_runs_first assertion.Check n (pos 41) (is_next 7 14) ∙ ap (noted_at assertion.Check sub (pos 41) (pos 42)) (next_means (from sub (pos 41)) (x_is (pos 42)) 7 14)

pub kept_after : (n : ℕ) → call (program_of (step_and_check (is_kept 7 14))) n (step_and_check (is_kept 7 14)) (x_is (pos 41)) ≡ Bad bad.Check (place 7 8)
unfolding value_of_op
kept_after n =
    let sub : Sub = step_and_check (is_kept 7 14) in
    step_runs_first assertion.Check n (pos 41) (is_kept 7 14) ∙ ap (noted_at assertion.Check sub (pos 41) (pos 42)) (kept_means (from sub (pos 41)) (x_is (pos 42)) 7 14)

-- the body that checks first, where the condition means this
abbrev looking_first : Frame → ℕ → Value → Outcome
looking_first f n v = to_promise f (then_do (looking_at assertion.Check 5 v f.entry) (λ t. run f n t (Then (step_command 6 4 9) Skip)))

pub positive_before : (n : ℕ) → call (program_of (check_and_step (is_positive 5 14))) n (check_and_step (is_positive 5 14)) (x_is (pos 0)) ≡ Bad bad.Check (place 5 8)
unfolding value_of_op
positive_before n =
    let f : Frame = from (check_and_step (is_positive 5 14)) (pos 0) in
    ap (λ c. to_promise f (run f n (x_is (pos 0)) c)) (before_step (is_positive 5 14))
    ∙ ap (looking_first f n) (positive_means f (x_is (pos 0)) 5 14)

-- the body that does nothing else, where the two conditions mean this
abbrev only_looking : Value → Value → Outcome
only_looking v w =
    let s : Store = x_is (pos 7) in
    then_do (then_do (demand (as_truth v) bad.Check (place 6 8) s) Ended) (λ t. then_do (demand (exports_set only_checking t) bad.Unset only_checking.end t) (λ u. demand (as_truth w) bad.Post (place 3 5) u))

pub check_changes_nothing : (n : ℕ) → call (program_of only_checking) n only_checking (x_is (pos 7)) ≡ Ended (x_is (pos 7))
unfolding value_of_op
check_changes_nothing n =
    let f : Frame = from only_checking (pos 7) in
    let s : Store = x_is (pos 7) in
    ap (λ c. to_promise f (run f n s c)) (assertion_is assertion.Check (place 6 8) (is_positive 6 14))
    ∙ ap (λ v. to_promise f (then_do (demand (as_truth v) bad.Check (place 6 8) s) Ended)) (positive_means f s 6 14)
    ∙ ap (only_looking (value.Truth true)) (kept_means f s 3 10)

-- X has the last value of its type, and no value is the next one
pub next_of_last : (n : ℕ) → call (program_of (check_and_step (is_next 5 14))) n (check_and_step (is_next 5 14)) (x_is INTEGER_LAST) ≡ Bad bad.Check (place 5 8)
unfolding value_of_op
next_of_last n =
    let f : Frame = from (check_and_step (is_next 5 14)) INTEGER_LAST in
    ap (λ c. to_promise f (run f n (x_is INTEGER_LAST) c)) (before_step (is_next 5 14))
    ∙ ap (looking_first f n) (next_means f (x_is INTEGER_LAST) 5 14)

-- ---- an unset local

-- the store in which it is unset
abbrev unset_y : Value → Store
unset_y v = Some v ∷ None ∷ []

-- around the call from that
abbrev around_unset : InfixOp → Value → Frame
around_unset o v = around (local_program (checking_unset o)) (local_sub (checking_unset o)) (unset_y v)

-- it counts as the first value of its type
unset_means : (o : InfixOp) (v : Value) → meant (around_unset o v) (unset_y v) (Infix o (place 6 16) (Name (local_y_at 6 14)) (Number (pos 0) (place 6 18))) ≡ applied o (value.Number INTEGER_FIRST) (value.Number (pos 0))
unset_means o v =
    let step = meant_step (around_unset o v) (unset_y v) in
    fold-Infix step o (place 6 16) (Name (local_y_at 6 14)) (Number (pos 0) (place 6 18))
    ∙ ap₂ (applied o) (fold-Name step (local_y_at 6 14)) (fold-Number step (pos 0) (place 6 18))

unset_runs : (o : InfixOp) (n : ℕ) (v : Value) (w : Option Value) → call (local_program (checking_unset o)) n (local_sub (checking_unset o)) (Some v ∷ w ∷ [])
    ≡ to_promise (around_unset o v) (then_do (looking_at assertion.Check 6 (applied o (value.Number INTEGER_FIRST) (value.Number (pos 0))) (unset_y v)) Ended)
unset_runs o n v w =
    let f : Frame = around_unset o v in
    ap (λ c. to_promise f (run f n (unset_y v) c)) (assertion_is assertion.Check (place 6 8) (Infix o (place 6 16) (Name (local_y_at 6 14)) (Number (pos 0) (place 6 18))))
    ∙ ap (λ x. to_promise f (then_do (looking_at assertion.Check 6 x (unset_y v)) Ended)) (unset_means o v)

pub unset_is_below : (n : ℕ) (v : Value) (w : Option Value) → call (local_program (checking_unset op.Less)) n (local_sub (checking_unset op.Less)) (Some v ∷ w ∷ []) ≡ Ended (unset_y v)
unfolding value_of_op
unset_is_below n v w = unset_runs op.Less n v w

pub unset_is_not_above : (n : ℕ) (v : Value) (w : Option Value) → call (local_program (checking_unset op.Greater)) n (local_sub (checking_unset op.Greater)) (Some v ∷ w ∷ []) ≡ Bad bad.Check (place 6 8)
unfolding value_of_op
unset_is_not_above n v w = unset_runs op.Greater n v w
