-- Programs of which a call can be bad: where it may start, what becomes of it, and that `NeverBad` is false for this reason.
use Rattle.std.proofs.Common.{◌≡◌, ◌≢◌, ℕ, zero, suc, ℤ, pos, negsuc, false, ◌||◌, List, [], ◌∷◌, Some, None, refl, sym, ap, ap₂, subst, ◌∙◌}
use Rattle.std.specs.Prelude.{IsTrue, IsSome, IfSome, All}
use Rattle.std.proofs.Math.Dec.{leb-zero}
use Rattle.std.proofs.lemmas.List.Elements.{All-head, All-tail}
use Rattle.spx_text.specs.declared.place.Place.{Place}
use Rattle.spx_tree.specs.declared.expression.InfixOp.TheVariants as op
use Rattle.spx_tree.specs.declared.statement.AssertionKind.TheVariants as assertion
use Rattle.spx_core.specs.declared.entity.TheConstants.{INTEGER}
use Rattle.spx_core.specs.declared.entity.VarId.{VarId}
use Rattle.spx_core.specs.declared.expression.CoreExpr.{CoreExpr}
use Rattle.spx_core.specs.declared.expression.CoreExpr.TheVariants.{Name, Number}
use Rattle.spx_core.specs.declared.rule.RuleName.TheVariants.{U11}
use Rattle.spx_core.specs.declared.program.Program.{Program}
use Rattle.spx_core.specs.declared.statement.CoreScheme.TheVariants as scheme
use Rattle.spx_core.specs.declared.subprogram.Sub.{Sub}
use Rattle.spx_core.specs.Commands.{Command, Skip, Then, Assertion, Repeat, Endless, commands}
use Rattle.spx_core.specs.Dependency.{imports}
use Rattle.spx_core.specs.Judged.{expr_step, judged}
use Rattle.spx_core.specs.Obeyed.{first_rule_breach}
use Rattle.spx_core.specs.Places.{place_of}
use Rattle.spx_core.proofs.Callers.CommandForms.{command-Endless}
use Rattle.spx_core.proofs.Callers.Expressions.{fold-Name, fold-Number, fold-Infix}
use Rattle.spx_term.specs.declared.value.Value.{Value}
use Rattle.spx_term.specs.declared.value.Value.TheVariants as value
use Rattle.spx_term.specs.Meaning.{as_truth, value_of_op}
use Rattle.spx_meaning.specs.declared.bad.BadKind.{BadKind}
use Rattle.spx_meaning.specs.declared.bad.BadKind.TheVariants as bad
use Rattle.spx_meaning.specs.Annotations.{meant, meant_step}
use Rattle.spx_meaning.specs.Evaluation.{Answer, Gives, applied, read, eval, eval-Number}
use Rattle.spx_meaning.specs.Frames.{Frame, around}
use Rattle.spx_meaning.specs.Laws.{IsNeverBad, NeverBad, Start}
use Rattle.spx_meaning.specs.Runs.{Outcome, Bad, Ended, Later, after_turn, call, demand, pre_holds, run, then_do}
use Rattle.spx_meaning.specs.Stores.{Store, is_in, look, reading, type_of, types_of}
use Rattle.spx_examples.specs.Assertions.{is_positive, program_of}
use Rattle.spx_examples.specs.BadPrograms.{assert_positive, asserting_in_turns, asserting_loop, bad_first, bad_last, checking_natural, demanding, demanding_program, dividing, is_natural, promising_too_much, quotient}
use Rattle.spx_examples.specs.Increment.{place, x, x_at, inc, increment}
use Rattle.spx_examples.specs.Refused.{inc_without_pre, increment_without_pre, x_is_last}
use Rattle.spx_examples.specs.NameRules.{breach}
use Rattle.spx_examples.specs.VariableRules.{pre_on}
use Rattle.spx_examples.specs.Variants.{number, local_sub, local_program, only_null, giving, the_local, out_sub, out_program, out_x_at, natural_sub, natural_program}
use Rattle.spx_examples.proofs.Assertions.{positive_means, promise_fails}
use Rattle.spx_examples.proofs.Evaluations.{assigns, eval_name, eval_operated, numeric, operated_as}
use Rattle.spx_examples.proofs.IncrementFlows.{only_import}
use Rattle.spx_examples.proofs.IncrementRuns.{body_runs}
use Rattle.spx_examples.proofs.Locals.{value_is_unset}
use Rattle.spx_examples.proofs.OneVariable.{if_x}
use Rattle.spx_examples.proofs.Refused as refused
use Rattle.spx_examples.proofs.Statements.{assertion_is, null_is, operating, to_end}
use Rattle.spx_examples.proofs.Successor.{judged_x, x_is}
use Rattle.spx_examples.proofs.VariableBreaches.{breach_reading}
use Rattle.spx_examples.proofs.Variants.{leaves_natural, out_is_left_unset}

-- one call that may start and is bad is enough
not_never : (p : Program) (sub : Sub) (n : ℕ) (s : Store) (kind : BadKind) (at : Place) → Start p sub s → call p n sub s ≡ Bad kind at → ¬ IsNeverBad p sub
not_never p sub n s kind at start is never = never n s start kind at is

alone : (p : Program) (sub : Sub) (n : ℕ) (s : Store) (kind : BadKind) (at : Place) → Start p sub s → call p n sub s ≡ Bad kind at → ¬ All (IsNeverBad p) (sub ∷ [])
alone p sub n s kind at start is never = not_never p sub n s kind at start is (All-head (IsNeverBad p) sub [] never)

-- ---- where calls may start

-- with X of `Integer`, from a value of this type
x_in_type : (subs : List Sub) (m : ℤ) → IsTrue (is_in (types_of (record increment { subs = subs })) INTEGER (value.Number m)) → (k : ℕ)
    → let v : VarId = record { 0 = k } in IfSome (look (x_is m) v) (λ y. IsTrue (is_in (types_of (record increment { subs = subs })) (type_of (record increment { subs = subs }) v) y))
x_in_type subs m lies zero = lies
x_in_type subs m lies (suc k) = tt

-- with no other import, and no precondition
x_starts : (subs : List Sub) (sub : Sub) (m : ℤ) → sub.pre ≡ None → ((v : VarId) → IsTrue (imports v sub) → x ≡ v) → IsTrue (is_in (types_of (record increment { subs = subs })) INTEGER (value.Number m)) → Start (record increment { subs = subs }) sub (x_is m)
x_starts subs sub m none only lies = record {
  precondition = ap (λ pre. pre_holds (around (record increment { subs = subs }) sub (x_is m)) pre (x_is m)) none;
  imports_set = λ v imported. subst (λ w. IsSome (look (x_is m) w)) (only v imported) refl;
  in_types = λ v. x_in_type subs m lies v.0;
}

-- ---- `X := 1 / X`

judged_quotient : judged quotient ≡ numeric (place 6 11)
judged_quotient =
    fold-Infix expr_step op.Divide (place 6 11) (Number (pos 1) (place 6 9)) (Name (x_at 6 13))
    ∙ ap₂ (operating op.Divide (place 6 11)) (fold-Number expr_step (pos 1) (place 6 9)) (judged_x 6 13)

-- its value, where X is read as this
abbrev quotient_of : Answer → Answer
quotient_of answer = operated_as op.Divide (place 6 11) (place_of (Name (x_at 6 13))) (numeric (place 6 11)) (Gives (value.Number (pos 1))) answer

eval_quotient : (f : Frame) (n : ℕ) (s : Store) → eval f n s quotient ≡ quotient_of (read s (place 6 13) (Some x))
eval_quotient f n s =
    eval_operated f n s op.Divide (place 6 11) (Number (pos 1) (place 6 9)) (Name (x_at 6 13)) _ _ _
    judged_quotient (eval-Number f n s (pos 1) (place 6 9)) (eval_name f n s (x_at 6 13))

pub divides : (n : ℕ) → call (program_of dividing) n dividing (number (pos 0) ∷ []) ≡ Bad bad.Division (place 6 11)
unfolding value_of_op
divides n =
    let f : Frame = around (program_of dividing) dividing (x_is (pos 0)) in
    ap (to_end dividing) (assigns f n (x_is (pos 0)) (x_at 6 4) quotient (quotient_of (Gives (value.Number (pos 0)))) (eval_quotient f n (x_is (pos 0))))

pub division_starts : Start (program_of dividing) dividing (number (pos 0) ∷ [])
division_starts = x_starts (dividing ∷ []) dividing (pos 0) refl only_import refl

pub division_fails : ¬ NeverBad (program_of dividing)
division_fails = alone (program_of dividing) dividing 0 (x_is (pos 0)) bad.Division (place 6 11) division_starts (divides 0)

-- ---- `X := X + 1`

pub sum_fails : ¬ NeverBad increment_without_pre
sum_fails = alone increment_without_pre inc_without_pre 0 x_is_last bad.Overflow (place 6 11) refused.starts (refused.overflows 0)

-- ---- `X := - X` for an X of `Natural`

natural_in_type : (k : ℕ) → let v : VarId = record { 0 = k } in IfSome (look (x_is (pos 41)) v) (λ y. IsTrue (is_in (types_of natural_program) (type_of natural_program v) y))
natural_in_type zero = refl
natural_in_type (suc k) = tt

natural_import : (v : VarId) → IsTrue (imports v natural_sub) → x ≡ v
natural_import = if_x (λ b. b || false) refl

pub natural_starts : Start natural_program natural_sub (number (pos 41) ∷ [])
natural_starts = record {
  precondition = refl;
  imports_set = λ v imported. subst (λ w. IsSome (look (x_is (pos 41)) w)) (natural_import v imported) refl;
  in_types = λ v. natural_in_type v.0;
}

pub natural_fails : ¬ NeverBad natural_program
natural_fails = alone natural_program natural_sub 0 (x_is (pos 41)) bad.Range (place 6 9) natural_starts (leaves_natural 0)

-- ---- `X := Y` for an unset local Y

local_in_type : (k : ℕ) → let v : VarId = record { 0 = k } in IfSome (look (x_is (pos 0)) v) (λ y. IsTrue (is_in (types_of (local_program (giving the_local))) (type_of (local_program (giving the_local)) v) y))
local_in_type zero = refl
local_in_type (suc k) = tt

pub local_starts : Start (local_program (giving the_local)) (local_sub (giving the_local)) (number (pos 0) ∷ [])
local_starts = record {
  precondition = refl;
  imports_set = λ v imported. subst (λ w. IsSome (look (x_is (pos 0)) w)) (only_import v imported) refl;
  in_types = λ v. local_in_type v.0;
}

pub reads_unset : (n : ℕ) → call (local_program (giving the_local)) n (local_sub (giving the_local)) (number (pos 0) ∷ []) ≡ Bad bad.Unset (place 6 9)
reads_unset n = value_is_unset n (number (pos 0)) None

pub local_fails : ¬ NeverBad (local_program (giving the_local))
local_fails = alone (local_program (giving the_local)) (local_sub (giving the_local)) 0 (x_is (pos 0)) bad.Unset (place 6 9) local_starts (reads_unset 0)

-- ---- an `out` formal that is left unset

none_in_type : (k : ℕ) → let v : VarId = record { 0 = k } in IfSome (look (None ∷ []) v) (λ y. IsTrue (is_in (types_of (out_program only_null)) (type_of (out_program only_null) v) y))
none_in_type zero = tt
none_in_type (suc k) = tt

pub out_starts : Start (out_program only_null) (out_sub only_null) (None ∷ [])
out_starts = record {
  precondition = refl;
  imports_set = λ v imported. absurd (let e : ⊥ = cc in e);
  in_types = λ v. none_in_type v.0;
}

pub out_fails : ¬ NeverBad (out_program only_null)
out_fails = alone (out_program only_null) (out_sub only_null) 0 (None ∷ []) bad.Unset (place 7 1) out_starts (out_is_left_unset 0 None)

-- ---- a postcondition

pub promise_starts : Start (program_of promising_too_much) promising_too_much (number (pos 41) ∷ [])
promise_starts = x_starts (promising_too_much ∷ []) promising_too_much (pos 41) refl only_import refl

pub promise_is_false : ¬ NeverBad (program_of promising_too_much)
promise_is_false = alone (program_of promising_too_much) promising_too_much 0 (x_is (pos 41)) bad.Post (place 3 5) promise_starts (promise_fails 0)

-- ---- `loop assert X > 0; end loop`

-- the loop as a command
abbrev turning : Command
turning = Repeat Endless (Then (Assertion assertion.Assert (place 6 8) (is_positive 6 15)) Skip)

loop_is : commands (asserting_loop ∷ []) ≡ Then turning Skip
loop_is =
    ap (λ c. Then c Skip)
    (command-Endless asserting_loop scheme.Endless (place 5 4) assert_positive (record { end = place 7 4; word = place 7 8 }) refl refl
    ∙ ap (λ c. Repeat Endless c) (assertion_is assertion.Assert (place 6 8) (is_positive 6 15)))

-- around the call from this store
abbrev in_turns : Store → Frame
in_turns s = around (program_of asserting_in_turns) asserting_in_turns s

pub no_turn : (s : Store) → call (program_of asserting_in_turns) 0 asserting_in_turns s ≡ Later
no_turn s = ap (λ c. to_end asserting_in_turns (run (in_turns s) 0 s c)) loop_is

-- the first turn, where what it asserts means this
abbrev first_turn : ℕ → Store → Value → Outcome
first_turn n s v = to_end asserting_in_turns (then_do (after_turn (then_do (demand (as_truth v) bad.Assert (place 6 8) s) Ended) (λ t. run (in_turns s) n t turning)) Ended)

pub turn_fails : (n : ℕ) → call (program_of asserting_in_turns) (suc n) asserting_in_turns (number (pos 0) ∷ []) ≡ Bad bad.Assert (place 6 8)
unfolding value_of_op
turn_fails n =
    let s : Store = x_is (pos 0) in
    ap (λ c. to_end asserting_in_turns (run (in_turns s) (suc n) s c)) loop_is
    ∙ ap (first_turn n s) (positive_means (in_turns s) s 6 15)

pub loop_starts : Start (program_of asserting_in_turns) asserting_in_turns (number (pos 0) ∷ [])
loop_starts = x_starts (asserting_in_turns ∷ []) asserting_in_turns (pos 0) refl only_import refl

pub loop_fails : ¬ NeverBad (program_of asserting_in_turns)
loop_fails = alone (program_of asserting_in_turns) asserting_in_turns 1 (x_is (pos 0)) bad.Assert (place 6 8) loop_starts (turn_fails 0)

-- ---- `check X >= 0`

natural_means : (f : Frame) (s : Store) → meant f s (is_natural 6 14) ≡ applied op.GreaterOrEqual (reading f.program s x) (value.Number (pos 0))
natural_means f s =
    let step = meant_step f s in
    fold-Infix step op.GreaterOrEqual (place 6 16) (Name (x_at 6 14)) (Number (pos 0) (place 6 19))
    ∙ ap₂ (applied op.GreaterOrEqual) (fold-Name step (x_at 6 14)) (fold-Number step (pos 0) (place 6 19))

-- the call from this store, where what it checks means this
abbrev looking : Store → Value → Outcome
looking s v = to_end checking_natural (then_do (demand (as_truth v) bad.Check (place 6 8) s) Ended)

looks : (n : ℕ) (m : ℤ) (rest : Store) → call (program_of checking_natural) n checking_natural (number m ∷ rest) ≡ looking (number m ∷ rest) (applied op.GreaterOrEqual (value.Number m) (value.Number (pos 0)))
looks n m rest =
    let s : Store = number m ∷ rest in
    let f : Frame = around (program_of checking_natural) checking_natural s in
    ap (λ c. to_end checking_natural (run f n s c)) (assertion_is assertion.Check (place 6 8) (is_natural 6 14))
    ∙ ap (looking s) (natural_means f s)

pub not_negative : (n m : ℕ) (rest : Store) → call (program_of checking_natural) n checking_natural (number (pos m) ∷ rest) ≡ Ended (number (pos m) ∷ rest)
unfolding value_of_op
not_negative n m rest = looks n (pos m) rest ∙ ap (λ b. looking (number (pos m) ∷ rest) (value.Truth b)) (leb-zero m)

-- no store from which a call may start and in which X is not negative has another form
pub not_bad : (n : ℕ) (s : Store) → Start (program_of checking_natural) checking_natural s → ((m : ℕ) → look s x ≢ number (negsuc m)) → (kind : BadKind) (at : Place) → call (program_of checking_natural) n checking_natural s ≢ Bad kind at
not_bad n [] start natural kind at is = absurd (let none = start.imports_set x refl in cc)
not_bad n (None ∷ rest) start natural kind at is = absurd (let none = start.imports_set x refl in cc)
not_bad n (Some (value.Number (pos m)) ∷ rest) start natural kind at is = absurd (let both = sym (not_negative n m rest) ∙ is in cc)
not_bad n (Some (value.Number (negsuc m)) ∷ rest) start natural kind at is = absurd (natural m refl)
not_bad n (Some _ ∷ rest) start natural kind at is = absurd (let none = start.in_types x in cc)

pub negative : (n : ℕ) → call (program_of checking_natural) n checking_natural (number (negsuc 0) ∷ []) ≡ Bad bad.Check (place 6 8)
unfolding value_of_op
negative n = looks n (negsuc 0) []

pub check_starts : Start (program_of checking_natural) checking_natural (number (negsuc 0) ∷ [])
check_starts = x_starts (checking_natural ∷ []) checking_natural (negsuc 0) refl only_import refl

pub check_fails : ¬ NeverBad (program_of checking_natural)
check_fails = alone (program_of checking_natural) checking_natural 0 (x_is (negsuc 0)) bad.Check (place 6 8) check_starts (negative 0)

-- ---- a precondition on an `out` formal

-- its condition
abbrev out_is_positive : CoreExpr
out_is_positive = (pre_on (out_x_at 3 9)).condition

pub demand_refused : first_rule_breach demanding_program ≡ breach U11 3 9
demand_refused = breach_reading _ _ _ _ _ refl refl (null_is (place 6 4))

out_means : (f : Frame) (s : Store) → meant f s out_is_positive ≡ applied op.Greater (reading f.program s x) (value.Number (pos 0))
out_means f s =
    let step = meant_step f s in
    fold-Infix step op.Greater (place 3 11) (Name (out_x_at 3 9)) (Number (pos 0) (place 3 13))
    ∙ ap₂ (applied op.Greater) (fold-Name step (out_x_at 3 9)) (fold-Number step (pos 0) (place 3 13))

-- the call, where the precondition means this
abbrev demanded : ℕ → Value → Outcome
demanded n v = then_do (demand (as_truth v) bad.Pre (place 3 5) (None ∷ [])) (λ s. to_end demanding (run (around demanding_program demanding (None ∷ [])) n s (commands demanding.statements)))

pub demand_fails : (n : ℕ) → call demanding_program n demanding (number (pos 1) ∷ []) ≡ Bad bad.Pre (place 3 5)
unfolding value_of_op
demand_fails n = ap (demanded n) (out_means (around demanding_program demanding (None ∷ [])) (None ∷ []))

one_in_type : (k : ℕ) → let v : VarId = record { 0 = k } in IfSome (look (x_is (pos 1)) v) (λ y. IsTrue (is_in (types_of demanding_program) (type_of demanding_program v) y))
one_in_type zero = refl
one_in_type (suc k) = tt

one_is_positive : IsTrue (pre_holds (around demanding_program demanding (x_is (pos 1))) demanding.pre (x_is (pos 1)))
unfolding value_of_op
one_is_positive = ap as_truth (out_means (around demanding_program demanding (x_is (pos 1))) (x_is (pos 1)))

pub demand_starts : Start demanding_program demanding (number (pos 1) ∷ [])
demand_starts = record {
  precondition = one_is_positive;
  imports_set = λ v imported. absurd (let e : ⊥ = cc in e);
  in_types = λ v. one_in_type v.0;
}

pub demand_is_false : ¬ NeverBad demanding_program
demand_is_false = alone demanding_program demanding 0 (x_is (pos 1)) bad.Pre (place 3 5) demand_starts (demand_fails 0)

-- ---- two procedures

one_of_two : (subs : List Sub) → ¬ IsNeverBad (record increment { subs = subs }) inc_without_pre
unfolding value_of_op
one_of_two subs =
    let p : Program = record increment { subs = subs } in
    not_never p inc_without_pre 0 x_is_last bad.Overflow (place 6 11) (x_starts subs inc_without_pre _ refl only_import refl)
    (ap (to_end inc_without_pre) (body_runs (around p inc_without_pre x_is_last) 0 x_is_last))

pub last_fails : ¬ NeverBad bad_last
last_fails never =
    let P : Sub → Type 0 = IsNeverBad bad_last in
    one_of_two bad_last.subs (All-head P inc_without_pre [] (All-tail P inc (inc_without_pre ∷ []) never))

pub first_fails : ¬ NeverBad bad_first
first_fails never = one_of_two bad_first.subs (All-head (IsNeverBad bad_first) inc_without_pre (inc ∷ []) never)
