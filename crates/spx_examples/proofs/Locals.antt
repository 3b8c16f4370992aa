-- Calls of the procedure with a local.
use Rattle.std.proofs.Common.{◌≡◌, ℕ, pos, negsuc, if◌then◌else◌, List, [], ◌∷◌, Option, Some, None, Ok, Err, refl, ap, ap₂, ◌∙◌}
use Rattle.spx_text.specs.declared.place.Place.{Place}
use Rattle.spx_tree.specs.declared.expression.InfixOp.TheVariants as op
use Rattle.spx_tree.specs.declared.expression.PrefixOp.TheVariants.{Minus}
use Rattle.spx_core.specs.declared.entity.TheConstants.{INTEGER, INTEGER_FIRST, INTEGER_LAST}
use Rattle.spx_core.specs.declared.expression.CoreExpr.{CoreExpr}
use Rattle.spx_core.specs.declared.expression.CoreExpr.TheVariants.{Name, Parenthesized}
use Rattle.spx_core.specs.declared.rule.Typing.{Typing}
use Rattle.spx_core.specs.declared.statement.CoreStmt.{CoreStmt}
use Rattle.spx_core.specs.declared.statement.CoreStmt.TheVariants.{Null}
use Rattle.spx_core.specs.declared.rule.RuleName.TheVariants.{N12}
use Rattle.spx_core.specs.Statements.{judged_command, judged_program}
use Rattle.spx_core.specs.Commands.{Skip, Then, commands}
use Rattle.spx_core.specs.Judged.{◌>>=◌, expr_step, judged, operand_of, typing}
use Rattle.spx_core.specs.Judged as rules
use Rattle.spx_core.specs.Places.{place_in}
use Rattle.spx_core.proofs.Callers.Expressions.{fold-Name, fold-Number, fold-Parenthesized, fold-Prefix}
use Rattle.spx_core.proofs.Callers.CommandForms.{command-Assignment}
use Rattle.spx_term.specs.declared.value.Value.{Value}
use Rattle.spx_term.specs.declared.value.Value.TheVariants as value
use Rattle.spx_term.specs.Meaning.{as_truth, value_of_op, value_of_prefix}
use Rattle.spx_meaning.specs.declared.bad.BadKind.TheVariants.{Overflow, Range, Unset}
use Rattle.spx_meaning.specs.Stores.{Store}
use Rattle.spx_meaning.specs.Frames.{Frame, around}
use Rattle.spx_meaning.specs.Evaluation.{Answer, Gives, Fails, with_value, signed, read, eval, eval-Number, eval-Parenthesized}
use Rattle.spx_meaning.specs.Runs.{Outcome, Ended, Bad, then_do, use_value, run, call}
use Rattle.spx_examples.specs.Increment.{place, x, x_at, successor}
use Rattle.spx_examples.specs.Names.{target_to}
use Rattle.spx_examples.specs.Variants.{number, local_y_at, local_sub, local_program, only_null, giving, the_local, negated, past_last, local_and_sum, sum_and_local, twice, local_above, testing}
use Rattle.spx_examples.proofs.Evaluations.{taking, assigns, eval_name, eval_signed, numeric, sum_is_not_static, comparison_is_not_static, left_fails}
use Rattle.spx_examples.proofs.Statements.{null_is, assignment_is, if_is, and_no_more, to_end}
use Rattle.spx_examples.proofs.Successor.{judged_x, judged_successor, eval_successor, step_command, successor_of, assigning, step_runs}

-- where the local is unset
abbrev unset_after : Option Value → Store
unset_after v = v ∷ None ∷ []

-- around the call with these statements
abbrev around_local : List CoreStmt → Option Value → Frame
around_local statements v = around (local_program statements) (local_sub statements) (unset_after v)

-- ---- `null`

pub null_keeps : (n : ℕ) (v : Value) (w : Option Value) → call (local_program only_null) n (local_sub only_null) (Some v ∷ w ∷ []) ≡ Ended (Some v ∷ None ∷ [])
null_keeps n v w = ap (λ c. to_end (local_sub only_null) (run (around_local only_null (Some v)) n (unset_after (Some v)) c)) (null_is (place 6 4))

-- ---- one assignment

gives : (n : ℕ) (e : CoreExpr) (v w : Option Value) (answer : Answer) → eval (around_local (giving e) v) n (unset_after v) e ≡ answer
    → call (local_program (giving e)) n (local_sub (giving e)) (v ∷ w ∷ []) ≡ to_end (local_sub (giving e)) (taking (around_local (giving e) v) (unset_after v) (x_at 6 4) e answer)
gives n e v w answer is = ap (to_end (local_sub (giving e))) (assigns (around_local (giving e) v) n (unset_after v) (x_at 6 4) e answer is)

-- ---- a read of the local

pub value_is_unset : (n : ℕ) (v w : Option Value) → call (local_program (giving the_local)) n (local_sub (giving the_local)) (v ∷ w ∷ []) ≡ Bad Unset (place 6 9)
value_is_unset n v w = gives n the_local v w (Fails Unset (place 6 9)) (eval_name (around_local (giving the_local) v) n (unset_after v) (local_y_at 6 9))

judged_local : (column : ℕ) → judged (Name (local_y_at 6 column)) ≡ numeric (place 6 column)
judged_local column = fold-Name expr_step (local_y_at 6 column)

condition_fails : (f : Frame) (n : ℕ) (v : Option Value) → eval f n (unset_after v) local_above ≡ Fails Unset (place 6 7)
condition_fails f n v =
    let none = comparison_is_not_static (place 6 9) (place 6 7) (place 6 11) (Name (local_y_at 6 7)) (Name (x_at 6 11)) (judged_local 7) (judged_x 6 11) in
    left_fails f n (unset_after v) op.Greater (place 6 9) (Name (local_y_at 6 7)) (Name (x_at 6 11)) Unset (place 6 7) none (eval_name f n (unset_after v) (local_y_at 6 7))

pub condition_is_unset : (n : ℕ) (v w : Option Value) → call (local_program testing) n (local_sub testing) (v ∷ w ∷ []) ≡ Bad Unset (place 6 7)
condition_is_unset n v w =
    let f : Frame = around_local testing v in
    let s : Store = unset_after v in
    let body : List CoreStmt = Null (place 6 18) ∷ [] in
    ap (to_end (local_sub testing))
    (ap (run f n s) (if_is (place 6 4) local_above body (record { end = place 6 24; word = place 6 28 }))
    ∙ ap (λ answer. then_do (use_value answer (λ u. if as_truth u then run f n s (commands body) else Ended s)) Ended) (condition_fails f n v))

-- ---- `X := - X`

judged_negated : judged negated ≡ numeric (place 6 9)
judged_negated = fold-Prefix expr_step Minus (place 6 9) (Name (x_at 6 11)) ∙ ap (λ o. o >>= λ t. rules.sign Minus (place 6 9) t) (judged_x 6 11)

-- the value of - X, where X is read as this
abbrev negated_of : Answer → Answer
negated_of answer = with_value answer (λ a. signed Minus INTEGER.base (place 6 9) a)

eval_negated : (f : Frame) (n : ℕ) (s : Store) → eval f n s negated ≡ negated_of (read s (place 6 11) (Some x))
eval_negated f n s = eval_signed f n s Minus (place 6 9) (Name (x_at 6 11)) _ _ judged_negated (eval_name f n s (x_at 6 11))

gives_negated : (n : ℕ) (v w : Option Value) → call (local_program (giving negated)) n (local_sub (giving negated)) (v ∷ w ∷ [])
    ≡ to_end (local_sub (giving negated)) (taking (around_local (giving negated) v) (unset_after v) (x_at 6 4) negated (negated_of (read (unset_after v) (place 6 11) (Some x))))
gives_negated n v w = gives n negated v w (negated_of (read (unset_after v) (place 6 11) (Some x))) (eval_negated (around_local (giving negated) v) n (unset_after v))

pub negates : (n : ℕ) (w : Option Value) → call (local_program (giving negated)) n (local_sub (giving negated)) (number (pos 41) ∷ w ∷ []) ≡ Ended (number (negsuc 40) ∷ None ∷ [])
unfolding value_of_prefix
negates n w = gives_negated n (number (pos 41)) w

pub negation_overflows : (n : ℕ) (w : Option Value) → call (local_program (giving negated)) n (local_sub (giving negated)) (number INTEGER_FIRST ∷ w ∷ []) ≡ Bad Overflow (place 6 9)
unfolding value_of_prefix
negation_overflows n w = gives_negated n (number INTEGER_FIRST) w

-- ---- a literal outside the type

pub literal_refused : judged_program (local_program (giving past_last)) ≡ Err (record { rule = N12; place = place 6 9 })
literal_refused =
    ap (λ body. and_no_more (and_no_more (judged_command body))) (assignment_is (target_to (x_at 6 4)) past_last)
    ∙ ap (λ right. and_no_more (and_no_more (and_no_more (right >>= λ v. operand_of INTEGER v)))) (fold-Number expr_step (pos 2147483648) (place 6 9))

pub literal_past_last : (n : ℕ) (v w : Option Value) → call (local_program (giving past_last)) n (local_sub (giving past_last)) (v ∷ w ∷ []) ≡ Bad Range (place 6 9)
literal_past_last n v w =
    gives n past_last v w (Gives (value.Number (pos 2147483648))) (eval-Number (around_local (giving past_last) v) n (unset_after v) (pos 2147483648) (place 6 9))
    ∙ ap (λ at. Bad Range at) (fold-Number place_in (pos 2147483648) (place 6 9))

-- ---- which operand is met first

judged_sum : (at column : ℕ) → judged (Parenthesized (place 6 at) (successor 6 column)) ≡ numeric (place 6 at)
judged_sum at column = fold-Parenthesized expr_step (place 6 at) (successor 6 column) ∙ ap (λ inner. inner >>= λ (e : Typing). Ok (typing e.of e.value (place 6 at))) (judged_successor 6 column)

-- the store with which these calls begin
abbrev last_and_unset : Store
last_and_unset = unset_after (number INTEGER_LAST)

pub local_before_sum : (n : ℕ) (w : Option Value) → call (local_program (giving local_and_sum)) n (local_sub (giving local_and_sum)) (number INTEGER_LAST ∷ w ∷ []) ≡ Bad Unset (place 6 9)
local_before_sum n w =
    let f : Frame = around_local (giving local_and_sum) (number INTEGER_LAST) in
    let sum : CoreExpr = Parenthesized (place 6 13) (successor 6 14) in
    let none = sum_is_not_static (place 6 11) (place 6 9) (place 6 13) (Name (local_y_at 6 9)) sum (judged_local 9) (judged_sum 13 14) in
    gives n local_and_sum (number INTEGER_LAST) w (Fails Unset (place 6 9)) (left_fails f n last_and_unset op.Add (place 6 11) (Name (local_y_at 6 9)) sum Unset (place 6 9) none (eval_name f n last_and_unset (local_y_at 6 9)))

sum_overflows : (f : Frame) (n : ℕ) → eval f n last_and_unset (Parenthesized (place 6 9) (successor 6 10)) ≡ Fails Overflow (place 6 12)
unfolding value_of_op
sum_overflows f n = eval-Parenthesized f n last_and_unset (place 6 9) (successor 6 10) ∙ eval_successor f n last_and_unset 6 10

pub sum_before_local : (n : ℕ) (w : Option Value) → call (local_program (giving sum_and_local)) n (local_sub (giving sum_and_local)) (number INTEGER_LAST ∷ w ∷ []) ≡ Bad Overflow (place 6 12)
sum_before_local n w =
    let f : Frame = around_local (giving sum_and_local) (number INTEGER_LAST) in
    let sum : CoreExpr = Parenthesized (place 6 9) (successor 6 10) in
    let none = sum_is_not_static (place 6 17) (place 6 9) (place 6 19) sum (Name (local_y_at 6 19)) (judged_sum 9 10) (judged_local 19) in
    gives n sum_and_local (number INTEGER_LAST) w (Fails Overflow (place 6 12)) (left_fails f n last_and_unset op.Add (place 6 17) sum (Name (local_y_at 6 19)) Overflow (place 6 12) none (sum_overflows f n))

-- ---- one statement after the other

twice_command : commands twice ≡ Then (step_command 6 4 9) (Then (step_command 6 16 21) Skip)
twice_command = ap₂ Then (command-Assignment (target_to (x_at 6 4)) (successor 6 9)) (assignment_is (target_to (x_at 6 16)) (successor 6 21))

-- X := X + 1 at this place, whose X is read at the other
abbrev stepped : Frame → Store → Place → Place → Outcome
stepped f s at name = assigning f.program s at (successor_of at (read s name (Some x)))

first_step : (f : Frame) (n : ℕ) (s : Store) → run f n s (commands twice) ≡ then_do (stepped f s (place 6 11) (place 6 9)) (λ t. run f n t (Then (step_command 6 16 21) Skip))
first_step f n s = ap (run f n s) twice_command ∙ ap (λ outcome. then_do outcome (λ t. run f n t (Then (step_command 6 16 21) Skip))) (step_runs f n s 6 4 9)

both_steps : (f : Frame) (n : ℕ) (s t : Store) → stepped f s (place 6 11) (place 6 9) ≡ Ended t → run f n s (commands twice) ≡ then_do (stepped f t (place 6 23) (place 6 21)) Ended
both_steps f n s t first =
    first_step f n s
    ∙ ap (λ outcome. then_do outcome (λ u. run f n u (Then (step_command 6 16 21) Skip))) first
    ∙ ap (λ outcome. then_do outcome Ended) (step_runs f n t 6 16 21)

pub both_add : (n : ℕ) (w : Option Value) → call (local_program twice) n (local_sub twice) (number (pos 40) ∷ w ∷ []) ≡ Ended (number (pos 42) ∷ None ∷ [])
unfolding value_of_op
both_add n w = ap (to_end (local_sub twice)) (both_steps (around_local twice (number (pos 40))) n (unset_after (number (pos 40))) (unset_after (number (pos 41))) refl)

pub second_overflows : (n : ℕ) (w : Option Value) → call (local_program twice) n (local_sub twice) (number (pos 2147483646) ∷ w ∷ []) ≡ Bad Overflow (place 6 23)
unfolding value_of_op
second_overflows n w = ap (to_end (local_sub twice)) (both_steps (around_local twice (number (pos 2147483646))) n (unset_after (number (pos 2147483646))) last_and_unset refl)

pub first_overflows : (n : ℕ) (w : Option Value) → call (local_program twice) n (local_sub twice) (number INTEGER_LAST ∷ w ∷ []) ≡ Bad Overflow (place 6 11)
unfolding value_of_op
first_overflows n w = ap (to_end (local_sub twice)) (first_step (around_local twice (number INTEGER_LAST)) n last_and_unset)
