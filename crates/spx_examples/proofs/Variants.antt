-- Calls of the other variants.
use Rattle.std.proofs.Common.{◌≡◌, ℕ, ℤ, pos, false, [], ◌∷◌, Option, Some, None, ap, ap₂, ◌∙◌}
use Rattle.spx_tree.specs.declared.expression.InfixOp.TheVariants as op
use Rattle.spx_tree.specs.declared.expression.PrefixOp.TheVariants.{Minus}
use Rattle.spx_core.specs.declared.entity.TheConstants.{INTEGER, NATURAL}
use Rattle.spx_core.specs.declared.expression.CoreExpr.TheVariants.{Number, Name}
use Rattle.spx_core.specs.Commands.{commands}
use Rattle.spx_core.specs.Judged.{◌>>=◌, expr_step, judged, operand_of}
use Rattle.spx_core.specs.Judged as rules
use Rattle.spx_core.specs.Places.{place_in}
use Rattle.spx_core.specs.Statements.{Typed, judged_command}
use Rattle.spx_core.proofs.Callers.Expressions.{fold-Name, fold-Number, fold-Prefix, fold-Infix}
use Rattle.spx_term.specs.declared.value.Value.{Value}
use Rattle.spx_term.specs.declared.value.Value.TheVariants as value
use Rattle.spx_term.specs.Meaning.{as_truth, value_of_op, value_of_prefix}
use Rattle.spx_meaning.specs.declared.bad.BadKind.TheVariants.{Pre, Range, Unset}
use Rattle.spx_meaning.specs.Stores.{Store}
use Rattle.spx_meaning.specs.Frames.{Frame, around}
use Rattle.spx_meaning.specs.Annotations.{meant, meant_step}
use Rattle.spx_meaning.specs.Evaluation.{Answer, Fails, applied, signed}
use Rattle.spx_meaning.specs.Runs.{Ended, Bad, then_do, use_value, assign, demand, run, call}
use Rattle.spx_examples.specs.Increment.{place, x}
use Rattle.spx_examples.specs.Flag.{x_at}
use Rattle.spx_examples.specs.Names.{target_to}
use Rattle.spx_examples.specs.Variants.{number, only_null, out_x_at, out_sub, out_program, itself, natural_x_at, natural_negated, natural_sub, natural_program, wanted, flag_with_pre, flag_with_pre_program}
use Rattle.spx_examples.proofs.Evaluations.{assigns, eval_name, eval_signed, numeric}
use Rattle.spx_examples.proofs.Statements.{assignment_is, null_is, and_no_more, to_end}
use Rattle.spx_examples.proofs.Successor.{x_is}

-- ---- an `out` formal

pub out_is_unset : (n : ℕ) (v : Option Value) → call (out_program itself) n (out_sub itself) (v ∷ []) ≡ Bad Unset (place 6 9)
out_is_unset n v =
    let f : Frame = around (out_program itself) (out_sub itself) (None ∷ []) in
    ap (to_end (out_sub itself)) (assigns f n (None ∷ []) (out_x_at 6 4) (Name (out_x_at 6 9)) (Fails Unset (place 6 9)) (eval_name f n (None ∷ []) (out_x_at 6 9)))

-- nor at the end, where the body gives it none
pub out_is_left_unset : (n : ℕ) (v : Option Value) → call (out_program only_null) n (out_sub only_null) (v ∷ []) ≡ Bad Unset (place 7 1)
out_is_left_unset n v = ap (λ c. to_end (out_sub only_null) (run (around (out_program only_null) (out_sub only_null) (None ∷ [])) n (None ∷ []) c)) (null_is (place 6 4))

-- ---- a narrower type

judged_negated : judged natural_negated ≡ numeric (place 6 9)
judged_negated = fold-Prefix expr_step Minus (place 6 9) (Name (natural_x_at 6 11)) ∙ ap (λ o. o >>= λ t. rules.sign Minus (place 6 9) t) (fold-Name expr_step (natural_x_at 6 11))

pub natural_typed : Typed natural_program
natural_typed =
    ap (λ body. and_no_more (and_no_more (judged_command body))) (assignment_is (target_to (natural_x_at 6 4)) natural_negated)
    ∙ ap (λ right. and_no_more (and_no_more (and_no_more (right >>= λ v. operand_of NATURAL v)))) judged_negated

-- around the call from this value of X
abbrev from_value : ℤ → Frame
from_value m = around natural_program natural_sub (x_is m)

-- - X is evaluated, and given to X
gives_negated : (n : ℕ) (m : ℤ) → call natural_program n natural_sub (x_is m)
    ≡ to_end natural_sub (then_do (use_value (signed Minus INTEGER.base (place 6 9) (value.Number m)) (assign natural_program (place 6 9) (Some x) (x_is m))) Ended)
gives_negated n m =
    let f : Frame = from_value m in
    let answer : Answer = signed Minus INTEGER.base (place 6 9) (value.Number m) in
    ap (to_end natural_sub)
    (assigns f n (x_is m) (natural_x_at 6 4) natural_negated answer (eval_signed f n (x_is m) Minus (place 6 9) (Name (natural_x_at 6 11)) _ _ judged_negated (eval_name f n (x_is m) (natural_x_at 6 11)))
    ∙ ap (λ at. then_do (use_value answer (assign natural_program at (Some x) (x_is m))) Ended) (fold-Prefix place_in Minus (place 6 9) (Name (natural_x_at 6 11))))

pub stays_natural : (n : ℕ) → call natural_program n natural_sub (number (pos 0) ∷ []) ≡ Ended (number (pos 0) ∷ [])
unfolding value_of_prefix
stays_natural n = gives_negated n (pos 0)

pub leaves_natural : (n : ℕ) → call natural_program n natural_sub (number (pos 41) ∷ []) ≡ Bad Range (place 6 9)
unfolding value_of_prefix
leaves_natural n = gives_negated n (pos 41)

-- ---- a precondition and an unset export

-- the store with which the call from 0 begins
abbrev zero_and_unset : Store
zero_and_unset = number (pos 0) ∷ None ∷ []

-- around that call
abbrev from_zero : Frame
from_zero = around flag_with_pre_program flag_with_pre zero_and_unset

wanted_is_false : meant from_zero zero_and_unset wanted ≡ value.Truth false
unfolding value_of_op
wanted_is_false =
    let step = meant_step from_zero zero_and_unset in
    fold-Infix step op.Greater (place 3 11) (Name (x_at 3 9)) (Number (pos 0) (place 3 13))
    ∙ ap₂ (applied op.Greater) (fold-Name step (x_at 3 9)) (fold-Number step (pos 0) (place 3 13))

pub precondition_before_export : (n : ℕ) (w : Option Value) → call flag_with_pre_program n flag_with_pre (number (pos 0) ∷ w ∷ []) ≡ Bad Pre (place 3 5)
precondition_before_export n w = ap (λ truth. then_do (demand (as_truth truth) Pre (place 3 5) zero_and_unset) (λ s. to_end flag_with_pre (run from_zero n s (commands flag_with_pre.statements)))) wanted_is_false
