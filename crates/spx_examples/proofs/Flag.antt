-- The procedure `Flag`: it breaks no static rule, and may leave Y unset.
use Rattle.std.proofs.Common.{◌≡◌, inr, ℕ, pos, if◌then◌else◌, List, [], ◌∷◌, ◌++◌, Ok, Some, None, refl, sym, ap, ap₂, subst, ◌∙◌}
use Rattle.std.specs.List.{filter_map}
use Rattle.spx_tree.specs.declared.expression.InfixOp.TheVariants as op
use Rattle.spx_core.specs.declared.entity.TheConstants.{BOOLEAN, INTEGER}
use Rattle.spx_core.specs.declared.expression.CoreExpr.TheVariants.{Name, Number}
use Rattle.spx_core.specs.declared.name.CoreName.{CoreName}
use Rattle.spx_core.specs.declared.rule.ExprType.TheVariants.{Universal, Of}
use Rattle.spx_core.specs.Commands.{Command, Skip, Set, Then, Choose, commands}
use Rattle.spx_core.specs.Judged.{◌>>=◌, condition, expr_step, judged, operand_of, typing}
use Rattle.spx_core.specs.Statements.{Typed, judged_command}
use Rattle.spx_core.specs.declared.statement.Around.TheVariants.{Other}
use Rattle.spx_core.specs.Obeyed.{Obeys, obeyed_command}
use Rattle.spx_core.specs.Reads.{names_read, names_step}
use Rattle.spx_core.specs.Effects.{assign, choose, effect, next, nothing, read_of}
use Rattle.spx_core.specs.Ways.{Free, Goes}
use Rattle.spx_core.specs.FlowRules.{body_effect, MayBeUnset, left}
use Rattle.spx_core.specs.Places.{place_of}
use Rattle.spx_core.proofs.Callers.Expressions.{fold-Name, fold-Number, fold-Infix}
use Rattle.spx_term.specs.declared.value.Value.{Value}
use Rattle.spx_term.specs.declared.value.Value.TheVariants as value
use Rattle.spx_term.specs.Meaning.{as_truth, value_of_op}
use Rattle.spx_meaning.specs.declared.bad.BadKind.TheVariants.{Unset}
use Rattle.spx_meaning.specs.Stores.{Store}
use Rattle.spx_meaning.specs.Frames.{Frame, around}
use Rattle.spx_meaning.specs.Evaluation.{Answer, Gives, with_value, applied, read, eval, eval-Number}
use Rattle.spx_meaning.specs.Runs.{Outcome, Ended, Bad, then_do, use_value, run, call, entry_of}
use Rattle.spx_meaning.specs.Runs as runs
use Rattle.spx_examples.specs.Increment.{place, x}
use Rattle.spx_examples.specs.Flag.{y, x_at, y_at, positive, one, setting, closing, branch, flag, flag_program, flag_effect}
use Rattle.spx_examples.proofs.Evaluations.{eval_name, eval_operated}
use Rattle.spx_examples.proofs.Statements.{assignment_is, if_is, operating, and_no_more, to_end}
use Rattle.spx_examples.specs.Names.{target_to}

-- ---- rules

-- where X is positive, Y := 1
abbrev branch_command : Command
branch_command = Choose (place 5 4) positive (Then (Set (target_to (y_at 6 7)) one) Skip) Skip

pub flag_command : commands (branch ∷ []) ≡ Then branch_command Skip
flag_command = if_is (place 5 4) positive (setting ∷ []) closing ∙ ap (λ body. Then (Choose (place 5 4) positive body Skip) Skip) (assignment_is (target_to (y_at 6 7)) one)

judged_positive : judged positive ≡ Ok (typing (Of BOOLEAN.base) None (place 5 9))
judged_positive =
    fold-Infix expr_step op.Greater (place 5 9) (Name (x_at 5 7)) (Number (pos 0) (place 5 11))
    ∙ ap₂ (operating op.Greater (place 5 9)) (fold-Name expr_step (x_at 5 7)) (fold-Number expr_step (pos 0) (place 5 11))

judged_one : judged one ≡ Ok (typing Universal (Some (pos 1)) (place 6 12))
judged_one = fold-Number expr_step (pos 1) (place 6 12)

pub typed : Typed flag_program
typed =
    ap (λ body. and_no_more (and_no_more (judged_command body))) flag_command
    ∙ ap₂ (λ test right. and_no_more (and_no_more (and_no_more ((test >>= λ t. condition t) >>= λ _. and_no_more (right >>= λ v. operand_of INTEGER v) >>= λ _. Ok tt)))) judged_positive judged_one

pub obeys : Obeys flag_program
obeys = ap (λ body. and_no_more (obeyed_command Other body)) flag_command

-- ---- flow

pub names_read_are : names_read positive ≡ x_at 5 7 ∷ []
names_read_are =
    fold-Infix names_step op.Greater (place 5 9) (Name (x_at 5 7)) (Number (pos 0) (place 5 11))
    ∙ ap₂ (λ (a b : List CoreName). a ++ b) (fold-Name names_step (x_at 5 7)) (fold-Number names_step (pos 0) (place 5 11))

pub effect_is : body_effect flag ≡ flag_effect
effect_is =
    ap effect flag_command
    ∙ ap₂ (λ tests values. next (choose (filter_map read_of tests) (next (assign (Some y) (filter_map read_of (values ++ [])) (place 6 7)) nothing) nothing (place 5 4)) nothing) names_read_are (fold-Number names_step (pos 1) (place 6 12))

-- the way past the arm sets nothing
way_past : Free (Goes flag_effect) y
way_past = ([], ([], [], refl, inr refl, refl), refl)

pub may_be_unset : MayBeUnset flag_program flag (place 8 1) y
may_be_unset = left refl refl (subst (λ e. Free (Goes e) y) (sym effect_is) way_past)

-- ---- runs

-- whether X is positive, where X is read as this
abbrev positive_of : Answer → Answer
positive_of answer = with_value answer (λ v. Gives (applied op.Greater v (value.Number (pos 0))))

eval_positive : (f : Frame) (n : ℕ) (s : Store) → eval f n s positive ≡ positive_of (read s (place 5 7) (Some x))
eval_positive f n s =
    eval_operated f n s op.Greater (place 5 9) (Name (x_at 5 7)) (Number (pos 0) (place 5 11)) _ _ _
    judged_positive (eval_name f n s (x_at 5 7)) (eval-Number f n s (pos 0) (place 5 11))

-- the body, where its condition and the right side have these answers
abbrev branching : Frame → Store → Answer → Answer → Outcome
branching f s test right = then_do (use_value test (λ v. if as_truth v then then_do (use_value right (runs.assign f.program (place_of one) (Some y) s)) Ended else Ended s)) Ended

branch_runs : (f : Frame) (n : ℕ) (s : Store) → run f n s (commands (branch ∷ [])) ≡ branching f s (positive_of (read s (place 5 7) (Some x))) (Gives (value.Number (pos 1)))
branch_runs f n s = ap (run f n s) flag_command ∙ ap₂ (branching f s) (eval_positive f n s) (eval-Number f n s (pos 1) (place 6 12))

-- from 1 the arm sets Y
pub sets_y : (n : ℕ) (v : Value) → call flag_program n flag (Some (value.Number (pos 1)) ∷ Some v ∷ []) ≡ Ended (Some (value.Number (pos 1)) ∷ Some (value.Number (pos 1)) ∷ [])
unfolding value_of_op
sets_y n v = let s = entry_of flag_program flag (Some (value.Number (pos 1)) ∷ Some v ∷ []) in ap (to_end flag) (branch_runs (around flag_program flag s) n s)

-- from 0 nothing does, which is bad at the end
pub leaves_y : (n : ℕ) (v : Value) → call flag_program n flag (Some (value.Number (pos 0)) ∷ Some v ∷ []) ≡ Bad Unset (place 8 1)
unfolding value_of_op
leaves_y n v = let s = entry_of flag_program flag (Some (value.Number (pos 0)) ∷ Some v ∷ []) in ap (to_end flag) (branch_runs (around flag_program flag s) n s)
