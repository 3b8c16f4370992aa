-- Calls of the procedure `Next`.
use Rattle.std.proofs.Common.{◌≡◌, ℕ, ℤ, pos, if◌then◌else◌, [], ◌∷◌, Some, ap, ap₂, ◌∙◌}
use Rattle.spx_tree.specs.declared.expression.InfixOp.TheVariants as op
use Rattle.spx_core.specs.declared.entity.TheConstants.{INTEGER_LAST}
use Rattle.spx_core.specs.declared.expression.CoreExpr.TheVariants.{Number, Name}
use Rattle.spx_core.specs.Commands.{commands}
use Rattle.spx_term.specs.declared.value.Value.TheVariants as value
use Rattle.spx_term.specs.Meaning.{as_truth, value_of_op}
use Rattle.spx_meaning.specs.Stores.{Store}
use Rattle.spx_meaning.specs.Frames.{Frame, around}
use Rattle.spx_meaning.specs.Evaluation.{Answer, Gives, with_value, applied, read, eval, eval-Number}
use Rattle.spx_meaning.specs.Runs.{Outcome, Ended, then_do, use_value, run, call}
use Rattle.spx_examples.specs.Increment.{place, x, x_at}
use Rattle.spx_examples.specs.Refused.{x_is_last}
use Rattle.spx_examples.specs.Next.{below_hundred, branch, next_sub, next_program}
use Rattle.spx_examples.proofs.Successor.{x_is, successor_of, assigning, step_runs}
use Rattle.spx_examples.proofs.Evaluations.{eval_name, eval_operated}
use Rattle.spx_examples.proofs.Statements.{to_end}
use Rattle.spx_examples.proofs.NextRules.{next_command, judged_below}

-- whether X is below 100, where X is read as this
abbrev pub below_of : Answer → Answer
below_of answer = with_value answer (λ y. Gives (applied op.Less y (value.Number (pos 100))))

pub eval_below : (f : Frame) (n : ℕ) (s : Store) → eval f n s below_hundred ≡ below_of (read s (place 5 7) (Some x))
eval_below f n s =
    eval_operated f n s op.Less (place 5 9) (Name (x_at 5 7)) (Number (pos 100) (place 5 11)) _ _ _
    judged_below (eval_name f n s (x_at 5 7)) (eval-Number f n s (pos 100) (place 5 11))

-- the body, where its condition has this answer, and its assignment this outcome
abbrev branching : Store → Answer → Outcome → Outcome
branching s answer outcome = then_do (use_value answer (λ v. if as_truth v then then_do outcome Ended else Ended s)) Ended

branch_runs : (f : Frame) (n : ℕ) (s : Store)
    → run f n s (commands (branch ∷ [])) ≡ branching s (below_of (read s (place 5 7) (Some x))) (assigning f.program s (place 6 14) (successor_of (place 6 14) (read s (place 6 12) (Some x))))
branch_runs f n s = ap (run f n s) next_command ∙ ap₂ (branching s) (eval_below f n s) (step_runs f n s 6 7 12)

-- the call from this value of X
abbrev frame : ℤ → Frame
frame m = around next_program next_sub (x_is m)

-- a call from 41 ends at 42, one from 100 stays there
pub steps : (n : ℕ) → call next_program n next_sub (x_is (pos 41)) ≡ Ended (x_is (pos 42))
unfolding value_of_op
steps n = ap (to_end next_sub) (branch_runs (frame (pos 41)) n (x_is (pos 41)))

pub stays : (n : ℕ) → call next_program n next_sub (x_is (pos 100)) ≡ Ended (x_is (pos 100))
unfolding value_of_op
stays n = ap (to_end next_sub) (branch_runs (frame (pos 100)) n (x_is (pos 100)))

-- as does one from the last value
pub stays_last : (n : ℕ) → call next_program n next_sub x_is_last ≡ Ended x_is_last
unfolding value_of_op
stays_last n = ap (to_end next_sub) (branch_runs (frame INTEGER_LAST) n x_is_last)
