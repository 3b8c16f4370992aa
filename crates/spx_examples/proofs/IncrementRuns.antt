-- Calls of the procedure `Inc`.
use Rattle.std.proofs.Common.{◌≡◌, ℕ, ℤ, pos, [], ◌∷◌, Some, ap, ap₂, ◌∙◌}
use Rattle.std.specs.Prelude.{codes, int_lt}
use Rattle.spx_tree.specs.declared.expression.InfixOp.TheVariants as op
use Rattle.spx_core.specs.declared.entity.TheConstants.{INTEGER_LAST}
use Rattle.spx_core.specs.declared.expression.CoreExpr.TheVariants.{Name}
use Rattle.spx_core.specs.declared.program.Program.{Program}
use Rattle.spx_core.specs.Commands.{commands}
use Rattle.spx_core.proofs.Callers.Expressions.{fold-Name, fold-Attribute, fold-Infix}
use Rattle.spx_term.specs.declared.value.Value.{Value}
use Rattle.spx_term.specs.declared.value.Value.TheVariants as value
use Rattle.spx_term.specs.Meaning.{as_truth, value_of_op}
use Rattle.spx_meaning.specs.declared.bad.BadKind.TheVariants.{Pre}
use Rattle.spx_meaning.specs.Stores.{Store}
use Rattle.spx_meaning.specs.Frames.{Frame, around}
use Rattle.spx_meaning.specs.Evaluation.{applied, read}
use Rattle.spx_meaning.specs.Annotations.{meant, meant_step}
use Rattle.spx_meaning.specs.Runs.{Outcome, Ended, Bad, then_do, demand, run, call}
use Rattle.spx_examples.specs.Increment.{place, word, x, x_at, integer_at, integer_last, below_last, step, inc, increment}
use Rattle.spx_examples.proofs.Successor.{assigning, x_is, successor_of, step_runs}
use Rattle.spx_examples.proofs.IncrementRules.{inc_command}
use Rattle.spx_examples.proofs.Statements.{to_end}

-- ---- the body

abbrev pub stepped : Program → Store → Outcome
stepped p s = assigning p s (place 6 11) (successor_of (place 6 11) (read s (place 6 9) (Some x)))

pub body_runs : (f : Frame) (n : ℕ) (s : Store) → run f n s (commands (step ∷ [])) ≡ then_do (stepped f.program s) Ended
body_runs f n s = ap (run f n s) inc_command ∙ ap (λ outcome. then_do outcome Ended) (step_runs f n s 6 4 9)

-- ---- the precondition

-- around the call from this value of X
abbrev frame : ℤ → Frame
frame m = around increment inc (x_is m)

pub precondition_means : (m : ℤ) → meant (frame m) (x_is m) below_last ≡ value.Truth (int_lt m INTEGER_LAST)
unfolding value_of_op
precondition_means m =
    let step = meant_step (frame m) (x_is m) in
    fold-Infix step op.Less (place 3 11) (Name (x_at 3 9)) integer_last
    ∙ ap₂ (applied op.Less) (fold-Name step (x_at 3 9)) (fold-Attribute step (integer_at 3 13) (word (codes "Last") 3 21))

-- a call from this value of X, where the precondition means this
abbrev from_value : ℤ → ℕ → Value → Outcome
from_value m n truth = then_do (demand (as_truth truth) Pre (place 3 5) (x_is m)) (λ s. to_end inc (run (frame m) n s (commands (step ∷ []))))

-- a call from 41 ends at 42
pub increments : (n : ℕ) → call increment n inc (x_is (pos 41)) ≡ Ended (x_is (pos 42))
unfolding value_of_op
increments n = ap (from_value (pos 41) n) (precondition_means (pos 41)) ∙ ap (to_end inc) (body_runs (frame (pos 41)) n (x_is (pos 41)))

-- from the last value the precondition is false, which is bad at its word, before anything else
pub refused : (n : ℕ) → call increment n inc (x_is INTEGER_LAST) ≡ Bad Pre (place 3 5)
refused n = ap (from_value INTEGER_LAST n) (precondition_means INTEGER_LAST)
