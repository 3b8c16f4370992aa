-- The expression `X + 1` and the statement `X := X + 1`, at any place: types, reads, values and runs.
use Rattle.std.proofs.Common.{◌≡◌, ℕ, ◌+◌, pos, Some, None, Ok, ap, ap₂, ◌∙◌, [], ◌∷◌, List, ◌++◌, ℤ}
use Rattle.std.specs.List.{filter_map}
use Rattle.spx_text.specs.declared.place.Place.{Place}
use Rattle.spx_tree.specs.declared.expression.InfixOp.TheVariants as op
use Rattle.spx_core.specs.declared.entity.TheConstants.{INTEGER}
use Rattle.spx_core.specs.declared.rule.ExprType.TheVariants.{Of}
use Rattle.spx_core.specs.declared.name.CoreName.{CoreName}
use Rattle.spx_core.specs.declared.expression.CoreExpr.TheVariants.{Name, Number}
use Rattle.spx_core.specs.declared.program.Program.{Program}
use Rattle.spx_core.specs.Judged.{◌>>=◌, expr_step, judged, typing, operand_of}
use Rattle.spx_core.specs.Commands.{Command, Set}
use Rattle.spx_core.specs.Statements.{judged_command}
use Rattle.spx_core.specs.Reads.{names_read, names_step}
use Rattle.spx_core.specs.Effects.{assign, effect, read_of}
use Rattle.spx_core.specs.Places.{place_in, place_of}
use Rattle.spx_core.proofs.Callers.Expressions.{fold-Name, fold-Number, fold-Infix}
use Rattle.spx_term.specs.declared.value.Value.TheVariants as value
use Rattle.spx_meaning.specs.Literals.{literal, literal_in}
use Rattle.spx_meaning.specs.Stores.{Store}
use Rattle.spx_meaning.specs.Frames.{Frame}
use Rattle.spx_meaning.specs.Evaluation.{Answer, with_value, applied, in_base, read, eval, eval-Number}
use Rattle.spx_meaning.specs.Runs.{Outcome, use_value, run}
use Rattle.spx_meaning.specs.Runs as runs
use Rattle.spx_examples.specs.Increment.{place, x_at, successor, x}
use Rattle.spx_examples.proofs.Evaluations.{eval_name, eval_operated}
use Rattle.spx_examples.proofs.Statements.{operating}
use Rattle.spx_examples.specs.Names.{target_to}

pub judged_x : (line column : ℕ) → judged (Name (x_at line column)) ≡ Ok (typing (Of INTEGER.base) None (place line column))
judged_x line column = fold-Name expr_step (x_at line column)

pub judged_successor : (line column : ℕ) → judged (successor line column) ≡ Ok (typing (Of INTEGER.base) None (place line (column + 2)))
judged_successor line column =
    fold-Infix expr_step op.Add (place line (column + 2)) (Name (x_at line column)) (Number (pos 1) (place line (column + 4)))
    ∙ ap₂ (operating op.Add (place line (column + 2))) (judged_x line column) (fold-Number expr_step (pos 1) (place line (column + 4)))

pub successor_is_not : (line column : ℕ) → literal (successor line column) ≡ None
successor_is_not line column = ap literal_in (judged_successor line column)

-- ---- the statement

-- `X := X + 1`
abbrev pub step_command : (line target value : ℕ) → Command
step_command line target value = Set (target_to (x_at line target)) (successor line value)

pub step_typed : (line target value : ℕ) → judged_command (step_command line target value) ≡ Ok tt
step_typed line target value = ap (λ right. right >>= λ v. operand_of INTEGER v) (judged_successor line value)

-- ---- what it reads

names_read_are : (line column : ℕ) → names_read (successor line column) ≡ x_at line column ∷ []
names_read_are line column =
    fold-Infix names_step op.Add (place line (column + 2)) (Name (x_at line column)) (Number (pos 1) (place line (column + 4)))
    ∙ ap₂ (λ (a b : List CoreName). a ++ b) (fold-Name names_step (x_at line column)) (fold-Number names_step (pos 1) (place line (column + 4)))

pub step_effect : (line target value : ℕ) → effect (step_command line target value) ≡ assign (Some x) ((place line value, x) ∷ []) (place line target)
step_effect line target value = ap (λ names. assign (Some x) (filter_map read_of (names ++ [])) (place line target)) (names_read_are line value)

-- ---- values and runs

-- X has this value
abbrev pub x_is : ℤ → Store
x_is n = Some (value.Number n) ∷ []

-- a sum is at its operator
pub place_of_successor : (line column : ℕ) → place_of (successor line column) ≡ place line (column + 2)
place_of_successor line column = fold-Infix place_in op.Add (place line (column + 2)) (Name (x_at line column)) (Number (pos 1) (place line (column + 4)))

-- the value of X + 1, where X is read as this
abbrev pub successor_of : Place → Answer → Answer
successor_of at answer = with_value answer (λ y. in_base INTEGER.base at (applied op.Add y (value.Number (pos 1))))

pub eval_successor : (f : Frame) (n : ℕ) (s : Store) (line column : ℕ) → eval f n s (successor line column) ≡ successor_of (place line (column + 2)) (read s (place line column) (Some x))
eval_successor f n s line column =
    eval_operated f n s op.Add (place line (column + 2)) (Name (x_at line column)) (Number (pos 1) (place line (column + 4))) _ _ _
    (judged_successor line column) (eval_name f n s (x_at line column)) (eval-Number f n s (pos 1) (place line (column + 4)))

-- X := X + 1, where the right side gives this
abbrev pub assigning : Program → Store → Place → Answer → Outcome
assigning p s at answer = use_value answer (runs.assign p at (Some x) s)

pub step_runs : (f : Frame) (n : ℕ) (s : Store) (line target value : ℕ) → run f n s (step_command line target value) ≡ assigning f.program s (place line (value + 2)) (successor_of (place line (value + 2)) (read s (place line value) (Some x)))
step_runs f n s line target value = ap₂ (λ answer at. assigning f.program s at answer) (eval_successor f n s line value) (place_of_successor line value)
