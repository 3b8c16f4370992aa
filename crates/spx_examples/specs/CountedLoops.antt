-- Loops over a parameter, as commands, over the variables of the procedure `Flag`: X, which is imported, and Y, which is exported. The parameter is I, of the
-- type `Positive`. A loop has its word in line 5, and its body in the lines after it.
use Rattle.std.specs.Prelude.{ℕ, ℤ, pos, Bool, false, [], ◌∷◌, ◌++◌, Option, Some, None, codes}
use Rattle.spx_core.specs.declared.entity.TheConstants.{POSITIVE}
use Rattle.spx_core.specs.declared.entity.Entity.TheVariants as entity
use Rattle.spx_core.specs.declared.entity.VarId.{VarId}
use Rattle.spx_core.specs.declared.entity.VarKind.TheVariants.{LoopParameter}
use Rattle.spx_core.specs.declared.expression.CoreExpr.{CoreExpr}
use Rattle.spx_core.specs.declared.expression.CoreExpr.TheVariants as expr
use Rattle.spx_core.specs.declared.name.CoreName.{CoreName}
use Rattle.spx_core.specs.declared.name.Reference.{Reference}
use Rattle.spx_core.specs.declared.program.Program.{Program}
use Rattle.spx_core.specs.declared.statement.CoreRange.{CoreRange}
use Rattle.spx_core.specs.declared.statement.CoreCount.{CoreCount}
use Rattle.spx_core.specs.Commands.{Command, Skip, Set, Then, Repeat, Counted}
use Rattle.spx_term.specs.declared.term.TermOp.TheVariants as sign
use Rattle.spx_term.specs.declared.term.Term.{Term}
use Rattle.spx_term.specs.declared.term.Term.TheVariants as term
use Rattle.spx_term.specs.Steps.{Tree, Assign, Assume, Split}
use Rattle.spx_meaning.specs.Frames.{around}
use Rattle.spx_meaning.specs.Runs.{Outcome, run}
use Rattle.spx_meaning.specs.Stores.{Store}
use Rattle.spx_formula.specs.Terms.{now}
use Rattle.spx_examples.specs.Flag.{flag, flag_program, named, x_at, y_at}
use Rattle.spx_examples.specs.Increment.{place, word}
use Rattle.spx_examples.specs.Names.{target_to}
use Rattle.spx_examples.specs.Variants.{number}

-- ---- loops

-- the parameter
abbrev pub i : VarId
i = record { 0 = 2 }

-- the program of `Flag` with it
abbrev pub with_parameter : Program
with_parameter = record flag_program { vars = flag_program.vars ++ record { name = codes "I"; kind = LoopParameter; type_id = POSITIVE.id } ∷ [] }

-- `I`, at its line and column
abbrev pub i_at : ℕ → ℕ → CoreName
i_at line column = record { name = word (codes "I") line column; entity = Some (entity.Variable i (record { kind = LoopParameter; subtype = POSITIVE })) }

-- `Positive`, in line 5
abbrev pub positive_named : Reference
positive_named = named (record { name = word (codes "Positive") 5 13; entity = Some (entity.TypeName POSITIVE) })

-- `for I in Positive` and these bounds, in reverse or not
abbrev pub over : (is_reverse : Bool) → Option CoreRange → CoreCount
over is_reverse bounds =
    record { place = place 5 4; name = word (codes "I") 5 8; parameter = i; again = false; word = place 5 10; is_reverse = is_reverse; type_name = positive_named; bounds = bounds }

-- such a loop
abbrev pub each : (is_reverse : Bool) → Option CoreRange → Command → Command
each is_reverse bounds body = Repeat (Counted (over is_reverse bounds)) body

-- a statement, and no more
abbrev pub only : Command → Command
only statement = Then statement Skip

-- a number, at its column in line 5
abbrev pub number_at : ℤ → ℕ → CoreExpr
number_at n column = expr.Number n (place 5 column)

-- `range low .. high`
abbrev pub between_numbers : (low high : ℤ) → Option CoreRange
between_numbers low high = Some (record { low = number_at low 28; high = number_at high 33 })

-- `range 1 .. X`
abbrev pub up_to_x : Option CoreRange
up_to_x = Some (record { low = number_at (pos 1) 28; high = expr.Name (x_at 5 33) })

-- `range 1 .. Y`
abbrev pub up_to_y : Option CoreRange
up_to_y = Some (record { low = number_at (pos 1) 28; high = expr.Name (y_at 5 33) })

-- `Y := I`
abbrev pub taking_i : Command
taking_i = only (Set (target_to (y_at 6 7)) (expr.Name (i_at 6 12)))

-- ---- runs

-- X has the value 7, Y this one, and I is unset
abbrev pub before : ℤ → Store
before y = number (pos 7) ∷ number y ∷ []

-- what holds after the loop: Y has this value, and I is unset again
abbrev pub after : ℤ → Store
after y = number (pos 7) ∷ number y ∷ None ∷ []

-- what becomes of it at this bound, from the value 0 of Y
abbrev pub runs_at : ℕ → Command → Outcome
runs_at n c = run (around with_parameter flag (before (pos 0))) n (before (pos 0)) c

-- ---- conditions

-- the value of the parameter
abbrev pub i_now : Term
i_now = term.Variable (now with_parameter i)

-- at the end of a turn: there is a next value up to this one, or I is this one
abbrev pub to_next : Term → (into out : Tree) → Tree
to_next last into out =
    Split (Assume (term.Infix sign.Less i_now last) (Assign (now with_parameter i) (term.Infix sign.Add i_now (term.Number (pos 1))) into))
    (Assume (term.Infix sign.Equal i_now last) out)

-- the same in reverse
abbrev pub to_previous : Term → (into out : Tree) → Tree
to_previous first into out =
    Split (Assume (term.Infix sign.Greater i_now first) (Assign (now with_parameter i) (term.Infix sign.Subtract i_now (term.Number (pos 1))) into))
    (Assume (term.Infix sign.Equal i_now first) out)
