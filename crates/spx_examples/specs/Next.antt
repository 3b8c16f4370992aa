-- A procedure with a branch, as it is written and resolved, its paths and its verification conditions:
--
--     procedure Next (X : in out Integer)
--     --# derives X from X;
--     is
--     begin
--        if X < 100 then
--           X := X + 1;
--        end if;
--     end Next;
use Rattle.std.specs.Prelude.{ℕ, ◌+◌, pos, false, List, [], ◌∷◌, ◌++◌, map, Some, None, codes}
use Rattle.spx_tree.specs.declared.annotation.DerivesItem.{DerivesItem}
use Rattle.spx_tree.specs.declared.annotation.Exports.TheVariants as exports
use Rattle.spx_tree.specs.declared.expression.InfixOp.TheVariants as op
use Rattle.spx_tree.specs.declared.expression.Expr.{Expr}
use Rattle.spx_tree.specs.declared.expression.Expr.TheVariants as written_expr
use Rattle.spx_tree.specs.declared.statement.Arm.{Arm}
use Rattle.spx_tree.specs.declared.statement.Closing.{Closing}
use Rattle.spx_tree.specs.declared.statement.Stmt.{Stmt}
use Rattle.spx_tree.specs.declared.statement.Stmt.TheVariants as written_stmt
use Rattle.spx_tree.specs.declared.subprogram.Param.{Param}
use Rattle.spx_tree.specs.declared.subprogram.Subprogram.{Subprogram}
use Rattle.spx_tree.specs.declared.subprogram.Unit.{Unit}
use Rattle.spx_tree.specs.declared.subprogram.Unit.TheVariants as unit
use Rattle.spx_tree.specs.declared.subprogram.WrittenMode.TheVariants as written
use Rattle.spx_core.specs.declared.entity.Entity.TheVariants as entity
use Rattle.spx_core.specs.declared.expression.CoreExpr.{CoreExpr}
use Rattle.spx_core.specs.declared.expression.CoreExpr.TheVariants as expr
use Rattle.spx_core.specs.declared.name.Defining.{Defining}
use Rattle.spx_core.specs.declared.program.Program.{Program}
use Rattle.spx_core.specs.declared.statement.CoreStmt.{CoreStmt}
use Rattle.spx_core.specs.declared.statement.CoreStmt.TheVariants as stmt
use Rattle.spx_core.specs.declared.dependency.CoreDerivesItem.{CoreDerivesItem}
use Rattle.spx_core.specs.declared.subprogram.CoreParam.{CoreParam}
use Rattle.spx_core.specs.declared.subprogram.Sub.{Sub}
use Rattle.spx_core.specs.Effects.{Effect, nothing, assign, next, choose}
use Rattle.spx_term.specs.declared.condition.CondKind.TheVariants.{Overflow, Range}
use Rattle.spx_term.specs.declared.condition.Condition.{Condition}
use Rattle.spx_term.specs.declared.path.PathStep.{PathStep}
use Rattle.spx_term.specs.declared.path.PathStep.TheVariants as path
use Rattle.spx_term.specs.declared.term.TermOp.TheVariants as sign
use Rattle.spx_term.specs.declared.term.TermPrefix.TheVariants.{Not}
use Rattle.spx_term.specs.declared.term.Term.{Term}
use Rattle.spx_term.specs.declared.term.Term.TheVariants as term
use Rattle.spx_term.specs.Steps.{Tree, Assume, Split}
use Rattle.spx_formula.specs.Terms.{now, now_term}
use Rattle.spx_examples.specs.Branches.{arm}
use Rattle.spx_examples.specs.Increment.{place, word, x_written, successor_written, x, object, x_at, x_named, integer_at, successor, inc_id, increment, entry_x, at_least_first, at_most_last, known_below, sum_goals}
use Rattle.spx_examples.specs.Names.{reference_to, simple, target_to, value_named}

-- ---- the text

-- `X : in out Integer`
abbrev pub formal_written : Param
formal_written = record { names = word (codes "X") 1 17 ∷ []; mode = written.InOut (place 1 21); type_name = simple (word (codes "Integer") 1 28) }

-- `X from X`
abbrev pub relation_written : DerivesItem
relation_written = record { exports = exports.Names (x_written 2 13 ∷ []); imports = record { itself = None; names = x_written 2 20 ∷ [] } }

-- `X < 100`, whose X is at this line and column
abbrev pub below_written : ℕ → ℕ → Expr
below_written line column = written_expr.Infix op.Less (place line (column + 2)) (value_named (x_written line column)) (written_expr.Number (pos 100) (place line (column + 4)))

-- `X := X + 1`
abbrev pub step_written : Stmt
step_written = written_stmt.Assignment (x_written 6 7) (successor_written 6 12)

-- `if X < 100 then` and the statement
abbrev pub arm_written : Arm
arm_written = record { place = place 5 4; condition = below_written 5 7; body = step_written ∷ [] }

-- `end if`
abbrev pub closing : Closing
closing = record { end = place 7 4; word = place 7 8 }

-- the procedure
abbrev pub next_written : Subprogram
next_written = record {
  place = place 1 1;
  name = word (codes "Next") 1 11;
  formal_part = Some (record { place = place 1 16; params = formal_written ∷ [] });
  derives = Some (record { place = place 2 5; items = relation_written ∷ [] });
  pre = None;
  post = None;
  declarations = [];
  statements = written_stmt.If (arm_written ∷ []) None closing ∷ [];
  end = place 8 1;
  end_name = Some (word (codes "Next") 8 5);
}

-- the units of the text
abbrev pub next_units : List Unit
next_units = unit.Subprogram next_written ∷ []

-- ---- the program

-- `X`, where it is declared
abbrev pub x_declared : Defining
x_declared = record { name = word (codes "X") 1 17; entity = entity.Variable x object; again = false }

-- `Next`, where it is declared
abbrev pub next_declared : Defining
next_declared = record { name = word (codes "Next") 1 11; entity = entity.Subprogram inc_id; again = false }

-- `X : in out Integer`
abbrev pub formal : CoreParam
formal = record { names = x_declared ∷ []; mode = written.InOut (place 1 21); type_name = reference_to (integer_at 1 28) }

-- `X from X`
abbrev pub relation : CoreDerivesItem
relation = record { null = None; exports = x_named 2 13 ∷ []; itself = None; imports = x_named 2 20 ∷ [] }

-- `X < 100`, whose X is at this line and column
abbrev pub below_hundred_at : ℕ → ℕ → CoreExpr
below_hundred_at line column = expr.Infix op.Less (place line (column + 2)) (expr.Name (x_at line column)) (expr.Number (pos 100) (place line (column + 4)))

-- `X < 100`
abbrev pub below_hundred : CoreExpr
below_hundred = below_hundred_at 5 7

-- `X := X + 1`
abbrev pub step : CoreStmt
step = stmt.Assignment (target_to (x_at 6 7)) (successor 6 12)

-- `if X < 100 then X := X + 1; end if`
abbrev pub branch : CoreStmt
branch = stmt.If (arm (place 5 4) below_hundred (step ∷ []) ∷ []) None closing

-- the procedure
abbrev pub next_sub : Sub
next_sub = record {
  place = place 1 1;
  name = next_declared;
  formal_part = Some (record { place = place 1 16; params = formal ∷ [] });
  derives = Some (record { place = place 2 5; items = relation ∷ [] });
  pre = None;
  post = None;
  declarations = [];
  statements = branch ∷ [];
  end = place 8 1;
  end_name = Some (word (codes "Next") 8 5);
  vars = x ∷ [];
  formal_count = 1;
  local_count = 0;
}

-- the program of the one procedure
abbrev pub next_program : Program
next_program = record increment { subs = next_sub ∷ [] }

-- it reads X to choose an arm, and one of its arms sets X, and reads X for that
abbrev pub next_effect : Effect
next_effect = next (choose ((place 5 7, x) ∷ []) (next (assign (Some x) ((place 6 12, x) ∷ []) (place 6 7)) nothing) nothing (place 5 4)) nothing

-- ---- the paths

-- the value of X now
abbrev pub x_now : Term
x_now = now_term next_program x

-- `X < 100`, of the value now
abbrev pub below_now : Term
below_now = term.Infix sign.Less x_now (term.Number (pos 100))

-- where it is tested: the one where it is true, the other where it is not
abbrev pub forked : (holds fails : Tree) → Tree
forked holds fails = Split (Assume below_now holds) (Assume (term.Prefix Not below_now) fails)

-- `X + 1`, of the value now
abbrev pub next_now : Term
next_now = term.Infix sign.Add x_now (term.Number (pos 1))

-- X stands for its entry value, which lies in its type
abbrev pub entering_steps : List PathStep
entering_steps = path.Assign (now next_program x) entry_x ∷ path.Assume (at_least_first x_now) ∷ path.Assume (at_most_last x_now) ∷ []

-- what is to be shown of the sum
abbrev pub sum_checks : List Term
sum_checks = at_least_first next_now ∷ at_most_last next_now ∷ []

-- through the arm
abbrev pub path_through_arm : List PathStep
path_through_arm =
    entering_steps
    ++ path.Assume below_now
    ∷ path.Prove Overflow (place 6 14) sum_checks
    ∷ map path.Assume sum_checks
    ++ path.Prove Range (place 6 14) sum_checks
    ∷ map path.Assume sum_checks
    ++ path.Assign (now next_program x) next_now
    ∷ []

-- and past it
abbrev pub path_past_arm : List PathStep
path_past_arm = entering_steps ++ path.Assume (term.Prefix Not below_now) ∷ []

-- ---- the conditions

-- the sum lies in the base range
abbrev pub overflow_condition : Condition
overflow_condition = record { name = codes "Next.1"; kind = Overflow; place = place 6 14; hyps = known_below (pos 100); goals = sum_goals }

-- the sum lies in the type of X
abbrev pub range_condition : Condition
range_condition = record { name = codes "Next.2"; kind = Range; place = place 6 14; hyps = known_below (pos 100) ++ sum_goals; goals = sum_goals }

-- both, in the order of the body
abbrev pub next_conditions : List Condition
next_conditions = overflow_condition ∷ range_condition ∷ []
