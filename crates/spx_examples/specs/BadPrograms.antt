-- Programs of which a call can be bad. The first are variants of
--
--     procedure Inc (X : in out Integer)
--     --# derives X from X;
--     is
--     begin
--        STATEMENTS
--     end Inc;
use Rattle.std.specs.Prelude.{ℕ, ◌+◌, pos, List, [], ◌∷◌}
use Rattle.spx_tree.specs.declared.expression.InfixOp.TheVariants as op
use Rattle.spx_tree.specs.declared.statement.AssertionKind.TheVariants as assertion
use Rattle.spx_core.specs.declared.expression.CoreExpr.{CoreExpr}
use Rattle.spx_core.specs.declared.expression.CoreExpr.TheVariants as expr
use Rattle.spx_core.specs.declared.program.Program.{Program}
use Rattle.spx_core.specs.declared.statement.CoreScheme.TheVariants as scheme
use Rattle.spx_core.specs.declared.statement.CoreStmt.{CoreStmt}
use Rattle.spx_core.specs.declared.statement.CoreStmt.TheVariants as stmt
use Rattle.spx_core.specs.declared.subprogram.Sub.{Sub}
use Rattle.spx_examples.specs.Assertions.{checking, doing, is_kept, is_positive, noting, promising}
use Rattle.spx_examples.specs.Increment.{place, x_at, inc, increment}
use Rattle.spx_examples.specs.Names.{target_to}
use Rattle.spx_examples.specs.Refused.{inc_without_pre}
use Rattle.spx_examples.specs.VariableRules.{requiring}
use Rattle.spx_examples.specs.Variants.{only_null, out_x_at, out_sub, out_program}

-- ---- `X := 1 / X`

-- `1 / X`
abbrev pub quotient : CoreExpr
quotient = expr.Infix op.Divide (place 6 11) (expr.Number (pos 1) (place 6 9)) (expr.Name (x_at 6 13))

-- the procedure
abbrev pub dividing : Sub
dividing = doing (stmt.Assignment (target_to (x_at 6 4)) quotient ∷ []) 7

-- ---- `X := X + 1` with the postcondition `X = X~`

abbrev pub promising_too_much : Sub
promising_too_much = promising (is_kept 3 10)

-- ---- `loop assert X > 0; end loop`

-- its body, with the `assert` in line 6
abbrev pub assert_positive : List CoreStmt
assert_positive = noting assertion.Assert 6 (is_positive 6 15) ∷ []

-- the loop
abbrev pub asserting_loop : CoreStmt
asserting_loop = stmt.Loop scheme.Endless (place 5 4) assert_positive (record { end = place 7 4; word = place 7 8 })

-- the procedure
abbrev pub asserting_in_turns : Sub
asserting_in_turns = doing (asserting_loop ∷ []) 8

-- ---- `check X >= 0`

-- `X >= 0`, at this line and column
abbrev pub is_natural : ℕ → ℕ → CoreExpr
is_natural line column = expr.Infix op.GreaterOrEqual (place line (column + 2)) (expr.Name (x_at line column)) (expr.Number (pos 0) (place line (column + 5)))

-- the procedure
abbrev pub checking_natural : Sub
checking_natural = doing (checking 6 (is_natural 6 14) ∷ []) 7

-- ---- an `out` formal with the precondition `X > 0`
--
--     procedure Inc (X : out Integer)
--     --# derives X from ;
--     --# pre X > 0;
--     is
--     begin
--        null;
--     end Inc;

-- the procedure
abbrev pub demanding : Sub
demanding = requiring (out_sub only_null) (out_x_at 3 9)

-- its program
abbrev pub demanding_program : Program
demanding_program = record (out_program only_null) { subs = demanding ∷ [] }

-- ---- two procedures: `Inc` with its precondition, and without it

abbrev pub bad_last : Program
bad_last = record increment { subs = inc ∷ inc_without_pre ∷ [] }

abbrev pub bad_first : Program
bad_first = record increment { subs = inc_without_pre ∷ inc ∷ [] }
