-- The text of a procedure with a loop, cut into its parts, its units in the grammar, the program that they are resolved to, and its body as a command.
use Rattle.std.proofs.Common.{◌≡◌, ℕ, pos, List, [], ◌∷◌, ◌++◌, refl, sym, ap, ap₂, subst, ◌∙◌, arith}
use Rattle.std.specs.Prelude.{codes}
use denote.Hole.Carrier.{hidden}
use Rattle.spx_tree.specs.declared.expression.Expr.TheBlock.{hidden-the_row-Expr-0, hidden-the_row-Expr-1}
use Rattle.spx_tree.specs.declared.expression.Expr.TheVariants as tree
use Rattle.spx_tree.specs.declared.expression.InfixOp.TheVariants as op
use Rattle.spx_tree.specs.declared.expression.Layer.TheVariants as layer
use Rattle.spx_tree.specs.declared.statement.Scheme.TheVariants as written_scheme
use Rattle.spx_tree.specs.declared.statement.Stmt.{Stmt-F, out-Stmt}
use Rattle.spx_tree.specs.declared.statement.Stmt.TheVariants.{outs-Loop}
use Rattle.spx_tree.specs.Lexemes.{unreserved, kind_of_word, code_delimiters, annotation_delimiters, delimiters}
use Rattle.spx_tree.specs.Places.{place_after_bytes}
use Rattle.spx_tree.specs.Spells.{Spells}
use Rattle.spx_tree.specs.Grammar.{IsExpr, IsFormed, Within, IsStmt, IsFile}
use Rattle.spx_tree.specs.Form.{Form, forms_of}
use Rattle.spx_tree.specs.Written.{program, stmt_step, written, written_stmt}
use Rattle.spx_tree.proofs.WrittenLevels.{written_level, spelled_stmt}
use Rattle.spx_core.specs.declared.expression.CoreExpr.{CoreExpr}
use Rattle.spx_core.specs.declared.statement.CoreScheme.TheVariants as scheme
use Rattle.spx_core.specs.declared.statement.CoreStmt.{CoreStmt}
use Rattle.spx_core.specs.declared.statement.CoreStmt.TheVariants as stmt
use Rattle.spx_core.specs.Commands.{Command, Repeat, Tested, commands}
use Rattle.spx_core.specs.Regions.{standard}
use Rattle.spx_core.specs.ResolvedStatements.{parameters_by_stmts, resolved_stmt}
use Rattle.spx_core.specs.Resolved.{resolved, standard_types}
use Rattle.spx_core.proofs.Callers.LoopParameters.{parameters-Assignment, parameters-While}
use Rattle.spx_examples.proofs.WrittenExpressions.{infix_fits, number_fits, number_right, simple_fits}
use Rattle.spx_examples.specs.Increment.{place, x_written, successor_written, relation, successor, x_at}
use Rattle.spx_examples.specs.Loops.{only}
use Rattle.spx_examples.specs.LoopText.{closing, loop_bytes, loop_command, loop_procedure, loop_program, loop_resolved, loop_sub, loop_tokens, loop_units, loop_written}
use Rattle.spx_examples.specs.Names.{target_to, value_named}
use Rattle.spx_examples.specs.Next.{below_hundred_at, below_written, step as step_resolved, step_written}
use Rattle.spx_examples.proofs.IncrementNames.{outer, region, regions, x_denotes}
use Rattle.spx_examples.proofs.IncrementText.{heading, derives, opening, step, ending, step_is, step_written_as, sum_expr, sum_written_as}
use Rattle.spx_examples.proofs.Resolving.{as_body, in_one, resolved_as, resolved_below, resolved_step, resolved_while}
use Rattle.spx_examples.proofs.Spelling.{Piece, Word, Digits, Delimiter, Space, LineEnd, spelled_by}
use Rattle.spx_examples.proofs.Statements.{assignment_is, while_is}

-- ---- its tokens

-- `while X < 100 loop`, and the spaces before what comes next
abbrev test : List Piece
test =
    Word (codes "while") ∷ Space ∷ Word (codes "X") ∷ Space ∷ Delimiter (codes "<") ∷ Space ∷ Digits (codes "100") ∷ Space ∷ Word (codes "loop") ∷ LineEnd
    ∷ Space ∷ Space ∷ Space ∷ Space ∷ Space ∷ Space ∷ []

-- `end loop;`
abbrev loop_ending : List Piece
loop_ending = Space ∷ Space ∷ Space ∷ Word (codes "end") ∷ Space ∷ Word (codes "loop") ∷ Delimiter (codes ";") ∷ LineEnd ∷ []

pub spelled : Spells 0 loop_bytes loop_tokens
unfolding unreserved kind_of_word delimiters code_delimiters annotation_delimiters place_after_bytes
spelled = spelled_by (heading ++ derives ++ opening ++ test ++ step ++ loop_ending ++ ending) refl refl refl

-- ---- its tree

below_expr : IsExpr 1 (below_written 5 10)
unfolding hidden-the_row-Expr-0 hidden-the_row-Expr-1 hidden
below_expr = infix_fits layer.Expression 0 op.Less (place 5 12) (value_named (x_written 5 10)) (tree.Number (pos 100) (place 5 14)) (omega arith) (simple_fits layer.Predicate 0 _) (simple_fits layer.Sum 0 _).0 (number_fits layer.Sum 0 _ _)

loop_is : out-Stmt loop_written ≡ Stmt-F.Loop (written_scheme.While (place 5 4) (below_written 5 10)) (place 5 18) (step_written ∷ []) closing
loop_is = outs-Loop (written_scheme.While (place 5 4) (below_written 5 10)) (place 5 18) (step_written ∷ []) closing

-- one level below the loop
step_within : Within 2 step_written
step_within = subst (IsFormed 1 (Within 1)) (sym (step_is 6 7 12)) ((tt, tt), sum_expr 6 12)

loop_stmt : IsStmt 2 loop_written
loop_stmt = subst (IsFormed 2 (Within 2)) (sym loop_is) (omega arith, below_expr, (step_within, tt))

pub grammatical : IsFile 2 loop_units
grammatical = (record { formal_part = (((tt, tt), (tt, tt)), tt); derives = ((((tt, tt), tt), ((tt, tt), tt)), tt); pre = tt; post = tt; declarations = tt; statements = (loop_stmt, tt) }, tt)

-- the loop, where its statement is written so
abbrev around_step : List Form → List Form
around_step written_step = stmt_step (Stmt-F.Loop (written_scheme.While (place 5 4) (below_written 5 10)) (place 5 18) (written_step ∷ []) closing)

loop_written_as : written_stmt loop_written ≡ around_step (written_level (Stmt-F.Assignment (x_written 6 7) (successor_written 6 12)))
loop_written_as = spelled_stmt loop_written ∙ ap written_level loop_is ∙ ap around_step (step_written_as 6 7 12)

pub as_written : written loop_units ≡ forms_of loop_bytes loop_tokens
unfolding hidden-the_row-Expr-0 hidden-the_row-Expr-1 hidden
as_written = rw loop_written_as (rw (number_right program op.Less (place 5 12) (x_written 5 10) (pos 100) (place 5 14)) (rw (sum_written_as program 6 12) refl))

-- ---- its program

resolved_loop : resolved_stmt standard_types (relation ∷ []) outer loop_written region 1 ≡ (loop_resolved, 1)
resolved_loop =
    resolved_while standard_types (relation ∷ []) outer region 1 (place 5 4) (below_written 5 10) (place 5 18) (step_written ∷ []) closing
    ∙ ap₂ (λ (condition : CoreExpr) (made : CoreStmt × ℕ). (stmt.Loop (scheme.While (place 5 4) condition) (place 5 18) (as_body made) closing, made.1))
    (resolved_below standard_types regions x_denotes 5 10)
    (resolved_step standard_types (relation ∷ []) outer region 1 x_denotes 6 7 12)

no_parameters : parameters_by_stmts (loop_resolved ∷ []) ≡ []
no_parameters =
    in_one loop_resolved
    (parameters-While loop_resolved (scheme.While (place 5 4) (below_hundred_at 5 10)) (place 5 18) (step_resolved ∷ []) closing (place 5 4) (below_hundred_at 5 10) refl refl
    ∙ in_one step_resolved (parameters-Assignment (target_to (x_at 6 7)) (successor 6 12)))

pub made : resolved loop_units ≡ loop_program
unfolding standard
made = resolved_as loop_procedure (loop_resolved ∷ []) [] (ap as_body resolved_loop) no_parameters

-- ---- its command

pub command_is : commands loop_sub.statements ≡ only loop_command
command_is =
    while_is (place 5 4) (below_hundred_at 5 10) (place 5 18) (step_resolved ∷ []) closing
    ∙ ap (λ (body : Command). only (Repeat (Tested (place 5 4) (below_hundred_at 5 10)) body)) (assignment_is (target_to (x_at 6 7)) (successor 6 12))
