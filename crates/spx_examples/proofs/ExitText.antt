-- The text of a procedure with an exit, cut into its parts, its units in the grammar, the program that they are resolved to, and its body as a command.
use Rattle.std.proofs.Common.{◌≡◌, ℕ, pos, List, [], ◌∷◌, ◌++◌, Some, refl, sym, ap, ap₂, subst, ◌∙◌, arith}
use Rattle.std.specs.Prelude.{codes}
use denote.Hole.Carrier.{hidden}
use Rattle.spx_tree.specs.declared.expression.Expr.TheBlock.{hidden-the_row-Expr-0, hidden-the_row-Expr-1}
use Rattle.spx_tree.specs.declared.expression.Expr.TheVariants as tree
use Rattle.spx_tree.specs.declared.expression.InfixOp.TheVariants as op
use Rattle.spx_tree.specs.declared.expression.Layer.TheVariants as layer
use Rattle.spx_tree.specs.declared.statement.Scheme.TheVariants as written_scheme
use Rattle.spx_tree.specs.declared.statement.Stmt.{Stmt-F, out-Stmt}
use Rattle.spx_tree.specs.declared.statement.Stmt.TheVariants.{outs-Exit, outs-Loop}
use Rattle.spx_tree.specs.Lexemes.{unreserved, kind_of_word, code_delimiters, annotation_delimiters, delimiters}
use Rattle.spx_tree.specs.Places.{place_after_bytes}
use Rattle.spx_tree.specs.Spells.{Spells}
use Rattle.spx_tree.specs.Grammar.{IsExpr, IsFormed, Within, IsStmt, IsFile}
use Rattle.spx_tree.specs.Form.{Form, forms_of}
use Rattle.spx_tree.specs.Written.{program, stmt_step, written, written_stmt}
use Rattle.spx_tree.proofs.WrittenLevels.{written_level, spelled_stmt}
use Rattle.spx_core.specs.declared.expression.CoreExpr.{CoreExpr}
use Rattle.spx_core.specs.declared.name.Defining.{Defining}
use Rattle.spx_core.specs.declared.statement.CoreScheme.TheVariants as scheme
use Rattle.spx_core.specs.declared.statement.CoreStmt.{CoreStmt}
use Rattle.spx_core.specs.declared.statement.CoreStmt.TheVariants as stmt
use Rattle.spx_core.specs.Commands.{Command, Then, commands}
use Rattle.spx_core.specs.Regions.{standard}
use Rattle.spx_core.specs.ResolvedStatements.{parameters_by_stmts, resolved_stmt, resolved_stmts}
use Rattle.spx_core.specs.Resolved.{resolved, standard_types}
use Rattle.spx_core.proofs.Callers.CommandForms.{command-Assignment, command-Endless, command-Exit}
use Rattle.spx_core.proofs.Callers.LoopParameters.{parameters-Assignment, parameters-Endless, parameters-Exit}
use Rattle.spx_examples.proofs.WrittenExpressions.{infix_fits, number_fits, number_right, simple_fits}
use Rattle.spx_examples.specs.Exits.{loop}
use Rattle.spx_examples.specs.ExitText.{closing, exit_bytes, exit_command, exit_procedure, exit_program, exit_resolved, exit_sub, exit_tokens, exit_units, exit_written, loop_resolved, loop_written, step_resolved, step_written}
use Rattle.spx_examples.specs.Increment.{place, x_written, successor_written, relation, successor, x_at}
use Rattle.spx_examples.specs.Loops.{only}
use Rattle.spx_examples.specs.Names.{target_to, value_named}
use Rattle.spx_examples.specs.Next.{below_hundred_at, below_written}
use Rattle.spx_examples.proofs.IncrementNames.{outer, region, regions, x_denotes}
use Rattle.spx_examples.proofs.IncrementText.{heading, derives, opening, step, ending, step_is, step_written_as, sum_expr, sum_written_as}
use Rattle.spx_examples.proofs.Resolving.{as_body, in_one, resolved_as, resolved_below, resolved_endless, resolved_exit, resolved_step}
use Rattle.spx_examples.proofs.Spelling.{Piece, Word, Digits, Delimiter, Space, LineEnd, spelled_by}

-- ---- its tokens

-- `loop` and `exit when X < 100;`, and the spaces before what comes next
abbrev leaving : List Piece
leaving =
    Word (codes "loop") ∷ LineEnd
    ∷ Space ∷ Space ∷ Space ∷ Space ∷ Space ∷ Space ∷ Word (codes "exit") ∷ Space ∷ Word (codes "when") ∷ Space ∷ Word (codes "X") ∷ Space ∷ Delimiter (codes "<") ∷ Space ∷ Digits (codes "100") ∷ Delimiter (codes ";") ∷ LineEnd
    ∷ Space ∷ Space ∷ Space ∷ Space ∷ Space ∷ Space ∷ []

-- `end loop;`
abbrev loop_ending : List Piece
loop_ending = Space ∷ Space ∷ Space ∷ Word (codes "end") ∷ Space ∷ Word (codes "loop") ∷ Delimiter (codes ";") ∷ LineEnd ∷ []

pub spelled : Spells 0 exit_bytes exit_tokens
unfolding unreserved kind_of_word delimiters code_delimiters annotation_delimiters place_after_bytes
spelled = spelled_by (heading ++ derives ++ opening ++ leaving ++ step ++ loop_ending ++ ending) refl refl refl

-- ---- its tree

below_expr : IsExpr 1 (below_written 6 17)
unfolding hidden-the_row-Expr-0 hidden-the_row-Expr-1 hidden
below_expr = infix_fits layer.Expression 0 op.Less (place 6 19) (value_named (x_written 6 17)) (tree.Number (pos 100) (place 6 21)) (omega arith) (simple_fits layer.Predicate 0 _) (simple_fits layer.Sum 0 _).0 (number_fits layer.Sum 0 _ _)

exit_is : out-Stmt exit_written ≡ Stmt-F.Exit (place 6 7) (Some (below_written 6 17))
exit_is = outs-Exit (place 6 7) (Some (below_written 6 17))

loop_is : out-Stmt loop_written ≡ Stmt-F.Loop written_scheme.Endless (place 5 4) (exit_written ∷ step_written ∷ []) closing
loop_is = outs-Loop written_scheme.Endless (place 5 4) (exit_written ∷ step_written ∷ []) closing

-- one level below the loop
exit_within : Within 2 exit_written
exit_within = subst (IsFormed 1 (Within 1)) (sym exit_is) below_expr

step_within : Within 2 step_written
step_within = subst (IsFormed 1 (Within 1)) (sym (step_is 7 7 12)) ((tt, tt), sum_expr 7 12)

loop_stmt : IsStmt 2 loop_written
loop_stmt = subst (IsFormed 2 (Within 2)) (sym loop_is) (omega arith, tt, (exit_within, (step_within, tt)))

pub grammatical : IsFile 2 exit_units
grammatical = (record { formal_part = (((tt, tt), (tt, tt)), tt); derives = ((((tt, tt), tt), ((tt, tt), tt)), tt); pre = tt; post = tt; declarations = tt; statements = (loop_stmt, tt) }, tt)

-- the loop, where its statements are written so
abbrev around_turn : (first second : List Form) → List Form
around_turn first second = stmt_step (Stmt-F.Loop written_scheme.Endless (place 5 4) (first ∷ second ∷ []) closing)

loop_written_as : written_stmt loop_written ≡ around_turn (written_level (Stmt-F.Exit (place 6 7) (Some (below_written 6 17)))) (written_level (Stmt-F.Assignment (x_written 7 7) (successor_written 7 12)))
loop_written_as = spelled_stmt loop_written ∙ ap written_level loop_is ∙ ap₂ around_turn (spelled_stmt exit_written ∙ ap written_level exit_is) (step_written_as 7 7 12)

pub as_written : written exit_units ≡ forms_of exit_bytes exit_tokens
unfolding hidden-the_row-Expr-0 hidden-the_row-Expr-1 hidden
as_written = rw loop_written_as (rw (number_right program op.Less (place 6 19) (x_written 6 17) (pos 100) (place 6 21)) (rw (sum_written_as program 7 12) refl))

-- ---- its program

turn_resolved : resolved_stmts standard_types (relation ∷ []) outer (exit_written ∷ step_written ∷ []) region 1 ≡ (exit_resolved ∷ step_resolved ∷ [], 1)
turn_resolved =
    ap (λ (first : CoreStmt × ℕ). (first.0 ∷ as_body (resolved_stmt standard_types (relation ∷ []) outer step_written region first.1), (resolved_stmt standard_types (relation ∷ []) outer step_written region first.1).1))
    (resolved_exit standard_types (relation ∷ []) outer region 1 (place 6 7) (below_written 6 17) ∙ ap (λ (e : CoreExpr). (stmt.Exit (place 6 7) (Some e), 1)) (resolved_below standard_types regions x_denotes 6 17))
    ∙ ap (λ (second : CoreStmt × ℕ). (exit_resolved ∷ as_body second, second.1)) (resolved_step standard_types (relation ∷ []) outer region 1 x_denotes 7 7 12)

resolved_loop : resolved_stmt standard_types (relation ∷ []) outer loop_written region 1 ≡ (loop_resolved, 1)
resolved_loop =
    resolved_endless standard_types (relation ∷ []) outer region 1 (place 5 4) (exit_written ∷ step_written ∷ []) closing
    ∙ ap (λ (made : List CoreStmt × ℕ). (stmt.Loop scheme.Endless (place 5 4) made.0 closing, made.1)) turn_resolved

no_parameters : parameters_by_stmts (loop_resolved ∷ []) ≡ []
no_parameters =
    in_one loop_resolved
    (parameters-Endless loop_resolved scheme.Endless (place 5 4) (exit_resolved ∷ step_resolved ∷ []) closing refl refl
    ∙ ap₂ (λ (a b : List Defining). a ++ (b ++ [])) (parameters-Exit (place 6 7) (Some (below_hundred_at 6 17))) (parameters-Assignment (target_to (x_at 7 7)) (successor 7 12)))

pub made : resolved exit_units ≡ exit_program
unfolding standard
made = resolved_as exit_procedure (loop_resolved ∷ []) [] (ap as_body resolved_loop) no_parameters

-- ---- its command

pub command_is : commands exit_sub.statements ≡ only exit_command
command_is =
    ap only
    (command-Endless loop_resolved scheme.Endless (place 5 4) (exit_resolved ∷ step_resolved ∷ []) closing refl refl
    ∙ ap₂ (λ (first second : Command). loop (Then first (only second))) (command-Exit (place 6 7) (Some (below_hundred_at 6 17))) (command-Assignment (target_to (x_at 7 7)) (successor 7 12)))
