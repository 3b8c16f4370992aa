-- The texts of a procedure with a postcondition and a `check` or an `assert`, cut into its parts, its units in the grammar, and the program that they are resolved to.
use Rattle.std.proofs.Common.{◌≡◌, ℕ, ◌+◌, pos, List, [], ◌∷◌, ◌++◌, Some, true, refl, sym, ap, ap₂, subst, ◌∙◌, arith}
use Rattle.std.specs.Prelude.{codes}
use denote.Hole.Carrier.{hidden, roll}
use Rattle.spx_tree.specs.declared.expression.InfixOp.TheVariants as op
use Rattle.spx_tree.specs.declared.expression.Expr.{Expr, Expr-F, roll-Expr, fold-roll-Expr}
use Rattle.spx_tree.specs.declared.expression.Expr.TheBlock.{hidden-the_row-Expr-0, hidden-the_row-Expr-1}
use Rattle.spx_tree.specs.declared.expression.Expr.TheVariants as written_expr
use Rattle.spx_tree.specs.declared.expression.Layer.TheVariants as layer
use Rattle.spx_tree.specs.declared.expression.NameStep.TheVariants as name_step
use Rattle.spx_tree.specs.declared.statement.AssertionKind.{AssertionKind}
use Rattle.spx_tree.specs.declared.statement.AssertionKind.TheVariants as assertion
use Rattle.spx_tree.specs.declared.statement.Stmt.{Stmt-F, out-Stmt}
use Rattle.spx_tree.specs.declared.statement.Stmt.TheVariants.{outs-Assertion}
use Rattle.spx_tree.specs.Lexemes.{unreserved, kind_of_word, code_delimiters, annotation_delimiters, delimiters}
use Rattle.spx_tree.specs.Places.{place_after_bytes}
use Rattle.spx_tree.specs.Spells.{Spells}
use Rattle.spx_tree.specs.Grammar.{IsCondition, IsExpr, IsFormed, Within, IsStmt, IsFile}
use Rattle.spx_tree.specs.Form.{Form, forms_of}
use Rattle.spx_tree.specs.Written.{annotation, expr_step as expr_forms, program, written, written_expr as written_expr_forms, written_stmt}
use Rattle.spx_tree.proofs.WrittenLevels.{written_expr_level, written_level, spelled_stmt}
use Rattle.spx_core.specs.declared.dependency.CoreDerivesItem.{CoreDerivesItem}
use Rattle.spx_core.specs.declared.entity.TheConstants.{INTEGER}
use Rattle.spx_core.specs.declared.expression.CoreExpr.{CoreExpr}
use Rattle.spx_core.specs.declared.expression.CoreExpr.TheBlock.{hidden-the_row-CoreExpr-0}
use Rattle.spx_core.specs.declared.expression.CoreExpr.TheVariants as expr
use Rattle.spx_core.specs.declared.name.Defining.{Defining}
use Rattle.spx_core.specs.declared.statement.CoreStmt.{CoreStmt}
use Rattle.spx_core.specs.declared.statement.CoreStmt.TheVariants as stmt
use Rattle.spx_core.specs.declared.program.Program.{Program}
use Rattle.spx_core.specs.declared.rule.ExprType.TheVariants.{Of}
use Rattle.spx_core.specs.Contexts.{in_context}
use Rattle.spx_core.specs.Regions.{standard}
use Rattle.spx_core.specs.ResolvedExpressions.{Scene, expr_step, in_annotation, resolved_condition, resolved_in}
use Rattle.spx_core.specs.ResolvedStatements.{parameters_by_stmts, resolved_stmt}
use Rattle.spx_core.specs.Resolved.{resolved, standard_types}
use Rattle.spx_core.proofs.Callers.LoopParameters.{parameters-Assertion, parameters-Assignment}
use Rattle.spx_examples.proofs.WrittenExpressions.{entry_fits, infix_fits, infix_written, name_written, number_fits, number_right, number_written, simple_fits}
use Rattle.spx_examples.specs.Assertions.{is_next, is_positive, post_on, program_of}
use Rattle.spx_examples.specs.AssertionText.{assert_bytes, assert_tokens, assert_units, asserted_bytes, asserted_tokens, asserted_units, next_written, noted_sub, noted_written, positive_written, procedure_with, tokens_with, units_with}
use Rattle.spx_examples.specs.Increment.{place, word, x_written, successor_written, step as step_resolved, step_written, relation, successor, x_at}
use Rattle.spx_examples.proofs.Contexts.{becomes}
use Rattle.spx_examples.proofs.IncrementNames.{outer, region, regions, x_denotes}
use Rattle.spx_examples.proofs.IncrementText.{heading, derives, opening, step, ending, step_is, step_written_as, sum_within, sum_written_as}
use Rattle.spx_examples.proofs.Names.{named_is}
use Rattle.spx_examples.proofs.Resolving.{as_body, resolved_as, resolved_assertion, resolved_step, resolved_x}
use Rattle.spx_examples.proofs.Spelling.{Piece, Word, Digits, Delimiter, Space, Head, LineEnd, spelled_by}
use Rattle.spx_examples.specs.Names.{entry_named, name_of, path_of, target_to, value_named}

-- ---- its tokens

-- `--# post X = X~ + 1;`
abbrev post : List Piece
post = Head ∷ Space ∷ Word (codes "post") ∷ Space ∷ Word (codes "X") ∷ Space ∷ Delimiter (codes "=") ∷ Space ∷ Word (codes "X") ∷ Delimiter (codes "~") ∷ Space ∷ Delimiter (codes "+") ∷ Space ∷ Digits (codes "1") ∷ Delimiter (codes ";") ∷ LineEnd ∷ []

-- this word and `X > 0;`
abbrev noted : List ℕ → List Piece
noted word = Space ∷ Space ∷ Space ∷ Head ∷ Space ∷ Word word ∷ Space ∷ Word (codes "X") ∷ Space ∷ Delimiter (codes ">") ∷ Space ∷ Digits (codes "0") ∷ Delimiter (codes ";") ∷ LineEnd ∷ []

-- the whole text
abbrev pieces_with : List ℕ → List Piece
pieces_with word = heading ++ derives ++ post ++ opening ++ step ++ noted word ++ ending

pub spelled : Spells 0 asserted_bytes asserted_tokens
unfolding unreserved kind_of_word delimiters code_delimiters annotation_delimiters place_after_bytes
spelled = spelled_by (pieces_with (codes "check")) refl refl refl

pub assert_spelled : Spells 0 assert_bytes (tokens_with assert_tokens)
unfolding unreserved kind_of_word delimiters code_delimiters annotation_delimiters place_after_bytes
assert_spelled = spelled_by (pieces_with (codes "assert")) refl refl refl

-- ---- its tree

-- `X~ + 1`
abbrev after : Expr
after = written_expr.Infix op.Add (place 3 17) (entry_named (word (codes "X") 3 14)) (written_expr.Number (pos 1) (place 3 19))

next_condition : IsCondition 2 next_written
unfolding hidden-the_row-Expr-0 hidden-the_row-Expr-1 hidden
next_condition =
    infix_fits layer.Predicate 1 op.Equal (place 3 12) (value_named (x_written 3 10)) after (omega arith) (simple_fits layer.Predicate 1 _) (simple_fits layer.Sum 1 _).0
    (infix_fits layer.Sum 0 op.Add (place 3 17) (entry_named (word (codes "X") 3 14)) (written_expr.Number (pos 1) (place 3 19)) (omega arith) (entry_fits layer.Predicate 0 _) (entry_fits layer.Sum 0 _).0 (number_fits layer.Term 0 _ _))

positive_condition : (column : ℕ) → IsCondition 2 (positive_written column)
unfolding hidden-the_row-Expr-0 hidden-the_row-Expr-1 hidden
positive_condition column =
    infix_fits layer.Predicate 1 op.Greater (place 7 (column + 2)) (value_named (x_written 7 column)) (written_expr.Number (pos 0) (place 7 (column + 4))) (omega arith) (simple_fits layer.Predicate 1 _) (simple_fits layer.Sum 1 _).0
    (number_fits layer.Sum 1 _ _)

sum : IsExpr 2 (successor_written 6 9)
unfolding hidden-the_row-Expr-0 hidden-the_row-Expr-1 hidden
sum = sum_within 1 6 9

step_stmt : IsStmt 2 step_written
step_stmt = subst (IsFormed 2 (Within 2)) (sym (step_is 6 4 9)) ((tt, tt), sum)

module _ (kind : AssertionKind) (column : ℕ) where
  noted_is : out-Stmt (noted_written kind column) ≡ Stmt-F.Assertion kind (place 7 8) (positive_written column)
  noted_is = outs-Assertion kind (place 7 8) (positive_written column)

  noted_stmt : IsStmt 2 (noted_written kind column)
  noted_stmt = subst (IsFormed 2 (Within 2)) (sym noted_is) (positive_condition column)

  pub grammatical : IsFile 2 (units_with (noted_written kind column))
  grammatical = (record { formal_part = (((tt, tt), (tt, tt)), tt); derives = ((((tt, tt), tt), ((tt, tt), tt)), tt); pre = tt; post = next_condition; declarations = tt; statements = (step_stmt, (noted_stmt, tt)) }, tt)

  noted_written_as : written_stmt (noted_written kind column) ≡ written_level (Stmt-F.Assertion kind (place 7 8) (positive_written column))
  noted_written_as = spelled_stmt (noted_written kind column) ∙ ap written_level noted_is

-- the forms of the postcondition
next_written_as : written_expr_forms annotation next_written ≡ expr_forms annotation (Expr-F.Infix op.Equal (place 3 12) (written_expr_level annotation (Expr-F.Name (x_written 3 10).path []))
    (expr_forms annotation (Expr-F.Infix op.Add (place 3 17) (written_expr_level annotation (Expr-F.Name (path_of (word (codes "X") 3 14) (name_step.Entry ∷ [])) [])) (written_expr_level annotation (Expr-F.Number (pos 1) (place 3 19))))))
next_written_as =
    infix_written annotation op.Equal (place 3 12) (value_named (x_written 3 10)) after
    ∙ ap₂ (λ (a b : List Form). expr_forms annotation (Expr-F.Infix op.Equal (place 3 12) a b)) (name_written annotation (x_written 3 10))
    (infix_written annotation op.Add (place 3 17) (entry_named (word (codes "X") 3 14)) (written_expr.Number (pos 1) (place 3 19))
    ∙ ap₂ (λ (a b : List Form). expr_forms annotation (Expr-F.Infix op.Add (place 3 17) a b)) (name_written annotation (name_of (word (codes "X") 3 14) (name_step.Entry ∷ []) [])) (number_written annotation (pos 1) (place 3 19)))

pub as_written : written asserted_units ≡ forms_of asserted_bytes asserted_tokens
unfolding hidden-the_row-Expr-0 hidden-the_row-Expr-1 hidden
as_written = rw (step_written_as 6 4 9) (rw (noted_written_as assertion.Check 14) (rw next_written_as (rw (number_right annotation op.Greater (place 7 16) (x_written 7 14) (pos 0) (place 7 18)) (rw (sum_written_as program 6 9) refl))))

pub assert_as_written : written assert_units ≡ forms_of assert_bytes (tokens_with assert_tokens)
unfolding hidden-the_row-Expr-0 hidden-the_row-Expr-1 hidden
assert_as_written = rw (step_written_as 6 4 9) (rw (noted_written_as assertion.Assert 15) (rw next_written_as (rw (number_right annotation op.Greater (place 7 17) (x_written 7 15) (pos 0) (place 7 19)) (rw (sum_written_as program 6 9) refl))))

-- ---- its program

-- what the relation has
abbrev items : List CoreDerivesItem
items = relation ∷ []

-- what its annotations stand in
abbrev scene : Scene
scene = in_annotation standard_types items

resolved_entry : resolved_in scene regions (entry_named (word (codes "X") 3 14)) ≡ expr.Entry (x_at 3 14) true
unfolding standard
resolved_entry = named_is scene regions (name_of (word (codes "X") 3 14) (name_step.Entry ∷ []) [])

resolved_next : resolved_condition scene regions next_written ≡ is_next 3 10
unfolding roll-Expr roll hidden-the_row-CoreExpr-0 hidden
resolved_next =
    ap (in_context (Of INTEGER.base))
    (fold-roll-Expr CoreExpr (expr_step scene regions) (Expr-F.Infix op.Equal (place 3 12) (value_named (x_written 3 10)) after)
    ∙ ap₂ (expr.Infix op.Equal (place 3 12)) (resolved_x scene regions x_denotes 3 10)
    (fold-roll-Expr CoreExpr (expr_step scene regions) (Expr-F.Infix op.Add (place 3 17) (entry_named (word (codes "X") 3 14)) (written_expr.Number (pos 1) (place 3 19)))
    ∙ ap₂ (expr.Infix op.Add (place 3 17)) resolved_entry (fold-roll-Expr CoreExpr (expr_step scene regions) (Expr-F.Number (pos 1) (place 3 19)))))
    ∙ becomes (is_next 3 10) refl (Of INTEGER.base)

module _ (kind : AssertionKind) (column : ℕ) where
  resolved_positive : resolved_condition scene regions (positive_written column) ≡ is_positive 7 column
  unfolding roll-Expr roll hidden-the_row-CoreExpr-0 hidden
  resolved_positive =
      ap (in_context (Of INTEGER.base))
      (fold-roll-Expr CoreExpr (expr_step scene regions) (Expr-F.Infix op.Greater (place 7 (column + 2)) (value_named (x_written 7 column)) (written_expr.Number (pos 0) (place 7 (column + 4))))
      ∙ ap₂ (expr.Infix op.Greater (place 7 (column + 2))) (resolved_x scene regions x_denotes 7 column) (fold-roll-Expr CoreExpr (expr_step scene regions) (Expr-F.Number (pos 0) (place 7 (column + 4)))))
      ∙ becomes (is_positive 7 column) refl (Of INTEGER.base)

  -- the program with this postcondition
  abbrev with_post : CoreExpr → Program
  with_post condition = program_of (record (noted_sub kind column) { post = Some (post_on condition) })

  -- `assert` or `check`
  abbrev noted_resolved : CoreStmt
  noted_resolved = stmt.Assertion kind (place 7 8) (is_positive 7 column)

  resolved_noted : resolved_stmt standard_types items outer (noted_written kind column) region 1 ≡ (noted_resolved, 1)
  resolved_noted = resolved_assertion standard_types items outer region 1 kind (place 7 8) (positive_written column) ∙ ap (λ e. (stmt.Assertion kind (place 7 8) e, 1)) resolved_positive

  no_parameters : parameters_by_stmts (step_resolved ∷ noted_resolved ∷ []) ≡ []
  no_parameters = ap₂ (λ (a b : List Defining). a ++ (b ++ [])) (parameters-Assignment (target_to (x_at 6 4)) (successor 6 9)) (parameters-Assertion kind (place 7 8) (is_positive 7 column))

  pub made : resolved (units_with (noted_written kind column)) ≡ program_of (noted_sub kind column)
  unfolding standard
  made =
      resolved_as (procedure_with (noted_written kind column)) (step_resolved ∷ noted_resolved ∷ []) []
      (ap (λ (first : CoreStmt × ℕ). first.0 ∷ as_body (resolved_stmt standard_types items outer (noted_written kind column) region first.1)) (resolved_step standard_types items outer region 1 x_denotes 6 4 9)
      ∙ ap (λ (last : CoreStmt × ℕ). step_resolved ∷ as_body last) resolved_noted)
      no_parameters
      ∙ ap with_post resolved_next
