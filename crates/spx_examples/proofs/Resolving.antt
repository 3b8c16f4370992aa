-- What statements and expressions of the examples are resolved to.
use Rattle.std.proofs.Common.{◌≡◌, ℕ, ◌+◌, pos, List, [], ◌∷◌, ◌++◌, Option, Some, None, map, refl, ap, ap₂, ◌∙◌}
use Rattle.std.specs.Prelude.{codes}
use denote.Hole.Carrier.{roll, hidden}
use Rattle.spx_text.specs.declared.place.Place.{Place}
use Rattle.spx_tree.specs.declared.expression.InfixOp.TheVariants as op
use Rattle.spx_tree.specs.declared.expression.Name.{Name}
use Rattle.spx_tree.specs.declared.expression.Expr.{Expr, Expr-F, roll-Expr, fold-roll-Expr}
use Rattle.spx_tree.specs.declared.expression.Expr.TheVariants as written_expr
use Rattle.spx_tree.specs.declared.statement.AssertionKind.{AssertionKind}
use Rattle.spx_tree.specs.declared.statement.Closing.{Closing}
use Rattle.spx_tree.specs.declared.statement.Stmt.{Stmt, Stmt-F, roll-Stmt, map-Stmt, fold-roll-Stmt}
use Rattle.spx_tree.specs.declared.statement.Stmt.TheVariants as written_stmt
use Rattle.spx_tree.specs.declared.statement.Alternative.{Alternative}
use Rattle.spx_tree.specs.declared.statement.Arm.{Arm, fold-roll-Arm}
use Rattle.spx_tree.specs.declared.statement.Count.{Count}
use Rattle.spx_tree.specs.declared.statement.Scheme.TheVariants as written_scheme
use Rattle.spx_tree.specs.declared.subprogram.Subprogram.{Subprogram}
use Rattle.spx_tree.specs.declared.subprogram.Unit.TheVariants as unit
use Rattle.spx_core.specs.declared.dependency.CoreDerivesItem.{CoreDerivesItem}
use Rattle.spx_core.specs.declared.entity.Entity.{Entity}
use Rattle.spx_core.specs.declared.entity.Entity.TheVariants as entity
use Rattle.spx_core.specs.declared.entity.TheConstants.{INTEGER}
use Rattle.spx_core.specs.declared.expression.CoreExpr.{CoreExpr}
use Rattle.spx_core.specs.declared.expression.CoreExpr.TheBlock.{hidden-the_row-CoreExpr-0}
use Rattle.spx_core.specs.declared.expression.CoreExpr.TheVariants as expr
use Rattle.spx_core.specs.declared.statement.CoreStmt.{CoreStmt}
use Rattle.spx_core.specs.declared.statement.CoreStmt.TheVariants as stmt
use Rattle.spx_core.specs.declared.statement.CoreAlternative.{CoreAlternative}
use Rattle.spx_core.specs.declared.statement.CoreArm.{CoreArm}
use Rattle.spx_core.specs.declared.statement.CoreScheme.TheVariants as scheme
use Rattle.spx_core.specs.declared.name.Defining.{Defining}
use Rattle.spx_core.specs.declared.program.Program.{Program}
use Rattle.spx_core.specs.declared.program.TypeRow.{TypeRow}
use Rattle.spx_core.specs.declared.rule.ExprType.{ExprType}
use Rattle.spx_core.specs.declared.rule.ExprType.TheVariants.{Of}
use Rattle.spx_core.specs.declared.subprogram.Sub.{Sub}
use Rattle.spx_core.specs.Contexts.{in_context}
use Rattle.spx_core.specs.Regions.{Region, Regions, denoted}
use Rattle.spx_core.specs.ResolvedExpressions.{Scene, assignment_to, expr_step, in_annotation, in_code, resolved_condition, resolved_expr, resolved_in, resolved_target, target_of, type_of_target}
use Rattle.spx_core.specs.DeclaredNames.{declaring_all}
use Rattle.spx_core.specs.ResolvedStatements.{Part, alternative_step, arm_step, declared_by_count, parameters_by, parameters_by_stmts, resolved_alternative, resolved_arm, resolved_count, resolved_stmt, resolved_stmts, stmt_step}
use Rattle.spx_core.specs.Resolved.{at_start, formal_names, local_variables, positions, program_of, resolved, resolved_sub, unit_name, var_of}
use Rattle.spx_examples.specs.Increment.{place, word, x_written, successor_written, x, object, x_at, successor}
use Rattle.spx_examples.specs.Branches.{arm}
use Rattle.spx_examples.specs.Names.{path_of, target_to, value_named}
use Rattle.spx_examples.specs.Next.{below_hundred_at, below_written}
use Rattle.spx_examples.proofs.Contexts.{becomes}
use Rattle.spx_examples.proofs.Names.{simple_is}

-- X denotes the variable
abbrev XDenotes : Regions → Type 0
XDenotes around = denoted around (codes "X") ≡ Some (entity.Variable x object)

pub resolved_x : (scene : Scene) (around : Regions) → XDenotes around → (line column : ℕ) → resolved_in scene around (value_named (x_written line column)) ≡ expr.Name (x_at line column)
resolved_x scene around is line column = simple_is scene around (word (codes "X") line column) ∙ ap (λ e. expr.Name (record { name = word (codes "X") line column; entity = e })) is

module _ (types : List TypeRow) (items : List CoreDerivesItem) (outer : Regions) where
  -- a written statement of this form
  stmt_of : (layer : Stmt-F Stmt Alternative Arm)
      → resolved_stmt types items outer (roll-Stmt layer) ≡ stmt_step types items outer (map-Stmt Stmt Alternative Arm (Part CoreStmt) (Part CoreAlternative) (Part CoreArm) (resolved_stmt types items outer) (resolved_alternative types items outer) (resolved_arm types items outer) layer)
  stmt_of layer = fold-roll-Stmt (Part CoreStmt) (Part CoreAlternative) (Part CoreArm) (stmt_step types items outer) (alternative_step types outer) (arm_step types outer) layer

module _ (types : List TypeRow) (items : List CoreDerivesItem) (outer : Regions) (region : Region) (position : ℕ) where
  abbrev around : Regions
  around = region ∷ outer

  -- from this position on
  abbrev pub here : {A : Type 0} → Part A → A × ℕ
  here part = part region position

  pub resolved_assignment : (target : Name) (value : Expr)
      → here (resolved_stmt types items outer (written_stmt.Assignment target value)) ≡ (assignment_to types around (resolved_target types around target) value, position)
  unfolding roll-Stmt roll
  resolved_assignment target value = ap here (stmt_of types items outer (Stmt-F.Assignment target value))

  abbrev written_arm : Place → Expr → List Stmt → Arm
  written_arm at condition body = record { place = at; condition = condition; body = body }

  pub resolved_if : (at : Place) (condition : Expr) (body : List Stmt) (closing : Closing)
      → here (resolved_stmt types items outer (written_stmt.If (written_arm at condition body ∷ []) None closing))
      ≡ (stmt.If (arm at (resolved_condition (in_code types) around condition) (here (resolved_stmts types items outer body)).0 ∷ []) None closing, (here (resolved_stmts types items outer body)).1)
  unfolding roll-Stmt roll
  resolved_if at condition body closing =
      ap here (stmt_of types items outer (Stmt-F.If (written_arm at condition body ∷ []) None closing))
      ∙ ap (λ (a : Part CoreArm). (stmt.If ((here a).0 ∷ []) None closing, (here a).1))
      (fold-roll-Arm (Part CoreStmt) (Part CoreAlternative) (Part CoreArm) (stmt_step types items outer) (alternative_step types outer) (arm_step types outer) (record { place = at; condition = condition; body = body }))

  pub resolved_while : (at : Place) (condition : Expr) (loop_word : Place) (body : List Stmt) (closing : Closing)
      → here (resolved_stmt types items outer (written_stmt.Loop (written_scheme.While at condition) loop_word body closing))
      ≡ (stmt.Loop (scheme.While at (resolved_condition (in_code types) around condition)) loop_word (resolved_stmts types items outer body region (position + 0)).0 closing, (resolved_stmts types items outer body region (position + 0)).1)
  unfolding roll-Stmt roll
  resolved_while at condition loop_word body closing = ap here (stmt_of types items outer (Stmt-F.Loop (written_scheme.While at condition) loop_word body closing))

  pub resolved_for : (c : Count) (loop_word : Place) (body : List Stmt) (closing : Closing)
      → here (resolved_stmt types items outer (written_stmt.Loop (written_scheme.For c) loop_word body closing))
      ≡ (
        stmt.Loop (scheme.For (resolved_count (in_code types) outer region position c)) loop_word
            (resolved_stmts types items outer body (declaring_all region (declared_by_count (resolved_count (in_code types) outer region position c) ∷ [])) (position + 1)).0
            closing,
        (resolved_stmts types items outer body (declaring_all region (declared_by_count (resolved_count (in_code types) outer region position c) ∷ [])) (position + 1)).1,
      )
  unfolding roll-Stmt roll
  resolved_for c loop_word body closing = ap here (stmt_of types items outer (Stmt-F.Loop (written_scheme.For c) loop_word body closing))

  pub resolved_endless : (loop_word : Place) (body : List Stmt) (closing : Closing)
      → here (resolved_stmt types items outer (written_stmt.Loop written_scheme.Endless loop_word body closing))
      ≡ (stmt.Loop scheme.Endless loop_word (resolved_stmts types items outer body region (position + 0)).0 closing, (resolved_stmts types items outer body region (position + 0)).1)
  unfolding roll-Stmt roll
  resolved_endless loop_word body closing = ap here (stmt_of types items outer (Stmt-F.Loop written_scheme.Endless loop_word body closing))

  pub resolved_exit : (at : Place) (condition : Expr) → here (resolved_stmt types items outer (written_stmt.Exit at (Some condition))) ≡ (stmt.Exit at (Some (resolved_condition (in_code types) around condition)), position)
  unfolding roll-Stmt roll
  resolved_exit at condition = ap here (stmt_of types items outer (Stmt-F.Exit at (Some condition)))

  -- without alternatives
  pub resolved_selector : (at : Place) (selector : Expr) (closing : Closing)
      → here (resolved_stmt types items outer (written_stmt.Case at selector [] closing)) ≡ (stmt.Case at (resolved_condition (in_code types) around selector) [] closing, position)
  unfolding roll-Stmt roll
  resolved_selector at selector closing = ap here (stmt_of types items outer (Stmt-F.Case at selector [] closing))

  pub resolved_assertion : (kind : AssertionKind) (at : Place) (condition : Expr)
      → here (resolved_stmt types items outer (written_stmt.Assertion kind at condition)) ≡ (stmt.Assertion kind at (resolved_condition (in_annotation types items) around condition), position)
  unfolding roll-Stmt roll
  resolved_assertion kind at condition = ap here (stmt_of types items outer (Stmt-F.Assertion kind at condition))

module _ (types : List TypeRow) (around : Regions) where
  -- where X denotes the variable
  module _ (is : XDenotes around) where
    resolved_successor : (of : ExprType) (line column : ℕ) → resolved_expr (in_code types) of around (successor_written line column) ≡ successor line column
    unfolding roll-Expr roll hidden-the_row-CoreExpr-0 hidden
    resolved_successor of line column =
        ap (in_context of)
        (fold-roll-Expr CoreExpr (expr_step (in_code types) around) (Expr-F.Infix op.Add (place line (column + 2)) (value_named (x_written line column)) (written_expr.Number (pos 1) (place line (column + 4))))
        ∙ ap₂ (expr.Infix op.Add (place line (column + 2))) (resolved_x (in_code types) around is line column) (fold-roll-Expr CoreExpr (expr_step (in_code types) around) (Expr-F.Number (pos 1) (place line (column + 4)))))
        ∙ becomes (successor line column) refl of

    -- `X < 100`
    pub resolved_below : (line column : ℕ) → resolved_condition (in_code types) around (below_written line column) ≡ below_hundred_at line column
    unfolding roll-Expr roll hidden-the_row-CoreExpr-0 hidden
    resolved_below line column =
        ap (in_context (Of INTEGER.base))
        (fold-roll-Expr CoreExpr (expr_step (in_code types) around) (Expr-F.Infix op.Less (place line (column + 2)) (value_named (x_written line column)) (written_expr.Number (pos 100) (place line (column + 4))))
        ∙ ap₂ (expr.Infix op.Less (place line (column + 2))) (resolved_x (in_code types) around is line column) (fold-roll-Expr CoreExpr (expr_step (in_code types) around) (Expr-F.Number (pos 100) (place line (column + 4)))))
        ∙ becomes (below_hundred_at line column) refl (Of INTEGER.base)

-- `X := X + 1`
pub resolved_step : (types : List TypeRow) (items : List CoreDerivesItem) (outer : Regions) (region : Region) (position : ℕ) → XDenotes (region ∷ outer) → (line target value : ℕ)
    → resolved_stmt types items outer (written_stmt.Assignment (x_written line target) (successor_written line value)) region position ≡ (stmt.Assignment (target_to (x_at line target)) (successor line value), position)
resolved_step types items outer region position is line target value =
    resolved_assignment types items outer region position (x_written line target) (successor_written line value)
    ∙ ap (λ (e : Option Entity). (assignment_to types (region ∷ outer) (target_of types (record { name = word (codes "X") line target; entity = e }) (path_of (word (codes "X") line target) []) []) (successor_written line value), position)) is
    ∙ ap (λ (v : CoreExpr). (stmt.Assignment (target_to (x_at line target)) v, position)) (resolved_successor types (region ∷ outer) is (type_of_target (target_to (x_at line target))) line value)

-- ---- programs

-- the one statement of a body
abbrev pub as_body : CoreStmt × ℕ → List CoreStmt
as_body made = made.0 ∷ []

-- one that is no loop and has none
pub in_one : (s : CoreStmt) → parameters_by s ≡ [] → parameters_by_stmts (s ∷ []) ≡ []
in_one s none = ap (λ ds. ds ++ []) none

-- The program of one procedure, where it has these statements, and these parameters of loops.
module _ (s : Subprogram) where
  abbrev own : Sub
  own = resolved_sub (unit_name [] 0 s) at_start s

  abbrev variables : List Defining → List Defining
  variables parameters = (formal_names own ++ local_variables own) ++ parameters

  abbrev pub having : List CoreStmt → List Defining → Program
  having statements parameters =
      record (program_of (record own { statements = statements; vars = positions 0 (variables parameters) } ∷ [])) { vars = map var_of (variables parameters) ++ [] }

  pub resolved_as : (statements : List CoreStmt) (parameters : List Defining) → own.statements ≡ statements → parameters_by_stmts statements ≡ parameters → resolved (unit.Subprogram s ∷ []) ≡ having statements parameters
  resolved_as statements parameters is are = ap (λ stmts. having stmts (parameters_by_stmts stmts)) is ∙ ap (having statements) are
