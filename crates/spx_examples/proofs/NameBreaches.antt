-- The first breach of a rule on names or types, in a file of which the first procedure has one statement.
use Rattle.std.proofs.Common.{◌≡◌, ℕ, ◌+◌, List, [], ◌∷◌, ◌++◌, length, Option, Some, None, option_map, refl, ap, ap₂, ◌∙◌}
use Rattle.std.specs.Prelude.{⊤}
use Rattle.spx_text.specs.declared.place.Place.{Place}
use Rattle.spx_tree.specs.declared.annotation.Predicate.{Predicate}
use Rattle.spx_tree.specs.declared.expression.Name.{Name}
use Rattle.spx_tree.specs.declared.expression.Expr.{Expr}
use Rattle.spx_tree.specs.declared.statement.AssertionKind.{AssertionKind}
use Rattle.spx_tree.specs.declared.statement.Closing.{Closing}
use Rattle.spx_tree.specs.declared.statement.Stmt.{Stmt}
use Rattle.spx_tree.specs.declared.statement.Stmt.TheVariants as written_stmt
use Rattle.spx_tree.specs.declared.subprogram.Subprogram.{Subprogram}
use Rattle.spx_tree.specs.declared.subprogram.Unit.{Unit}
use Rattle.spx_tree.specs.declared.subprogram.Unit.TheVariants as unit
use Rattle.spx_core.specs.declared.dependency.CoreDerivesItem.{CoreDerivesItem}
use Rattle.spx_core.specs.declared.entity.TheConstants.{INTEGER}
use Rattle.spx_core.specs.declared.program.TypeRow.{TypeRow}
use Rattle.spx_core.specs.declared.rule.Breach.{Breach}
use Rattle.spx_core.specs.declared.rule.ExprType.{ExprType}
use Rattle.spx_core.specs.declared.rule.ExprType.TheVariants.{Of}
use Rattle.spx_core.specs.declared.rule.Typing.{Typing}
use Rattle.spx_core.specs.Commands.{Command, commands}
use Rattle.spx_core.specs.Contexts.{in_context}
use Rattle.spx_core.specs.Dependency.{relation}
use Rattle.spx_core.specs.declared.subprogram.Sub.{Sub}
use Rattle.spx_core.specs.Judged.{Judged, ◌>>=◌, breach_in, condition, each, if_there, judged, operand_of, referred_target}
use Rattle.spx_core.specs.Regions.{Region, Regions}
use Rattle.spx_core.specs.ResolvedExpressions.{Scene, in_annotation, in_code, resolved_condition, resolved_expr, resolved_in, resolved_target, type_of_target}
use Rattle.spx_core.specs.DeclaredNames.{declaring, declaring_all}
use Rattle.spx_core.specs.ResolvedStatements.{resolved_predicate, resolved_stmts}
use Rattle.spx_core.specs.Resolved.{around_body, at_start, counted_sub, formal_names, local_names, local_variables, own_types, params_of, resolved_sub, resolved_subs, unit_name}
use Rattle.spx_core.specs.Statements.{first_name_breach, judged_name, judged_command, judged_decl, judged_end, judged_item, judged_param, judged_predicate, judged_sub}
use Rattle.spx_examples.proofs.Computing.{judged_is, judged_now}
use Rattle.spx_examples.proofs.Contexts.{met_is, met_now}
use Rattle.spx_examples.proofs.Statements.{assignment_is, assertion_is, if_is, and_no_more}
use Rattle.spx_examples.proofs.Resolving.{as_body, resolved_assertion, resolved_assignment, resolved_if}

-- `if test then body end if`
abbrev if_written : Place → Expr → List Stmt → Closing → Stmt
if_written at test body closing = written_stmt.If (record { place = at; condition = test; body = body } ∷ []) None closing

-- ---- expressions

module _ (scene : Scene) (around : Regions) where
  -- what a written expression is judged to be where it meets this type, as a recursion that computes
  abbrev pub judged_met : ExprType → Expr → Judged Typing
  judged_met of e = judged_now (met_now scene around of e)

  pub judged_met_is : (of : ExprType) (e : Expr) → judged (in_context of (resolved_in scene around e)) ≡ judged_met of e
  judged_met_is of e = ap judged (met_is scene around of e) ∙ judged_is (met_now scene around of e)

  -- what a condition is judged to be
  abbrev condition_now : Expr → Judged Typing
  condition_now = judged_met (Of INTEGER.base)

  -- ---- annotations

  -- what a precondition or a postcondition is judged to be
  abbrev predicate_now : Predicate → Judged ⊤
  predicate_now predicate = condition_now predicate.condition >>= λ t. condition t

  predicate_is : (predicate : Option Predicate) → if_there judged_predicate (option_map (resolved_predicate scene around) predicate) ≡ if_there predicate_now predicate
  predicate_is None = refl
  predicate_is (Some predicate) = ap (λ j. j >>= λ t. condition t) (judged_met_is (Of INTEGER.base) predicate.condition)

-- ---- statements

module _ (types : List TypeRow) (around : Regions) where
  -- what the assignment is judged to be
  abbrev pub assignment_now : Name → Expr → Judged ⊤
  assignment_now target value = do
    subtype ← referred_target (resolved_target types around target)
    v ← judged_met (in_code types) around (type_of_target (resolved_target types around target)) value
    operand_of subtype v

module _ (types : List TypeRow) (items : List CoreDerivesItem) (outer : Regions) (region : Region) (position : ℕ) where
  abbrev around : Regions
  around = region ∷ outer

  -- these statements, as a command
  abbrev pub body_of : List Stmt → Command
  body_of stmts = commands (resolved_stmts types items outer stmts region position).0

  pub body_is : (target : Name) (value : Expr) → judged_command (body_of (written_stmt.Assignment target value ∷ [])) ≡ and_no_more (assignment_now types around target value)
  body_is target value =
      ap (λ made. judged_command (commands (as_body made))) (resolved_assignment types items outer region position target value)
      ∙ ap judged_command (assignment_is (resolved_target types around target) (resolved_expr (in_code types) (type_of_target (resolved_target types around target)) around value))
      ∙ ap (λ j. and_no_more (referred_target (resolved_target types around target) >>= λ subtype. j >>= λ v. operand_of subtype v)) (judged_met_is (in_code types) around (type_of_target (resolved_target types around target)) value)

  -- what the `if` of one arm is judged to be
  abbrev if_now : Judged Typing → List Stmt → Judged ⊤
  if_now test body = (test >>= λ t. condition t) >>= λ _. and_no_more (judged_command (body_of body))

  if_body : (at : Place) (test : Expr) (body : List Stmt) (closing : Closing) → judged_command (body_of (if_written at test body closing ∷ [])) ≡ and_no_more (if_now (condition_now (in_code types) around test) body)
  if_body at test body closing =
      ap (λ made. judged_command (commands (as_body made))) (resolved_if types items outer region position at test body closing)
      ∙ ap judged_command (if_is at (resolved_condition (in_code types) around test) (resolved_stmts types items outer body region position).0 closing)
      ∙ ap (λ j. and_no_more (if_now j body)) (judged_met_is (in_code types) around (Of INTEGER.base) test)

  -- what an `assert` or a `check` is judged to be
  abbrev assertion_now : Expr → Judged ⊤
  assertion_now test = condition_now (in_annotation types items) around test >>= λ t. condition t

  assertion_body : (kind : AssertionKind) (at : Place) (test : Expr) → judged_command (body_of (written_stmt.Assertion kind at test ∷ [])) ≡ and_no_more (assertion_now test)
  assertion_body kind at test =
      ap (λ made. judged_command (commands (as_body made))) (resolved_assertion types items outer region position kind at test)
      ∙ ap judged_command (assertion_is kind at (resolved_condition (in_annotation types items) around test))
      ∙ ap (λ j. and_no_more (j >>= λ t. condition t)) (judged_met_is (in_annotation types items) around (Of INTEGER.base) test)

-- ---- procedures

-- the procedure, where its precondition, its postcondition and its body are judged to be this
abbrev sub_with : Sub → (pre post body : Judged ⊤) → Judged ⊤
sub_with sub pre post body = do
  _ ← each judged_param (params_of sub.formal_part)
  _ ← each judged_item (relation sub)
  _ ← pre
  _ ← post
  _ ← each judged_decl sub.declarations
  _ ← body
  if_there (judged_end sub.name) sub.end_name

-- around the annotations of a procedure, and around its statements
abbrev annotated : Sub → Regions
annotated sub = declaring_all [] (formal_names sub) ∷ around_body sub.name

abbrev own_names : Sub → Region
own_names sub = declaring_all [] (formal_names sub ++ local_names sub)

abbrev inside : Sub → Regions
inside sub = own_names sub ∷ around_body sub.name

-- in the first procedure of a file, the position of the first parameter of a loop
abbrev pub first_position : Sub → ℕ
first_position sub = at_start.vars + length (formal_names sub ++ local_variables sub)

-- and the types that stand before its statements
abbrev pub first_types : Sub → List TypeRow
first_types sub = at_start.types ++ own_types sub

-- its body, where it has these statements
abbrev first_body : Sub → List Stmt → Command
first_body sub stmts = body_of (first_types sub) (relation sub) (around_body sub.name) (own_names sub) (first_position sub) stmts

module _ (s : Subprogram) (others : List Unit) where
  -- the first procedure of a file, and the others after it
  abbrev first : Sub
  first = resolved_sub (unit_name [] 0 s) at_start s

  abbrev next : List Sub
  next = resolved_subs (declaring [] (unit_name [] 0 s)) (0 + 1) (counted_sub at_start first) others

  -- the first breach in the file, where the first procedure is judged to be this
  abbrev breach_with : Judged ⊤ → Option Breach
  breach_with judgement = breach_in (each judged_name (first ∷ next) >>= λ _. (judgement >>= λ _. each judged_sub next))

  -- where its body is judged to be this
  abbrev first_with : Judged ⊤ → Judged ⊤
  first_with body = sub_with first (if_there (predicate_now (in_code at_start.types) (annotated first)) s.pre) (if_there (predicate_now (in_annotation at_start.types (relation first)) (annotated first)) s.post) body

  module _ (statement : Stmt) (is : s.statements ≡ statement ∷ []) where
    with_body : (body : Judged ⊤) → judged_command (first_body first (statement ∷ [])) ≡ body → first_name_breach (unit.Subprogram s ∷ others) ≡ breach_with (first_with body)
    unfolding first_name_breach
    with_body body body_is =
        ap (λ parts. breach_with parts)
        (ap₂ (λ pre post. sub_with first pre post (judged_command (commands first.statements))) (predicate_is (in_code at_start.types) (annotated first) s.pre) (predicate_is (in_annotation at_start.types (relation first)) (annotated first) s.post)
        ∙ ap (sub_with first (if_there (predicate_now (in_code at_start.types) (annotated first)) s.pre) (if_there (predicate_now (in_annotation at_start.types (relation first)) (annotated first)) s.post)) (ap (λ ss. judged_command (first_body first ss)) is ∙ body_is))

  -- where its one statement is an assignment
  pub breach_is : (target : Name) (value : Expr) → s.statements ≡ written_stmt.Assignment target value ∷ []
      → first_name_breach (unit.Subprogram s ∷ others) ≡ breach_with (first_with (and_no_more (assignment_now (first_types first) (inside first) target value)))
  breach_is target value is = with_body (written_stmt.Assignment target value) is (and_no_more (assignment_now (first_types first) (inside first) target value)) (body_is (first_types first) (relation first) (around_body first.name) (own_names first) (first_position first) target value)

  -- where it is an `if` of one arm
  abbrev first_if : Expr → List Stmt → Judged ⊤
  first_if test body = if_now (first_types first) (relation first) (around_body first.name) (own_names first) (first_position first) (condition_now (in_code (first_types first)) (inside first) test) body

  pub breach_of_if : (at : Place) (test : Expr) (body : List Stmt) (closing : Closing) → s.statements ≡ if_written at test body closing ∷ []
      → first_name_breach (unit.Subprogram s ∷ others) ≡ breach_with (first_with (and_no_more (first_if test body)))
  breach_of_if at test body closing is =
      with_body (if_written at test body closing) is (and_no_more (first_if test body)) (if_body (first_types first) (relation first) (around_body first.name) (own_names first) (first_position first) at test body closing)

  -- where it is an `assert` or a `check`
  abbrev first_assertion : Expr → Judged ⊤
  first_assertion test = assertion_now (first_types first) (relation first) (around_body first.name) (own_names first) (first_position first) test

  pub breach_of_assertion : (kind : AssertionKind) (at : Place) (test : Expr) → s.statements ≡ written_stmt.Assertion kind at test ∷ []
      → first_name_breach (unit.Subprogram s ∷ others) ≡ breach_with (first_with (and_no_more (first_assertion test)))
  breach_of_assertion kind at test is = with_body (written_stmt.Assertion kind at test) is (and_no_more (first_assertion test)) (assertion_body (first_types first) (relation first) (around_body first.name) (own_names first) (first_position first) kind at test)
