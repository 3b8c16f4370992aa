-- Resolution adds to the units what names denote, and nothing else.
use Rattle.std.proofs.Common.{◌≡◌, ℕ, ◌+◌, List, [], ◌∷◌, ◌++◌, length, map, Option, Some, None, option_map, ap, ap₂, ◌∙◌, sym, subst, refl}
use denote.Hole.Carrier.{roll}
use Rattle.spx_tree.specs.declared.expression.Identifier.{Identifier}
use Rattle.spx_tree.specs.declared.expression.Name.{Name}
use Rattle.spx_tree.specs.declared.expression.Expr.{Expr, Expr-F, roll-Expr, map-Expr, ind-Expr, fold-roll-Expr}
use Rattle.spx_tree.specs.declared.expression.Expr.TheVariants as expr
use Rattle.spx_tree.specs.declared.declaration.Decl.{Decl}
use Rattle.spx_tree.specs.declared.declaration.Decl.TheVariants as decl
use Rattle.spx_tree.specs.declared.declaration.FieldDecl.{FieldDecl}
use Rattle.spx_tree.specs.declared.declaration.Range.{Range}
use Rattle.spx_tree.specs.declared.declaration.TypeDef.{TypeDef}
use Rattle.spx_tree.specs.declared.declaration.TypeDef.TheVariants as definition
use Rattle.spx_core.specs.declared.entity.Meaning.{Meaning}
use Rattle.spx_tree.specs.declared.statement.Stmt.{Stmt}
use Rattle.spx_tree.specs.declared.statement.Stmt.TheVariants as stmt
use Rattle.spx_tree.specs.declared.statement.Arm.{Arm}
use Rattle.spx_tree.specs.declared.statement.Alternative.{Alternative}
use Rattle.spx_tree.specs.declared.statement.Choice.{Choice}
use Rattle.spx_tree.specs.declared.statement.Count.{Count}
use Rattle.spx_tree.specs.declared.statement.Scheme.{Scheme}
use Rattle.spx_tree.specs.declared.statement.Scheme.TheVariants as scheme
use Rattle.spx_tree.specs.declared.annotation.Exports.{Exports}
use Rattle.spx_tree.specs.declared.annotation.Exports.TheVariants as exported
use Rattle.spx_tree.specs.declared.annotation.DerivesItem.{DerivesItem}
use Rattle.spx_tree.specs.declared.annotation.Derives.{Derives}
use Rattle.spx_tree.specs.declared.annotation.Predicate.{Predicate}
use Rattle.spx_tree.specs.declared.subprogram.Param.{Param}
use Rattle.spx_tree.specs.declared.subprogram.FormalPart.{FormalPart}
use Rattle.spx_tree.specs.declared.subprogram.Subprogram.{Subprogram}
use Rattle.spx_tree.specs.declared.subprogram.Unit.{Unit}
use Rattle.spx_tree.specs.declared.subprogram.Unit.TheVariants as unit
use Rattle.spx_core.specs.declared.expression.CoreExpr.{CoreExpr, CoreExpr-F, roll-CoreExpr, map-CoreExpr, fold-roll-CoreExpr}
use Rattle.spx_core.specs.declared.statement.CoreStmt.{CoreStmt, CoreStmt-F, map-CoreStmt, roll-CoreStmt, fold-roll-CoreStmt}
use Rattle.spx_core.specs.declared.statement.CoreArm.{CoreArm, fold-roll-CoreArm}
use Rattle.spx_core.specs.declared.statement.CoreAlternative.{CoreAlternative, fold-roll-CoreAlternative}
use Rattle.spx_core.specs.declared.name.Defining.{Defining}
use Rattle.spx_core.specs.declared.dependency.CoreDerivesItem.{CoreDerivesItem}
use Rattle.spx_core.specs.declared.program.Program.{Program}
use Rattle.spx_core.specs.declared.program.TypeRow.{TypeRow}
use Rattle.spx_core.specs.Regions.{Region, Regions, denoted, hidden}
use Rattle.spx_core.specs.WrittenExpressions.{erased_defining, erased_expr, erased_reference, erased_step}
use Rattle.spx_core.specs.Erased.{Visible, erased, erased_alternative, erased_alternative_step, erased_arm, erased_arm_step, erased_choice, erased_count, erased_decl, erased_range, erased_derives, erased_exports, erased_field, erased_formal_part, erased_item, erased_param, erased_predicate, erased_scheme, erased_stmt, erased_target, erased_stmt_step, erased_sub, unit_of}
use Rattle.spx_core.specs.declared.rule.ExprType.{ExprType}
use Rattle.spx_core.specs.declared.rule.ExprType.TheVariants.{Universal, Of}
use Rattle.spx_core.specs.declared.entity.TheConstants.{INTEGER}
use Rattle.spx_core.specs.Judged.{breach_in}
use Rattle.spx_core.specs.Statements.{Typed, first_name_breach, judged_program}
use Rattle.spx_core.proofs.Callers.Bodies.{all_are_units}
use Rattle.spx_core.proofs.Judgements.{unbroken}
use Rattle.spx_core.proofs.ResolvedParts.{IsStmt, null, assignment, if_then, if_else, case_of, loop, assertion, exit, IsArm, arm, IsAlternative, alternative, AreStmts, no_stmts, more_stmts, AreArms, no_arms, more_arms, AreAlternatives, no_alternatives, more_alternatives, stmts_are}
use Rattle.spx_core.specs.ResolvedExpressions as resolved_expressions
use Rattle.spx_core.specs.Resolved as resolved
use Rattle.spx_core.specs.ResolvedExpressions.{Scene, in_annotation, in_code, in_declaration, type_of_target, resolved_expr, resolved_in, resolved_name, resolved_range, resolved_reference, resolved_target, resolved_condition, resolved_static}
use Rattle.spx_core.specs.DeclaredNames.{around_names, declaring, declaring_all, defining, defining_all, meant_at}
use Rattle.spx_core.specs.ResolvedStatements.{exported_names, place_of_null, resolved_choice, resolved_derives, resolved_item, resolved_predicate, resolved_scheme, resolved_count, type_named}
use Rattle.spx_core.specs.ResolvedDeclarations.{counted, Before, rows_by_decls, declared_by, resolved_decl, resolved_decls, resolved_field, resolved_fields, resolved_param, resolved_params, resolved_type}
use Rattle.spx_core.specs.Resolved.{after_formals, around_body, around_formals, at_start, counted_sub, formal_names, items_for, resolved_formal_part, resolved_sub, resolved_subs, unit_name, own_region, declared_before}
use Rattle.spx_core.proofs.ContextLaws.{erased_in_context}
use Rattle.spx_core.proofs.WrittenNames.{target_written, value_written}

-- ---- names and expressions

kept_reference : (regions : Regions) (name : Name) → erased_reference (resolved_reference regions name) ≡ name
kept_reference regions name = refl

-- an expression at one layer, without what its names denote
erased_at : (y : CoreExpr-F CoreExpr) → erased_expr (roll-CoreExpr y) ≡ erased_step (map-CoreExpr CoreExpr Expr erased_expr y)
erased_at y = fold-roll-CoreExpr Expr erased_step y

-- expressions that are given with what holds of them
shown_written : {Q : Expr → Type 0} (core : Expr → CoreExpr) → ((e : Expr) → Q e → erased_expr (core e) ≡ e) → (parts : List ((e : Expr) × Q e)) → map erased_expr (map core (map (λ e. e.0) parts)) ≡ map (λ e. e.0) parts
shown_written core kept [] = refl
shown_written core kept (e ∷ parts) = ap₂ (λ (x : Expr) (xs : List Expr). x ∷ xs) (kept e.0 e.1) (shown_written core kept parts)

module _ (scene : Scene) (regions : Regions) where
  abbrev Kept : Expr → Type 0
  Kept e = erased_expr (resolved_in scene regions e) ≡ e

  abbrev Shown : Type 0
  Shown = (e : Expr) × Kept e

  -- the parts of a name
  kept_parts : (parts : List Shown) → map erased_expr (map (resolved_in scene regions) (map (λ e. e.0) parts)) ≡ map (λ e. e.0) parts
  kept_parts parts = shown_written (resolved_in scene regions) (λ e is. is) parts

  at_layer : (y : Expr-F Shown) → erased_expr (resolved_expressions.expr_step scene regions (map-Expr Expr CoreExpr (resolved_in scene regions) (map-Expr Shown Expr (λ e. e.0) y))) ≡ roll-Expr (map-Expr Shown Expr (λ e. e.0) y)
  unfolding roll-Expr roll-CoreExpr roll
  at_layer (Expr-F.Number n place) = erased_at (CoreExpr-F.Number n place)
  at_layer (Expr-F.Name path parts) = value_written scene path.root (denoted regions path.root.text) path.steps (map (resolved_in scene regions) (map (λ e. e.0) parts)) ∙ ap (expr.Name path) (kept_parts parts)
  at_layer (Expr-F.Parenthesized place a) = erased_at (CoreExpr-F.Parenthesized place (resolved_in scene regions a.0)) ∙ ap (expr.Parenthesized place) a.1
  at_layer (Expr-F.Prefix op place a) = erased_at (CoreExpr-F.Prefix op place (resolved_in scene regions a.0)) ∙ ap (expr.Prefix op place) a.1
  at_layer (Expr-F.Infix op place a b) = erased_at (CoreExpr-F.Infix op place (resolved_in scene regions a.0) (resolved_in scene regions b.0)) ∙ ap₂ (expr.Infix op place) a.1 b.1
  at_layer (Expr-F.InType op place a path parts) =
      erased_at (CoreExpr-F.InType op place (resolved_in scene regions a.0) _) ∙ ap₂ (λ (x : Expr) (xs : List Expr). expr.InType op place x path xs) a.1 (kept_parts parts)
  at_layer (Expr-F.InRange op place a low high) =
      erased_at (CoreExpr-F.InRange op place (resolved_in scene regions a.0) (resolved_in scene regions low.0) (resolved_in scene regions high.0))
      ∙ ap (λ x. expr.InRange op place x (erased_expr (resolved_in scene regions low.0)) (erased_expr (resolved_in scene regions high.0))) a.1
      ∙ ap₂ (expr.InRange op place a.0) low.1 high.1

  layer : (y : Expr-F Shown) → Kept (roll-Expr (map-Expr Shown Expr (λ e. e.0) y))
  layer y = ap erased_expr (fold-roll-Expr CoreExpr (resolved_expressions.expr_step scene regions) (map-Expr Shown Expr (λ e. e.0) y)) ∙ at_layer y

  kept_in : (e : Expr) → Kept e
  kept_in = ind-Expr Kept (λ x y is. subst (λ z. Kept (roll-Expr z)) is (layer y))

kept_expr : (scene : Scene) (type : ExprType) (regions : Regions) (e : Expr) → erased_expr (resolved_expr scene type regions e) ≡ e
kept_expr scene type regions e = erased_in_context type (resolved_in scene regions e) ∙ kept_in scene regions e

kept_condition : (scene : Scene) (regions : Regions) (e : Expr) → erased_expr (resolved_condition scene regions e) ≡ e
kept_condition scene regions e = kept_expr scene (Of INTEGER.base) regions e

-- ---- lists and optional parts

kept_each : {T C : Type 0} (back : C → T) (core : T → C) → ((t : T) → back (core t) ≡ t) → (ts : List T) → map back (map core ts) ≡ ts
kept_each back core kept [] = refl
kept_each {T} back core kept (t ∷ ts) = ap₂ (λ (x : T) (xs : List T). x ∷ xs) (kept t) (kept_each back core kept ts)

kept_if_there : {T C : Type 0} (back : C → T) (core : T → C) → ((t : T) → back (core t) ≡ t) → (o : Option T) → option_map back (option_map core o) ≡ o
kept_if_there back core kept None = refl
kept_if_there back core kept (Some t) = ap Some (kept t)

kept_names : (region : Region) (meaning : Meaning) (position : ℕ) (names : List Identifier) → map erased_defining (defining_all region meaning position names) ≡ names
kept_names region meaning position [] = refl
kept_names region meaning position (name ∷ names) =
    ap (λ rest. name ∷ rest) (kept_names (declaring region (defining region (meant_at meaning position) name)) meaning (position + 1) names)

-- the parts of a name are what was written
pub kept_all : (scene : Scene) (regions : Regions) (parts : List Expr) → map erased_expr (map (resolved_in scene regions) parts) ≡ parts
kept_all scene regions parts = kept_each erased_expr (resolved_in scene regions) (kept_in scene regions) parts

-- ---- choices and annotations

erased_stmt_at : (y : CoreStmt-F CoreStmt CoreAlternative CoreArm) → erased_stmt (roll-CoreStmt y) ≡ erased_stmt_step (map-CoreStmt CoreStmt CoreAlternative CoreArm Stmt Alternative Arm erased_stmt erased_alternative erased_arm y)
erased_stmt_at y = fold-roll-CoreStmt Stmt Alternative Arm erased_stmt_step erased_alternative_step erased_arm_step y

module _ (scene : Scene) (regions : Regions) where
  kept_choice : (choice : Choice) → erased_choice (resolved_choice scene regions choice) ≡ choice
  kept_choice choice =
      ap₂ (λ (low : Expr) (high : Option Expr). let x : Choice = record { low = low; high = high } in x) (kept_expr scene Universal regions choice.low) (kept_if_there erased_expr (resolved_static scene regions) (kept_expr scene Universal regions) choice.high)

  kept_choices : (choices : Option (List Choice)) → option_map (map erased_choice) (option_map (map (resolved_choice scene regions)) choices) ≡ choices
  kept_choices choices = kept_if_there (map erased_choice) (map (resolved_choice scene regions)) (kept_each erased_choice (resolved_choice scene regions) kept_choice) choices

module _ (regions : Regions) where
  kept_exports : (exports : Exports) → erased_exports (place_of_null exports) (map (resolved_reference regions) (exported_names exports)) ≡ exports
  kept_exports (exported.Names names) = ap exported.Names (kept_each erased_reference (resolved_reference regions) (kept_reference regions) names)
  kept_exports (exported.Null place) = refl

  kept_item : (item : DerivesItem) → erased_item (resolved_item regions item) ≡ item
  kept_item item =
      ap₂ (λ (es : Exports) (is : List Name). let x : DerivesItem = record { exports = es; imports = record { itself = item.imports.itself; names = is } } in x)
      (kept_exports item.exports)
      (kept_each erased_reference (resolved_reference regions) (kept_reference regions) item.imports.names)

  kept_derives : (derives : Derives) → erased_derives (resolved_derives regions derives) ≡ derives
  kept_derives derives =
      ap (λ (items : List DerivesItem). let x : Derives = record { place = derives.place; items = items } in x) (kept_each erased_item (resolved_item regions) kept_item derives.items)

kept_predicate : (scene : Scene) (regions : Regions) (predicate : Predicate) → erased_predicate (resolved_predicate scene regions predicate) ≡ predicate
kept_predicate scene regions predicate = ap (λ (e : Expr). let x : Predicate = record { place = predicate.place; condition = e } in x) (kept_condition scene regions predicate.condition)

-- ---- statements

kept_range : (scene : Scene) (type : ExprType) (regions : Regions) (range : Range) → erased_range (resolved_range scene type regions range) ≡ range
kept_range scene type regions range = ap₂ (λ (low high : Expr). let x : Range = record { low = low; high = high } in x) (kept_expr scene type regions range.low) (kept_expr scene type regions range.high)

-- what is assigned to
kept_target : (types : List TypeRow) (regions : Regions) (name : Name) → erased_target (resolved_target types regions name) ≡ name
kept_target types regions name =
    target_written types name.path.root (denoted regions name.path.root.text) name.path.steps (map (resolved_in (in_code types) regions) name.parts)
    ∙ ap (λ (parts : List Expr). let x : Name = record { path = name.path; parts = parts } in x) (kept_each erased_expr (resolved_in (in_code types) regions) (kept_in (in_code types) regions) name.parts)

module _ (scene : Scene) (outer : Regions) where
  kept_count : (region : Region) (position : ℕ) (c : Count) → erased_count (resolved_count scene outer region position c) ≡ c
  kept_count region position c =
      let around = around_names outer region (c.name ∷ []) in
      ap₂ (λ (n : Name) (b : Option Range). let x : Count = record { place = c.place; name = c.name; word = c.word; is_reverse = c.is_reverse; type_name = n; bounds = b } in x) (kept_reference around c.type_name)
      (kept_if_there erased_range (resolved_range scene (type_named around c.type_name) around) (kept_range scene (type_named around c.type_name) around) c.bounds)

  kept_scheme : (region : Region) (position : ℕ) (written : Scheme) → erased_scheme (resolved_scheme scene outer region position written) ≡ written
  kept_scheme region position (scheme.While place condition) = ap (scheme.While place) (kept_condition scene (region ∷ outer) condition)
  kept_scheme region position (scheme.For c) = ap scheme.For (kept_count region position c)
  kept_scheme region position scheme.Endless = refl

module _ (types : List TypeRow) (items : List CoreDerivesItem) (outer : Regions) where
  mutual
    unfolding roll-CoreStmt roll

    kept_stmt : {region : Region} {position : ℕ} {s : Stmt} {c : CoreStmt} {ds : List Defining} → IsStmt types items outer region position s c ds → erased_stmt c ≡ s
    kept_stmt (null region position place) = erased_stmt_at (CoreStmt-F.Null place)
    kept_stmt (assignment region position target value) =
        erased_stmt_at (CoreStmt-F.Assignment (resolved_target types (region ∷ outer) target) (resolved_expr (in_code types) (type_of_target (resolved_target types (region ∷ outer) target)) (region ∷ outer) value))
        ∙ ap₂ stmt.Assignment (kept_target types (region ∷ outer) target) (kept_expr (in_code types) _ (region ∷ outer) value)
    kept_stmt (if_then region position arms closing cores ds are) = erased_stmt_at (CoreStmt-F.If cores None closing) ∙ ap (λ (a : List Arm). stmt.If a None closing) (kept_arms are)
    kept_stmt (if_else region position arms stmts closing cores body ds es are others) =
        erased_stmt_at (CoreStmt-F.If cores (Some body) closing) ∙ ap₂ (λ (a : List Arm) (o : List Stmt). stmt.If a (Some o) closing) (kept_arms are) (kept_stmts others)
    kept_stmt (case_of region position place selector alternatives closing cores ds are) =
        erased_stmt_at (CoreStmt-F.Case place (resolved_condition (in_code types) (region ∷ outer) selector) cores closing) ∙ ap₂ (λ (e : Expr) (a : List Alternative). stmt.Case place e a closing) (kept_condition (in_code types) (region ∷ outer) selector) (kept_alternatives are)
    kept_stmt (loop region position scheme word stmts closing body ds are) =
        erased_stmt_at (CoreStmt-F.Loop (resolved_scheme (in_code types) outer region position scheme) word body closing) ∙ ap₂ (λ (x : Scheme) (b : List Stmt). stmt.Loop x word b closing) (kept_scheme (in_code types) outer region position scheme) (kept_stmts are)
    kept_stmt (assertion region position kind place condition) =
        erased_stmt_at (CoreStmt-F.Assertion kind place (resolved_condition (in_annotation types items) (region ∷ outer) condition)) ∙ ap (stmt.Assertion kind place) (kept_condition (in_annotation types items) (region ∷ outer) condition)
    kept_stmt (exit region position place condition) =
        erased_stmt_at (CoreStmt-F.Exit place (option_map (resolved_condition (in_code types) (region ∷ outer)) condition)) ∙ ap (stmt.Exit place) (kept_if_there erased_expr (resolved_condition (in_code types) (region ∷ outer)) (kept_condition (in_code types) (region ∷ outer)) condition)

    kept_arm : {region : Region} {position : ℕ} {a : Arm} {c : CoreArm} {ds : List Defining} → IsArm types items outer region position a c ds → erased_arm c ≡ a
    kept_arm (arm region position place condition stmts body ds are) =
        fold-roll-CoreArm Stmt Alternative Arm erased_stmt_step erased_alternative_step erased_arm_step _
        ∙ ap₂ (λ (c : Expr) (ss : List Stmt). let x : Arm = record { place = place; condition = c; body = ss } in x) (kept_condition (in_code types) (region ∷ outer) condition) (kept_stmts are)

    kept_alternative : {region : Region} {position : ℕ} {a : Alternative} {c : CoreAlternative} {ds : List Defining} → IsAlternative types items outer region position a c ds → erased_alternative c ≡ a
    kept_alternative (alternative region position choices stmts body ds are) =
        fold-roll-CoreAlternative Stmt Alternative Arm erased_stmt_step erased_alternative_step erased_arm_step _
        ∙ ap₂ (λ (c : Option (List Choice)) (ss : List Stmt). let x : Alternative = record { choices = c; body = ss } in x) (kept_choices (in_code types) (region ∷ outer) choices) (kept_stmts are)

    kept_stmts : {region : Region} {position : ℕ} {stmts : List Stmt} {cores : List CoreStmt} {ds : List Defining} → AreStmts types items outer region position stmts cores ds → map erased_stmt cores ≡ stmts
    kept_stmts (no_stmts region position) = refl
    kept_stmts (more_stmts region position s stmts c cores ds es first rest) = ap₂ (λ (x : Stmt) (xs : List Stmt). x ∷ xs) (kept_stmt first) (kept_stmts rest)

    kept_arms : {region : Region} {position : ℕ} {arms : List Arm} {cores : List CoreArm} {ds : List Defining} → AreArms types items outer region position arms cores ds → map erased_arm cores ≡ arms
    kept_arms (no_arms region position) = refl
    kept_arms (more_arms region position a arms c cores ds es first rest) = ap₂ (λ (x : Arm) (xs : List Arm). x ∷ xs) (kept_arm first) (kept_arms rest)

    kept_alternatives : {region : Region} {position : ℕ} {alternatives : List Alternative} {cores : List CoreAlternative} {ds : List Defining} → AreAlternatives types items outer region position alternatives cores ds
        → map erased_alternative cores ≡ alternatives
    kept_alternatives (no_alternatives region position) = refl
    kept_alternatives (more_alternatives region position a alternatives c cores ds es first rest) = ap₂ (λ (x : Alternative) (xs : List Alternative). x ∷ xs) (kept_alternative first) (kept_alternatives rest)

-- ---- declarations

module _ (outer : Regions) where
  kept_field : (region : Region) (field : FieldDecl) → erased_field (resolved_field outer region field) ≡ field
  kept_field region field =
      ap₂ (λ (names : List Identifier) (type_name : Name). let x : FieldDecl = record { names = names; type_name = type_name } in x) (kept_names region _ 0 field.names) (kept_reference (around_names outer region field.names) field.type_name)

  kept_fields : (region : Region) (fields : List FieldDecl) → map erased_field (resolved_fields outer region fields) ≡ fields
  kept_fields region [] = refl
  kept_fields region (f ∷ fs) = ap₂ (λ (x : FieldDecl) (xs : List FieldDecl). x ∷ xs) (kept_field region f) (kept_fields (declaring_all region (resolved_field outer region f).names) fs)

module _ (outer : Regions) where
  kept_param : (region : Region) (position : ℕ) (param : Param) → erased_param (resolved_param outer region position param) ≡ param
  kept_param region position param =
      ap₂ (λ (names : List Identifier) (type_name : Name). let x : Param = record { names = names; mode = param.mode; type_name = type_name } in x)
      (kept_names region _ position param.names) (kept_reference (hidden param.names ∷ region ∷ outer) param.type_name)

  kept_params : (region : Region) (position : ℕ) (params : List Param) → map erased_param (resolved_params outer region position params) ≡ params
  kept_params region position [] = refl
  kept_params region position (p ∷ ps) = ap₂ (λ (x : Param) (xs : List Param). x ∷ xs) (kept_param region position p) (kept_params (declaring_all region (resolved_param outer region position p).names) (position + length (resolved_param outer region position p).names) ps)

  kept_type : (region : Region) (before : Before) (name : Identifier) (d : TypeDef) → erased_decl (resolved_type outer region before name d) ≡ decl.FullType name d
  kept_type region before name (definition.Integer range) = ap (λ (r : Range). decl.FullType name (definition.Integer r)) (kept_range (in_declaration before.types) Universal (around_names outer region (name ∷ [])) range)
  kept_type region before name (definition.Enumeration place literals) = ap (λ (names : List Identifier). decl.FullType name (definition.Enumeration place names)) (kept_names _ _ 0 literals)
  kept_type region before name (definition.Array place index element) =
      let around = around_names outer region (name ∷ []) in
      ap₂ (λ (i e : Name). decl.FullType name (definition.Array place i e)) (kept_reference around index) (kept_reference around element)
  kept_type region before name (definition.Record fields end) = ap (λ (fs : List FieldDecl). decl.FullType name (definition.Record fs end)) (kept_fields (around_names outer region (name ∷ [])) [] fields)

  kept_decl : (region : Region) (before : Before) (d : Decl) → erased_decl (resolved_decl outer region before d) ≡ d
  kept_decl region before (decl.Variables names type_name value) =
      let around = around_names outer region names in
      ap (λ (ns : List Identifier). decl.Variables ns (erased_reference (resolved_reference around type_name)) (option_map erased_expr (option_map (resolved_static (in_declaration before.types) around) value))) (kept_names region _ before.vars names)
      ∙ ap₂ (decl.Variables names) (kept_reference around type_name) (kept_if_there erased_expr (resolved_static (in_declaration before.types) around) (kept_expr (in_declaration before.types) Universal around) value)
  kept_decl region before (decl.Constants names type_name value) =
      let around = around_names outer region names in
      ap (λ (ns : List Identifier). decl.Constants ns (option_map erased_reference (option_map (resolved_reference around) type_name)) (erased_expr (resolved_static (in_declaration before.types) around value))) (kept_names region _ 0 names)
      ∙ ap₂ (decl.Constants names) (kept_if_there erased_reference (resolved_reference around) (kept_reference around) type_name) (kept_expr (in_declaration before.types) Universal around value)
  kept_decl region before (decl.FullType name definition) = kept_type region before name definition
  kept_decl region before (decl.Subtype name parent range) =
      let around = around_names outer region (name ∷ []) in
      ap₂ (decl.Subtype name) (kept_reference around parent) (kept_if_there erased_range (resolved_range (in_declaration before.types) Universal around) (kept_range (in_declaration before.types) Universal around) range)

  kept_decls : (region : Region) (before : Before) (ds : List Decl) → map erased_decl (resolved_decls outer region before ds) ≡ ds
  kept_decls region before [] = refl
  kept_decls region before (d ∷ ds) =
      let one = resolved_decl outer region before d in
      ap₂ (λ (x : Decl) (xs : List Decl). x ∷ xs) (kept_decl region before d) (kept_decls (declaring_all region (declared_by one)) (counted before one) ds)

-- ---- subprograms and units

kept_formal_part : (name : Identifier) (position : ℕ) (part : FormalPart) → erased_formal_part (resolved_formal_part name position part) ≡ part
kept_formal_part name position part =
    ap (λ (params : List Param). let x : FormalPart = record { place = part.place; params = params } in x) (kept_params (around_formals name) [] position part.params)

kept_sub : (library : Region) (position : ℕ) (before : Before) (s : Subprogram) → erased_sub (resolved_sub (unit_name library position s) before s) ≡ s
kept_sub library position before s =
    let name = unit_name library position s in
    let sub = resolved_sub name before s in
    let annotations = declaring_all [] (formal_names sub) ∷ around_body name in
    let part = kept_if_there erased_formal_part (resolved_formal_part s.name before.vars) (kept_formal_part s.name before.vars) s.formal_part in
    let derives = kept_if_there erased_derives (resolved_derives annotations) (kept_derives annotations) s.derives in
    let items = items_for name sub.formal_part s in
    let pre = kept_if_there erased_predicate (resolved_predicate (in_code before.types) annotations) (kept_predicate (in_code before.types) annotations) s.pre in
    let post = kept_if_there erased_predicate (resolved_predicate (in_annotation before.types items) annotations) (kept_predicate (in_annotation before.types items) annotations) s.post in
    let decls = kept_decls (around_body name) (declaring_all [] (formal_names sub)) (after_formals before sub.formal_part) s.declarations in
    let types = before.types ++ rows_by_decls sub.declarations in
    let stmts = kept_stmts types items (around_body name) (stmts_are types items (around_body name) s.statements (own_region sub.formal_part sub.declarations) (before.vars + length (declared_before sub.formal_part sub.declarations))) in
    let all : erased_sub sub ≡ record { place = s.place; name = s.name; formal_part = s.formal_part; derives = s.derives; pre = s.pre; post = s.post; declarations = s.declarations; statements = s.statements; end = s.end; end_name = s.end_name } = cc in
    all

kept_units : (library : Region) (position : ℕ) (before : Before) (units : List Unit) → map unit_of (resolved_subs library position before units) ≡ units
kept_units library position before [] = refl
kept_units library position before (unit.Subprogram s ∷ units) =
    ap₂ (λ (x : Unit) (xs : List Unit). x ∷ xs) (ap unit.Subprogram (kept_sub library position before s))
    (kept_units (declaring library (unit_name library position s)) (position + 1) (counted_sub before (resolved_sub (unit_name library position s) before s)) units)

-- without what its names denote, the program is the units that it comes from
pub keeps_units : (units : List Unit) → erased (resolved.resolved units) ≡ units
keeps_units units = all_are_units (resolved_subs [] 0 at_start units) ∙ kept_units [] 0 at_start units

pub visible : (units : List Unit) → Visible (resolved.resolved units)
visible units = ap resolved.resolved (sym (keeps_units units))

pub one : (p q : Program) → Visible p → Visible q → erased p ≡ erased q → p ≡ q
one p q v w e = v ∙ ap resolved.resolved e ∙ sym w

-- ---- breaches of rules on names and types

pub no_breach : (units : List Unit) → first_name_breach units ≡ None → (p : Program) × (erased p ≡ units) × Visible p × Typed p
unfolding first_name_breach
no_breach units e = (resolved.resolved units, keeps_units units, visible units, (unbroken (judged_program (resolved.resolved units)) e).1)

pub breach_free : (p : Program) → Visible p → Typed p → first_name_breach (erased p) ≡ None
unfolding first_name_breach
breach_free p is typed = ap (λ q. breach_in (judged_program q)) (sym is) ∙ ap breach_in typed
