-- The names of a subprogram denote the variables that it declares, each with what is declared of it.
use Rattle.std.proofs.Common.{◌≡◌, ℕ, ◌+◌, Bool, true, false, ◌||◌, List, [], ◌∷◌, ◌++◌, length, map, Option, Some, None, option_map, is_some, refl, sym, ap, ap₂, subst, ◌∙◌, ⊎_elim, append_assoc, length-append, ◌≤◌, take, drop, inl, inr, arith}
use Rattle.std.specs.Prelude.{⊤, All, ◌&&◌, option_and_then, slice_get, ◌==◌}
use Rattle.std.specs.List.{AllByRecursion, flat_map, list_any}
use Rattle.std.proofs.lemmas.Bool.{and_parts, false_from_ne_true, or_cases, or_left, or_right, eqb-true}
use Rattle.std.proofs.lemmas.List.{length-map, map-append, take-append-drop}
use Rattle.std.proofs.Common.{get_or}
use Rattle.std.proofs.lemmas.List.Elements.{All-from_recursion, All-map, All-append}
use Rattle.std.proofs.lemmas.List.Folds.{list_any-append}
use Rattle.spx_text.specs.declared.place.Place.{Place}
use Rattle.spx_tree.specs.declared.expression.Name.{Name}
use Rattle.spx_tree.specs.declared.expression.Expr.{Expr}
use Rattle.spx_tree.specs.declared.statement.Stmt.{Stmt}
use Rattle.spx_tree.specs.declared.statement.Arm.{Arm}
use Rattle.spx_tree.specs.declared.statement.Alternative.{Alternative}
use Rattle.spx_tree.specs.declared.statement.Scheme.TheVariants as scheme
use Rattle.spx_tree.specs.declared.annotation.DerivesItem.{DerivesItem}
use Rattle.spx_tree.specs.declared.annotation.Derives.{Derives}
use Rattle.spx_tree.specs.declared.annotation.Predicate.{Predicate}
use Rattle.spx_tree.specs.declared.subprogram.Subprogram.{Subprogram}
use Rattle.spx_tree.specs.declared.subprogram.Unit.{Unit}
use Rattle.spx_tree.specs.declared.subprogram.Unit.TheVariants as unit
use Rattle.spx_tree.specs.declared.declaration.Range.{Range}
use Rattle.spx_core.specs.declared.entity.VarId.{VarId}
use Rattle.spx_core.specs.declared.entity.Mode.{Mode}
use Rattle.spx_core.specs.declared.entity.VarKind.{VarKind}
use Rattle.spx_core.specs.declared.entity.VarKind.TheVariants.{Formal, Local, Initialized, LoopParameter}
use Rattle.spx_core.specs.declared.entity.Object.{Object}
use Rattle.spx_core.specs.declared.entity.Subtype.{Subtype}
use Rattle.spx_core.specs.declared.name.CoreName.{CoreName}
use Rattle.spx_core.specs.declared.name.Defining.{Defining}
use Rattle.spx_core.specs.declared.entity.TypeId.{TypeId}
use Rattle.spx_core.specs.declared.name.Reference.{Reference}
use Rattle.spx_core.specs.declared.part.PartStep.{PartStep}
use Rattle.spx_core.specs.declared.part.Target.{Target}
use Rattle.spx_core.specs.declared.program.TypeForm.{TypeForm}
use Rattle.spx_core.specs.declared.expression.CoreExpr.{CoreExpr}
use Rattle.spx_core.specs.declared.statement.CoreStmt.{CoreStmt}
use Rattle.spx_core.specs.declared.statement.CoreArm.{CoreArm}
use Rattle.spx_core.specs.declared.statement.CoreAlternative.{CoreAlternative}
use Rattle.spx_core.specs.declared.statement.CoreChoice.{CoreChoice}
use Rattle.spx_core.specs.declared.statement.CoreStmt.TheVariants as stmt
use Rattle.spx_core.specs.declared.statement.CoreScheme.TheVariants as core_scheme
use Rattle.spx_core.specs.declared.statement.CoreRange.{CoreRange}
use Rattle.spx_core.specs.declared.dependency.CoreDerivesItem.{CoreDerivesItem}
use Rattle.spx_core.specs.declared.program.TypeRow.{TypeRow}
use Rattle.spx_core.specs.declared.program.Var.{Var}
use Rattle.spx_core.specs.declared.program.Program.{Program}
use Rattle.spx_core.specs.declared.subprogram.CorePredicate.{CorePredicate}
use Rattle.spx_core.specs.declared.subprogram.Sub.{Sub}
use Rattle.spx_core.specs.Commands.{Command, Skip, Set, Then, Choose, Select, Assertion, Repeat, Leave, Tested, Counted, Endless, Alternatives, Last, When, alternatives_of, arm_before, arms_before, command, commands, leaves, select}
use Rattle.spx_core.specs.Commands as commands_of
use Rattle.spx_core.specs.NamedParts.{form_in}
use Rattle.spx_core.specs.Parts.{IsAsFormed, form_at, parts_in, parts_in_bounds, parts_on_way}
use Rattle.spx_core.specs.Reads.{names_on_way, names_read, whole_read}
use Rattle.spx_core.specs.Uses.{denotes, mentions, is_same}
use Rattle.spx_core.specs.Dependency.{items_of}
use Rattle.spx_core.specs.Mirror.DerivesItems.{has_export, has_import}
use Rattle.spx_core.specs.Formals.{is_formal, is_local, mode_in, mode_of, stands_in, inner, is_inner, is_loop_parameter}
use Rattle.spx_core.specs.Effects.{Effect, Read, chosen, counts, effect, effect_among, is_read, reads, reads_assigned, reads_of, sets, assigns, reads_in, reads_of_range}
use Rattle.spx_core.specs.Obeyed.{mode_denoted}
use Rattle.spx_core.specs.Regions.{Region, Regions}
use Rattle.spx_core.specs.ResolvedExpressions.{Scene, in_annotation, in_code, type_of_target, resolved_expr, resolved_in, resolved_reference, resolved_target, resolved_range, resolved_condition}
use Rattle.spx_core.specs.DeclaredNames.{declaring, declaring_all, around_names, object_of}
use Rattle.spx_core.specs.ResolvedStatements.{exported_names, resolved_derives, resolved_item, resolved_predicate, declared_by_count, resolved_choice, resolved_count, type_named}
use Rattle.spx_core.specs.ResolvedDeclarations.{Before, next_type}
use Rattle.spx_core.specs.Resolved.{after_formals, around_body, at_start, counted_sub, formal_names, items_for, local_names, local_variables, own_types, own_vars, resolved_sub, resolved_subs, standard_types, unit_name, var_of, loop_names, positions}
use Rattle.spx_core.proofs.ContextLaws.{reads_in_context}
use Rattle.spx_core.proofs.FormedNames.{formed_in_context, front_form, target_formed}
use Rattle.spx_core.proofs.Positions.{AllFrom, each_from}
use Rattle.spx_core.specs.Contexts.{in_context}
use Rattle.spx_core.specs.declared.rule.ExprType.{ExprType}
use Rattle.spx_core.specs.declared.rule.ExprType.TheVariants.{Of}
use Rattle.spx_core.specs.declared.entity.TheConstants.{INTEGER}
use Rattle.spx_core.specs.Resolved as resolved
use Rattle.spx_core.specs.Erased.{Visible, erased}
use Rattle.spx_core.specs.Scopes.{AllAreAsDeclared, AllAreAsFormed, AllHaveTheirModes, AreAsDeclared, AreAsFormed, HasItsMode, HaveTheirModes, IsAsDeclared, Scoped, TargetsHaveTheirModes, kind_of, object_declared, object_in, IsInnerKind, LoopsDiffer, names_in_bounds}
use Rattle.spx_core.proofs.Callers.Pairs.{exports_are, imports_are}
use Rattle.spx_core.proofs.Callers.ListTests.{each_append, some_mapped, each_split}
use Rattle.spx_core.proofs.Callers.FlowLaws.{assigns_chosen, counts_chosen, reads_assigned_uses, reads_chosen, reads_uses, sets_by}
use Rattle.spx_core.proofs.Callers.Variables.{same_var}
use Rattle.spx_core.proofs.Callers.CommandForms.{command-Null, command-Assignment, command-If, command-If-else, command-Case, command-While, command-For, command-Endless, command-Assertion, command-Exit, command_arm, command_alternative}
use Rattle.spx_core.proofs.RegionLaws.{AllHold, AreKnown, known_variable, target_known, target_root, HasRow, Holds, HoldsIn, around_holds, inside_holds, mentioned_variable, predefined_have_rows, read_known, reference_variable, root_holds, declaring_all_holds, hidden_holds}
use Rattle.spx_core.proofs.ResolvedParts.{IsStmt, null, assignment, if_then, if_else, case_of, loop, assertion, exit, IsArm, arm, IsAlternative, alternative, AreStmts, no_stmts, more_stmts, AreArms, no_arms, more_arms, AreAlternatives, no_alternatives, more_alternatives, stmts_are}
use Rattle.spx_core.proofs.Consecutive.{Any, Consecutive, Known, positions_differ, IsFormal, IsLocal, at_position, decls_known, first_positions, formals_consecutive, formals_known, is_at, last_positions, rows, IsLocalKind, IsLoopParameter, consecutive_known, stmts_consecutive}

mode_in_row : (kind : VarKind) (row : Option Var) → option_map (λ (var : Var). var.kind) row ≡ Some kind → option_and_then (λ (var : Var). mode_in var.kind) row ≡ mode_in kind
mode_in_row kind (Some var) is = ap mode_in (let e : var.kind ≡ kind = cc in e)
mode_in_row kind None is = absurd (cc)

-- the kind of a variable is that of its object
kind_typed : (kind : VarKind) (row : Option TypeRow) (object : Object) → option_map (λ (r : TypeRow). let o : Object = record { kind = kind; subtype = r.subtype } in o) row ≡ Some object → kind ≡ object.kind
kind_typed kind (Some row) object is = cc
kind_typed kind None object is = absurd cc

kind_in : (p : Program) (row : Option Var) (object : Object) → option_and_then (object_in p) row ≡ Some object → option_map (λ (var : Var). var.kind) row ≡ Some object.kind
kind_in p (Some var) object is = ap Some (kind_typed var.kind (slice_get p.types var.type_id.0) object is)
kind_in p None object is = absurd cc

pub kind_is : (p : Program) (v : VarId) (object : Object) → object_declared p v ≡ Some object → kind_of p v ≡ Some object.kind
kind_is p v object is = kind_in p (slice_get p.vars v.0) object is

-- the mode of a variable is that of its kind
pub mode_is : (p : Program) (v : VarId) (kind : VarKind) → kind_of p v ≡ Some kind → mode_of v p ≡ mode_in kind
mode_is p v kind is = mode_in_row kind (slice_get p.vars v.0) is

-- ---- names of annotations and of statements

-- one thing holds of the types, and one of the variables, that regions declare
module _ (table : List TypeRow) (T : Subtype → Type 0) (P : VarId → Object → Type 0) where
  -- a target is what some name is in such regions
  abbrev IsTarget : Target → Type 0
  IsTarget target = (regions : Regions) × (name : Name) × AllByRecursion (HoldsIn T P) regions × (target ≡ resolved_target table regions name)

  -- a value is what some expression is there, whatever type it meets, where these types are declared
  abbrev IsValue : CoreExpr → Type 0
  IsValue value = (type : ExprType) × (regions : Regions) × (scene : Scene) × (e : Expr) × AllByRecursion (HoldsIn T P) regions × (value ≡ in_context type (resolved_in scene regions e)) × (scene.types ≡ table)

  abbrev AreValues : Option CoreRange → Type 0
  AreValues None = ⊤
  AreValues (Some range) = IsValue range.low × IsValue range.high

  -- The targets and the expressions of a command are such names and values. The parameters of its loops stand at this position or after it, those of loops
  -- in a loop after its own.
  abbrev mutual
    Resolves : ℕ → Command → Type 0
    Resolves low Skip = ⊤
    Resolves low (Set target value) = IsTarget target × IsValue value
    Resolves low (Then a b) = Resolves low a × Resolves low b
    Resolves low (Choose place condition a b) = IsValue condition × Resolves low a × Resolves low b
    Resolves low (Select place selector alternatives) = IsValue selector × AllResolve low alternatives
    Resolves low (Assertion kind place condition) = IsValue condition
    Resolves low (Repeat (Tested place condition) body) = IsValue condition × Resolves low body
    Resolves low (Repeat (Counted c) body) = (low ≤ c.parameter.0) × P c.parameter (object_of LoopParameter c.type_name) × AreValues c.bounds × Resolves (c.parameter.0 + 1) body
    Resolves low (Repeat Endless body) = Resolves low body
    Resolves low (Leave place) = ⊤

    AllResolve : ℕ → Alternatives → Type 0
    AllResolve low (Last choices a) = Resolves low a
    AllResolve low (When choices a rest) = Resolves low a × AllResolve low rest

  value_known : (value : CoreExpr) → (written : IsValue value) → AreKnown T P written.1 written.4 (names_read value)
  value_known value written =
      let named = resolved_in written.2 written.1 written.3 in
      subst (λ (e : CoreExpr). AreKnown T P written.1 written.4 (names_read e)) (sym written.5)
      (subst (AreKnown T P written.1 written.4) (sym (reads_in_context written.0 named)) (read_known T P written.1 written.4 written.2 written.3))

  bounds_are_values : (type : ExprType) (regions : Regions) → AllByRecursion (HoldsIn T P) regions → (bounds : Option Range) → AreValues (option_map (resolved_range (in_code table) type regions) bounds)
  bounds_are_values type regions all None = tt
  bounds_are_values type regions all (Some range) = ((type, regions, in_code table, range.low, all, refl, refl), (type, regions, in_code table, range.high, all, refl, refl))

  -- ---- so it is with the commands of resolved statements

  module _ (items : List CoreDerivesItem) (outer : Regions) (known : AllByRecursion (HoldsIn T P) outer) where
    abbrev condition_in : (region : Region) → HoldsIn T P region → (e : Expr) → IsValue (resolved_condition (in_code table) (region ∷ outer) e)
    condition_in region own e = (Of INTEGER.base, region ∷ outer, in_code table, e, (own, known), refl, refl)

    mutual
      stmt_resolves : (low : ℕ) {region : Region} {position : ℕ} {s : Stmt} {c : CoreStmt} {ds : List Defining} → IsStmt table items outer region position s c ds → low ≤ position → HoldsIn T P region → AllHold T P ds → Resolves low (command c)
      stmt_resolves low (null region position place) at own all = subst (Resolves low) (sym (command-Null place)) tt
      stmt_resolves low (assignment region position target value) at own all =
          subst (Resolves low) (sym (command-Assignment (resolved_target table (region ∷ outer) target) (resolved_expr (in_code table) (type_of_target (resolved_target table (region ∷ outer) target)) (region ∷ outer) value)))
          ((region ∷ outer, target, (own, known), refl), (type_of_target (resolved_target table (region ∷ outer) target), region ∷ outer, in_code table, value, (own, known), refl, refl))
      stmt_resolves low (if_then region position arms closing cores ds are) at own all =
          subst (Resolves low) (sym (command-If (stmt.If cores None closing) cores None closing refl refl)) (arms_resolve low are at own all Skip tt)
      stmt_resolves low (if_else region position arms stmts closing cores body ds es are others) at own all =
          let parts = each_split (λ (d : Defining). Holds T P (Some d.entity)) ds es all in
          subst (Resolves low) (sym (command-If-else (stmt.If cores (Some body) closing) cores (Some body) body closing refl refl))
          (arms_resolve low are at own parts.0 (commands body) (stmts_resolve low others (omega (arith, at)) own parts.1))
      stmt_resolves low (case_of region position place selector alternatives closing cores ds are) at own all =
          let value = resolved_condition (in_code table) (region ∷ outer) selector in
          subst (Resolves low) (sym (command-Case (stmt.Case place value cores closing) place value cores closing refl)) (select_resolves low place value (condition_in region own selector) are at own all)
      stmt_resolves low (loop region position (scheme.While place condition) word stmts closing body ds are) at own all =
          let value = resolved_condition (in_code table) (region ∷ outer) condition in
          let x = core_scheme.While place value in
          subst (Resolves low) (sym (command-While (stmt.Loop x word body closing) x word body closing place value refl refl)) (condition_in region own condition, stmts_resolve low are (omega (arith, at)) own all)
      stmt_resolves low (loop region position (scheme.For written) word stmts closing body ds are) at own all =
          let c = resolved_count (in_code table) outer region position written in
          let x = core_scheme.For c in
          let d = declared_by_count c in
          let around = around_names outer region (written.name ∷ []) in
          let inside = declaring_all_holds T P region (d ∷ []) own (all.0, tt) in
          let bounds = bounds_are_values (type_named around written.type_name) around (hidden_holds T P (written.name ∷ []), (own, known)) written.bounds in
          subst (Resolves low) (sym (command-For (stmt.Loop x word body closing) x word body closing c refl refl)) (at, all.0, bounds, stmts_resolve (position + 1) are (omega arith) inside all.1)
      stmt_resolves low (loop region position scheme.Endless word stmts closing body ds are) at own all =
          subst (Resolves low) (sym (command-Endless (stmt.Loop core_scheme.Endless word body closing) core_scheme.Endless word body closing refl refl)) (stmts_resolve low are (omega (arith, at)) own all)
      stmt_resolves low (exit region position place None) at own all = subst (Resolves low) (sym (command-Exit place None)) tt
      stmt_resolves low (exit region position place (Some condition)) at own all =
          subst (Resolves low) (sym (command-Exit place (Some (resolved_condition (in_code table) (region ∷ outer) condition)))) (condition_in region own condition, tt, tt)
      stmt_resolves low (assertion region position kind place condition) at own all =
          subst (Resolves low) (sym (command-Assertion kind place (resolved_condition (in_annotation table items) (region ∷ outer) condition))) (Of INTEGER.base, region ∷ outer, in_annotation table items, condition, (own, known), refl, refl)

      arm_resolves : (low : ℕ) {region : Region} {position : ℕ} {a : Arm} {c : CoreArm} {ds : List Defining} → IsArm table items outer region position a c ds → low ≤ position → HoldsIn T P region → AllHold T P ds
          → (otherwise : Command) → Resolves low otherwise → Resolves low (arm_before c otherwise)
      arm_resolves low (arm region position place condition stmts body ds are) at own all otherwise rest =
          subst (Resolves low) (sym (command_arm (record { place = place; condition = resolved_condition (in_code table) (region ∷ outer) condition; body = body }) otherwise)) (condition_in region own condition, stmts_resolve low are at own all, rest)

      alternative_resolves : (low : ℕ) {region : Region} {position : ℕ} {a : Alternative} {c : CoreAlternative} {ds : List Defining} → IsAlternative table items outer region position a c ds → low ≤ position → HoldsIn T P region → AllHold T P ds
          → Resolves low (commands_of.alternative c).1
      alternative_resolves low (alternative region position choices stmts body ds are) at own all =
          subst (Resolves low) (sym (command_alternative (record { choices = option_map (map (resolved_choice (in_code table) (region ∷ outer))) choices; body = body }))) (stmts_resolve low are at own all)

      stmts_resolve : (low : ℕ) {region : Region} {position : ℕ} {stmts : List Stmt} {cores : List CoreStmt} {ds : List Defining} → AreStmts table items outer region position stmts cores ds → low ≤ position → HoldsIn T P region → AllHold T P ds
          → Resolves low (commands cores)
      stmts_resolve low (no_stmts region position) at own all = tt
      stmts_resolve low (more_stmts region position s stmts c cores ds es first rest) at own all =
          let parts = each_split (λ (d : Defining). Holds T P (Some d.entity)) ds es all in
          (stmt_resolves low first at own parts.0, stmts_resolve low rest (omega (arith, at)) own parts.1)

      arms_resolve : (low : ℕ) {region : Region} {position : ℕ} {arms : List Arm} {cores : List CoreArm} {ds : List Defining} → AreArms table items outer region position arms cores ds → low ≤ position → HoldsIn T P region → AllHold T P ds
          → (otherwise : Command) → Resolves low otherwise → Resolves low (arms_before otherwise (map arm_before cores))
      arms_resolve low (no_arms region position) at own all otherwise last = last
      arms_resolve low (more_arms region position a arms c cores ds es first rest) at own all otherwise last =
          let parts = each_split (λ (d : Defining). Holds T P (Some d.entity)) ds es all in
          arm_resolves low first at own parts.0 (arms_before otherwise (map arm_before cores)) (arms_resolve low rest (omega (arith, at)) own parts.1 otherwise last)

      -- what comes first is known
      alternatives_resolve : (low : ℕ) {region : Region} {position : ℕ} {alternatives : List Alternative} {cores : List CoreAlternative} {ds : List Defining} → AreAlternatives table items outer region position alternatives cores ds → low ≤ position
          → HoldsIn T P region → AllHold T P ds → (chosen : Option (List CoreChoice) × Command) → Resolves low chosen.1 → AllResolve low (alternatives_of chosen (map commands_of.alternative cores))
      alternatives_resolve low (no_alternatives region position) at own all chosen before = before
      alternatives_resolve low (more_alternatives region position a alternatives c cores ds es first rest) at own all chosen before =
          let parts = each_split (λ (d : Defining). Holds T P (Some d.entity)) ds es all in
          (before, alternatives_resolve low rest (omega (arith, at)) own parts.1 (commands_of.alternative c) (alternative_resolves low first at own parts.0))

      select_resolves : (low : ℕ) (place : Place) (selector : CoreExpr) → IsValue selector → {region : Region} {position : ℕ} {alternatives : List Alternative} {cores : List CoreAlternative} {ds : List Defining}
          → AreAlternatives table items outer region position alternatives cores ds → low ≤ position → HoldsIn T P region → AllHold T P ds → Resolves low (select place selector (map commands_of.alternative cores))
      select_resolves low place selector value (no_alternatives region position) at own all = tt
      select_resolves low place selector value (more_alternatives region position a alternatives c cores ds es first rest) at own all =
          let parts = each_split (λ (d : Defining). Holds T P (Some d.entity)) ds es all in
          (value, alternatives_resolve low rest (omega (arith, at)) own parts.1 (commands_of.alternative c) (alternative_resolves low first at own parts.0))

  -- ---- variables of a relation

  module _ (regions : Regions) (all : AllByRecursion (HoldsIn T P) regions) (v : VarId) where
    imported_variable : (item : DerivesItem) → has_import v (resolved_item regions item) ≡ true → (object : Object) × P v object
    imported_variable item h =
        ⊎_elim (mentioned_variable T P regions all v item.imports.names) (λ itself. mentioned_variable T P regions all v (exported_names item.exports) (and_parts (is_some item.imports.itself) (has_export v (resolved_item regions item)) itself).1)
        (or_cases (mentions v (map (resolved_reference regions) item.imports.names)) (is_some item.imports.itself && has_export v (resolved_item regions item)) h)

    in_relation : (test : CoreDerivesItem → Bool) → ((item : DerivesItem) → test (resolved_item regions item) ≡ true → (object : Object) × P v object)
        → (derives : Option Derives) → list_any test (items_of (option_map (resolved_derives regions) derives)) ≡ true → (object : Object) × P v object
    in_relation test known None h = absurd cc
    in_relation test known (Some derives) h = let one = some_mapped test (resolved_item regions) derives.items h in known one.0 one.1

  -- ---- variables of a command

  module _ (v : VarId) where
    value_variable : (value : CoreExpr) → IsValue value → is_read v (reads_of value) ≡ true → (object : Object) × P v object
    value_variable value written h =
        known_variable T P written.1 written.4 v (names_read value) (value_known value written) (sym (reads_uses v value) ∙ h)

    -- the names that an assignment reads: in indexes, in the right side, and, to a part, the whole
    way_variable : (target : Target) → IsTarget target → list_any (denotes v) (names_on_way target.way) ≡ true → (object : Object) × P v object
    way_variable target written h =
        let known = subst (λ (t : Target). AreKnown T P written.0 written.2 (names_on_way t.way)) (sym written.3) (target_known T P written.0 written.2 table written.1) in
        known_variable T P written.0 written.2 v (names_on_way target.way) known h

    root_variable : (target : Target) → IsTarget target → denotes v target.root ≡ true → (object : Object) × P v object
    root_variable target written h =
        let root = sym (target_root table written.0 written.1) ∙ ap (λ (t : Target). t.root) (sym written.3) in
        let known = reference_variable T P written.0 written.2 v written.1 (ap (denotes v) root ∙ h) in
        (known.0, known.2)

    whole_variable : (target : Target) → IsTarget target → (way : List PartStep) → target.way ≡ way → list_any (denotes v) (whole_read target) ≡ true → (object : Object) × P v object
    whole_variable target written [] is h = let none : list_any (denotes v) (whole_read (record { root = target.root; way = []; faulty = target.faulty })) ≡ true = ap (λ (w : List PartStep). list_any (denotes v) (whole_read (record { root = target.root; way = w; faulty = target.faulty }))) (sym is) ∙ h in absurd cc
    whole_variable target written (s ∷ way) is h =
        let one : (denotes v target.root || false) ≡ true = ap (λ (w : List PartStep). list_any (denotes v) (whole_read (record { root = target.root; way = w; faulty = target.faulty }))) (sym is) ∙ h in
        ⊎_elim (root_variable target written) (λ no. absurd cc) (or_cases (denotes v target.root) false one)

    assigned_reads : (target : Target) (value : CoreExpr) → IsTarget target → IsValue value → is_read v (reads_assigned target value) ≡ true → (object : Object) × P v object
    assigned_reads target value place written h =
        let way = names_on_way target.way in
        let all : (list_any (denotes v) way || list_any (denotes v) (names_read value ++ whole_read target)) ≡ true = sym (list_any-append (denotes v) way (names_read value ++ whole_read target)) ∙ sym (reads_assigned_uses v target value) ∙ h in
        ⊎_elim (way_variable target place)
        (λ rest. ⊎_elim (λ read. value_variable value written (reads_uses v value ∙ read)) (whole_variable target place target.way refl)
        (or_cases (list_any (denotes v) (names_read value)) (list_any (denotes v) (whole_read target)) (sym (list_any-append (denotes v) (names_read value) (whole_read target)) ∙ rest)))
        (or_cases (list_any (denotes v) way) (list_any (denotes v) (names_read value ++ whole_read target)) all)

    bounds_variable : (bounds : Option CoreRange) → AreValues bounds → is_read v (reads_in (option_map reads_of_range bounds)) ≡ true → (object : Object) × P v object
    bounds_variable None written h = absurd cc
    bounds_variable (Some range) written h =
        let reads_it : Read → Bool = λ (r : Read). r.1.0 == v.0 in
        ⊎_elim (value_variable range.low written.0) (value_variable range.high written.1) (or_cases (is_read v (reads_of range.low)) (is_read v (reads_of range.high)) (sym (list_any-append reads_it (reads_of range.low) (reads_of range.high)) ∙ h))

    mutual
      -- what a loop counts over is one of its parameters
      counted_variable : (low : ℕ) (c : Command) → Resolves low c → counts v (effect c) ≡ true → (low ≤ v.0) × ((object : Object) × (object.kind ≡ LoopParameter) × P v object)
      counted_variable low Skip written h = absurd cc
      counted_variable low (Set target value) written h = absurd cc
      counted_variable low (Then a b) written h = ⊎_elim (counted_variable low a written.0) (counted_variable low b written.1) (or_cases (counts v (effect a)) (counts v (effect b)) h)
      counted_variable low (Choose place condition a b) written h =
          ⊎_elim (counted_variable low a written.1) (counted_variable low b written.2) (or_cases (counts v (effect a)) (counts v (effect b)) (sym (counts_chosen v (leaves a) (reads_of condition) (effect a) (effect b) place) ∙ h))
      counted_variable low (Select place selector alternatives) written h = counted_among low (reads_of selector) place alternatives written.1 h
      counted_variable low (Assertion kind place condition) written h = absurd cc
      counted_variable low (Repeat Endless body) written h = counted_variable low body written h
      counted_variable low (Leave place) written h = absurd cc
      counted_variable low (Repeat (Tested place condition) body) written h = counted_variable low body written.1 h
      counted_variable low (Repeat (Counted c) body) written h =
          elim (or_cases (is_same v (Some c.parameter)) (counts v (effect body)) h) [
            | inl same ↦
                let is = same_var c.parameter v (eqb-true c.parameter.0 v.0 same) in
                (subst (λ (w : VarId). low ≤ w.0) is written.0, (object_of LoopParameter c.type_name, refl, subst (λ w. P w (object_of LoopParameter c.type_name)) is written.1))
            | inr later ↦ let one = counted_variable (c.parameter.0 + 1) body written.3 later in (omega (arith, written.0, one.0), one.1)
          ]

      counted_among : (low : ℕ) (tests : List Read) (place : Place) (alternatives : Alternatives) → AllResolve low alternatives → counts v (effect_among tests place alternatives) ≡ true
          → (low ≤ v.0) × ((object : Object) × (object.kind ≡ LoopParameter) × P v object)
      counted_among low tests place (Last choices a) written h = ⊎_elim (counted_variable low a written) (counted_variable low a written) (or_cases (counts v (effect a)) (counts v (effect a)) h)
      counted_among low tests place (When choices a rest) written h =
          ⊎_elim (counted_variable low a written.0) (counted_among low tests place rest written.1)
          (or_cases (counts v (effect a)) (counts v (effect_among tests place rest)) (sym (counts_chosen v (leaves a) tests (effect a) (effect_among tests place rest) place) ∙ h))

    mutual
      assigned_variable : (low : ℕ) (c : Command) → Resolves low c → assigns v (effect c) ≡ true → (object : Object) × P v object
      assigned_variable low Skip written h = absurd cc
      assigned_variable low (Set target value) written h =
          root_variable target written.0 h
      assigned_variable low (Then a b) written h = ⊎_elim (assigned_variable low a written.0) (assigned_variable low b written.1) (or_cases (assigns v (effect a)) (assigns v (effect b)) h)
      assigned_variable low (Choose place condition a b) written h =
          ⊎_elim (assigned_variable low a written.1) (assigned_variable low b written.2) (or_cases (assigns v (effect a)) (assigns v (effect b)) (sym (assigns_chosen v (leaves a) (reads_of condition) (effect a) (effect b) place) ∙ h))
      assigned_variable low (Select place selector alternatives) written h = assigned_among low (reads_of selector) place alternatives written.1 h
      assigned_variable low (Assertion kind place condition) written h = absurd cc
      assigned_variable low (Repeat Endless body) written h = assigned_variable low body written h
      assigned_variable low (Leave place) written h = absurd cc
      assigned_variable low (Repeat (Tested place condition) body) written h = assigned_variable low body written.1 h
      assigned_variable low (Repeat (Counted c) body) written h = assigned_variable (c.parameter.0 + 1) body written.3 h

      assigned_among : (low : ℕ) (tests : List Read) (place : Place) (alternatives : Alternatives) → AllResolve low alternatives → assigns v (effect_among tests place alternatives) ≡ true → (object : Object) × P v object
      assigned_among low tests place (Last choices a) written h = ⊎_elim (assigned_variable low a written) (assigned_variable low a written) (or_cases (assigns v (effect a)) (assigns v (effect a)) h)
      assigned_among low tests place (When choices a rest) written h =
          ⊎_elim (assigned_variable low a written.0) (assigned_among low tests place rest written.1)
          (or_cases (assigns v (effect a)) (assigns v (effect_among tests place rest)) (sym (assigns_chosen v (leaves a) tests (effect a) (effect_among tests place rest) place) ∙ h))

    set_variable : (low : ℕ) (c : Command) → Resolves low c → sets v (effect c) ≡ true → (object : Object) × P v object
    set_variable low c written h = ⊎_elim (assigned_variable low c written) (λ counted. let one = (counted_variable low c written counted).1 in (one.0, one.2)) (sets_by v (effect c) h)

    mutual
      read_variable : (low : ℕ) (c : Command) → Resolves low c → reads v (effect c) ≡ true → (object : Object) × P v object
      read_variable low Skip written h = absurd cc
      read_variable low (Set target value) written h = assigned_reads target value written.0 written.1 h
      read_variable low (Then a b) written h = ⊎_elim (read_variable low a written.0) (read_variable low b written.1) (or_cases (reads v (effect a)) (reads v (effect b)) h)
      read_variable low (Choose place condition a b) written h =
          ⊎_elim (value_variable condition written.0)
          (λ arms. ⊎_elim (read_variable low a written.1) (read_variable low b written.2) (or_cases (reads v (effect a)) (reads v (effect b)) arms))
          (or_cases (is_read v (reads_of condition)) (reads v (effect a) || reads v (effect b)) (sym (reads_chosen v (leaves a) (reads_of condition) (effect a) (effect b) place) ∙ h))
      read_variable low (Select place selector alternatives) written h = read_among low (reads_of selector) place (value_variable selector written.0) alternatives written.1 h
      read_variable low (Assertion kind place condition) written h = value_variable condition written h
      read_variable low (Repeat Endless body) written h = read_variable low body written h
      read_variable low (Leave place) written h = absurd cc
      read_variable low (Repeat (Tested place condition) body) written h =
          ⊎_elim (value_variable condition written.0) (read_variable low body written.1) (or_cases (is_read v (reads_of condition)) (reads v (effect body)) h)
      read_variable low (Repeat (Counted c) body) written h =
          ⊎_elim (bounds_variable c.bounds written.2) (read_variable (c.parameter.0 + 1) body written.3) (or_cases (is_read v (reads_in (option_map reads_of_range c.bounds))) (reads v (effect body)) h)

      -- the tests read such a variable
      read_among : (low : ℕ) (tests : List Read) (place : Place) → (is_read v tests ≡ true → (object : Object) × P v object) → (alternatives : Alternatives) → AllResolve low alternatives
          → reads v (effect_among tests place alternatives) ≡ true → (object : Object) × P v object
      read_among low tests place tested (Last choices a) written h =
          ⊎_elim tested (λ arms. ⊎_elim (read_variable low a written) (read_variable low a written) (or_cases (reads v (effect a)) (reads v (effect a)) arms))
          (or_cases (is_read v tests) (reads v (effect a) || reads v (effect a)) h)
      read_among low tests place tested (When choices a rest) written h =
          ⊎_elim tested (λ arms. ⊎_elim (read_variable low a written.0) (read_among low tests place tested rest written.1) (or_cases (reads v (effect a)) (reads v (effect_among tests place rest)) arms))
          (or_cases (is_read v tests) (reads v (effect a) || reads v (effect_among tests place rest)) (sym (reads_chosen v (leaves a) tests (effect a) (effect_among tests place rest) place) ∙ h))

  -- ---- loops in loops

  either_differ : (l : Bool) (tests : List Read) (a b : Effect) (place : Place) → LoopsDiffer a → LoopsDiffer b → LoopsDiffer (chosen l tests a b place)
  either_differ true tests a b place first second = (first, second)
  either_differ false tests a b place first second = (first, second)

  mutual
    loops_differ : (low : ℕ) (c : Command) → Resolves low c → LoopsDiffer (effect c)
    loops_differ low Skip written = tt
    loops_differ low (Set target value) written = tt
    loops_differ low (Then a b) written = (loops_differ low a written.0, loops_differ low b written.1)
    loops_differ low (Choose place condition a b) written = either_differ (leaves a) (reads_of condition) (effect a) (effect b) place (loops_differ low a written.1) (loops_differ low b written.2)
    loops_differ low (Select place selector alternatives) written = loops_differ_among low (reads_of selector) place alternatives written.1
    loops_differ low (Assertion kind place condition) written = tt
    loops_differ low (Repeat Endless body) written = loops_differ low body written
    loops_differ low (Leave place) written = tt
    loops_differ low (Repeat (Tested place condition) body) written = loops_differ low body written.1
    loops_differ low (Repeat (Counted c) body) written =
        let next = c.parameter.0 + 1 in (
          false_from_ne_true (counts c.parameter (effect body)) (λ h. let later = (counted_variable c.parameter next body written.3 h).0 in omega (arith, later)),
          loops_differ next body written.3,
        )

    loops_differ_among : (low : ℕ) (tests : List Read) (place : Place) (alternatives : Alternatives) → AllResolve low alternatives → LoopsDiffer (effect_among tests place alternatives)
    loops_differ_among low tests place (Last choices a) written = (loops_differ low a written, loops_differ low a written)
    loops_differ_among low tests place (When choices a rest) written =
        either_differ (leaves a) tests (effect a) (effect_among tests place rest) place (loops_differ low a written.0) (loops_differ_among low tests place rest written.1)

-- ---- what is declared of the variables that names denote

module _ (p : Program) (table : List TypeRow) (within : (id : TypeId) (f : TypeForm) → form_in table id ≡ Some f → form_at p id ≡ Some f) (T : Subtype → Type 0) (P : VarId → Object → Type 0)
    (row : (v : VarId) (object : Object) → P v object → object_declared p v ≡ Some object) where
  has_its_mode : (regions : Regions) → AllByRecursion (HoldsIn T P) regions → (name : Name) → HasItsMode p (resolved_reference regions name).root
  has_its_mode regions all name v is =
      let known = reference_variable T P regions all v name is in
      ap mode_denoted known.1 ∙ sym (mode_is p v known.0.kind (kind_is p v known.0 (row v known.0 known.2)))

  have_their_modes : (regions : Regions) → AllByRecursion (HoldsIn T P) regions → (names : List Name) → All (λ (name : Reference). HasItsMode p name.root) (map (resolved_reference regions) names)
  have_their_modes regions all names = All-map (λ (name : Reference). HasItsMode p name.root) (resolved_reference regions) names (λ k d less. has_its_mode regions all (get_or names k d))

  relation_has_modes : (regions : Regions) → AllByRecursion (HoldsIn T P) regions → (derives : Option Derives) → All (HaveTheirModes p) (items_of (option_map (resolved_derives regions) derives))
  relation_has_modes regions all None = All-from_recursion (HaveTheirModes p) [] tt
  relation_has_modes regions all (Some derives) =
      All-map (HaveTheirModes p) (resolved_item regions) derives.items
      (λ k d less. let item = get_or derives.items k d in (have_their_modes regions all (exported_names item.exports), have_their_modes regions all item.imports.names))

  mutual
    targets_have_modes : (low : ℕ) (c : Command) → Resolves table T P low c → TargetsHaveTheirModes p c
    targets_have_modes low Skip written = tt
    targets_have_modes low (Set target value) written =
        subst (HasItsMode p) (sym (ap (λ (t : Target). t.root) written.0.3 ∙ target_root table written.0.0 written.0.1)) (has_its_mode written.0.0 written.0.2 written.0.1)
    targets_have_modes low (Then a b) written = (targets_have_modes low a written.0, targets_have_modes low b written.1)
    targets_have_modes low (Choose place condition a b) written = (targets_have_modes low a written.1, targets_have_modes low b written.2)
    targets_have_modes low (Select place selector alternatives) written = all_have_modes low alternatives written.1
    targets_have_modes low (Assertion kind place condition) written = tt
    targets_have_modes low (Repeat Endless body) written = targets_have_modes low body written
    targets_have_modes low (Leave place) written = tt
    targets_have_modes low (Repeat (Tested place condition) body) written = targets_have_modes low body written.1
    targets_have_modes low (Repeat (Counted c) body) written = targets_have_modes (c.parameter.0 + 1) body written.3

    all_have_modes : (low : ℕ) (alternatives : Alternatives) → AllResolve table T P low alternatives → AllHaveTheirModes p alternatives
    all_have_modes low (Last choices a) written = targets_have_modes low a written
    all_have_modes low (When choices a rest) written = (targets_have_modes low a written.0, all_have_modes low rest written.1)

  as_declared : (name : CoreName) → Holds T P name.entity → IsAsDeclared p name
  as_declared name h v object is = row v object (subst (Holds T P) is h)

  all_as_declared : (names : List CoreName) → AllByRecursion (λ (name : CoreName). Holds T P name.entity) names → AllByRecursion (IsAsDeclared p) names
  all_as_declared [] known = tt
  all_as_declared (name ∷ names) known = (as_declared name known.0, all_as_declared names known.1)

  read_as_declared : (value : CoreExpr) → IsValue table T P value → All (IsAsDeclared p) (names_read value)
  read_as_declared value written = All-from_recursion (IsAsDeclared p) _ (all_as_declared (names_read value) (value_known table T P value written))

  bounds_as_declared : (bounds : Option CoreRange) → AreValues table T P bounds → All (IsAsDeclared p) (names_in_bounds bounds)
  bounds_as_declared None written = All-from_recursion (IsAsDeclared p) [] tt
  bounds_as_declared (Some range) written = All-append (IsAsDeclared p) (names_read range.low) (names_read range.high) (read_as_declared range.low written.0) (read_as_declared range.high written.1)

  target_as_declared : (target : Target) → IsTarget table T P target → IsAsDeclared p target.root
  target_as_declared target written =
      subst (IsAsDeclared p) (sym (ap (λ (t : Target). t.root) written.3 ∙ target_root table written.0 written.1)) (as_declared (resolved_reference written.0 written.1).root (root_holds T P written.0 written.2 written.1))

  way_as_declared : (target : Target) → IsTarget table T P target → All (IsAsDeclared p) (names_on_way target.way)
  way_as_declared target written =
      subst (λ (t : Target). All (IsAsDeclared p) (names_on_way t.way)) (sym written.3)
      (All-from_recursion (IsAsDeclared p) _ (all_as_declared (names_on_way (resolved_target table written.0 written.1).way) (target_known T P written.0 written.2 table written.1)))

  mutual
    command_as_declared : (low : ℕ) (c : Command) → Resolves table T P low c → AreAsDeclared p c
    command_as_declared low Skip written = tt
    command_as_declared low (Set target value) written = (target_as_declared target written.0, (way_as_declared target written.0, read_as_declared value written.1))
    command_as_declared low (Then a b) written = (command_as_declared low a written.0, command_as_declared low b written.1)
    command_as_declared low (Choose place condition a b) written = (read_as_declared condition written.0, (command_as_declared low a written.1, command_as_declared low b written.2))
    command_as_declared low (Select place selector alternatives) written = (read_as_declared selector written.0, alternatives_as_declared low alternatives written.1)
    command_as_declared low (Assertion kind place condition) written = read_as_declared condition written
    command_as_declared low (Repeat Endless body) written = (tt, command_as_declared low body written)
    command_as_declared low (Leave place) written = tt
    command_as_declared low (Repeat (Tested place condition) body) written = (read_as_declared condition written.0, command_as_declared low body written.1)
    command_as_declared low (Repeat (Counted c) body) written =
        ((bounds_as_declared c.bounds written.2, row c.parameter (object_of LoopParameter c.type_name) written.1), command_as_declared (c.parameter.0 + 1) body written.3)

    alternatives_as_declared : (low : ℕ) (alternatives : Alternatives) → AllResolve table T P low alternatives → AllAreAsDeclared p alternatives
    alternatives_as_declared low (Last choices a) written = command_as_declared low a written
    alternatives_as_declared low (When choices a rest) written = (command_as_declared low a written.0, alternatives_as_declared low rest written.1)

  -- ---- parts

  value_as_formed : (value : CoreExpr) → IsValue table T P value → All (IsAsFormed p) (parts_in value)
  value_as_formed value written =
      subst (λ (e : CoreExpr). All (IsAsFormed p) (parts_in e)) (sym written.5) (All-from_recursion (IsAsFormed p) _ (formed_in_context p table within written.2 written.6 written.0 written.1 written.3))

  way_as_formed : (target : Target) → IsTarget table T P target → All (IsAsFormed p) (parts_on_way target.way)
  way_as_formed target written = subst (λ (t : Target). All (IsAsFormed p) (parts_on_way t.way)) (sym written.3) (All-from_recursion (IsAsFormed p) _ (target_formed p table within written.0 written.1))

  bounds_as_formed : (bounds : Option CoreRange) → AreValues table T P bounds → All (IsAsFormed p) (parts_in_bounds bounds)
  bounds_as_formed None written = All-from_recursion (IsAsFormed p) [] tt
  bounds_as_formed (Some range) written = All-append (IsAsFormed p) (parts_in range.low) (parts_in range.high) (value_as_formed range.low written.0) (value_as_formed range.high written.1)

  mutual
    command_as_formed : (low : ℕ) (c : Command) → Resolves table T P low c → AreAsFormed p c
    command_as_formed low Skip written = tt
    command_as_formed low (Set target value) written = All-append (IsAsFormed p) (parts_on_way target.way) (parts_in value) (way_as_formed target written.0) (value_as_formed value written.1)
    command_as_formed low (Then a b) written = (command_as_formed low a written.0, command_as_formed low b written.1)
    command_as_formed low (Choose place condition a b) written = (value_as_formed condition written.0, (command_as_formed low a written.1, command_as_formed low b written.2))
    command_as_formed low (Select place selector alternatives) written = (value_as_formed selector written.0, alternatives_as_formed low alternatives written.1)
    command_as_formed low (Assertion kind place condition) written = value_as_formed condition written
    command_as_formed low (Repeat Endless body) written = (All-from_recursion (IsAsFormed p) [] tt, command_as_formed low body written)
    command_as_formed low (Leave place) written = tt
    command_as_formed low (Repeat (Tested place condition) body) written = (value_as_formed condition written.0, command_as_formed low body written.1)
    command_as_formed low (Repeat (Counted c) body) written = (bounds_as_formed c.bounds written.2, command_as_formed (c.parameter.0 + 1) body written.3)

    alternatives_as_formed : (low : ℕ) (alternatives : Alternatives) → AllResolve table T P low alternatives → AllAreAsFormed p alternatives
    alternatives_as_formed low (Last choices a) written = command_as_formed low a written
    alternatives_as_formed low (When choices a rest) written = (command_as_formed low a written.0, alternatives_as_formed low rest written.1)

  -- ---- predicates

  predicate_value : (regions : Regions) → AllByRecursion (HoldsIn T P) regions → (scene : Scene) → scene.types ≡ table → (written : Option Predicate) (predicate : CorePredicate)
      → option_map (resolved_predicate scene regions) written ≡ Some predicate → IsValue table T P predicate.condition
  predicate_value regions all scene same None predicate is = absurd cc
  predicate_value regions all scene same (Some w) predicate is =
      (Of INTEGER.base, regions, scene, w.condition, all, ap (λ (x : CorePredicate). x.condition) (let e : predicate ≡ resolved_predicate scene regions w = cc in e), same)

  predicate_as_formed : (regions : Regions) → AllByRecursion (HoldsIn T P) regions → (scene : Scene) → scene.types ≡ table → (written : Option Predicate) (predicate : CorePredicate)
      → option_map (resolved_predicate scene regions) written ≡ Some predicate → All (IsAsFormed p) (parts_in predicate.condition)
  predicate_as_formed regions all scene same written predicate is = value_as_formed predicate.condition (predicate_value regions all scene same written predicate is)

  predicate_as_declared : (regions : Regions) → AllByRecursion (HoldsIn T P) regions → (scene : Scene) → scene.types ≡ table → (written : Option Predicate) (predicate : CorePredicate)
      → option_map (resolved_predicate scene regions) written ≡ Some predicate → All (IsAsDeclared p) (names_read predicate.condition)
  predicate_as_declared regions all scene same written predicate is = read_as_declared predicate.condition (predicate_value regions all scene same written predicate is)

-- ---- what is declared in a body

inner_is : (v : VarId) (sub : Sub) → is_inner v sub ≡ (is_local v sub || is_loop_parameter v sub)
inner_is v sub =
    ap (stands_in v) (sym (take-append-drop sub.local_count (inner sub))) ∙ list_any-append (λ (w : VarId). w.0 == v.0) (take sub.local_count (inner sub)) (drop sub.local_count (inner sub))

local_is_inner : (v : VarId) (sub : Sub) → is_local v sub ≡ true → is_inner v sub ≡ true
local_is_inner v sub h = inner_is v sub ∙ or_left (is_local v sub) (is_loop_parameter v sub) h

loop_parameter_is_inner : (v : VarId) (sub : Sub) → is_loop_parameter v sub ≡ true → is_inner v sub ≡ true
loop_parameter_is_inner v sub h = inner_is v sub ∙ or_right (is_local v sub) (is_loop_parameter v sub) h

inner_if_local : (kind : VarKind) → IsLocalKind kind → IsInnerKind kind
inner_if_local (Formal mode) h = h
inner_if_local Local h = tt
inner_if_local (Initialized n) h = tt
inner_if_local LoopParameter h = tt

-- ---- subprograms

-- how many types it declares
abbrev pub type_count : Sub → ℕ
type_count sub = length (own_types sub)

module _ (p : Program) (more : List TypeRow) (types : p.types ≡ standard_types ++ more) where
  -- the unit at this position, whose variables and types stand between these rows
  module _ (library : Region) (position : ℕ) (start : Before) (s : Subprogram) (before after : List Var) (len : length before ≡ start.vars) where
    abbrev first : ℕ
    first = start.vars

    abbrev name : Defining
    name = unit_name library position s

    abbrev sub : Sub
    sub = resolved_sub name start s

    abbrev its_formals : List Defining
    its_formals = formal_names sub

    abbrev its_names : List Defining
    its_names = local_names sub

    abbrev its_locals : List Defining
    its_locals = local_variables sub

    abbrev its_loops : List Defining
    its_loops = loop_names sub

    abbrev after_locals : ℕ
    after_locals = first + length its_formals + length its_locals

    its_vars : positions first ((its_formals ++ its_locals) ++ its_loops) ≡ positions first (its_formals ++ (its_locals ++ its_loops))
    its_vars = ap (positions first) (append_assoc its_formals its_locals its_loops)

    formal_positions : (v : VarId) → is_formal v sub ≡ is_at v first its_formals
    formal_positions v = ap (stands_in v) (ap (take (length its_formals)) its_vars ∙ first_positions first its_formals (its_locals ++ its_loops))

    inner_positions : inner sub ≡ positions (first + length its_formals) (its_locals ++ its_loops)
    inner_positions = ap (drop (length its_formals)) its_vars ∙ last_positions first its_formals (its_locals ++ its_loops)

    local_positions : (v : VarId) → is_local v sub ≡ is_at v (first + length its_formals) its_locals
    local_positions v = ap (stands_in v) (ap (take (length its_locals)) inner_positions ∙ first_positions (first + length its_formals) its_locals its_loops)

    loop_positions : (v : VarId) → is_loop_parameter v sub ≡ is_at v after_locals its_loops
    loop_positions v = ap (stands_in v) (ap (drop (length its_locals)) inner_positions ∙ last_positions (first + length its_formals) its_locals its_loops)

    formals_are : Consecutive (IsFormal more) first its_formals
    formals_are = formals_consecutive more s.name first s.formal_part

    abbrev annotations : Regions
    annotations = declaring_all [] its_formals ∷ around_body name

    abbrev body : Regions
    body = declaring_all [] (its_formals ++ its_names) ∷ around_body name

    abbrev its_items : List CoreDerivesItem
    its_items = items_for name sub.formal_part s

    -- a formal whose row says what is declared of it, and any variable of the subprogram
    abbrev FormalRow : VarId → Object → Type 0
    FormalRow v object = (is_formal v sub ≡ true) × (object_declared p v ≡ Some object)

    abbrev Own : VarId → Object → Type 0
    Own v object = ((is_formal v sub || is_inner v sub) ≡ true) × (object_declared p v ≡ Some object) × (object.kind ≡ LoopParameter → is_loop_parameter v sub ≡ true)

    module _ (vars : p.vars ≡ before ++ (own_vars sub ++ after)) (front back : List TypeRow) (count : standard_types ++ front ≡ start.types) (rows_are : more ≡ front ++ (own_types sub ++ back)) where
      names_known : Known more (first + length its_formals) its_locals its_names
      names_known = decls_known more (around_body name) (around_holds (HasRow more) Any (predefined_have_rows more) name tt) (declaring_all [] its_formals) (after_formals start sub.formal_part) s.declarations front back (formals_known (HasRow more) (IsFormal more) first its_formals formals_are) (count, rows_are)

      pub locals_are : Consecutive (IsLocal more) (first + length its_formals) its_locals
      locals_are = names_known.consecutive

      own_holds : HoldsIn (HasRow more) Any (declaring_all [] (its_formals ++ its_names))
      own_holds =
          declaring_all_holds (HasRow more) Any [] (its_formals ++ its_names) tt
          (each_append _ its_formals its_names (consecutive_known (HasRow more) (IsFormal more) first its_formals formals_are) (names_known.holds Any (consecutive_known (HasRow more) (IsLocal more) (first + length its_formals) its_locals locals_are)))

      -- what stands in the table of types where its annotations are, and where its statements are
      start_stands : p.types ≡ start.types ++ (own_types sub ++ back)
      start_stands =
          types ∙ ap (λ (xs : List TypeRow). standard_types ++ xs) rows_are ∙ sym (append_assoc standard_types front (own_types sub ++ back)) ∙ ap (λ (xs : List TypeRow). xs ++ (own_types sub ++ back)) count

      abbrev its_table : List TypeRow
      its_table = start.types ++ own_types sub

      within_start : (id : TypeId) (f : TypeForm) → form_in start.types id ≡ Some f → form_at p id ≡ Some f
      within_start id f is = ap (λ (ts : List TypeRow). form_in ts id) start_stands ∙ front_form start.types (own_types sub ++ back) id f is

      within_body : (id : TypeId) (f : TypeForm) → form_in its_table id ≡ Some f → form_at p id ≡ Some f
      within_body id f is = ap (λ (ts : List TypeRow). form_in ts id) (start_stands ∙ sym (append_assoc start.types (own_types sub) back)) ∙ front_form its_table back id f is

      its_parts : AreStmts its_table its_items (around_body name) (declaring_all [] (its_formals ++ its_names)) (first + length (its_formals ++ its_locals)) s.statements sub.statements its_loops
      its_parts = stmts_are its_table its_items (around_body name) s.statements (declaring_all [] (its_formals ++ its_names)) (first + length (its_formals ++ its_locals))

      loops_are : Consecutive (IsLoopParameter more) after_locals its_loops
      loops_are =
          subst (λ n. Consecutive (IsLoopParameter more) n its_loops) (let e : first + length (its_formals ++ its_locals) ≡ after_locals = omega (arith, length-append its_formals its_locals) in e)
          (stmts_consecutive more (around_body name) (around_holds (HasRow more) Any (predefined_have_rows more) name tt) its_table its_items its_parts own_holds)

      -- ---- their rows

      abbrev formal_vars : List Var
      formal_vars = map var_of its_formals

      abbrev local_vars : List Var
      local_vars = map var_of its_locals

      abbrev loop_vars : List Var
      loop_vars = map var_of its_loops

      vars_are : p.vars ≡ before ++ (formal_vars ++ (local_vars ++ (loop_vars ++ after)))
      vars_are =
          vars ∙ ap (λ ws. before ++ (ws ++ after)) (map-append var_of (its_formals ++ its_locals) its_loops ∙ ap (λ ws. ws ++ loop_vars) (map-append var_of its_formals its_locals))
          ∙ ap (λ ws. before ++ ws) (append_assoc (formal_vars ++ local_vars) loop_vars after ∙ append_assoc formal_vars local_vars (loop_vars ++ after))

      formal_rows : (P : VarId → Object → Type 0) → ((v : VarId) (object : Object) → IsFormal more object → is_formal v sub ≡ true → object_declared p v ≡ Some object → P v object) → AllHold (HasRow more) P its_formals
      formal_rows P follows =
          rows p more types (IsFormal more) (λ object k. k.1) P before first its_formals (local_vars ++ (loop_vars ++ after)) len vars_are formals_are (λ v object kind at row. follows v object kind (formal_positions v ∙ at) row)

      length_before_locals : length (before ++ formal_vars) ≡ first + length its_formals
      length_before_locals = length-append before formal_vars ∙ ap₂ ◌+◌ len (length-map its_formals var_of)

      rows_of_locals : (K : Object → Type 0) → ((object : Object) → K object → HasRow more object.subtype) → Consecutive K (first + length its_formals) its_locals → (P : VarId → Object → Type 0)
          → ((v : VarId) (object : Object) → K object → is_local v sub ≡ true → object_declared p v ≡ Some object → P v object) → AllHold (HasRow more) P its_locals
      rows_of_locals K typed are P follows =
          rows p more types K typed P (before ++ formal_vars) (first + length its_formals) its_locals (loop_vars ++ after) length_before_locals (vars_are ∙ sym (append_assoc before formal_vars (local_vars ++ (loop_vars ++ after)))) are
          (λ v object kind at row. follows v object kind (local_positions v ∙ at) row)

      local_rows : (P : VarId → Object → Type 0) → ((v : VarId) (object : Object) → IsLocal more object → is_local v sub ≡ true → object_declared p v ≡ Some object → P v object) → AllHold (HasRow more) P its_locals
      local_rows P follows = rows_of_locals (IsLocal more) (λ object k. k.1) locals_are P follows

      loop_rows : (P : VarId → Object → Type 0) → ((v : VarId) (object : Object) → IsLoopParameter more object → is_loop_parameter v sub ≡ true → object_declared p v ≡ Some object → P v object) → AllHold (HasRow more) P its_loops
      loop_rows P follows =
          rows p more types (IsLoopParameter more) (λ object k. k.1) P ((before ++ formal_vars) ++ local_vars) after_locals its_loops after
          (length-append (before ++ formal_vars) local_vars ∙ ap₂ ◌+◌ length_before_locals (length-map its_locals var_of))
          (vars_are ∙ sym (append_assoc before formal_vars (local_vars ++ (loop_vars ++ after))) ∙ sym (append_assoc (before ++ formal_vars) local_vars (loop_vars ++ after))) loops_are
          (λ v object kind at row. follows v object kind (loop_positions v ∙ at) row)

      in_annotations : AllByRecursion (HoldsIn (HasRow more) FormalRow) annotations
      in_annotations = inside_holds (HasRow more) FormalRow (predefined_have_rows more) name its_formals tt (formal_rows FormalRow (λ v object kind formal row. (formal, row)))

      formals_own : AllHold (HasRow more) Own its_formals
      formals_own = formal_rows Own (λ v object kind formal row. (or_left (is_formal v sub) (is_inner v sub) formal, row, λ loop. let e : Formal kind.0.0 ≡ LoopParameter = sym kind.0.1 ∙ loop in absurd cc))

      locals_own : AllHold (HasRow more) Own its_locals
      locals_own = local_rows Own (λ v object kind local row. (or_right (is_formal v sub) (is_inner v sub) (local_is_inner v sub local), row, λ loop. absurd (subst IsLocalKind loop kind.0)))

      loops_own : AllHold (HasRow more) Own its_loops
      loops_own = loop_rows Own (λ v object kind loop row. (or_right (is_formal v sub) (is_inner v sub) (loop_parameter_is_inner v sub loop), row, λ is. loop))

      in_body : AllByRecursion (HoldsIn (HasRow more) Own) body
      in_body = inside_holds (HasRow more) Own (predefined_have_rows more) name (its_formals ++ its_names) tt (each_append _ its_formals its_names formals_own (names_known.holds Own locals_own))

      -- ---- their kinds

      formal_kind : (v : VarId) → is_formal v sub ≡ true → (mode : Mode) × (kind_of p v ≡ Some (Formal mode))
      formal_kind v h =
          let P : VarId → Object → Type 0 = λ v object. (mode : Mode) × (kind_of p v ≡ Some (Formal mode)) in
          (at_position p more types (IsFormal more) (λ object k. k.1) P v first its_formals formals_are (formal_rows P (λ v object kind formal row. (kind.0.0, kind_is p v object row ∙ ap Some kind.0.1))) (sym (formal_positions v) ∙ h)).1

      -- a local has a row that says what is declared of it
      pub local_as : (K : Object → Type 0) → ((object : Object) → K object → HasRow more object.subtype) → Consecutive K (first + length its_formals) its_locals → (v : VarId) → is_local v sub ≡ true
          → (object : Object) × (object_declared p v ≡ Some object) × K object
      local_as K typed are v h =
          let P : VarId → Object → Type 0 = λ v object. (object_declared p v ≡ Some object) × K object in
          let one = at_position p more types K typed P v (first + length its_formals) its_locals are (rows_of_locals K typed are P (λ v object kind at row. (row, kind))) (sym (local_positions v) ∙ h) in
          (one.0, one.1.0, one.1.1)

      loop_kind : (v : VarId) → is_loop_parameter v sub ≡ true → kind_of p v ≡ Some LoopParameter
      loop_kind v h =
          let P : VarId → Object → Type 0 = λ v object. kind_of p v ≡ Some LoopParameter in
          (at_position p more types (IsLoopParameter more) (λ object k. k.1) P v after_locals its_loops loops_are (loop_rows P (λ v object kind at row. kind_is p v object row ∙ ap Some kind.0)) (sym (loop_positions v) ∙ h)).1

      inner_kind : (v : VarId) → is_inner v sub ≡ true → (kind : VarKind) × (kind_of p v ≡ Some kind) × IsInnerKind kind
      inner_kind v h =
          ⊎_elim (λ local. let one = local_as (IsLocal more) (λ object k. k.1) locals_are v local in (one.0.kind, kind_is p v one.0 one.1, inner_if_local one.0.kind one.2.0)) (λ loop. (LoopParameter, loop_kind v loop, tt))
          (or_cases (is_local v sub) (is_loop_parameter v sub) (sym (inner_is v sub) ∙ h))

      no_inner : (v : VarId) → is_formal v sub ≡ true → is_inner v sub ≡ false
      no_inner v h =
          false_from_ne_true (is_inner v sub) (λ l. let kind = formal_kind v h in let other = inner_kind v l in let e : Formal kind.0 ≡ other.0 = cc in subst IsInnerKind (sym e) other.2)

      its_commands : Resolves its_table (HasRow more) Own 0 (commands sub.statements)
      its_commands = stmts_resolve its_table (HasRow more) Own its_items (around_body name) in_body.1 0 its_parts (omega arith) in_body.0 loops_own

      own_row : (v : VarId) (object : Object) → Own v object → object_declared p v ≡ Some object
      own_row v object own = own.1

      counted_over : (v : VarId) → counts v (effect (commands sub.statements)) ≡ true → is_loop_parameter v sub ≡ true
      counted_over v h = let one = (counted_variable its_table (HasRow more) Own v 0 (commands sub.statements) its_commands h).1 in one.2.2 one.1

      scoped_sub : Scoped p sub
      scoped_sub = record {
        targets = λ v h. (set_variable its_table (HasRow more) Own v 0 (commands sub.statements) its_commands h).1.0;
        read = λ v h. (read_variable its_table (HasRow more) Own v 0 (commands sub.statements) its_commands h).1.0;
        exported = λ v h. (in_relation its_table (HasRow more) FormalRow annotations in_annotations v (has_export v) (λ item. mentioned_variable (HasRow more) FormalRow annotations in_annotations v (exported_names item.exports)) s.derives (sym (exports_are v sub) ∙ h)).1.0;
        imported = λ v h. (in_relation its_table (HasRow more) FormalRow annotations in_annotations v (has_import v) (imported_variable its_table (HasRow more) FormalRow annotations in_annotations v) s.derives (sym (imports_are v sub) ∙ h)).1.0;
        formal_kinds = formal_kind;
        inner_kinds = inner_kind;
        local_types = λ v h. let one = local_as (IsLocal more) (λ object k. k.1) locals_are v h in (one.0, one.1);
        once = positions_differ first ((its_formals ++ its_locals) ++ its_loops);
        apart = no_inner;
        relation_modes = relation_has_modes p its_table within_body (HasRow more) FormalRow (λ v object h. h.1) annotations in_annotations s.derives;
        target_modes = targets_have_modes p its_table within_body (HasRow more) Own own_row 0 (commands sub.statements) its_commands;
        body_names = command_as_declared p its_table within_body (HasRow more) Own own_row 0 (commands sub.statements) its_commands;
        counted = counted_over;
        loop_parameter_kinds = loop_kind;
        loops_differ = loops_differ its_table (HasRow more) Own 0 (commands sub.statements) its_commands;
        pre_names = predicate_as_declared p start.types within_start (HasRow more) FormalRow (λ v object h. h.1) annotations in_annotations (in_code start.types) refl s.pre;
        post_names = predicate_as_declared p start.types within_start (HasRow more) FormalRow (λ v object h. h.1) annotations in_annotations (in_annotation start.types its_items) refl s.post;
        body_parts = command_as_formed p its_table within_body (HasRow more) Own own_row 0 (commands sub.statements) its_commands;
        pre_parts = predicate_as_formed p start.types within_start (HasRow more) FormalRow (λ v object h. h.1) annotations in_annotations (in_code start.types) refl s.pre;
        post_parts = predicate_as_formed p start.types within_start (HasRow more) FormalRow (λ v object h. h.1) annotations in_annotations (in_annotation start.types its_items) refl s.post;
      }

  -- ---- programs

  -- it holds of each unit, whose variables and types stand between some rows, with the position of its first type
  abbrev pub OfEach : (ℕ → Sub → Type 0) → Type 0
  OfEach Q =
      (library : Region) (position : ℕ) (counts : Before) (s : Subprogram) (before after : List Var) → length before ≡ counts.vars → p.vars ≡ before ++ (own_vars (resolved_sub (unit_name library position s) counts s) ++ after)
      → (front back : List TypeRow) → standard_types ++ front ≡ counts.types → more ≡ front ++ (own_types (resolved_sub (unit_name library position s) counts s) ++ back)
      → Q (next_type counts) (resolved_sub (unit_name library position s) counts s)

  each_sub : (Q : ℕ → Sub → Type 0) → OfEach Q → (library : Region) (position : ℕ) (counts : Before) (before : List Var) (front : List TypeRow) (units : List Unit) → length before ≡ counts.vars → standard_types ++ front ≡ counts.types
      → p.vars ≡ before ++ flat_map own_vars (resolved_subs library position counts units) → more ≡ front ++ flat_map own_types (resolved_subs library position counts units)
      → AllFrom type_count Q (next_type counts) (resolved_subs library position counts units)
  each_sub Q of_each library position counts before front [] len count vars rows_are = tt
  each_sub Q of_each library position counts before front (unit.Subprogram s ∷ units) len count vars rows_are =
      let one = resolved_sub (unit_name library position s) counts s in
      let next = declaring library (unit_name library position s) in
      let later = resolved_subs next (position + 1) (counted_sub counts one) units in
      let after = flat_map own_vars later in
      let back = flat_map own_types later in (
        of_each library position counts s before after len vars front back count rows_are,
        subst (λ n. AllFrom type_count Q n later) (length-append counts.types (own_types one))
            (each_sub Q of_each next (position + 1) (counted_sub counts one) (before ++ own_vars one) (front ++ own_types one) units
            (length-append before (own_vars one) ∙ ap (λ n. n + length (own_vars one)) len)
            (sym (append_assoc standard_types front (own_types one)) ∙ ap (λ (xs : List TypeRow). xs ++ own_types one) count)
            (vars ∙ sym (append_assoc before (own_vars one) after))
            (rows_are ∙ sym (append_assoc front (own_types one) back))),
      )

-- what holds of each unit, and of the position of its types, holds of all subprograms of a program
pub each_in_order : (Q : Program → ℕ → Sub → Type 0) → ((p : Program) (more : List TypeRow) (types : p.types ≡ standard_types ++ more) → OfEach p more types (Q p)) → (p : Program) → Visible p → AllFrom type_count (Q p) (length standard_types) p.subs
each_in_order Q of_each p is =
    let q = resolved.resolved (erased p) in
    let more = flat_map own_types q.subs in
    subst (λ q. AllFrom type_count (Q q) (length standard_types) q.subs) (sym is) (each_sub q more refl (Q q) (of_each q more refl) [] 0 at_start [] [] (erased p) refl refl refl refl)

pub each_of_program : (Q : Program → Sub → Type 0) → ((p : Program) (more : List TypeRow) (types : p.types ≡ standard_types ++ more) → OfEach p more types (λ position. Q p)) → (p : Program) → Visible p → All (Q p) p.subs
each_of_program Q of_each p is =
    All-from_recursion (Q p) p.subs (each_from type_count (λ position. Q p) (Q p) (λ position sub h. h) (length standard_types) p.subs (each_in_order (λ p position. Q p) of_each p is))

pub all_scoped : (p : Program) → Visible p → All (Scoped p) p.subs
all_scoped p is = each_of_program Scoped scoped_sub p is
