-- The parts of a subprogram make it.
use Rattle.std.proofs.Common.{◌≡◌, ℕ, ◌+◌, ◌-◌, List, [], ◌∷◌, ◌++◌, length, map, Option, option_map, sym, ap, ◌∙◌, arith, append_assoc, length-append}
use Rattle.std.proofs.lemmas.List.{map-append}
use Rattle.spx_tree.specs.declared.expression.Identifier.{Identifier}
use Rattle.spx_tree.specs.declared.subprogram.Subprogram.{Subprogram}
use Rattle.spx_core.specs.declared.entity.VarId.{VarId}
use Rattle.spx_core.specs.declared.name.Defining.{Defining}
use Rattle.spx_core.specs.declared.statement.CoreDecl.{CoreDecl}
use Rattle.spx_core.specs.declared.statement.CoreStmt.{CoreStmt}
use Rattle.spx_core.specs.declared.dependency.CoreDerives.{CoreDerives}
use Rattle.spx_core.specs.declared.dependency.CoreDerivesItem.{CoreDerivesItem}
use Rattle.spx_core.specs.declared.subprogram.CoreFormalPart.{CoreFormalPart}
use Rattle.spx_core.specs.declared.subprogram.CorePredicate.{CorePredicate}
use Rattle.spx_core.specs.declared.subprogram.Sub.{Sub}
use Rattle.spx_core.specs.declared.program.TypeRow.{TypeRow}
use Rattle.spx_core.specs.declared.program.Var.{Var}
use Rattle.spx_core.specs.Regions.{Region}
use Rattle.spx_core.specs.Dependency.{items_of}
use Rattle.spx_core.specs.ResolvedExpressions.{in_annotation, in_code}
use Rattle.spx_core.specs.DeclaredNames.{declaring_all}
use Rattle.spx_core.specs.ResolvedStatements.{parameters_by_stmts, resolved_derives, resolved_predicate, resolved_stmts}
use Rattle.spx_core.specs.ResolvedDeclarations.{Before, declared_by_decls, declared_by_params, resolved_decls, rows_by_decls, variables_by_decls}
use Rattle.spx_core.specs.Resolved.{after_formals, around_annotations, around_body, declared_before, derives_of, own_region, own_types, own_vars, params_of, positions, resolved_formal_part, resolved_sub, sub_of, var_of, with_formals}
use Rattle.spx_naming.specs.Ids.{ids_from}
use Rattle.spx_naming.proofs.Declared.{declaring_append, length_after, positions_are}

-- ---- the variables of a subprogram, after those of the subprograms before it

ids_after : (vars : List Var) (ds : List Defining) → ids_from (length vars) (length (vars ++ map var_of ds) - length vars) ≡ positions (length vars) ds
ids_after vars ds =
    let e : length (vars ++ map var_of ds) ≡ length vars + length ds = length_after vars ds in
    let count : length (vars ++ map var_of ds) - length vars ≡ length ds = omega (arith, e) in
    ap (ids_from (length vars)) count ∙ sym (positions_are (length vars) ds)

vars_after : (vars mid after : List Var) (ds es : List Defining) → mid ≡ vars ++ map var_of ds → after ≡ mid ++ map var_of es → after ≡ vars ++ map var_of (ds ++ es)
vars_after vars mid after ds es first second =
    second ∙ ap (λ vs. vs ++ map var_of es) first ∙ append_assoc vars (map var_of ds) (map var_of es) ∙ ap (λ vs. vars ++ vs) (sym (map-append var_of ds es))

-- ---- a subprogram of its parts

abbrev sub_made : Defining → Subprogram → Option CoreFormalPart → List CoreDecl → Option CoreDerives → Option CorePredicate → Option CorePredicate → List CoreStmt → Option Identifier → List VarId → ℕ → ℕ → Sub
sub_made name s part decls derives pre post statements end_name vars count locals = record {
  place = s.place;
  name = name;
  formal_part = part;
  derives = derives;
  pre = pre;
  post = post;
  declarations = decls;
  statements = statements;
  end = s.end;
  end_name = end_name;
  vars = vars;
  formal_count = count;
  local_count = locals;
}

module _ (name : Defining) (s : Subprogram) (before : Before) (part : Option CoreFormalPart) (decls : List CoreDecl) where
  -- its statements, where its dependency relation has these items
  abbrev statements_under : List CoreDerivesItem → List CoreStmt
  statements_under items = (resolved_stmts (before.types ++ rows_by_decls decls) items (around_body name) s.statements (own_region part decls) (before.vars + length (declared_before part decls))).0

  sub_is : (derives : Option CoreDerives) (pre post : Option CorePredicate) (statements : List CoreStmt) (end_name : Option Identifier) (vars : List VarId) (count locals : ℕ)
      → derives ≡ derives_of name part s
      → pre ≡ option_map (resolved_predicate (in_code before.types) (around_annotations name part)) s.pre
      → post ≡ option_map (resolved_predicate (in_annotation before.types (items_of derives)) (around_annotations name part)) s.post
      → statements ≡ statements_under (items_of derives)
      → end_name ≡ s.end_name
      → vars ≡ positions before.vars (declared_before part decls ++ parameters_by_stmts statements)
      → count ≡ length (declared_by_params (params_of part))
      → locals ≡ length (variables_by_decls decls)
      → sub_made name s part decls derives pre post statements end_name vars count locals ≡ sub_of name before s part decls
  sub_is derives pre post statements end_name vars count locals is_derives is_pre is_post are_statements is_end_name are_vars is_count are_locals =
      let all = sub_of name before s part decls in
      let post_is : post ≡ all.post = is_post ∙ ap (λ d. option_map (resolved_predicate (in_annotation before.types (items_of d)) (around_annotations name part)) s.post) is_derives in
      let statements_are : statements ≡ all.statements = are_statements ∙ ap (λ d. statements_under (items_of d)) is_derives in
      let vars_are : vars ≡ all.vars = are_vars ∙ ap (λ x. positions before.vars (declared_before part decls ++ parameters_by_stmts x)) statements_are in
      ap (λ x. sub_made name s part decls x pre post statements end_name vars count locals) is_derives
      ∙ ap (λ x. sub_made name s part decls all.derives x post statements end_name vars count locals) is_pre
      ∙ ap (λ x. sub_made name s part decls all.derives all.pre x statements end_name vars count locals) post_is
      ∙ ap (λ x. sub_made name s part decls all.derives all.pre all.post x end_name vars count locals) statements_are
      ∙ ap (λ x. sub_made name s part decls all.derives all.pre all.post all.statements x vars count locals) is_end_name
      ∙ ap (λ x. sub_made name s part decls all.derives all.pre all.post all.statements s.end_name x count locals) vars_are
      ∙ ap (λ x. sub_made name s part decls all.derives all.pre all.post all.statements s.end_name all.vars x locals) is_count
      ∙ ap (λ x. sub_made name s part decls all.derives all.pre all.post all.statements s.end_name all.vars all.formal_count x) are_locals

  sub_is_resolved : part ≡ option_map (resolved_formal_part s.name before.vars) s.formal_part
      → decls ≡ resolved_decls (around_body name) (declaring_all [] (declared_by_params (params_of part))) (after_formals before part) s.declarations
      → sub_of name before s part decls ≡ resolved_sub name before s
  sub_is_resolved is_part are_decls = ap (sub_of name before s part) are_decls ∙ ap (with_formals name before s) is_part

-- so many variables, and these types
abbrev so_many : List Var → List TypeRow → Before
so_many vars types = record { vars = length vars; types = types }

-- what its functions give is the subprogram
pub whole : (name : Defining) (s : Subprogram) (before mid after : List Var) (types types' : List TypeRow) (first middle end : ℕ) (formals : Region) (part : Option CoreFormalPart)
    (decls : List CoreDecl) (derives : Option CoreDerives) (pre post : Option CorePredicate) (statements : List CoreStmt) (end_name : Option Identifier) (vars : List VarId) (locals : ℕ)
    → first ≡ length before → middle ≡ length mid → end ≡ length after
    → (part ≡ option_map (resolved_formal_part s.name (length before)) s.formal_part)
    × (formals ≡ declaring_all [] (declared_by_params (params_of part)))
    × (mid ≡ before ++ map var_of (declared_by_params (params_of part)))
    → derives ≡ option_map (resolved_derives (formals ∷ around_body name)) s.derives
    → pre ≡ option_map (resolved_predicate (in_code types) (formals ∷ around_body name)) s.pre
    → post ≡ option_map (resolved_predicate (in_annotation types (items_of derives)) (formals ∷ around_body name)) s.post
    → decls ≡ resolved_decls (around_body name) formals (so_many mid types) s.declarations
    → locals ≡ length (variables_by_decls decls)
    → statements ≡ (resolved_stmts types' (items_of derives) (around_body name) s.statements (declaring_all formals (declared_by_decls decls)) (length mid + locals)).0
    → after ≡ mid ++ map var_of (variables_by_decls decls ++ parameters_by_stmts statements)
    → types' ≡ types ++ rows_by_decls decls
    → end_name ≡ s.end_name
    → vars ≡ ids_from first (end - first)
    → (sub_made name s part decls derives pre post statements end_name vars (middle - first) locals ≡ resolved_sub name (so_many before types) s)
    × (after ≡ before ++ own_vars (sub_made name s part decls derives pre post statements end_name vars (middle - first) locals))
    × (types' ≡ types ++ own_types (sub_made name s part decls derives pre post statements end_name vars (middle - first) locals))
whole name s before mid after types types' first middle end formals part decls derives pre post statements end_name vars locals is_first is_middle is_end (is_part, are_formals, is_mid) is_derives is_pre is_post are_decls are_locals are_statements is_after are_types is_end_name are_vars =
    let ds = declared_by_params (params_of part) in
    let es = variables_by_decls decls in
    let ls = parameters_by_stmts statements in
    let made : after ≡ before ++ map var_of ((ds ++ es) ++ ls) = vars_after before mid after ds (es ++ ls) is_mid is_after ∙ ap (λ xs. before ++ map var_of xs) (sym (append_assoc ds es ls)) in
    let length_mid : length mid ≡ length before + length ds = ap length is_mid ∙ length_after before ds in
    let count : middle - first ≡ length ds = omega (arith, is_first, is_middle, length_mid) in
    let ids : vars ≡ positions (length before) ((ds ++ es) ++ ls) =
    are_vars ∙ ap (λ n. ids_from n (end - n)) is_first ∙ ap (λ n. ids_from (length before) (n - length before)) (is_end ∙ ap length made) ∙ ids_after before ((ds ++ es) ++ ls) in
    let region : declaring_all formals (declared_by_decls decls) ≡ declaring_all [] (ds ++ declared_by_decls decls) =
    ap (λ r. declaring_all r (declared_by_decls decls)) are_formals ∙ sym (declaring_append [] ds (declared_by_decls decls)) in
    let both : length (ds ++ es) ≡ length ds + length es = length-append ds es in
    let position : length mid + locals ≡ length before + length (ds ++ es) = omega (arith, length_mid, are_locals, both) in
    let decls_are : decls ≡ resolved_decls (around_body name) (declaring_all [] ds) (after_formals (so_many before types) part) s.declarations =
    are_decls ∙ ap (λ r. resolved_decls (around_body name) r (so_many mid types) s.declarations) are_formals
    ∙ ap (λ n. resolved_decls (around_body name) (declaring_all [] ds) (record { vars = n; types = types }) s.declarations) length_mid in (
      sub_is name s (so_many before types) part decls derives pre post statements end_name vars (middle - first) locals
          (is_derives ∙ ap (λ r. option_map (resolved_derives (r ∷ around_body name)) s.derives) are_formals)
          (is_pre ∙ ap (λ r. option_map (resolved_predicate (in_code types) (r ∷ around_body name)) s.pre) are_formals)
          (is_post ∙ ap (λ r. option_map (resolved_predicate (in_annotation types (items_of derives)) (r ∷ around_body name)) s.post) are_formals)
          (are_statements ∙ ap (λ rows. (resolved_stmts rows (items_of derives) (around_body name) s.statements (declaring_all formals (declared_by_decls decls)) (length mid + locals)).0) are_types
          ∙ ap (λ r. (resolved_stmts (types ++ rows_by_decls decls) (items_of derives) (around_body name) s.statements r (length mid + locals)).0) region
          ∙ ap (λ n. (resolved_stmts (types ++ rows_by_decls decls) (items_of derives) (around_body name) s.statements (declaring_all [] (ds ++ declared_by_decls decls)) n).0) position)
          is_end_name ids count are_locals
          ∙ sub_is_resolved name s (so_many before types) part decls is_part decls_are,
      made,
      are_types,
    )
