-- The declarations of a body, one after another.
use Rattle.std.proofs.Common.{◌≡◌, ℕ, ◌+◌, ◌<◌, List, [], ◌∷◌, ◌++◌, length, map, drop, get_or, sym, ap, ◌∙◌, append_assoc}
use Rattle.std.proofs.lemmas.List.{map-append}
use Rattle.spx_tree.specs.declared.declaration.Decl.{Decl}
use Rattle.spx_core.specs.declared.statement.CoreDecl.{CoreDecl}
use Rattle.spx_core.specs.declared.program.TypeRow.{TypeRow}
use Rattle.spx_core.specs.declared.program.Var.{Var}
use Rattle.spx_core.specs.Regions.{Region, Regions}
use Rattle.spx_core.specs.DeclaredNames.{declaring_all}
use Rattle.spx_core.specs.ResolvedDeclarations.{Before, counted, declared_by, declared_by_decls, resolved_decl, resolved_decls, rows_by, rows_by_decls, variables_by, variables_by_decls}
use Rattle.spx_core.specs.Resolved.{var_of}
use Rattle.spx_naming.specs.declared.tables.Tables.{Tables}
use Rattle.spx_naming.specs.Before.{before_in}
use Rattle.spx_naming.proofs.Declared.{declaring_append, length_after, rest_at}

-- what a declaration adds is counted
counted_after : (tables tables' : Tables) (d : CoreDecl) → tables'.vars ≡ tables.vars ++ map var_of (variables_by d) → tables'.types ≡ tables.types ++ rows_by d
    → counted (before_in tables) d ≡ before_in tables'
counted_after tables tables' d are_vars are_types =
    ap {B = Before} (λ n. record { vars = n; types = tables.types ++ rows_by d }) (sym (ap length are_vars ∙ length_after tables.vars (variables_by d)))
    ∙ ap {B = Before} (λ (rows : List TypeRow). record { vars = length tables'.vars; types = rows }) (sym are_types)

-- the same at the state after it
decl_after : (outer : Regions) (region region' : Region) (tables tables' : Tables) (item : Decl) (rest : List Decl) (d : CoreDecl)
    → d ≡ resolved_decl outer region (before_in tables) item → region' ≡ declaring_all region (declared_by d)
    → tables'.vars ≡ tables.vars ++ map var_of (variables_by d) → tables'.types ≡ tables.types ++ rows_by d
    → resolved_decls outer region (before_in tables) (item ∷ rest) ≡ d ∷ resolved_decls outer region' (before_in tables') rest
decl_after outer region region' tables tables' item rest d is_decl is_region are_vars are_types =
    ap (λ x. x ∷ resolved_decls outer (declaring_all region (declared_by x)) (counted (before_in tables) x) rest) (sym is_decl)
    ∙ ap (λ r. d ∷ resolved_decls outer r (counted (before_in tables) d) rest) (sym is_region)
    ∙ ap (λ n. d ∷ resolved_decls outer region' n rest) (counted_after tables tables' d are_vars are_types)

-- one more declaration
pub decl_step : (outer : Regions) (decls : List Decl) (i : ℕ) (region region' all_region : Region) (tables tables' : Tables) (made made' all_made : List CoreDecl)
    (all_vars : List Var) (all_types : List TypeRow) (item : Decl) (d : CoreDecl)
    → i < length decls → item ≡ get_or decls i item
    → d ≡ resolved_decl outer region (before_in tables) item → region' ≡ declaring_all region (declared_by d)
    → tables'.vars ≡ tables.vars ++ map var_of (variables_by d) → tables'.types ≡ tables.types ++ rows_by d
    → made' ≡ made ++ d ∷ []
    → (made ++ resolved_decls outer region (before_in tables) (drop i decls) ≡ all_made)
    × (declaring_all region (declared_by_decls (resolved_decls outer region (before_in tables) (drop i decls))) ≡ all_region)
    × (tables.vars ++ map var_of (variables_by_decls (resolved_decls outer region (before_in tables) (drop i decls))) ≡ all_vars)
    × (tables.types ++ rows_by_decls (resolved_decls outer region (before_in tables) (drop i decls)) ≡ all_types)
    → (made' ++ resolved_decls outer region' (before_in tables') (drop (i + 1) decls) ≡ all_made)
    × (declaring_all region' (declared_by_decls (resolved_decls outer region' (before_in tables') (drop (i + 1) decls))) ≡ all_region)
    × (tables'.vars ++ map var_of (variables_by_decls (resolved_decls outer region' (before_in tables') (drop (i + 1) decls))) ≡ all_vars)
    × (tables'.types ++ rows_by_decls (resolved_decls outer region' (before_in tables') (drop (i + 1) decls)) ≡ all_types)
decl_step outer decls i region region' all_region tables tables' made made' all_made all_vars all_types item d h e
    is_decl is_region are_vars are_types are_made (before_made, before_region, before_vars, before_types) =
    let rest = drop (i + 1) decls in
    let more = resolved_decls outer region' (before_in tables') rest in
    let next : resolved_decls outer region (before_in tables) (drop i decls) ≡ d ∷ more =
    ap (resolved_decls outer region (before_in tables)) (rest_at decls i item h e)
    ∙ decl_after outer region region' tables tables' item rest d is_decl is_region are_vars are_types in (
      ap (λ s. s ++ more) are_made ∙ append_assoc made (d ∷ []) more ∙ ap (λ s. made ++ s) (sym next) ∙ before_made,
      ap (λ r. declaring_all r (declared_by_decls more)) is_region ∙ sym (declaring_append region (declared_by d) (declared_by_decls more))
          ∙ ap (λ s. declaring_all region (declared_by_decls s)) (sym next) ∙ before_region,
      ap (λ v. v ++ map var_of (variables_by_decls more)) are_vars ∙ append_assoc tables.vars (map var_of (variables_by d)) (map var_of (variables_by_decls more))
          ∙ ap (λ vs. tables.vars ++ vs) (sym (map-append var_of (variables_by d) (variables_by_decls more)))
          ∙ ap (λ s. tables.vars ++ map var_of (variables_by_decls s)) (sym next) ∙ before_vars,
      ap (λ v. v ++ rows_by_decls more) are_types ∙ append_assoc tables.types (rows_by d) (rows_by_decls more)
          ∙ ap (λ s. tables.types ++ rows_by_decls s) (sym next) ∙ before_types,
    )
