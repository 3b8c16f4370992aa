-- The subprograms of a program, one after another.
use Rattle.std.proofs.Common.{◌≡◌, ℕ, ◌+◌, ◌<◌, List, [], ◌∷◌, ◌++◌, length, drop, get_or, refl, sym, ap, ◌∙◌, length-append, append_assoc}
use Rattle.std.specs.List.{flat_map}
use Rattle.spx_tree.specs.declared.subprogram.Subprogram.{Subprogram}
use Rattle.spx_tree.specs.declared.subprogram.Unit.{Unit}
use Rattle.spx_tree.specs.declared.subprogram.Unit.TheVariants as unit
use Rattle.spx_core.specs.declared.name.Defining.{Defining}
use Rattle.spx_core.specs.declared.subprogram.Sub.{Sub}
use Rattle.spx_core.specs.declared.program.TypeRow.{TypeRow}
use Rattle.spx_core.specs.declared.program.Var.{Var}
use Rattle.spx_core.specs.Regions.{Region}
use Rattle.spx_core.specs.DeclaredNames.{declaring}
use Rattle.spx_core.specs.ResolvedDeclarations.{Before}
use Rattle.spx_core.specs.Resolved.{counted_sub, own_types, own_vars, resolved_sub, resolved_subs, unit_name}
use Rattle.spx_naming.specs.declared.tables.Tables.{Tables}
use Rattle.spx_naming.specs.Before.{before_in}
use Rattle.spx_naming.specs.Units.{subprogram_of}
use Rattle.spx_naming.proofs.Declared.{rest_at}

abbrev subs_with : Region → ℕ → Before → List Unit → Defining → Sub → List Sub
subs_with library position before rest name sub = sub ∷ resolved_subs (declaring library name) (position + 1) (counted_sub before sub) rest

one_unit : (library : Region) (position : ℕ) (before : Before) (item : Unit) (rest : List Unit) → resolved_subs library position before (item ∷ rest)
    ≡ subs_with library position before rest (unit_name library position (subprogram_of item)) (resolved_sub (unit_name library position (subprogram_of item)) before (subprogram_of item))
one_unit library position before (unit.Subprogram s) rest = refl

-- with the name and the subprogram that were made
made_unit : (library : Region) (position : ℕ) (before : Before) (item : Unit) (rest : List Unit) (name : Defining) (sub : Sub)
    → name ≡ unit_name library position (subprogram_of item) → sub ≡ resolved_sub name before (subprogram_of item)
    → resolved_subs library position before (item ∷ rest) ≡ subs_with library position before rest name sub
made_unit library position before item rest name sub is_name is_sub =
    one_unit library position before item rest
    ∙ ap (λ d. subs_with library position before rest d (resolved_sub d before (subprogram_of item))) (sym is_name)
    ∙ ap (subs_with library position before rest name) (sym is_sub)

-- what a subprogram adds is counted
counted_after : (tables tables' : Tables) (sub : Sub) → tables'.vars ≡ tables.vars ++ own_vars sub → tables'.types ≡ tables.types ++ own_types sub
    → counted_sub (before_in tables) sub ≡ before_in tables'
counted_after tables tables' sub are_vars are_types =
    ap {B = Before} (λ n. record { vars = n; types = tables.types ++ own_types sub }) (sym (ap length are_vars ∙ length-append tables.vars (own_vars sub)))
    ∙ ap {B = Before} (λ (rows : List TypeRow). record { vars = length tables'.vars; types = rows }) (sym are_types)

-- the same at the state after it
unit_after : (library library' : Region) (tables tables' : Tables) (subs subs' : List Sub) (item : Unit) (rest : List Unit) (name : Defining) (sub : Sub)
    → name ≡ unit_name library (length subs) (subprogram_of item) → library' ≡ declaring library name
    → sub ≡ resolved_sub name (before_in tables) (subprogram_of item) → tables'.vars ≡ tables.vars ++ own_vars sub → tables'.types ≡ tables.types ++ own_types sub
    → subs' ≡ subs ++ sub ∷ []
    → resolved_subs library (length subs) (before_in tables) (item ∷ rest) ≡ sub ∷ resolved_subs library' (length subs') (before_in tables') rest
unit_after library library' tables tables' subs subs' item rest name sub is_name is_library is_sub are_vars are_types are_subs =
    made_unit library (length subs) (before_in tables) item rest name sub is_name is_sub
    ∙ ap (λ r. sub ∷ resolved_subs r (length subs + 1) (counted_sub (before_in tables) sub) rest) (sym is_library)
    ∙ ap (λ n. sub ∷ resolved_subs library' n (counted_sub (before_in tables) sub) rest) (sym (ap length are_subs ∙ length-append subs (sub ∷ [])))
    ∙ ap (λ n. sub ∷ resolved_subs library' (length subs') n rest) (counted_after tables tables' sub are_vars are_types)

-- one more subprogram
pub unit_step : (units : List Unit) (i : ℕ) (library library' : Region) (tables tables' : Tables) (subs subs' all_subs : List Sub)
    (all_vars : List Var) (all_types : List TypeRow) (item : Unit) (s : Subprogram) (name : Defining) (sub : Sub)
    → i < length units → item ≡ get_or units i item → s ≡ subprogram_of item
    → (name ≡ unit_name library (length subs) s) × (library' ≡ declaring library name)
    → (sub ≡ resolved_sub name (before_in tables) s) × (tables'.vars ≡ tables.vars ++ own_vars sub) × (tables'.types ≡ tables.types ++ own_types sub)
    → subs' ≡ subs ++ sub ∷ []
    → (subs ++ resolved_subs library (length subs) (before_in tables) (drop i units) ≡ all_subs)
    × (tables.vars ++ flat_map own_vars (resolved_subs library (length subs) (before_in tables) (drop i units)) ≡ all_vars)
    × (tables.types ++ flat_map own_types (resolved_subs library (length subs) (before_in tables) (drop i units)) ≡ all_types)
    → (subs' ++ resolved_subs library' (length subs') (before_in tables') (drop (i + 1) units) ≡ all_subs)
    × (tables'.vars ++ flat_map own_vars (resolved_subs library' (length subs') (before_in tables') (drop (i + 1) units)) ≡ all_vars)
    × (tables'.types ++ flat_map own_types (resolved_subs library' (length subs') (before_in tables') (drop (i + 1) units)) ≡ all_types)
unit_step units i library library' tables tables' subs subs' all_subs all_vars all_types item s name sub h e is
    (is_name, is_library) (is_sub, are_vars, are_types) are_subs (before_subs, before_vars, before_types) =
    let rest = drop (i + 1) units in
    let more = resolved_subs library' (length subs') (before_in tables') rest in
    let next : resolved_subs library (length subs) (before_in tables) (drop i units) ≡ sub ∷ more =
    ap (resolved_subs library (length subs) (before_in tables)) (rest_at units i item h e)
    ∙ unit_after library library' tables tables' subs subs' item rest name sub (is_name ∙ ap (unit_name library (length subs)) is) is_library (is_sub ∙ ap (resolved_sub name (before_in tables)) is)
    are_vars are_types are_subs in (
      ap (λ s. s ++ more) are_subs ∙ append_assoc subs (sub ∷ []) more ∙ ap (λ s. subs ++ s) (sym next) ∙ before_subs,
      ap (λ v. v ++ flat_map own_vars more) are_vars ∙ append_assoc tables.vars (own_vars sub) (flat_map own_vars more)
          ∙ ap (λ s. tables.vars ++ flat_map own_vars s) (sym next) ∙ before_vars,
      ap (λ v. v ++ flat_map own_types more) are_types ∙ append_assoc tables.types (own_types sub) (flat_map own_types more)
          ∙ ap (λ s. tables.types ++ flat_map own_types s) (sym next) ∙ before_types,
    )
