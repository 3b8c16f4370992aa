-- Parts of a body, one after another.
use Rattle.std.proofs.Common.{◌≡◌, ℕ, ◌+◌, ◌<◌, List, [], ◌∷◌, ◌++◌, length, map, drop, get_or, sym, ap, ◌∙◌, append_assoc}
use Rattle.std.proofs.lemmas.List.{flat_map_more, map-append}
use Rattle.std.specs.List.{flat_map}
use Rattle.spx_core.specs.declared.name.Defining.{Defining}
use Rattle.spx_core.specs.declared.program.Var.{Var}
use Rattle.spx_core.specs.Regions.{Region}
use Rattle.spx_core.specs.ResolvedStatements.{Part, in_order}
use Rattle.spx_core.specs.Resolved.{var_of}
use Rattle.spx_naming.proofs.Declared.{rest_at}

-- A part is resolved to this, from a region and variables on. What it declares is a variable then, and no more in the region.
abbrev pub Made : {A : Type 0} → Part A → (A → List Defining) → Region → List Var → Region → List Var → A → Type 0
Made p declared region vars region' vars' made = ((made, length vars') ≡ p region (length vars)) × (region' ≡ region) × (vars' ≡ vars ++ map var_of (declared made))

-- The first so many of a list are resolved, and there are these variables: what follows makes the whole list.
pub record Goes {X A : Type 0} (f : X → Part A) (declared : A → List Defining) (xs : List X) (first_region : Region) (first_vars : List Var) (region : Region) (vars : List Var) (i : ℕ) (made : List A) : Type 0 where
  pub makes : made ++ (in_order (map f (drop i xs)) region (length vars)).0 ≡ (in_order (map f xs) first_region (length first_vars)).0
  pub reaches : (in_order (map f (drop i xs)) region (length vars)).1 ≡ (in_order (map f xs) first_region (length first_vars)).1
  pub same_region : region ≡ first_region
  pub adds : vars ≡ first_vars ++ map var_of (flat_map declared made)

module _ {X A : Type 0} (f : X → Part A) (declared : A → List Defining) (xs : List X) where
  pub one_more : (first_region region region' : Region) (first_vars vars vars' : List Var) (i : ℕ) (made made' : List A) (item : X) (a : A)
      → i < length xs → item ≡ get_or xs i item
      → Made (f item) declared region vars region' vars' a → made' ≡ made ++ a ∷ []
      → Goes f declared xs first_region first_vars region vars i made → Goes f declared xs first_region first_vars region' vars' (i + 1) made'
  one_more first_region region region' first_vars vars vars' i made made' item a h e (is_made, is_region, are_vars) are_made before =
      let rest = map f (drop (i + 1) xs) in
      let step : in_order (map f (drop i xs)) region (length vars) ≡ (a ∷ (in_order rest region' (length vars')).0, (in_order rest region' (length vars')).1) =
      ap (λ ys. in_order (map f ys) region (length vars)) (rest_at xs i item h e)
      ∙ ap {B = List A × ℕ} (λ (q : A × ℕ). (q.0 ∷ (in_order rest region q.1).0, (in_order rest region q.1).1)) (sym is_made)
      ∙ ap {B = List A × ℕ} (λ r. (a ∷ (in_order rest r (length vars')).0, (in_order rest r (length vars')).1)) (sym is_region) in
      record {
        makes = ap (λ s. s ++ (in_order rest region' (length vars')).0) are_made ∙ append_assoc made (a ∷ []) (in_order rest region' (length vars')).0
            ∙ ap (λ (q : List A × ℕ). made ++ q.0) (sym step) ∙ before.makes;
        reaches = ap (λ (q : List A × ℕ). q.1) (sym step) ∙ before.reaches;
        same_region = is_region ∙ before.same_region;
        adds = are_vars ∙ ap (λ v. v ++ map var_of (declared a)) before.adds
            ∙ append_assoc first_vars (map var_of (flat_map declared made)) (map var_of (declared a))
            ∙ ap (λ s. first_vars ++ s) (sym (map-append var_of (flat_map declared made) (declared a)))
            ∙ ap (λ ds. first_vars ++ map var_of ds) (flat_map_more declared [] made a)
            ∙ ap (λ m. first_vars ++ map var_of (flat_map declared m)) (sym are_made);
      }
