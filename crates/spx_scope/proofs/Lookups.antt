-- A map's entries and the declarations that they are.
use Rattle.std.proofs.Common.{◌≡◌, ℕ, Bool, true, false, cond, List, [], ◌∷◌, ◌++◌, Option, Some, None, refl, ap, ◌∙◌}
use Rattle.std.specs.Map.{lookup}
use Rattle.std.specs.Str.{str_eq_ignore_ascii_case}
use Rattle.indexmap.specs.IndexMap.{insert_entry}
use Rattle.spx_core.specs.declared.entity.Entity.{Entity}
use Rattle.spx_core.specs.Regions.{Region, declared_in, with_declaration}
use Rattle.spx_scope.specs.Entries.{declaration, declarations}

abbrev pub Entry : Type 0
Entry = List ℕ × Option Entity

pub looked_up : (word : List ℕ) (entries : List Entry) → lookup (str_eq_ignore_ascii_case word) entries ≡ declared_in (declarations entries) word
looked_up word [] = refl
looked_up word (e ∷ es) = ap (λ r. cond (str_eq_ignore_ascii_case word e.0) (Some e.1) r) (looked_up word es)

inserted_step : (b : Bool) (e : Entry) (entity : Option Entity) (es more : List Entry) (x : Option (Option Entity)) (after : Region)
    → (x ≡ None → declarations more ≡ after) → cond b (Some e.1) x ≡ None
    → declarations (cond b ((e.0, entity) ∷ es) (e ∷ more)) ≡ declaration e ∷ after
inserted_step true e entity es more x after f h = absurd cc
inserted_step false e entity es more x after f h = ap (λ ds. declaration e ∷ ds) (f h)

inserted : (word : List ℕ) (entity : Option Entity) (entries : List Entry) → lookup (str_eq_ignore_ascii_case word) entries ≡ None
    → declarations (insert_entry str_eq_ignore_ascii_case entries word entity) ≡ declarations entries ++ declaration (word, entity) ∷ []
inserted word entity [] h = refl
inserted word entity (e ∷ es) h = inserted_step (str_eq_ignore_ascii_case word e.0) e entity es (insert_entry str_eq_ignore_ascii_case es word entity)
    (lookup (str_eq_ignore_ascii_case word) es) (declarations es ++ declaration (word, entity) ∷ []) (inserted word entity es) h

-- a new name goes last
declared : (word : List ℕ) (entity : Option Entity) (entries : List Entry) → declared_in (declarations entries) word ≡ None
    → declarations (insert_entry str_eq_ignore_ascii_case entries word entity) ≡ with_declaration (declaration (word, entity)) (declarations entries)
declared word entity entries h = rw h (inserted word entity entries (looked_up word entries ∙ h))

-- the same for a map that is seen as a region, and for the map after the insertion
pub declared_as : (word : List ℕ) (entity : Option Entity) (entries more : List Entry) (region : Region) → declarations entries ≡ region → declared_in region word ≡ None
    → more ≡ insert_entry str_eq_ignore_ascii_case entries word entity → declarations more ≡ with_declaration (declaration (word, entity)) region
declared_as word entity entries more region seen absent made =
    ap declarations made ∙ declared word entity entries (ap (λ r. declared_in r word) seen ∙ absent) ∙ ap (with_declaration (declaration (word, entity))) seen
