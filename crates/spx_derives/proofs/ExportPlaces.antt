-- The first places of exports.
use Rattle.std.proofs.Common.{◌≡◌, Bool, true, false, ◌||◌, cond, is_some, List, [], ◌∷◌, Option, Some, None, option_map, refl, sym, ap, ap₂, ◌∙◌, true≢false}
use Rattle.std.specs.Prelude.{find, if◌then◌else◌}
use Rattle.std.specs.List.{list_any}
use Rattle.std.specs.Option.{option_or}
use Rattle.spx_text.specs.declared.place.Place.{Place}
use Rattle.spx_core.specs.declared.entity.VarId.{VarId}
use Rattle.spx_core.specs.declared.name.Reference.{Reference}
use Rattle.spx_core.specs.declared.dependency.CoreDerivesItem.{CoreDerivesItem}
use Rattle.spx_core.specs.declared.subprogram.Sub.{Sub}
use Rattle.spx_core.specs.Uses.{denotes, mentions}
use Rattle.spx_core.specs.Dependency.{exports, relation}
use Rattle.spx_core.specs.Mirror.DerivesItems.{has_export}
use Rattle.spx_core.proofs.Callers.Pairs.{exports_are}
use Rattle.spx_derives.specs.Places.{export_place, place_in_items, place_or}
use Rattle.spx_derives.specs.Tables.{first_place, place_in_names}

abbrev place : Reference → Place
place name = name.root.name.place

first_named : (y : VarId) (names : List Reference) → place_in_names y names ≡ option_map place (find (λ (name : Reference). denotes y name.root) names)
first_named y [] = refl
first_named y (name ∷ names) = by_test (denotes y name.root) (place_in_names y names) (find (λ (n : Reference). denotes y n.root) names) (first_named y names)
  where
    by_test : (b : Bool) (rest : Option Place) (found : Option Reference) → rest ≡ option_map place found → option_or (if b then Some (place name) else None) rest ≡ option_map place (cond b (Some name) found)
    by_test true rest found is = refl
    by_test false rest found is = is

either : (o r : Option Place) (heading : Place) → place_or (option_or o r) heading ≡ place_or o (place_or r heading)
either (Some p) r heading = refl
either None r heading = refl

place_of_first : (y : VarId) (items : List CoreDerivesItem) (heading : Place) → place_or (first_place y items) heading ≡ place_in_items y items heading
place_of_first y [] heading = refl
place_of_first y (item ∷ items) heading =
    either (place_in_names y item.exports) (first_place y items) heading
    ∙ ap₂ place_or (first_named y item.exports) (place_of_first y items heading)

some_either : (o r : Option Place) → is_some (option_or o r) ≡ (is_some o || is_some r)
some_either (Some p) r = refl
some_either None r = refl

some_named : (y : VarId) (names : List Reference) → is_some (place_in_names y names) ≡ mentions y names
some_named y [] = refl
some_named y (name ∷ names) = by_test (denotes y name.root) (place_in_names y names) (mentions y names) (some_named y names)
  where
    by_test : (b : Bool) (rest : Option Place) (later : Bool) → is_some rest ≡ later → is_some (option_or (if b then Some (place name) else None) rest) ≡ (b || later)
    by_test true rest later is = refl
    by_test false rest later is = is

some_first : (y : VarId) (items : List CoreDerivesItem) → is_some (first_place y items) ≡ list_any (has_export y) items
some_first y [] = refl
some_first y (item ∷ items) = some_either (place_in_names y item.exports) (first_place y items) ∙ ap₂ ◌||◌ (some_named y item.exports) (some_first y items)

-- what is in the table is an export
pub exported : (sub : Sub) (y : VarId) → is_some (first_place y (relation sub)) ≡ exports y sub
exported sub y = some_first y (relation sub) ∙ sym (exports_are y sub)

-- at its place
pub at_place : (sub : Sub) (y : VarId) (p : Place) → first_place y (relation sub) ≡ Some p → p ≡ export_place sub y
at_place sub y p is = ap (λ o. place_or o sub.place) (sym is) ∙ place_of_first y (relation sub) sub.place

pub has_place : (sub : Sub) (y : VarId) → exports y sub ≡ true → first_place y (relation sub) ≡ Some (export_place sub y)
has_place sub y is = by_option (first_place y (relation sub)) refl
  where
    by_option : (o : Option Place) → first_place y (relation sub) ≡ o → first_place y (relation sub) ≡ Some (export_place sub y)
    by_option (Some p) at = at ∙ ap Some (at_place sub y p at)
    by_option None at = absurd (true≢false (sym is ∙ sym (exported sub y) ∙ ap is_some at))
