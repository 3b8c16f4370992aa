-- The tables that a dependency relation is looked up in.
use Rattle.std.specs.Prelude.{◌≡◌, ◌&&◌, ◌||◌, ◌==◌, ℕ, Bool, false, if◌then◌else◌, get_or, is_some, not, ◌↔◌, true, length, slice_get, List, [], ◌∷◌, Option, Some, None}
use Rattle.std.specs.List.{list_any}
use Rattle.std.specs.Option.{option_or}
use Rattle.indexmap.specs.IndexMap.{get}
use Rattle.spx_text.specs.declared.place.Place.{Place}
use Rattle.spx_text.specs.contracts.place.PlacePartialEq.TheImpl as place_impl
use Rattle.spx_core.specs.declared.entity.VarId.{VarId}
use Rattle.spx_core.specs.declared.name.Reference.{Reference}
use Rattle.spx_core.specs.declared.dependency.CoreDerivesItem.{CoreDerivesItem}
use Rattle.spx_core.specs.contracts.entity.VarIdPartialEq.TheImpl as var_impl
use Rattle.spx_core.specs.declared.subprogram.Sub.{Sub}
use Rattle.spx_core.specs.Dependency.{derives, relation}
use Rattle.spx_core.specs.Uses.{denotes, mentions}
use Rattle.spx_core.specs.Mirror.VarSets.{place_in_set}
use Rattle.spx_core.specs.Effects.{Read}
use Rattle.spx_rows.specs.Relations.{Matrix, Has}
use Rattle.spx_passes.specs.declared.occurrence.Occurrence.{Occurrence}
use Rattle.spx_derives.specs.declared.tables.Tables.{Tables}
use Rattle.spx_derives.specs.declared.finding.FlowFinding.{FlowFinding}
use Rattle.spx_derives.specs.declared.finding.FlowFinding.TheVariants.{UnsetRead}

abbrev pub same_var : VarId → VarId → Bool
same_var = (var_impl.ghosts).eq

abbrev pub same_place : Place → Place → Bool
same_place = (place_impl.ghosts).eq

-- ---- pairs

abbrev pub pair_in : Matrix → ℕ → ℕ → Bool
pair_in m u w = get_or (get_or m u []) w false

-- the pairs of `new`, by the variables at their positions, are those of `old` and those that the test finds
abbrev pub Declares : List ℕ → (VarId → VarId → Bool) → (old new : Matrix) → Type 0
Declares set test old new = (u w : ℕ) (x y : VarId) → place_in_set set x ≡ Some u → place_in_set set y ≡ Some w → pair_in new u w ≡ (test x y || pair_in old u w)

-- each import of the item stands with this export, and by `*` the export with itself
abbrev pub is_pair_to : VarId → CoreDerivesItem → VarId → VarId → Bool
is_pair_to to item import export = (to.0 == export.0) && (mentions import item.imports || (is_some item.itself && (import.0 == export.0)))

-- ---- places of exports

abbrev pub place_of_name : VarId → Reference → Option Place
place_of_name export name = if denotes export name.root then Some name.root.name.place else None

abbrev pub place_in_names : VarId → List Reference → Option Place
place_in_names export [] = None
place_in_names export (name ∷ names) = option_or (place_of_name export name) (place_in_names export names)

-- the first place of the export in the items
abbrev pub first_place : VarId → List CoreDerivesItem → Option Place
first_place export [] = None
first_place export (item ∷ items) = option_or (place_in_names export item.exports) (first_place export items)

-- ---- rows

-- the rows have a number in common
abbrev pub meets : List Bool → List Bool → Bool
meets [] other = false
meets (b ∷ row) [] = false
meets (b ∷ row) (c ∷ other) = (b && c) || meets row other

-- ---- occurrences

abbrev pub stands_at : Place → Occurrence → Bool
stands_at p o = same_place p o.place

-- an occurrence at the place reaches one of the row
abbrev pub is_effective : List Bool → Place → Occurrence → Bool
is_effective row p o = stands_at p o && meets o.vars row

-- the occurrence stands at the place, which is none of these
abbrev pub is_other : List Place → Place → Occurrence → Bool
is_other places p o = stands_at p o && not (list_any (same_place o.place) places)

-- ---- reads

abbrev pub unset_read : Read → FlowFinding
unset_read r = UnsetRead r.0 r.1

-- ---- the tables of a subprogram

pub record AreTablesOf (sub : Sub) (t : Tables) : Type 0 where
  pub pairs_size : length t.declared ≡ length sub.vars
  pub pairs : (u w : ℕ) (x y : VarId) → slice_get sub.vars u ≡ Some x → slice_get sub.vars w ≡ Some y → pair_in t.declared u w ≡ derives x y sub
  pub places : (y : VarId) → get same_var t.exports y ≡ first_place y (relation sub)
  pub row_size : length t.exported ≡ length sub.vars
  pub row : (w : ℕ) → Has t.exported w ↔ ((y : VarId) × (slice_get sub.vars w ≡ Some y) × (is_some (get same_var t.exports y) ≡ true))
