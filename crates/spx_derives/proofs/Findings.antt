-- The findings of a subprogram, from its tables.
use Rattle.std.proofs.Common.{◌≡◌, ◌↔◌, ℕ, Bool, true, false, ◌&&◌, not, is_some, List, ◌++◌, map, slice_get, Some, refl, sym, ap, ap₂, ◌∙◌, subst, ⊎_elim, true≢false}
use Rattle.std.specs.Prelude.{Contains}
use Rattle.std.specs.List.{IsDistinct, list_any}
use Rattle.std.proofs.lemmas.Bool.{and_parts, false_from_ne_true}
use Rattle.std.proofs.lemmas.List.Elements.{Contains-append_left, Contains-append_right, Contains-append_cases}
use Rattle.std.proofs.lemmas.Map.Made.{AllPairs-from_IsDistinct}
use Rattle.indexmap.specs.IndexMap.{get}
use Rattle.spx_text.specs.declared.place.Place.{Place}
use Rattle.spx_core.specs.declared.entity.VarId.{VarId}
use Rattle.spx_core.specs.declared.program.Program.{Program}
use Rattle.spx_core.specs.declared.subprogram.Sub.{Sub}
use Rattle.spx_core.specs.Uses.{is_same}
use Rattle.spx_core.specs.Dependency.{Pair, declared_pairs, derives, exports, relation}
use Rattle.spx_core.specs.Effects.{Read}
use Rattle.spx_core.specs.Flow.{MayFlow}
use Rattle.spx_core.specs.Marks.{Mu, Occurs}
use Rattle.spx_core.specs.Formals.{formals, is_formal}
use Rattle.spx_core.specs.FlowRules.{Missing, Unused, Ineffective, MarkReaches, body_effect}
use Rattle.spx_core.specs.Scopes.{Scoped}
use Rattle.spx_core.proofs.Callers.ListTests.{covers, found, passes}
use Rattle.spx_rows.specs.Relations.{Matrix}
use Rattle.spx_passes.specs.declared.occurrence.Occurrence.{Occurrence}
use Rattle.spx_flow.specs.Flows.{IsAt, IsBackwardFlow}
use Rattle.spx_define.specs.UnsetReads.{AreUnsetReads}
use Rattle.spx_derives.specs.declared.finding.FlowFinding.{FlowFinding}
use Rattle.spx_derives.specs.declared.finding.FlowFinding.TheVariants as finding
use Rattle.spx_derives.specs.Places.{export_place}
use Rattle.spx_derives.specs.FlowFindings.{AreFindingsOf, Finds, missing, unused, ineffective, unset}
use Rattle.spx_derives.specs.Differences.{difference, differences_from}
use Rattle.spx_derives.specs.Tables.{AreTablesOf, first_place, is_effective, meets, pair_in, same_place, same_var, stands_at, unset_read}
use Rattle.spx_derives.specs.declared.tables.Tables.{Tables}
use Rattle.spx_derives.proofs.TableLaws.{meets_is, same_place-Decides, same_truth}
use Rattle.spx_derives.proofs.Elements.{Once, in_map, just, map_in, once_append, once_from_pairs, once_map, pairs_from_once}
use Rattle.spx_derives.proofs.DifferenceLaws.{Apart, Differs, differs, listed, once_from}
use Rattle.spx_derives.proofs.Variables.{among_all, apart_by, apart_front, stands, stands_back}
use Rattle.spx_derives.proofs.ExportPlaces.{at_place, exported, has_place}

pub once_places : (places : List Place) → IsDistinct same_place places → Once places
once_places places once = once_from_pairs places (AllPairs-from_IsDistinct same_place-Decides places once)

-- what is declared to be derived is an export
derived_exported : (sub : Sub) (x y : VarId) → derives x y sub ≡ true → exports y sub ≡ true
derived_exported sub x y is = covers (λ (pair : Pair). _) (λ (pair : Pair). is_same y pair.to) (λ pair h. (and_parts (is_same y pair.to) (is_same x pair.from) h).0) (declared_pairs sub) is

-- ---- kinds

abbrev kind : FlowFinding → ℕ
kind (finding.Missing place x y) = 0
kind (finding.Unused place x y) = 0
kind (finding.Ineffective place) = 1
kind (finding.UnsetRead place v) = 2

difference_kind : (a b : Bool) (place : Place) (x y : VarId) (f : FlowFinding) → difference a b place x y ≡ Some f → kind f ≡ 0
difference_kind true false place x y f is = ap kind (sym (just _ f is))
difference_kind false true place x y f is = ap kind (sym (just _ f is))
difference_kind true true place x y f is = absurd cc
difference_kind false false place x y f is = absurd cc

module _ (p : Program) (sub : Sub) (led : Matrix) (marked : List Occurrence) (scoped : Scoped p sub) (reaches : MarkReaches p sub) (is : IsBackwardFlow sub led marked) (t : Tables) (tables : AreTablesOf sub t) where
  at : (k : ℕ) (v : VarId) → slice_get (formals sub) k ≡ Some v → IsAt sub k v
  at k v stands = among_all sub.formal_count sub.vars k v stands

  -- ---- differences

  abbrev Difference : FlowFinding → Type 0
  Difference = Differs led t.declared (get same_var t.exports) (formals sub)

  found_difference : (f : FlowFinding) → Difference f → Finds p sub f
  found_difference f d = by_case (pair_in led d.u d.w) (pair_in t.declared d.u d.w) refl refl d.is
    where
      flows : (pair_in led d.u d.w ≡ true) ↔ MayFlow (body_effect sub) d.x d.y
      flows = is.rho d.u d.w d.x d.y (at d.u d.x d.import) (at d.w d.y d.export)

      derived : pair_in t.declared d.u d.w ≡ derives d.x d.y sub
      derived = tables.pairs d.u d.w d.x d.y (at d.u d.x d.import) (at d.w d.y d.export)

      formal : is_formal d.x sub ≡ true
      formal = stands_back d.x (formals sub) d.u d.import

      first : first_place d.y (relation sub) ≡ Some d.place
      first = sym (tables.places d.y) ∙ d.at

      by_case : (a b : Bool) → pair_in led d.u d.w ≡ a → pair_in t.declared d.u d.w ≡ b → difference a b d.place d.x d.y ≡ Some f → Finds p sub f
      by_case true false a b e =
          subst (Finds p sub) (ap (λ place. finding.Missing place d.x d.y) (sym (at_place sub d.y d.place first)) ∙ just _ f e)
          (missing (formal, sym (exported sub d.y) ∙ ap is_some first, flows.0 a, sym derived ∙ b))
      by_case false true a b e =
          subst (Finds p sub) (ap (λ place. finding.Unused place d.x d.y) (sym (at_place sub d.y d.place first)) ∙ just _ f e)
          (unused (formal, sym derived ∙ b, λ flow. true≢false (sym (flows.1 flow) ∙ a)))
      by_case true true a b e = absurd cc
      by_case false false a b e = absurd cc

  pair_difference : (x y : VarId) (a b : Bool) (f : FlowFinding) → is_formal x sub ≡ true → exports y sub ≡ true → ((MayFlow (body_effect sub) x y) ↔ (a ≡ true)) → derives x y sub ≡ b → difference a b (export_place sub y) x y ≡ Some f → Difference f
  pair_difference x y a b f formal export flows derived e =
      let from = stands x (formals sub) formal in
      let to = stands y (formals sub) (scoped.exported y export) in
      let rho = is.rho from.0 to.0 x y (at from.0 x from.1) (at to.0 y to.1) in
      let flows_is : pair_in led from.0 to.0 ≡ a = same_truth (pair_in led from.0 to.0) a (λ h. flows.0 (rho.0 h), λ h. rho.1 (flows.1 h)) in
      let declared_is = tables.pairs from.0 to.0 x y (at from.0 x from.1) (at to.0 y to.1) ∙ derived in
      record {
        u = from.0;
        w = to.0;
        x = x;
        y = y;
        place = export_place sub y;
        import = from.1;
        export = to.1;
        at = tables.places y ∙ has_place sub y export;
        is = ap₂ (λ c d. difference c d (export_place sub y) x y) flows_is declared_is ∙ e;
      }

  missing_difference : (x y : VarId) → Missing sub x y → Difference (finding.Missing (export_place sub y) x y)
  missing_difference x y m = pair_difference x y true false _ m.0 m.1 (λ h. refl, λ h. m.2) m.3 refl

  unused_difference : (x y : VarId) → Unused sub x y → Difference (finding.Unused (export_place sub y) x y)
  unused_difference x y m = pair_difference x y false true _ m.0 (derived_exported sub x y m.1) (λ h. absurd (m.2 h), λ h. absurd (true≢false (sym h))) m.1 refl

  -- ---- occurrences

  occurs : (q : Place) → (list_any (stands_at q) marked ≡ true) ↔ Occurs (body_effect sub) q
  occurs q = (
    λ h. let o = found (stands_at q) marked h in (is.occurrences q).0 (o.0, o.1, sym ((same_place-Decides q o.0.place).0 o.2)),
    λ h. let o = (is.occurrences q).1 h in passes (stands_at q) marked o.0 o.1 ((same_place-Decides q o.0.place).1 (sym o.2)),
  )

  -- an occurrence at the place reaches an export
  abbrev Effective : Place → Type 0
  Effective q = (y : VarId) × (exports y sub ≡ true) × Mu (body_effect sub) q y

  effective : (q : Place) → list_any (is_effective t.exported q) marked ≡ true → Effective q
  effective q h =
      let o = found (is_effective t.exported q) marked h in
      let parts = and_parts (stands_at q o.0) (meets o.0.vars t.exported) o.2 in
      let w = (meets_is o.0.vars t.exported).0 parts.1 in
      let y = (tables.row w.0).0 w.2 in
      (y.0, sym (exported sub y.0) ∙ ap is_some (sym (tables.places y.0)) ∙ y.2, (is.mu q w.0 y.0 y.1).0 (o.0, o.1, sym ((same_place-Decides q o.0.place).0 parts.0), w.1))

  effective_back : (q : Place) → Effective q → list_any (is_effective t.exported q) marked ≡ true
  effective_back q e =
      let stands_at_w = stands e.0 (formals sub) (scoped.exported e.0 e.1) in
      let w = stands_at_w.0 in
      let there = at w e.0 stands_at_w.1 in
      let o = (is.mu q w e.0 there).1 e.2 in
      let row_has = (tables.row w).1 (e.0, there, ap is_some (tables.places e.0) ∙ exported sub e.0 ∙ e.1) in
      passes (is_effective t.exported q) marked o.0 o.1
      (ap₂ ◌&&◌ ((same_place-Decides q o.0.place).1 (sym o.2)) ((meets_is o.0.vars t.exported).1 (w, o.3, row_has)))

  -- ---- places without effect

  module _ (places : List Place) (others : (q : Place) → list_any (same_place q) places ≡ (list_any (stands_at q) marked && not (list_any (is_effective t.exported q) marked))) where
    among : (q : Place) → Contains places q → list_any (same_place q) places ≡ true
    among q c = passes (same_place q) places q c ((same_place-Decides q q).1 refl)

    among_back : (q : Place) → list_any (same_place q) places ≡ true → Contains places q
    among_back q h = let o = found (same_place q) places h in subst (Contains places) (sym ((same_place-Decides q o.0).0 o.2)) o.1

    is_not : (b : Bool) → not b ≡ true → b ≡ true → ⊥
    is_not true n h = true≢false (sym n)
    is_not false n h = true≢false (sym h)

    found_ineffective : (q : Place) → Contains places q → Ineffective p sub q
    found_ineffective q c =
        let parts = and_parts (list_any (stands_at q) marked) (not (list_any (is_effective t.exported q) marked)) (sym (others q) ∙ among q c) in (
          (occurs q).0 parts.0,
          λ y export flow'. is_not _ parts.1 (effective_back q (y, export, (reaches q y export).0 flow')),
        )

    ineffective_listed : (q : Place) → Ineffective p sub q → Contains places q
    ineffective_listed q e =
        let none = false_from_ne_true (list_any (is_effective t.exported q) marked) (λ h. let f = effective q h in e.1 f.0 f.1 ((reaches q f.0 f.1).1 f.2)) in
        among_back q (others q ∙ ap₂ ◌&&◌ ((occurs q).1 e.0) (ap not none))

    -- ---- all findings

    module _ (once : Once places) (reads : List Read) (unset_are : AreUnsetReads p sub reads) where
      abbrev differences : List FlowFinding
      differences = differences_from led t.declared (get same_var t.exports) (formals sub) 0 (formals sub)

      abbrev all : List FlowFinding
      all = (differences ++ map finding.Ineffective places) ++ map unset_read reads

      found_in : (f : FlowFinding) → Contains all f → Finds p sub f
      found_in f c =
          ⊎_elim
          (λ front.
          ⊎_elim (λ d. found_difference f (differs led t.declared (get same_var t.exports) (formals sub) f d))
          (λ d. let q = in_map finding.Ineffective places f d in subst (Finds p sub) q.2 (ineffective (found_ineffective q.0 q.1)))
          (Contains-append_cases differences (map finding.Ineffective places) f front))
          (λ d. let r = in_map unset_read reads f d in subst (Finds p sub) r.2 (unset ((unset_are.exact r.0.0 r.0.1).0 r.1)))
          (Contains-append_cases (differences ++ map finding.Ineffective places) (map unset_read reads) f c)

      front : (f : FlowFinding) → Difference f → Contains all f
      front f d =
          Contains-append_left (differences ++ map finding.Ineffective places) (map unset_read reads) f
          (Contains-append_left differences (map finding.Ineffective places) f (listed led t.declared (get same_var t.exports) (formals sub) f d))

      finds_in : (f : FlowFinding) → Finds p sub f → Contains all f
      finds_in _ (missing {x} {y} m) = front _ (missing_difference x y m)
      finds_in _ (unused {x} {y} m) = front _ (unused_difference x y m)
      finds_in _ (ineffective {place} e) =
          Contains-append_left (differences ++ map finding.Ineffective places) (map unset_read reads) _
          (Contains-append_right differences (map finding.Ineffective places) _ (map_in finding.Ineffective places place (ineffective_listed place e)))
      finds_in _ (unset {place} {v} e) =
          Contains-append_right (differences ++ map finding.Ineffective places) (map unset_read reads) _ (map_in unset_read reads (place, v) ((unset_are.exact place v).1 e))

      apart : Apart (formals sub)
      apart = apart_front sub.formal_count sub.vars (apart_by sub.vars scoped.once)

      difference_first : (f : FlowFinding) → Contains differences f → kind f ≡ 0
      difference_first f c = let d = differs led t.declared (get same_var t.exports) (formals sub) f c in difference_kind _ _ d.place d.x d.y f d.is

      ineffective_next : (f : FlowFinding) → Contains (map finding.Ineffective places) f → kind f ≡ 1
      ineffective_next f c = let q = in_map finding.Ineffective places f c in ap kind (sym q.2)

      unset_last : (f : FlowFinding) → Contains (map unset_read reads) f → kind f ≡ 2
      unset_last f c = let r = in_map unset_read reads f c in ap kind (sym r.2)

      once_all : Once all
      once_all =
          once_append (differences ++ map finding.Ineffective places) (map unset_read reads)
          (once_append differences (map finding.Ineffective places) (once_from led t.declared (get same_var t.exports) (formals sub) apart 0 (formals sub) apart)
          (once_map finding.Ineffective (λ a b e. cc) places once)
          (λ f one two. let e : 0 ≡ 1 = sym (difference_first f one) ∙ ineffective_next f two in absurd cc))
          (once_map unset_read (λ a b e. same_read a b e) reads (once_from_pairs reads unset_are.once))
          (λ f one two.
          ⊎_elim (λ d. let e : 0 ≡ 2 = sym (difference_first f d) ∙ unset_last f two in absurd cc) (λ d. let e : 1 ≡ 2 = sym (ineffective_next f d) ∙ unset_last f two in absurd cc)
          (Contains-append_cases differences (map finding.Ineffective places) f one))
        where
          same_read : (a b : Read) → unset_read a ≡ unset_read b → a ≡ b
          same_read a b e =
              let place : a.0 ≡ b.0 = cc in
              let var : a.1 ≡ b.1 = cc in
              λ i. (place i, var i)

      pub are_findings : (all' : List FlowFinding) → all' ≡ all → AreFindingsOf p sub all'
      are_findings all' e = subst (AreFindingsOf p sub) (sym e) (record { once = pairs_from_once all once_all; exact = λ f. (found_in f, finds_in f) })
