-- Reads of variables that may be unset.
use Rattle.std.proofs.Common.{◌≡◌, ◌≢◌, ◌↔◌, ◌⊎◌, Bool, true, false, List, [], ◌∷◌, ◌++◌, Option, Some, None, option_map, refl, sym, ap, ap₂, ◌∙◌, subst, inl, inr, ⊎_elim, true≢false}
use Rattle.std.specs.Prelude.{Contains, ◌&&◌, ◌==◌, if◌then◌else◌}
use Rattle.std.specs.Bool.{Decides}
use Rattle.std.specs.List.{AllPairs, IsDistinct, list_any}
use Rattle.std.proofs.lemmas.Map.Made.{AllPairs-from_IsDistinct}
use Rattle.std.specs.Option.{option_to_list}
use Rattle.std.proofs.lemmas.Bool.{and_parts, eqb-true, eq-eqb}
use Rattle.std.proofs.lemmas.List.Elements.{Contains-append_left, Contains-append_right, Contains-append_cases, Contains-push, Contains-push_cases}
use Rattle.indexmap.specs.IndexSet.{insert_key}
use Rattle.indexmap.proofs.CallerLemmas.{Contains-insert_key}
use Rattle.spx_text.specs.declared.place.Place.{Place}
use Rattle.spx_core.specs.declared.entity.VarId.{VarId}
use Rattle.spx_core.specs.declared.name.Reference.{Reference}
use Rattle.spx_core.specs.declared.dependency.CoreDerivesItem.{CoreDerivesItem}
use Rattle.spx_core.specs.Effects.{Read}
use Rattle.spx_core.specs.Uses.{denotes, is_same, mentions, variable_of}
use Rattle.spx_core.specs.Mirror.DerivesItems.{has_export}
use Rattle.spx_core.specs.Marks.{same_place}
use Rattle.spx_core.proofs.Callers.Variables.{same_var}
use Rattle.spx_core.proofs.Callers.MarkLaws.{same_place_is, same_place_itself}
use Rattle.spx_text.specs.contracts.place.PlacePartialEq.TheImpl as place_impl
use Rattle.spx_core.specs.contracts.entity.VarIdPartialEq.TheImpl as var_impl
use Rattle.spx_define.specs.declared.reached.Reached.{Reached}
use Rattle.spx_define.specs.Passes.{Finds, exports_at, is_unset, read_at, reads_at}
use Rattle.spx_define.proofs.Additions.{adds_as, adds_both, adds_nothing}
use Rattle.spx_define.proofs.Elements.{no_element, only_element, in_flat_map}

pub finds_none : (here : Reached) (found : List Read) → Finds here [] found found
finds_none here found = record { exact = λ place v. adds_nothing (λ is. no_element (place, v) is) }

-- what stands in two lists, one after the other
in_both : (first second : List Read) (r : Read) → Contains (first ++ second) r ↔ (Contains first r ⊎ Contains second r)
in_both first second r = (λ h. Contains-append_cases first second r h, λ h. ⊎_elim (λ one. Contains-append_left first second r one) (λ two. Contains-append_right first second r two) h)

pub finds_both : (here : Reached) (first second old mid new : List Read) → Finds here first old mid → Finds here second mid new → Finds here (first ++ second) old new
finds_both here first second old mid new f s = record { exact = λ place v. adds_as (in_both first second (place, v)) (adds_both (f.exact place v) (s.exact place v)) }

abbrev pub read_eq : Read → Read → Bool
read_eq a b = (place_impl.ghosts).eq a.0 b.0 && (var_impl.ghosts).eq a.1 b.1

pub same_read : (a b : Read) → Decides (read_eq a b) (a ≡ b)
same_read a b = (
  λ h.
      let parts = and_parts (same_place a.0 b.0) (a.1.0 == b.1.0) h in
      ap₂ (λ (place : Place) (v : VarId). (place, v)) (same_place_is a.0 b.0 parts.0) (same_var a.1 b.1 (eqb-true a.1.0 b.1.0 parts.1)),
  λ e. subst (λ c. read_eq a c ≡ true) e (ap₂ ◌&&◌ (same_place_itself a.0) (eq-eqb a.1.0 a.1.0 refl)),
)

pub each_once : (reads : List Read) → IsDistinct read_eq reads → AllPairs (λ a b. a ≢ b) reads
each_once reads distinct = AllPairs-from_IsDistinct same_read reads distinct

module _ (eq : Read → Read → Bool) (same : (a b : Read) → eq a b ≡ true → a ≡ b) where
  inserted_kept : (keys : List Read) (r x : Read) → Contains keys x → Contains (insert_key eq keys r) x
  inserted_kept keys r x is = by (list_any (eq r) keys)
    where
      by : (b : Bool) → Contains (if b then keys else keys ++ r ∷ []) x
      by true = is
      by false = Contains-append_left keys (r ∷ []) x is

  inserted_cases : (keys : List Read) (r x : Read) → Contains (insert_key eq keys r) x → Contains keys x ⊎ (r ≡ x)
  inserted_cases keys r x is = by (list_any (eq r) keys) is
    where
      by : (b : Bool) → Contains (if b then keys else keys ++ r ∷ []) x → Contains keys x ⊎ (r ≡ x)
      by true is = inl is
      by false is = Contains-push_cases keys r x is

  pub finds_inserted : (here : Reached) (r : Read) (old new : List Read) → is_unset here r.1 ≡ true → new ≡ insert_key eq old r → Finds here (r ∷ []) old new
  finds_inserted here r old new none is = record {
    exact = λ place v. (
      λ h. ⊎_elim
          (λ o. inl o)
          (λ e. inr (ap (λ (q : Read). is_unset here q.1) (sym e) ∙ none, subst (Contains (r ∷ [])) e (Contains-push [] r)))
          (inserted_cases old r (place, v) (subst (λ keys. Contains keys (place, v)) is h)),
      λ h. subst (λ keys. Contains keys (place, v)) (sym is) (⊎_elim
          (λ o. inserted_kept old r (place, v) o)
          (λ k. subst (Contains (insert_key eq old r)) (only_element r (place, v) k.1) (Contains-insert_key eq same old r))
          h),
    );
  }

-- ---- the reads of an expression

-- ---- exports at a place

module _ (end place : Place) (v : VarId) where
  in_read_at : (o : Option VarId) → Contains {X = Read} (option_to_list (option_map (λ w. (end, w)) o)) (place, v) ↔ ((end ≡ place) × (is_same v o ≡ true))
  in_read_at (Some w) = (
    λ is. let e : ◌≡◌ {A = Read} (end, w) (place, v) = only_element (end, w) (place, v) is in (ap (λ (r : Read). r.0) e, eq-eqb w.0 v.0 (ap (λ (r : Read). r.1.0) e)),
    λ h. subst (Contains {X = Read} ((end, w) ∷ [])) (ap₂ (λ (p : Place) (x : VarId). (p, x)) h.0 (same_var w v (eqb-true w.0 v.0 h.1))) (Contains-push [] (end, w)),
  )
  in_read_at None = (λ is. absurd (no_element (place, v) is), λ h. absurd (true≢false (sym h.1)))

  in_reads_at : (names : List Reference) → Contains (reads_at end names) (place, v) ↔ ((end ≡ place) × (mentions v names ≡ true))
  in_reads_at names = in_flat_map (end ≡ place) (place, v) (λ (name : Reference). option_to_list (read_at end name.root.entity)) (λ (name : Reference). denotes v name.root)
      (λ (name : Reference). in_read_at (variable_of name.root.entity)) names

  pub in_exports_at : (items : List CoreDerivesItem) → Contains (exports_at end items) (place, v) ↔ ((end ≡ place) × (list_any (has_export v) items ≡ true))
  in_exports_at items = in_flat_map (end ≡ place) (place, v) (λ (item : CoreDerivesItem). reads_at end item.exports) (has_export v) (λ (item : CoreDerivesItem). in_reads_at item.exports) items
