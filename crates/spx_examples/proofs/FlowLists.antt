-- The findings on flow, as lists: what is found of a body without a loop is computed from its effect.
use Rattle.std.proofs.Common.{◌≡◌, ◌↔◌, ◌⊎◌, inl, inr, ⊎_elim, Bool, false, not, List, [], ◌∷◌, ◌++◌, refl, sym, ap, ap₂, subst, ◌∙◌}
use Rattle.std.specs.Prelude.{IsTrue, ◌||◌, ◌&&◌, All, Contains}
use Rattle.std.specs.List.{flat_map, list_any}
use Rattle.std.specs.Option.{option_to_list}
use Rattle.std.proofs.lemmas.Bool.{false_from_ne_true, and_parts, or_parts, or_cases, or_left, or_right}
use Rattle.std.proofs.lemmas.List.Elements.{All-cons, All-nil}
use Rattle.spx_text.specs.declared.place.Place.{Place}
use Rattle.spx_core.specs.declared.entity.VarId.{VarId}
use Rattle.spx_core.specs.declared.program.Program.{Program}
use Rattle.spx_core.specs.declared.subprogram.Sub.{Sub}
use Rattle.spx_core.specs.Dependency.{Pair, declared_pairs, exports, imports, derives}
use Rattle.spx_core.specs.Formals.{formals, stands_in}
use Rattle.spx_core.specs.Uses.{is_same}
use Rattle.spx_core.specs.Effects.{Effect, Read}
use Rattle.spx_core.specs.Flow.{MayFlow}
use Rattle.spx_core.specs.FlowRules.{body_effect, mark, Missing, Unused, Ineffective, MayBeUnset, read, left, HasNoFinding, HasNoFlowFinding, starts_set}
use Rattle.spx_core.specs.Marks.{marked}
use Rattle.spx_examples.specs.Found.{Found, Finds, nothing_found}
use Rattle.spx_examples.proofs.Lists.{same, turned, chain, both, not_is, and_is, Among, only, those, of_both, of_each, of_one, of_those, contains_is, in_target, stands_is, stands_any}
use Rattle.spx_examples.proofs.EffectLists.{has_loop, marked_loops, sources, sources_are, occurrences, occurrences_are, no_exits, skips, skips_is, first_reads, first_reads_are}

-- ---- lists

-- the pairs that pass a test
abbrev pairs : (VarId → VarId → Bool) → List VarId → List VarId → List (VarId × VarId)
pairs test us vs = flat_map (λ v. flat_map (λ u. only (test u v) ((u, v) ∷ [])) us) vs

of_pairs : (test : VarId → VarId → Bool) (us vs : List VarId) (u v : VarId) → Among (pairs test us vs) (u, v) ↔ (Among us u × Among vs v × IsTrue (test u v))
of_pairs test us vs u v =
    let firsts = λ (y : VarId) (x : VarId). only (test x y) ((x, y) ∷ []) in
    let each = of_each (λ y. flat_map (firsts y) us) vs (u, v) in (
      λ h.
          let r = each.0 h in
          let s = (of_each (firsts r.0) us (u, v)).0 r.2 in
          let o = (of_one (test s.0 r.0) (s.0, r.0) (u, v)).0 s.2 in
          let first : s.0 ≡ u = ap (λ (q : VarId × VarId). q.0) o.1 in
          let second : r.0 ≡ v = ap (λ (q : VarId × VarId). q.1) o.1 in
          (subst (Among us) first s.1, subst (Among vs) second r.1, ap₂ test (sym first) (sym second) ∙ o.0),
      λ h. each.1 (v, h.1, (of_each (firsts v) us (u, v)).1 (u, h.0, (of_one (test u v) (u, v) (u, v)).1 (h.2, refl))),
    )

none_is : {A : Type 0} (test : A → Bool) (xs : List A) → (list_any test xs ≡ false) ↔ ((x : A) → Among xs x → test x ≡ false)
none_is test [] = (λ h x at. absurd at, λ h. refl)
none_is test (x ∷ xs) =
    let rest = none_is test xs in (
      λ h z at. let parts = or_parts (test x) (list_any test xs) h in ⊎_elim (λ e. subst (λ a. test a ≡ false) e parts.0) (λ later. rest.0 parts.1 z later) at,
      λ h. ap₂ ◌||◌ (h x (inl refl)) (rest.1 (λ z at. h z (inr at))),
    )

-- ---- what is declared

abbrev to_any : VarId → List Pair → Bool
to_any v declared = list_any (λ (pair : Pair). is_same v pair.to) declared

abbrev exports_of : Sub → List VarId
exports_of sub = flat_map (λ (pair : Pair). option_to_list pair.to) (declared_pairs sub)

exports_are : (sub : Sub) (v : VarId) → IsTrue (exports v sub) ↔ Among (exports_of sub) v
exports_are sub v = stands_any v (λ (pair : Pair). is_same v pair.to) (λ (pair : Pair). option_to_list pair.to) (λ pair. in_target v pair.to) (declared_pairs sub)

-- what is derived from something is an export
derived_is_export : (u v : VarId) (ps : List Pair) → IsTrue (list_any (λ (pair : Pair). is_same v pair.to && is_same u pair.from) ps) → IsTrue (to_any v ps)
derived_is_export u v [] h = h
derived_is_export u v (p ∷ ps) h =
    ⊎_elim
    (λ here. or_left (is_same v p.to) (to_any v ps) (and_parts (is_same v p.to) (is_same u p.from) here).0)
    (λ later. or_right (is_same v p.to) (to_any v ps) (derived_is_export u v ps later))
    (or_cases (is_same v p.to && is_same u p.from) (list_any (λ (pair : Pair). is_same v pair.to && is_same u pair.from) ps) h)

-- ---- what is found

module _ (p : Program) (sub : Sub) where
  abbrev flows : Effect → VarId → VarId → Bool
  flows e u v = stands_in u (sources e v)

  flows_are : (e : Effect) → has_loop e ≡ false → (u v : VarId) → IsTrue (flows e u v) ↔ MayFlow e u v
  flows_are e no_loop u v = chain (stands_is u (sources e v)) (sources_are e no_loop u v)

  no_flow : (e : Effect) → has_loop e ≡ false → (u v : VarId) → IsTrue (not (flows e u v)) ↔ ¬ MayFlow e u v
  no_flow e no_loop u v = chain (not_is (flows e u v)) (
    λ none flow. absurd (let some = (flows_are e no_loop u v).1 flow in cc),
    λ none. false_from_ne_true (flows e u v) (λ h. none ((flows_are e no_loop u v).0 h)),
  )

  -- a mark at this place comes to an export
  abbrev arrives : Effect → Place → Bool
  arrives e at = list_any (λ w. flows (marked at (mark p) e) (mark p) w) (exports_of sub)

  abbrev is_missing : Effect → VarId → VarId → Bool
  is_missing e u v = flows e u v && not (derives u v sub)

  abbrev is_unused : Effect → VarId → VarId → Bool
  is_unused e u v = derives u v sub && not (flows e u v)

  abbrev is_left : Effect → VarId → Bool
  is_left e v = not (imports v sub) && skips v e

  abbrev reads_unset : Effect → List Read
  reads_unset e = those (λ (r : Read). not (starts_set p sub r.1)) (first_reads e)

  abbrev left_unset : Effect → List Read
  left_unset e = flat_map (λ v. only (is_left e v) ((sub.end, v) ∷ [])) (exports_of sub)

  abbrev pub findings : Effect → Found
  findings e = record {
    missing = pairs (is_missing e) (formals sub) (exports_of sub);
    unused = pairs (is_unused e) (formals sub) (exports_of sub);
    ineffective = those (λ at. not (arrives e at)) (occurrences e);
    unset = reads_unset e ++ left_unset e;
  }

  abbrev body : Effect
  body = body_effect sub

  missing_are : has_loop body ≡ false → (u v : VarId) → Missing sub u v ↔ Among (findings body).missing (u, v)
  missing_are no_loop u v =
      let test = chain (and_is (flows body u v) (not (derives u v sub))) (both (flows_are body no_loop u v) (not_is (derives u v sub))) in
      turned (chain (of_pairs (is_missing body) (formals sub) (exports_of sub) u v) (
        λ h. ((stands_is u (formals sub)).1 h.0, (exports_are sub v).1 h.1, (test.0 h.2).0, (test.0 h.2).1),
        λ h. ((stands_is u (formals sub)).0 h.0, (exports_are sub v).0 h.1, test.1 (h.2, h.3)),
      ))

  unused_are : has_loop body ≡ false → (u v : VarId) → Unused sub u v ↔ Among (findings body).unused (u, v)
  unused_are no_loop u v =
      let test = chain (and_is (derives u v sub) (not (flows body u v))) (both same (no_flow body no_loop u v)) in
      turned (chain (of_pairs (is_unused body) (formals sub) (exports_of sub) u v) (
        λ h. ((stands_is u (formals sub)).1 h.0, (test.0 h.2).0, (test.0 h.2).1),
        λ h. ((stands_is u (formals sub)).0 h.0, (exports_are sub v).0 (derived_is_export u v (declared_pairs sub) h.1), test.1 (h.1, h.2)),
      ))

  ineffective_are : has_loop body ≡ false → (at : Place) → Ineffective p sub at ↔ Among (findings body).ineffective at
  ineffective_are no_loop at =
      let marks = marked at (mark p) body in
      let test = chain (not_is (arrives body at)) (none_is (λ w. flows marks (mark p) w) (exports_of sub)) in
      let none = λ (w : VarId). chain (turned (not_is (flows marks (mark p) w))) (no_flow marks (marked_loops at (mark p) body ∙ no_loop) (mark p) w) in
      turned (chain (of_those (λ q. not (arrives body q)) (occurrences body) at) (
        λ h. ((occurrences_are body at).0 h.1, λ w exported. (none w).0 (test.0 h.0 w ((exports_are sub w).0 exported))),
        λ h. (test.1 (λ w among. (none w).1 (h.1 w ((exports_are sub w).1 among))), (occurrences_are body at).1 h.0),
      ))

  -- a read, or at the end
  unset_by : has_loop body ≡ false → (at : Place) (v : VarId) → MayBeUnset p sub at v → Among (reads_unset body) (at, v) ⊎ Among (left_unset body) (at, v)
  unset_by no_loop at v (read unset way) = inl ((of_those (λ (r : Read). not (starts_set p sub r.1)) (first_reads body) (at, v)).1 ((not_is (starts_set p sub v)).1 unset, (first_reads_are body (no_exits body no_loop) at v).1 way))
  unset_by no_loop at v (left exported unset way) =
      let test = (and_is (not (imports v sub)) (skips v body)).1 ((not_is (imports v sub)).1 unset, (skips_is v body (no_exits body no_loop)).1 way) in
      inr ((of_each (λ w. only (is_left body w) ((sub.end, w) ∷ [])) (exports_of sub) (sub.end, v)).1 (v, (exports_are sub v).0 exported, (of_one (is_left body v) (sub.end, v) (sub.end, v)).1 (test, refl)))

  is_read : has_loop body ≡ false → (at : Place) (v : VarId) → Among (reads_unset body) (at, v) → MayBeUnset p sub at v
  is_read no_loop at v h = let r = (of_those (λ (q : Read). not (starts_set p sub q.1)) (first_reads body) (at, v)).0 h in read ((not_is (starts_set p sub v)).0 r.0) ((first_reads_are body (no_exits body no_loop) at v).0 r.1)

  is_at_end : has_loop body ≡ false → (at : Place) (v : VarId) → Among (left_unset body) (at, v) → MayBeUnset p sub at v
  is_at_end no_loop at v h =
      let r = (of_each (λ w. only (is_left body w) ((sub.end, w) ∷ [])) (exports_of sub) (at, v)).0 h in
      let o = (of_one (is_left body r.0) (sub.end, r.0) (at, v)).0 r.2 in
      let tests = (and_is (not (imports r.0 sub)) (skips r.0 body)).0 o.0 in
      subst (λ (q : Read). MayBeUnset p sub q.0 q.1) o.1 (left ((exports_are sub r.0).1 r.1) ((not_is (imports r.0 sub)).0 tests.0) ((skips_is r.0 body (no_exits body no_loop)).0 tests.1))

  unset_are : has_loop body ≡ false → (at : Place) (v : VarId) → MayBeUnset p sub at v ↔ Among (findings body).unset (at, v)
  unset_are no_loop at v = chain (unset_by no_loop at v, λ h. ⊎_elim (is_read no_loop at v) (is_at_end no_loop at v) h) (turned (of_both (reads_unset body) (left_unset body) (at, v)))

  all_found : has_loop body ≡ false → Finds p sub (findings body)
  all_found no_loop = record {
    missing = λ u v. chain (missing_are no_loop u v) (turned (contains_is (findings body).missing (u, v)));
    unused = λ u v. chain (unused_are no_loop u v) (turned (contains_is (findings body).unused (u, v)));
    ineffective = λ at. chain (ineffective_are no_loop at) (turned (contains_is (findings body).ineffective at));
    unset = λ at v. chain (unset_are no_loop at v) (turned (contains_is (findings body).unset (at, v)));
  }

  -- what is found is computed from the effect of the body
  pub found : (e : Effect) → body_effect sub ≡ e → has_loop e ≡ false → Finds p sub (findings e)
  found e is no_loop = subst (λ f. Finds p sub (findings f)) is (all_found (ap has_loop is ∙ no_loop))

  none_in : {A : Type 0} (P : Type 0) (z : A) → P ↔ Contains [] z → ¬ P
  none_in P z h holds = (contains_is [] z).0 (h.0 holds)

  nothing : Finds p sub nothing_found → HasNoFinding p sub
  nothing h = record {
    none_missing = λ u v. none_in (Missing sub u v) (u, v) (h.missing u v);
    none_unused = λ u v. none_in (Unused sub u v) (u, v) (h.unused u v);
    none_ineffective = λ at. none_in (Ineffective p sub at) at (h.ineffective at);
    none_unset = λ at v. none_in (MayBeUnset p sub at v) (at, v) (h.unset at v);
  }

-- nothing is found of a program of one procedure
pub no_finding : (p : Program) (sub : Sub) → p.subs ≡ sub ∷ [] → Finds p sub nothing_found → HasNoFlowFinding p
no_finding p sub is h = subst (All (HasNoFinding p)) (sym is) (All-cons (HasNoFinding p) sub [] (nothing p sub h) (All-nil (HasNoFinding p)))
