-- Laws of the tables.
use Rattle.std.proofs.Common.{◌≡◌, ◌↔◌, ◌⊎◌, ℕ, zero, suc, ◌+◌, ◌<◌, Bool, true, false, ◌&&◌, ◌||◌, ◌==◌, List, [], ◌∷◌, get_or, slice_get, Some, None, refl, sym, ap, ◌∙◌, inl, inr, ⊎_elim, arith, true≢false, not, rules, Decides}
use Rattle.std.specs.List.{list_any, position}
use Rattle.std.proofs.lemmas.Bool.{and_parts, both_ways, eqb-true, eq-eqb, or_cases, or_left, or_right, false_from_ne_true}
use Rattle.std.proofs.lemmas.List.Quantifiers.{position-Some}
use Rattle.spx_text.specs.declared.place.Place.{Place}
use Rattle.spx_core.specs.declared.entity.VarId.{VarId}
use Rattle.spx_passes.specs.declared.occurrence.Occurrence.{Occurrence}
use Rattle.spx_core.specs.Mirror.VarSets.{place_in_set}
use Rattle.spx_rows.specs.Relations.{Matrix, Has, Gains}
use Rattle.spx_derives.specs.Tables.{Declares, is_other, meets, pair_in, same_place, stands_at}

pub same_truth : (a b : Bool) → ((a ≡ true) ↔ (b ≡ true)) → a ≡ b
same_truth true b h = sym (h.0 refl)
same_truth false b h = sym (false_from_ne_true b (λ is. true≢false (sym (h.1 is))))

never : (b : Bool) → (b && false) ≡ false
never true = refl
never false = refl

both : (a b : Bool) → a ≡ true → b ≡ true → (a && b) ≡ true
both a b p q = ap (λ x. x && b) p ∙ q

-- ---- pairs

stands_for : (set : List ℕ) (x : VarId) (u : ℕ) → place_in_set set x ≡ Some u → x.0 ≡ get_or set u 0
stands_for set x u at = eqb-true x.0 (get_or set u 0) (position-Some (λ n. x.0 == n) set u 0 at).1

pub added : (set : List ℕ) (old new : Matrix) (import export : VarId) (i e : ℕ) → place_in_set set import ≡ Some i → place_in_set set export ≡ Some e → Gains old new (λ a b. (i ≡ a) × (e ≡ b)) → Declares set (λ x y. (import.0 == x.0) && (export.0 == y.0)) old new
added set old new import export i e at_i at_e gains u w x y at_u at_w =
    same_truth (pair_in new u w) (((import.0 == x.0) && (export.0 == y.0)) || pair_in old u w) (
      λ h. ⊎_elim
          (λ was. or_right ((import.0 == x.0) && (export.0 == y.0)) (pair_in old u w) was)
          (λ is. or_left ((import.0 == x.0) && (export.0 == y.0)) (pair_in old u w) (both (import.0 == x.0) (export.0 == y.0) (same import x i u at_i at_u is.0) (same export y e w at_e at_w is.1)))
          ((gains u w).0 h),
      λ h. ⊎_elim
          (λ is. let parts = and_parts (import.0 == x.0) (export.0 == y.0) is in (gains u w).1 (inr (alike import x i u at_i at_u parts.0, alike export y e w at_e at_w parts.1)))
          (λ was. (gains u w).1 (inl was))
          (or_cases ((import.0 == x.0) && (export.0 == y.0)) (pair_in old u w) h),
    )
  where
    same : (v z : VarId) (k j : ℕ) → place_in_set set v ≡ Some k → place_in_set set z ≡ Some j → k ≡ j → (v.0 == z.0) ≡ true
    same v z k j at_k at_j is = eq-eqb v.0 z.0 (stands_for set v k at_k ∙ ap (λ n. get_or set n 0) is ∙ sym (stands_for set z j at_j))

    alike : (v z : VarId) (k j : ℕ) → place_in_set set v ≡ Some k → place_in_set set z ≡ Some j → (v.0 == z.0) ≡ true → k ≡ j
    alike v z k j at_k at_j is =
        let e : Some k ≡ Some j = sym at_k ∙ ap (λ m. position (λ n. m == n) set) (eqb-true v.0 z.0 is) ∙ at_j in
        cc

absent : (set : List ℕ) (v x : VarId) (u : ℕ) → place_in_set set v ≡ None → place_in_set set x ≡ Some u → (v.0 == x.0) ≡ false
absent set v x u none at =
    false_from_ne_true (v.0 == x.0)
    (λ is.
    let e : None ≡ Some u = sym none ∙ ap (λ m. position (λ n. m == n) set) (eqb-true v.0 x.0 is) ∙ at in
    absurd cc)

pub no_import : (set : List ℕ) (m : Matrix) (import export : VarId) → place_in_set set import ≡ None → Declares set (λ x y. (import.0 == x.0) && (export.0 == y.0)) m m
no_import set m import export none u w x y at_u at_w = ap (λ b. (b && (export.0 == y.0)) || pair_in m u w) (sym (absent set import x u none at_u))

pub no_export : (set : List ℕ) (m : Matrix) (import export : VarId) → place_in_set set export ≡ None → Declares set (λ x y. (import.0 == x.0) && (export.0 == y.0)) m m
no_export set m import export none u w x y at_u at_w = sym (ap (λ b. ((import.0 == x.0) && b) || pair_in m u w) (absent set export y w none at_w) ∙ ap (λ b. b || pair_in m u w) (never (import.0 == x.0)))

-- ---- rows

pub meets_is : (a b : List Bool) → (meets a b ≡ true) ↔ ((w : ℕ) × Has a w × Has b w)
meets_is [] b = (λ h. absurd (true≢false (sym h)), λ h. absurd (true≢false (sym h.1)))
meets_is (x ∷ xs) [] = (λ h. absurd (true≢false (sym h)), λ h. absurd (true≢false (sym h.2)))
meets_is (x ∷ xs) (y ∷ ys) = (
  λ h. ⊎_elim
      (λ here. let parts = and_parts x y here in (0, parts.0, parts.1))
      (λ there. let later = (meets_is xs ys).0 there in (suc later.0, later.1, later.2))
      (or_cases (x && y) (meets xs ys) h),
  λ h. back ((meets_is xs ys).1) h.0 h.1 h.2,
)
  where
    back : (((w : ℕ) × Has xs w × Has ys w) → meets xs ys ≡ true) → (w : ℕ) → Has (x ∷ xs) w → Has (y ∷ ys) w → ((x && y) || meets xs ys) ≡ true
    back later zero p q = or_left (x && y) (meets xs ys) (both x y p q)
    back later (suc w) p q = or_right (x && y) (meets xs ys) (later (w, p, q))

-- the numbers below i at which the test passes
abbrev pub Passed : List VarId → (VarId → Bool) → ℕ → List Bool → Type 0
Passed vars test i row = (k : ℕ) → Has row k ↔ ((y : VarId) × (k < i) × (slice_get vars k ≡ Some y) × (test y ≡ true))

pub passes_more : (vars : List VarId) (test : VarId → Bool) (i : ℕ) (v : VarId) (old new : List Bool) → slice_get vars i ≡ Some v → test v ≡ true → ((b : ℕ) → Has new b ↔ (Has old b ⊎ (i ≡ b))) → Passed vars test i old → Passed vars test (i + 1) new
passes_more vars test i v old new at is gains passed k = (
  λ h. ⊎_elim
      (λ was. let p = (passed k).0 was in (p.0, omega (arith, p.1), p.2, p.3))
      (λ e. (v, omega (arith, e), ap (slice_get vars) (sym e) ∙ at, is))
      ((gains k).0 h),
  λ h. ⊎_elim
      (λ lt. (gains k).1 (inl ((passed k).1 (h.0, lt, h.2, h.3))))
      (λ e. (gains k).1 (inr e))
      (below_or_at k i h.1),
)
  where
    below_or_at : (k i : ℕ) → k < i + 1 → (k < i) ⊎ (i ≡ k)
    below_or_at k i lt = search arith

pub passes_not : (vars : List VarId) (test : VarId → Bool) (i : ℕ) (v : VarId) (row : List Bool) → slice_get vars i ≡ Some v → test v ≡ false → Passed vars test i row → Passed vars test (i + 1) row
passes_not vars test i v row at fails passed k = (
  λ h. let p = (passed k).0 h in (p.0, omega (arith, p.1), p.2, p.3),
  λ h. ⊎_elim
      (λ lt. (passed k).1 (h.0, lt, h.2, h.3))
      (λ e.
      let same : Some v ≡ Some h.0 = sym at ∙ ap (slice_get vars) e ∙ h.2 in
      let v_is : v ≡ h.0 = cc in
      absurd (both_ways (test v) fails (ap test v_is ∙ h.3)))
      (below_or_at k i h.1),
)
  where
    below_or_at : (k i : ℕ) → k < i + 1 → (k < i) ⊎ (i ≡ k)
    below_or_at k i lt = search arith

-- ---- places

pub same_place-Decides : (a b : Place) → Decides (same_place a b) (a ≡ b)
same_place-Decides a b = search rules

-- an occurrence at the place is of another place than all of these, where the place is
pub others_are : (places : List Place) (q : Place) (list : List Occurrence) → list_any (is_other places q) list ≡ (list_any (stands_at q) list && not (list_any (same_place q) places))
others_are places q [] = refl
others_are places q (o ∷ list) =
    by_case (stands_at q o) (list_any (same_place o.place) places) (list_any (stands_at q) list) (list_any (same_place q) places) (list_any (is_other places q) list)
    (λ is. ap (λ p. list_any (same_place p) places) (sym ((same_place-Decides q o.place).0 is))) (others_are places q list)
  where
    by_case : (s k later among rest : Bool) → (s ≡ true → k ≡ among) → rest ≡ (later && not among) → ((s && not k) || rest) ≡ ((s || later) && not among)
    by_case false k later among rest same is = is
    by_case true k later true rest same is = ap (λ b. not b || rest) (same refl) ∙ is ∙ never later
    by_case true k later false rest same is = ap (λ b. not b || rest) (same refl)
