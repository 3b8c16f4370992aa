-- Elements of lists that are put together, as equivalences.
use Rattle.std.proofs.Common.{◌≡◌, ◌↔◌, ◌⊎◌, inl, inr, ⊎_elim, ℕ, zero, suc, ◌<◌, length, Bool, true, false, not, List, [], ◌∷◌, ◌++◌, Option, Some, None, refl, sym, ap, ap₂, subst, ◌∙◌, arith}
use Rattle.std.specs.Prelude.{IsTrue, ◌==◌, ◌||◌, ◌&&◌, Contains}
use Rattle.std.specs.List.{flat_map, list_any, slice_index_or}
use Rattle.std.specs.Option.{option_to_list}
use Rattle.std.proofs.lemmas.Bool.{eqb-true, eq-eqb, and_parts, or_cases, or_left, or_right}
use Rattle.std.proofs.lemmas.List.Folds.{list_any-append}
use Rattle.spx_core.specs.declared.entity.VarId.{VarId}
use Rattle.spx_core.specs.Formals.{stands_in}
use Rattle.spx_core.specs.Uses.{is_same}

-- ---- equivalences

pub same : {A : Type 0} → A ↔ A
same = (λ h. h, λ h. h)

pub turned : {A B : Type 0} → A ↔ B → B ↔ A
turned p = (p.1, p.0)

pub chain : {A B C : Type 0} → A ↔ B → B ↔ C → A ↔ C
chain p q = (λ h. q.0 (p.0 h), λ h. p.1 (q.1 h))

pub either : {A B C D : Type 0} → A ↔ B → C ↔ D → (A ⊎ C) ↔ (B ⊎ D)
either p q = (λ h. ⊎_elim (λ a. inl (p.0 a)) (λ c. inr (q.0 c)) h, λ h. ⊎_elim (λ b. inl (p.1 b)) (λ d. inr (q.1 d)) h)

pub both : {A B C D : Type 0} → A ↔ B → C ↔ D → (A × C) ↔ (B × D)
both p q = (λ h. (p.0 h.0, q.0 h.1), λ h. (p.1 h.0, q.1 h.1))

pub flipped : {A : Type 0} (x y : A) → (x ≡ y) ↔ (y ≡ x)
flipped x y = (λ e. sym e, λ e. sym e)

pub not_is : (b : Bool) → IsTrue (not b) ↔ (b ≡ false)
not_is true = (λ h. sym h, λ h. sym h)
not_is false = (λ h. refl, λ h. refl)

pub and_is : (a b : Bool) → IsTrue (a && b) ↔ (IsTrue a × IsTrue b)
and_is a b = (λ h. and_parts a b h, λ h. ap₂ ◌&&◌ h.0 h.1)

pub or_is : (a b : Bool) → IsTrue (a || b) ↔ (IsTrue a ⊎ IsTrue b)
or_is a b = (λ h. or_cases a b h, λ h. ⊎_elim (λ p. or_left a b p) (λ q. or_right a b q) h)

-- ---- elements

-- z is an element
abbrev pub Among : {A : Type 0} → List A → A → Type 0
Among [] z = ⊥
Among (x ∷ xs) z = (x ≡ z) ⊎ Among xs z

-- the list where the test holds, and else the empty one
abbrev pub only : {A : Type 0} → Bool → List A → List A
only true xs = xs
only false xs = []

-- the elements that pass a test
abbrev pub those : {A : Type 0} → (A → Bool) → List A → List A
those test xs = flat_map (λ x. only (test x) (x ∷ [])) xs

pub of_single : {A : Type 0} (x z : A) → Among (x ∷ []) z ↔ (x ≡ z)
of_single x z = (λ h. ⊎_elim (λ e. e) (λ none. absurd none) h, λ e. inl e)

of_rest : {A B C : Type 0} → (A ⊎ B) ⊎ C ↔ A ⊎ (B ⊎ C)
of_rest = (λ h. ⊎_elim (λ p. ⊎_elim (λ a. inl a) (λ b. inr (inl b)) p) (λ c. inr (inr c)) h, λ h. ⊎_elim (λ a. inl (inl a)) (λ q. ⊎_elim (λ b. inl (inr b)) (λ c. inr c) q) h)

pub of_both : {A : Type 0} (xs ys : List A) (z : A) → Among (xs ++ ys) z ↔ (Among xs z ⊎ Among ys z)
of_both [] ys z = (λ h. inr h, λ h. ⊎_elim (λ none. absurd none) (λ y. y) h)
of_both (x ∷ xs) ys z = chain (either same (of_both xs ys z)) (turned of_rest)

pub of_only : {A : Type 0} (b : Bool) (xs : List A) (z : A) → Among (only b xs) z ↔ (IsTrue b × Among xs z)
of_only true xs z = (λ h. (refl, h), λ h. h.1)
of_only false xs z = (λ h. absurd h, λ h. absurd (let e = h.0 in cc))

-- one element, where the test holds
pub of_one : {A : Type 0} (b : Bool) (x z : A) → Among (only b (x ∷ [])) z ↔ (IsTrue b × (x ≡ z))
of_one b x z = chain (of_only b (x ∷ []) z) (both same (of_single x z))

pub of_each : {A B : Type 0} (f : A → List B) (xs : List A) (z : B) → Among (flat_map f xs) z ↔ ((x : A) × Among xs x × Among (f x) z)
of_each f [] z = (λ h. absurd h, λ h. absurd h.1)
of_each f (x ∷ xs) z =
    let rest = of_each f xs z in
    chain (of_both (f x) (flat_map f xs) z) (
      λ h. ⊎_elim (λ here. (x, inl refl, here)) (λ later. let r = rest.0 later in (r.0, inr r.1, r.2)) h,
      λ h. ⊎_elim (λ e. inl (subst (λ a. Among (f a) z) (sym e) h.2)) (λ later. inr (rest.1 (h.0, later, h.2))) h.1,
    )

pub of_those : {A : Type 0} (test : A → Bool) (xs : List A) (z : A) → Among (those test xs) z ↔ (IsTrue (test z) × Among xs z)
of_those test xs z =
    let each = of_each (λ x. only (test x) (x ∷ [])) xs z in (
      λ h. let r = each.0 h in let o = (of_one (test r.0) r.0 z).0 r.2 in (subst (λ x. IsTrue (test x)) o.1 o.0, subst (Among xs) o.1 r.1),
      λ h. each.1 (z, h.1, (of_one (test z) z z).1 (h.0, refl)),
    )

-- ---- elements at positions

at_position : {A : Type 0} (xs : List A) (z : A) (k : ℕ) → k < length xs → slice_index_or xs k z ≡ z → Among xs z
at_position [] z k h is = absurd (omega arith)
at_position (x ∷ xs) z zero h is = inl is
at_position (x ∷ xs) z (suc k) h is = inr (at_position xs z k (omega arith) is)

positioned : {A : Type 0} (xs : List A) (z : A) → Among xs z → Contains xs z
positioned [] z h = absurd h
positioned (x ∷ xs) z (inl e) = (0, omega arith, e)
positioned (x ∷ xs) z (inr h) = let r = positioned xs z h in (suc r.0, omega (arith, r.1), r.2)

pub contains_is : {A : Type 0} (xs : List A) (z : A) → Contains xs z ↔ Among xs z
contains_is xs z = (λ h. at_position xs z h.0 h.1 h.2, positioned xs z)

-- ---- variables

pub same_is : (w u : VarId) → IsTrue (w.0 == u.0) ↔ (w ≡ u)
same_is w u = (λ h. ap (λ k. record { 0 = k }) (eqb-true w.0 u.0 h), λ e. eq-eqb w.0 u.0 (ap (λ (v : VarId). v.0) e))

pub stands_is : (u : VarId) (vars : List VarId) → IsTrue (stands_in u vars) ↔ Among vars u
stands_is u [] = (λ h. absurd (cc), λ h. absurd h)
stands_is u (w ∷ vars) = chain (or_is (w.0 == u.0) (stands_in u vars)) (either (same_is w u) (stands_is u vars))

pub or_none : (b : Bool) → (b || false) ≡ b
or_none true = refl
or_none false = refl

pub in_target : (v : VarId) (target : Option VarId) → stands_in v (option_to_list target) ≡ is_same v target
in_target v None = refl
in_target v (Some w) = or_none (w.0 == v.0)

-- v is among the variables of one of the elements
pub stands_any : {A : Type 0} (v : VarId) (test : A → Bool) (vars : A → List VarId) → ((x : A) → stands_in v (vars x) ≡ test x) → (xs : List A) → IsTrue (list_any test xs) ↔ Among (flat_map vars xs) v
stands_any {A = A} v test vars is xs = subst (λ b. IsTrue b ↔ Among (flat_map vars xs) v) (are xs) (stands_is v (flat_map vars xs))
  where
    are : (ys : List A) → stands_in v (flat_map vars ys) ≡ list_any test ys
    are [] = refl
    are (y ∷ ys) = list_any-append (λ (w : VarId). w.0 == v.0) (vars y) (flat_map vars ys) ∙ ap₂ ◌||◌ (is y) (are ys)
