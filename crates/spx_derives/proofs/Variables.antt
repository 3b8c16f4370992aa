-- The positions of a subprogram's variables.
use Rattle.std.proofs.Common.{◌≡◌, ℕ, zero, suc, ◌+◌, Bool, true, false, ◌==◌, List, [], ◌∷◌, length, cond, not, take, slice_get, Some, None, refl, sym, ap, ◌∙◌, ⊎_elim, arith}
use Rattle.std.specs.Prelude.{nat_lt}
use Rattle.std.specs.List.{AllByRecursion, IsDistinct, position_or_len}
use Rattle.std.proofs.lemmas.Bool.{both_ways, eqb-true, eq-eqb, or_cases, or_left, or_right}
use Rattle.std.proofs.lemmas.Bool.Decides.{Decides-ltb}
use Rattle.std.proofs.lemmas.List.{length-map}
use Rattle.std.proofs.lemmas.Option.{slice_get_within}
use Rattle.spx_core.specs.declared.entity.VarId.{VarId}
use Rattle.spx_core.specs.Formals.{stands_in}
use Rattle.spx_core.specs.Mirror.VarSets.{place_in_set, positions_of}
use Rattle.spx_core.proofs.Callers.Variables.{same_var}
use Rattle.spx_derives.proofs.Elements.{just}
use Rattle.spx_derives.proofs.DifferenceLaws.{Apart}

pub stands : (v : VarId) (xs : List VarId) → stands_in v xs ≡ true → (k : ℕ) × (slice_get xs k ≡ Some v)
stands v [] h = absurd cc
stands v (x ∷ xs) h =
    ⊎_elim (λ here. (0, ap Some (same_var x v (eqb-true x.0 v.0 here)))) (λ later. let k = stands v xs later in (suc k.0, k.1))
    (or_cases (x.0 == v.0) (stands_in v xs) h)

pub stands_back : (v : VarId) (xs : List VarId) (k : ℕ) → slice_get xs k ≡ Some v → stands_in v xs ≡ true
stands_back v [] k at = absurd cc
stands_back v (x ∷ xs) zero at = or_left (x.0 == v.0) (stands_in v xs) (eq-eqb x.0 v.0 (ap (λ (w : VarId). w.0) (just x v at)))
stands_back v (x ∷ xs) (suc k) at = or_right (x.0 == v.0) (stands_in v xs) (stands_back v xs k at)

pub among_all : (n : ℕ) (xs : List VarId) (k : ℕ) (v : VarId) → slice_get (take n xs) k ≡ Some v → slice_get xs k ≡ Some v
among_all zero xs k v at = absurd cc
among_all (suc n) [] k v at = absurd cc
among_all (suc n) (x ∷ xs) zero v at = at
among_all (suc n) (x ∷ xs) (suc k) v at = among_all n xs k v at

pub apart_front : (n : ℕ) (xs : List VarId) → Apart xs → Apart (take n xs)
apart_front n xs apart i j v p q = apart i j v (among_all n xs i v p) (among_all n xs j v q)

abbrev same : VarId → VarId → Bool
same v w = w.0 == v.0

other : (x : VarId) (xs : List VarId) (k : ℕ) (v : VarId) → AllByRecursion (λ w. same x w ≡ false) xs → slice_get xs k ≡ Some v → same x v ≡ false
other x [] k v all at = absurd cc
other x (z ∷ xs) zero v all at = ap (same x) (sym (just z v at)) ∙ all.0
other x (z ∷ xs) (suc k) v all at = other x xs k v all.1 at

never : (x : VarId) (xs : List VarId) (k : ℕ) (v : VarId) → AllByRecursion (λ w. same x w ≡ false) xs → slice_get xs k ≡ Some v → x ≡ v → ⊥
never x xs k v all at e = both_ways (same x v) (other x xs k v all at) (eq-eqb v.0 x.0 (ap (λ (w : VarId). w.0) (sym e)))

pub apart_by : (xs : List VarId) → IsDistinct same xs → Apart xs
unfolding IsDistinct
apart_by [] once i j v p q = absurd cc
apart_by (x ∷ xs) once zero zero v p q = refl
apart_by (x ∷ xs) once zero (suc j) v p q = absurd (never x xs j v once.0 q (just x v p))
apart_by (x ∷ xs) once (suc i) zero v p q = absurd (never x xs i v once.0 p (just x v q))
apart_by (x ∷ xs) once (suc i) (suc j) v p q = ap suc (apart_by xs once.1 i j v p q)

first_at : (xs : List VarId) → IsDistinct same xs → (k : ℕ) (v : VarId) → slice_get xs k ≡ Some v → position_or_len (λ n. v.0 == n) (positions_of xs) ≡ k
unfolding IsDistinct
first_at [] once k v at = absurd cc
first_at (x ∷ xs) once zero v at = ap (λ b. cond (not b) (1 + position_or_len (λ n. v.0 == n) (positions_of xs)) 0) (eq-eqb v.0 x.0 (ap (λ (w : VarId). w.0) (sym (just x v at))))
first_at (x ∷ xs) once (suc k) v at =
    ap (λ b. cond (not b) (1 + position_or_len (λ n. v.0 == n) (positions_of xs)) 0) (other x xs k v once.0 at)
    ∙ (let e = first_at xs once.1 k v at in omega arith)

pub position_at : (xs : List VarId) → IsDistinct same xs → (k : ℕ) (v : VarId) → slice_get xs k ≡ Some v → place_in_set (positions_of xs) v ≡ Some k
position_at xs once k v at =
    let is = first_at xs once k v at in
    let lt = slice_get_within xs k v at in
    let len : length (positions_of xs) ≡ length xs = length-map xs (λ (w : VarId). w.0) in
    ap (λ n. cond (nat_lt n (length (positions_of xs))) (Some n) None) is ∙ ap (λ b. cond b (Some k) None) ((Decides-ltb k (length (positions_of xs))).1 (omega arith))
