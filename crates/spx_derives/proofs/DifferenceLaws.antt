-- The differences of two relations, pair by pair.
use Rattle.std.proofs.Common.{◌≡◌, ℕ, zero, suc, ◌+◌, Bool, true, false, List, [], ◌∷◌, slice_get, Option, Some, None, refl, sym, ap, ◌∙◌, subst, ⊎_elim, arith}
use Rattle.std.specs.Prelude.{Contains}
use Rattle.std.specs.Option.{option_to_list}
use Rattle.std.proofs.lemmas.List.Elements.{Contains-append_left, Contains-append_right, Contains-append_cases}
use Rattle.spx_text.specs.declared.place.Place.{Place}
use Rattle.spx_core.specs.declared.entity.VarId.{VarId}
use Rattle.spx_rows.specs.Relations.{Matrix}
use Rattle.spx_derives.specs.declared.finding.FlowFinding.{FlowFinding}
use Rattle.spx_derives.specs.declared.finding.FlowFinding.TheVariants as finding
use Rattle.spx_derives.specs.Differences.{difference, differences_at, differences_from, differences_to}
use Rattle.spx_derives.specs.Tables.{pair_in}
use Rattle.spx_derives.proofs.Elements.{Once, in_none, in_option, just, option_in, once_append, once_option}

-- the variables that a difference names

abbrev import_of : FlowFinding → Option VarId
import_of (finding.Missing place x y) = Some x
import_of (finding.Unused place x y) = Some x
import_of (finding.Ineffective place) = None
import_of (finding.UnsetRead place v) = None

abbrev export_of : FlowFinding → Option VarId
export_of (finding.Missing place x y) = Some y
export_of (finding.Unused place x y) = Some y
export_of (finding.Ineffective place) = None
export_of (finding.UnsetRead place v) = None

import_is : (a b : Bool) (place : Place) (x y : VarId) (f : FlowFinding) → difference a b place x y ≡ Some f → import_of f ≡ Some x
import_is true false place x y f is = ap import_of (sym (just _ f is))
import_is false true place x y f is = ap import_of (sym (just _ f is))
import_is true true place x y f is = absurd cc
import_is false false place x y f is = absurd cc

export_is : (a b : Bool) (place : Place) (x y : VarId) (f : FlowFinding) → difference a b place x y ≡ Some f → export_of f ≡ Some y
export_is true false place x y f is = ap export_of (sym (just _ f is))
export_is false true place x y f is = ap export_of (sym (just _ f is))
export_is true true place x y f is = absurd cc
export_is false false place x y f is = absurd cc

-- a variable stands at one position alone
abbrev pub Apart : List VarId → Type 0
Apart xs = (i j : ℕ) (x : VarId) → slice_get xs i ≡ Some x → slice_get xs j ≡ Some x → i ≡ j

apart_rest : (x : VarId) (xs : List VarId) → Apart (x ∷ xs) → Apart xs
apart_rest x xs apart i j z p q = let e : suc i ≡ suc j = apart (suc i) (suc j) z p q in omega arith

first_only : (x z : VarId) (xs : List VarId) (k : ℕ) → Apart (x ∷ xs) → slice_get xs k ≡ Some z → x ≡ z → ⊥
first_only x z xs k apart at e = let none : 0 ≡ suc k = apart 0 (suc k) z (ap Some e) at in omega arith

module _ (flows declared : Matrix) where
  -- ---- to one export

  module _ (w : ℕ) (y : VarId) (place : Place) where
    -- a variable of the list, which begins at u, with a difference
    abbrev pub DiffersTo : ℕ → List VarId → FlowFinding → Type 0
    DiffersTo u xs f = (j k : ℕ) × (x : VarId) × (j ≡ u + k) × (slice_get xs k ≡ Some x) × (difference (pair_in flows j w) (pair_in declared j w) place x y ≡ Some f)

    pub in_to : (u : ℕ) (xs : List VarId) (f : FlowFinding) → Contains (differences_to flows declared w y place u xs) f → DiffersTo u xs f
    in_to u [] f is = absurd (in_none f is)
    in_to u (x ∷ xs) f is =
        ⊎_elim (λ here. (u, 0, x, omega arith, refl, in_option _ f here)) (λ later. let d = in_to (u + 1) xs f later in (d.0, suc d.1, d.2, omega (arith, d.3), d.4, d.5))
        (Contains-append_cases (option_to_list (difference (pair_in flows u w) (pair_in declared u w) place x y)) (differences_to flows declared w y place (u + 1) xs) f is)

    pub to_in : (u : ℕ) (xs : List VarId) (f : FlowFinding) (j k : ℕ) (x : VarId) → j ≡ u + k → slice_get xs k ≡ Some x → difference (pair_in flows j w) (pair_in declared j w) place x y ≡ Some f → Contains (differences_to flows declared w y place u xs) f
    to_in u [] f j k x at is d = absurd cc
    to_in u (z ∷ xs) f j zero x at is d =
        let here : j ≡ u = omega arith in
        let same : x ≡ z = sym (just z x is) in
        Contains-append_left (option_to_list (difference (pair_in flows u w) (pair_in declared u w) place z y)) (differences_to flows declared w y place (u + 1) xs) f
        (option_in _ f (subst (λ v. difference (pair_in flows u w) (pair_in declared u w) place v y ≡ Some f) same (subst (λ n. difference (pair_in flows n w) (pair_in declared n w) place x y ≡ Some f) here d)))
    to_in u (z ∷ xs) f j (suc k) x at is d =
        Contains-append_right (option_to_list (difference (pair_in flows u w) (pair_in declared u w) place z y)) (differences_to flows declared w y place (u + 1) xs) f
        (to_in (u + 1) xs f j k x (omega arith) is d)

    once_to : (u : ℕ) (xs : List VarId) → Apart xs → Once (differences_to flows declared w y place u xs)
    once_to u [] apart = tt
    once_to u (x ∷ xs) apart =
        once_append (option_to_list (difference (pair_in flows u w) (pair_in declared u w) place x y)) (differences_to flows declared w y place (u + 1) xs) (once_option _)
        (once_to (u + 1) xs (apart_rest x xs apart))
        (λ f here later.
        let d = in_to (u + 1) xs f later in
        let e = sym (import_is _ _ place x y f (in_option _ f here)) ∙ import_is _ _ place d.2 y f d.5 in
        first_only x d.2 xs d.1 apart d.4 (just x d.2 e))

    to_export : (u : ℕ) (xs : List VarId) (f : FlowFinding) → Contains (differences_to flows declared w y place u xs) f → export_of f ≡ Some y
    to_export u xs f is = let d = in_to u xs f is in export_is _ _ place d.2 y f d.5

  -- ---- to a variable that may be an export

  in_at : (w : ℕ) (y : VarId) (o : Option Place) (xs : List VarId) (f : FlowFinding) → Contains (differences_at flows declared w y o xs) f → (place : Place) × (o ≡ Some place) × Contains (differences_to flows declared w y place 0 xs) f
  in_at w y (Some place) xs f is = (place, refl, is)
  in_at w y None xs f is = absurd (in_none f is)

  at_in : (w : ℕ) (y : VarId) (o : Option Place) (xs : List VarId) (f : FlowFinding) (place : Place) → o ≡ Some place → Contains (differences_to flows declared w y place 0 xs) f → Contains (differences_at flows declared w y o xs) f
  at_in w y o xs f place is c = subst (λ p. Contains (differences_at flows declared w y p xs) f) (sym is) c

  once_at : (w : ℕ) (y : VarId) (o : Option Place) (xs : List VarId) → Apart xs → Once (differences_at flows declared w y o xs)
  once_at w y (Some place) xs apart = once_to w y place 0 xs apart
  once_at w y None xs apart = tt

  at_export : (w : ℕ) (y : VarId) (o : Option Place) (xs : List VarId) (f : FlowFinding) → Contains (differences_at flows declared w y o xs) f → export_of f ≡ Some y
  at_export w y o xs f is = let d = in_at w y o xs f is in to_export w y d.0 0 xs f d.2

  -- ---- to all exports

  module _ (place_of : VarId → Option Place) (xs : List VarId) where
    abbrev DiffersFrom : ℕ → List VarId → FlowFinding → Type 0
    DiffersFrom w ys f = (j k : ℕ) × (y : VarId) × (place : Place) × (j ≡ w + k) × (slice_get ys k ≡ Some y) × (place_of y ≡ Some place) × Contains (differences_to flows declared j y place 0 xs) f

    in_from : (w : ℕ) (ys : List VarId) (f : FlowFinding) → Contains (differences_from flows declared place_of xs w ys) f → DiffersFrom w ys f
    in_from w [] f is = absurd (in_none f is)
    in_from w (y ∷ ys) f is =
        ⊎_elim (λ here. let d = in_at w y (place_of y) xs f here in (w, 0, y, d.0, omega arith, refl, d.1, d.2))
        (λ later. let d = in_from (w + 1) ys f later in (d.0, suc d.1, d.2, d.3, omega (arith, d.4), d.5, d.6, d.7))
        (Contains-append_cases (differences_at flows declared w y (place_of y) xs) (differences_from flows declared place_of xs (w + 1) ys) f is)

    from_in : (w : ℕ) (ys : List VarId) (f : FlowFinding) (j k : ℕ) (y : VarId) (place : Place) → j ≡ w + k → slice_get ys k ≡ Some y → place_of y ≡ Some place → Contains (differences_to flows declared j y place 0 xs) f → Contains (differences_from flows declared place_of xs w ys) f
    from_in w [] f j k y place at is p c = absurd cc
    from_in w (z ∷ ys) f j zero y place at is p c =
        let here : j ≡ w = omega arith in
        let same : y ≡ z = sym (just z y is) in
        Contains-append_left (differences_at flows declared w z (place_of z) xs) (differences_from flows declared place_of xs (w + 1) ys) f
        (at_in w z (place_of z) xs f place (ap place_of (sym same) ∙ p)
        (subst (λ v. Contains (differences_to flows declared w v place 0 xs) f) same (subst (λ n. Contains (differences_to flows declared n y place 0 xs) f) here c)))
    from_in w (z ∷ ys) f j (suc k) y place at is p c =
        Contains-append_right (differences_at flows declared w z (place_of z) xs) (differences_from flows declared place_of xs (w + 1) ys) f
        (from_in (w + 1) ys f j k y place (omega arith) is p c)

    pub once_from : Apart xs → (w : ℕ) (ys : List VarId) → Apart ys → Once (differences_from flows declared place_of xs w ys)
    once_from each w [] apart = tt
    once_from each w (y ∷ ys) apart =
        once_append (differences_at flows declared w y (place_of y) xs) (differences_from flows declared place_of xs (w + 1) ys) (once_at w y (place_of y) xs each)
        (once_from each (w + 1) ys (apart_rest y ys apart))
        (λ f here later.
        let d = in_from (w + 1) ys f later in
        let e = sym (at_export w y (place_of y) xs f here) ∙ to_export d.0 d.2 d.3 0 xs f d.7 in
        first_only y d.2 ys d.1 apart d.5 (just y d.2 e))

    -- an import and an export of the list with a difference
    pub record Differs (f : FlowFinding) : Type 0 where
      pub u : ℕ
      pub w : ℕ
      pub x : VarId
      pub y : VarId
      pub place : Place
      pub import : slice_get xs u ≡ Some x
      pub export : slice_get xs w ≡ Some y
      pub at : place_of y ≡ Some place
      pub is : difference (pair_in flows u w) (pair_in declared u w) place x y ≡ Some f

    pub differs : (f : FlowFinding) → Contains (differences_from flows declared place_of xs 0 xs) f → Differs f
    differs f c =
        let d = in_from 0 xs f c in
        let t = in_to d.0 d.2 d.3 0 xs f d.7 in
        let w_is : d.0 ≡ d.1 = omega (arith, d.4) in
        let u_is : t.0 ≡ t.1 = omega (arith, t.3) in
        record {
          u = t.0;
          w = d.0;
          x = t.2;
          y = d.2;
          place = d.3;
          import = ap (slice_get xs) u_is ∙ t.4;
          export = ap (slice_get xs) w_is ∙ d.5;
          at = d.6;
          is = t.5;
        }

    pub listed : (f : FlowFinding) → Differs f → Contains (differences_from flows declared place_of xs 0 xs) f
    listed f d = from_in 0 xs f d.w d.w d.y d.place (omega arith) d.export d.at (to_in d.w d.y d.place 0 xs f d.u d.u d.x (omega arith) d.import d.is)
