-- Elements of lists, and lists in which each stands once.
use Rattle.std.proofs.Common.{◌≡◌, ◌≢◌, ◌⊎◌, ℕ, zero, suc, ◌<◌, List, [], ◌∷◌, ◌++◌, map, length, get_or, Option, Some, None, refl, slice_get, sym, ap, subst, ◌∙◌, inl, inr, ⊎_elim, arith}
use Rattle.std.specs.Prelude.{⊤, Contains}
use Rattle.std.specs.List.{AllPairs}
use Rattle.std.specs.Option.{option_to_list}
use Rattle.std.proofs.lemmas.Option.{slice_get_read}
use Rattle.spx_core.specs.declared.subprogram.Sub.{Sub}
use Rattle.std.proofs.lemmas.List.Elements.{Contains-get_or, Contains-append_cases}

-- the element of a slice is that of the list
pub sub_is : (subs slice : List Sub) (id : ℕ) (sub : Sub) → slice ≡ subs → sub ≡ get_or slice id sub → sub ≡ get_or subs id sub
sub_is subs slice id sub same is = is ∙ ap (λ list. get_or list id sub) same

pub sub_at : (subs slice : List Sub) (id : ℕ) (sub : Sub) → id < length subs → slice ≡ subs → sub ≡ get_or slice id sub → slice_get subs id ≡ Some sub
sub_at subs slice id sub within same is = slice_get_read subs (length subs) id sub refl within (sub_is subs slice id sub same is)

pub just : {A : Type 0} (a b : A) → Some a ≡ Some b → a ≡ b
just a b e = cc

module _ {X : Type 0} where
  pub in_none : (y : X) → Contains [] y → ⊥
  in_none y is = absurd (omega (arith, is.1))

  pub in_first : (x : X) (xs : List X) → Contains (x ∷ xs) x
  in_first x xs = (0, omega arith, refl)

  pub in_rest : (x y : X) (xs : List X) → Contains xs y → Contains (x ∷ xs) y
  in_rest x y xs is = (suc is.0, (let lt : is.0 < length xs = is.1 in omega arith), is.2)

  pub in_cases : (x y : X) (xs : List X) → Contains (x ∷ xs) y → (x ≡ y) ⊎ Contains xs y
  in_cases x y xs is = by_place is.0 is.1 is.2
    where
      by_place : (k : ℕ) → k < length (x ∷ xs) → get_or (x ∷ xs) k y ≡ y → (x ≡ y) ⊎ Contains xs y
      by_place zero lt e = inl e
      by_place (suc k) lt e = inr (k, omega arith, e)

  pub in_option : (o : Option X) (y : X) → Contains (option_to_list o) y → o ≡ Some y
  in_option (Some x) y is = ⊎_elim (λ e. ap Some e) (λ none. absurd (in_none y none)) (in_cases x y [] is)
  in_option None y is = absurd (in_none y is)

  pub option_in : (o : Option X) (y : X) → o ≡ Some y → Contains (option_to_list o) y
  option_in o y is = subst (λ p. Contains (option_to_list p) y) (sym is) (in_first y [])

  -- ---- once

  abbrev pub Once : List X → Type 0
  Once [] = ⊤
  Once (x ∷ xs) = (Contains xs x → ⊥) × Once xs

  pub pairs_from_once : (xs : List X) → Once xs → AllPairs (λ a b. a ≢ b) xs
  pairs_from_once [] once i j d lt within = absurd (omega arith)
  pairs_from_once (x ∷ xs) once zero zero d lt within = absurd (omega arith)
  pairs_from_once (x ∷ xs) once zero (suc j) d lt within = λ e. once.0 (subst (Contains xs) (sym e) (Contains-get_or xs j d (omega arith)))
  pairs_from_once (x ∷ xs) once (suc i) zero d lt within = absurd (omega arith)
  pairs_from_once (x ∷ xs) once (suc i) (suc j) d lt within = pairs_from_once xs once.1 i j d (omega arith) (omega arith)

  pub once_from_pairs : (xs : List X) → AllPairs (λ a b. a ≢ b) xs → Once xs
  once_from_pairs [] pairs = tt
  once_from_pairs (x ∷ xs) pairs = (
    λ is. pairs 0 (suc is.0) x (omega arith) (let lt : is.0 < length xs = is.1 in omega arith) (sym is.2),
    once_from_pairs xs (λ i j d lt within. pairs (suc i) (suc j) d (omega arith) (omega arith)),
  )

  pub once_append : (xs ys : List X) → Once xs → Once ys → ((z : X) → Contains xs z → Contains ys z → ⊥) → Once (xs ++ ys)
  once_append [] ys one two apart = two
  once_append (x ∷ xs) ys one two apart = (
    λ is. ⊎_elim one.0 (apart x (in_first x xs)) (Contains-append_cases xs ys x is),
    once_append xs ys one.1 two (λ z left right. apart z (in_rest x z xs left) right),
  )

  pub once_option : (o : Option X) → Once (option_to_list o)
  once_option (Some x) = (in_none x, tt)
  once_option None = tt

module _ {X Y : Type 0} (f : X → Y) where
  pub in_map : (xs : List X) (y : Y) → Contains (map f xs) y → (x : X) × Contains xs x × (f x ≡ y)
  in_map [] y is = absurd (in_none y is)
  in_map (x ∷ xs) y is =
      ⊎_elim (λ e. (x, in_first x xs, e)) (λ later. let more = in_map xs y later in (more.0, in_rest x more.0 xs more.1, more.2)) (in_cases (f x) y (map f xs) is)

  pub map_in : (xs : List X) (x : X) → Contains xs x → Contains (map f xs) (f x)
  map_in [] x is = absurd (in_none x is)
  map_in (z ∷ xs) x is = ⊎_elim (λ e. subst (λ v. Contains (map f (z ∷ xs)) (f v)) e (in_first (f z) (map f xs))) (λ later. in_rest (f z) (f x) (map f xs) (map_in xs x later)) (in_cases z x xs is)

  pub once_map : ((a b : X) → f a ≡ f b → a ≡ b) → (xs : List X) → Once xs → Once (map f xs)
  once_map same [] once = tt
  once_map same (x ∷ xs) once = (
    λ is. let at = in_map xs (f x) is in once.0 (subst (Contains xs) (same at.0 x at.2) at.1),
    once_map same xs once.1,
  )
