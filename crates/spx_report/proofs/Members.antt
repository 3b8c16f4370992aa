-- Members of lists.
use Rattle.std.proofs.Common.{◌≡◌, ◌⊎◌, ℕ, zero, suc, ◌<◌, List, [], ◌∷◌, map, length, get_or, refl, ap, inl, inr, ⊎_elim, arith}
use Rattle.std.specs.Prelude.{Contains, Some, slice_get}
use Rattle.std.proofs.lemmas.Option.{slice_get_cases}

module _ {X : Type 0} where
  -- an element of the list, by recursion
  abbrev pub Among : List X → X → Type 0
  Among [] x = ⊥
  Among (y ∷ ys) x = (y ≡ x) ⊎ Among ys x

  pub among_contains : (xs : List X) (x : X) → Among xs x → Contains xs x
  among_contains [] x h = absurd h
  among_contains (y ∷ ys) x (inl e) = (zero, omega arith, e)
  among_contains (y ∷ ys) x (inr h) = let c = among_contains ys x h in (suc c.0, omega arith, c.2)

  at_place : (xs : List X) (x : X) (k : ℕ) → k < length xs → get_or xs k x ≡ x → Among xs x
  at_place [] x k lt e = absurd (omega arith)
  at_place (y ∷ ys) x zero lt e = inl e
  at_place (y ∷ ys) x (suc k) lt e = inr (at_place ys x k (omega arith) e)

  pub contains_among : (xs : List X) (x : X) → Contains xs x → Among xs x
  contains_among xs x c = at_place xs x c.0 c.1 c.2

  -- the element at a place inside the list
  pub element_at : (xs : List X) (i : ℕ) → i < length xs → (x : X) × (slice_get xs i ≡ Some x) × (get_or xs i x ≡ x)
  element_at xs i lt = ⊎_elim (λ w. (w.0, w.2, w.3)) (λ past. absurd (omega (arith, past.0))) (slice_get_cases xs i).1

  -- no element, no list
  pub none_contained : (xs : List X) → ((x : X) → ¬ Contains xs x) → xs ≡ []
  none_contained [] none = refl
  none_contained (x ∷ xs) none = absurd (none x (zero, omega arith, refl))

module _ {X Y : Type 0} where
  among_map : (g : X → Y) (xs : List X) (y : Y) → Among (map g xs) y → (x : X) × Among xs x × (g x ≡ y)
  among_map g [] y h = absurd h
  among_map g (x ∷ xs) y (inl e) = (x, inl refl, e)
  among_map g (x ∷ xs) y (inr h) = let l = among_map g xs y h in (l.0, inr l.1, l.2)

  map_among : (g : X → Y) (xs : List X) (x : X) → Among xs x → Among (map g xs) (g x)
  map_among g [] x h = absurd h
  map_among g (y ∷ ys) x (inl e) = inl (ap g e)
  map_among g (y ∷ ys) x (inr h) = inr (map_among g ys x h)

  pub contains_map : (g : X → Y) (xs : List X) (y : Y) → Contains (map g xs) y → (x : X) × Contains xs x × (g x ≡ y)
  contains_map g xs y c = let l = among_map g xs y (contains_among (map g xs) y c) in (l.0, among_contains xs l.0 l.1, l.2)

  pub map_contains : (g : X → Y) (xs : List X) (x : X) → Contains xs x → Contains (map g xs) (g x)
  map_contains g xs x c = among_contains (map g xs) (g x) (map_among g xs x (contains_among xs x c))
