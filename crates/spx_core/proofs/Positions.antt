-- What holds of each element of a list at its position.
use Rattle.std.proofs.Common.{◌≡◌, ℕ, zero, suc, ◌+◌, List, [], ◌∷◌, ◌++◌, length, Some, subst, arith}
use Rattle.std.specs.Prelude.{⊤, slice_get}
use Rattle.std.specs.List.{AllByRecursion, flat_map}
use Rattle.spx_core.proofs.Judgements.{some_is}

-- it holds of each of these at its position: the first has this one, and each takes so many
abbrev pub AllFrom : {X : Type 0} → (X → ℕ) → (ℕ → X → Type 0) → ℕ → List X → Type 0
AllFrom width P position [] = ⊤
AllFrom width P position (x ∷ xs) = P position x × AllFrom width P (position + width x) xs

-- each takes one
abbrev pub InTurn : {X : Type 0} → (ℕ → X → Type 0) → ℕ → List X → Type 0
InTurn P position xs = AllFrom (λ x. 1) P position xs

module _ {X : Type 0} (width : X → ℕ) (P : ℕ → X → Type 0) where
  -- what it says of each, wherever that stands
  pub each_from : (Q : X → Type 0) → ((position : ℕ) (x : X) → P position x → Q x) → (position : ℕ) (xs : List X) → AllFrom width P position xs → AllByRecursion Q xs
  each_from Q says position [] all = tt
  each_from Q says position (x ∷ xs) all = (says position x all.0, each_from Q says (position + width x) xs all.1)

  -- it holds of each of which something else does
  pub from_given : (R : X → Type 0) (position : ℕ) (xs : List X) → AllByRecursion R xs → AllFrom width (λ position x. R x → P position x) position xs → AllFrom width P position xs
  from_given R position [] given all = tt
  from_given R position (x ∷ xs) given all = (all.0 given.0, from_given R (position + width x) xs given.1 all.1)

module _ {X : Type 0} (P : ℕ → X → Type 0) where
  pub in_turn_append : (position : ℕ) (a b : List X) → InTurn P position a → InTurn P (position + length a) b → InTurn P position (a ++ b)
  in_turn_append position [] b left right = subst (λ n. InTurn P n b) (let e : position + 0 ≡ position = omega arith in e) right
  in_turn_append position (x ∷ a) b left right =
      (left.0, in_turn_append (position + 1) a b left.1 (subst (λ n. InTurn P n b) (let e : position + length (x ∷ a) ≡ position + 1 + length a = omega arith in e) right))

  -- those that each of a list has, one after another
  pub in_turn_flat_map : {Y : Type 0} (f : Y → List X) (position : ℕ) (ys : List Y) → AllFrom (λ y. length (f y)) (λ n y. InTurn P n (f y)) position ys → InTurn P position (flat_map f ys)
  in_turn_flat_map f position [] all = tt
  in_turn_flat_map f position (y ∷ ys) all = in_turn_append position (f y) (flat_map f ys) all.0 (in_turn_flat_map f (position + length (f y)) ys all.1)

  pub in_turn_at : (position : ℕ) (xs : List X) (k : ℕ) (x : X) → InTurn P position xs → slice_get xs k ≡ Some x → P (position + k) x
  in_turn_at position [] k x all is = absurd cc
  in_turn_at position (y ∷ ys) zero x all is = subst (λ n. P n x) (let e : position ≡ position + 0 = omega arith in e) (subst (P position) (some_is is) all.0)
  in_turn_at position (y ∷ ys) (suc k) x all is = subst (λ n. P n x) (let e : position + 1 + k ≡ position + suc k = omega arith in e) (in_turn_at (position + 1) ys k x all.1 is)
