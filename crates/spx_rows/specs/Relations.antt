-- Relations between the numbers below a size, as matrices of truth values.
use Rattle.std.specs.Prelude.{◌≡◌, ℕ, ◌<◌, Bool, false, List, [], IsTrue, ◌↔◌, ◌⊎◌, length, get_or, map, Contains}
use Rattle.std.specs.List.{range_with_len}

abbrev pub Rel : Type 1
Rel = ℕ → ℕ → Type 0

-- the row of n truth values with f w at w
abbrev pub row_of : ℕ → (ℕ → Bool) → List Bool
row_of n f = map f (range_with_len 0 n)

-- a row of truth values for each number
abbrev pub Matrix : Type 0
Matrix = List (List Bool)

-- the matrix of n rows with f u w at u and w
abbrev pub table : ℕ → (ℕ → ℕ → Bool) → Matrix
table n f = map (λ u. row_of n (f u)) (range_with_len 0 n)

-- the number is in the row; none past the size is
abbrev pub Has : List Bool → ℕ → Type 0
Has row w = IsTrue (get_or row w false)

-- the pair is in the matrix; none with a number past the size is
abbrev pub Holds : Matrix → Rel
Holds m u w = Has (get_or m u []) w

-- the pairs of `new` are those of `old` and those of R
abbrev pub Gains : (old new : Matrix) → Rel → Type 0
Gains old new R = (a b : ℕ) → Holds new a b ↔ (Holds old a b ⊎ R a b)

-- a pair of the first, then one of the second
abbrev pub Then : Rel → Rel → Rel
Then A B u w = (v : ℕ) × A u v × B v w

-- any number of pairs of R, one after another
pub data Star (R : ℕ → ℕ → Type 0) : ℕ → ℕ → Type 0 where
  stop : {u : ℕ} → Star R u u
  go_on : {u v w : ℕ} → R u v → Star R v w → Star R u w

-- the number is in one of these rows
abbrev pub Of : List ℕ → Matrix → ℕ → Type 0
Of from m b = (x : ℕ) × Contains from x × Holds m x b

-- the rows below i have the pairs that lead through k, and nothing else is new
pub record Through (old new : Matrix) (k i : ℕ) : Type 0 where
  pub size : length new ≡ length old
  pub keeps : (a b : ℕ) → Holds old a b → Holds new a b
  pub from : (a b : ℕ) → Holds new a b → Holds old a b ⊎ (Holds old a k × Holds old k b)
  pub done : (a b : ℕ) → a < i → Holds old a k → Holds old k b → Holds new a b
