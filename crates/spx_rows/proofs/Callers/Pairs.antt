-- Pairs of a matrix, and chains of pairs.
use Rattle.std.proofs.Common.{ℕ, zero, suc, ◌<◌, [], ◌∷◌, length, true≢false, sym, arith}
use Rattle.spx_rows.specs.Relations.{Rel, Matrix, Holds, Star, stop, go_on}

-- a row with a number in it is one of the rows
pub row_within : (m : Matrix) (u w : ℕ) → Holds m u w → u < length m
row_within [] u w h = absurd (true≢false (sym h))
row_within (r ∷ m) zero w h = omega arith
row_within (r ∷ m) (suc u) w h = let lt = row_within m u w h in omega arith

pub star_append : {R : Rel} {a b c : ℕ} → Star R a b → Star R b c → Star R a c
star_append stop q = q
star_append (go_on r p) q = go_on r (star_append p q)
