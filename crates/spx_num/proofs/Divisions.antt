-- The modulus is the remainder, or that and the divisor.
use Rattle.std.proofs.Common.{◌≡◌, ◌≢◌, ℕ, zero, suc, ◌+◌, ◌<◌, ◌%◌, ℤ, pos, negsuc, ◌+ℤ◌, ◌-ℤ◌, ◌*ℤ◌, neg_ℤ, int_lt, unsigned_abs, FitsSigned, refl, sym, ap, subst, ◌∙◌, ◌⊎◌, inl, inr, ⊎_elim, arith}
use Rattle.std.specs.Int.{Width}
use Rattle.std.proofs.Math.Nat.{mod-eq_of_lt, mod_self, mod-zero, add-mod_right}
use Rattle.std.proofs.Math.IntN.{pred_ℤ, pred_ℤ-*ℤ, *ℤ_comm, +ℤ_idl}
use Rattle.std.proofs.lemmas.Bool.Decides.{nat_tests}
use Rattle.std.proofs.lemmas.Int.{ints, rem_below, quot-rem}
use Rattle.spx_num.specs.Exact.{quotient, remainder, modulus}

-- a number nearer to zero than the divisor is its own remainder
remainder_of_small : (z b : ℤ) → unsigned_abs z < unsigned_abs b → remainder z b ≡ z
remainder_of_small (pos n) b h = ap pos (mod-eq_of_lt h)
remainder_of_small (negsuc n) b h = ap (λ (m : ℕ). neg_ℤ (pos m)) (mod-eq_of_lt h)

-- a number and a divisor of the same sign
remainder_of_alike : (r b : ℤ) → unsigned_abs r < unsigned_abs b → int_lt r (pos 0) ≡ int_lt b (pos 0) → remainder (r +ℤ b) b ≡ r
remainder_of_alike (pos r) (pos b) h s = ap pos (add-mod_right r b ∙ mod-eq_of_lt h)
remainder_of_alike (pos r) (negsuc b) h s = absurd (omega (arith, ints))
remainder_of_alike (negsuc r) (pos b) h s = absurd (omega (arith, ints))
remainder_of_alike (negsuc r) (negsuc b) h s =
    let whole : suc (suc (r + b)) ≡ suc r + suc b = omega arith in
    ap (λ (m : ℕ). neg_ℤ (pos (m % suc b))) whole ∙ ap (λ (m : ℕ). neg_ℤ (pos m)) (add-mod_right (suc r) (suc b) ∙ mod-eq_of_lt h)

-- the divisor itself leaves nothing
remainder_of_same : (b : ℤ) → remainder b b ≡ pos 0
remainder_of_same (pos b) = ap pos (mod_self b)
remainder_of_same (negsuc b) = ap (λ (m : ℕ). neg_ℤ (pos m)) (mod_self (suc b))

-- no number and a divisor
remainder_of_none : (r b : ℤ) → r ≡ pos 0 → remainder (r +ℤ b) b ≡ r
remainder_of_none r b e = ap (λ (z : ℤ). remainder (z +ℤ b) b) e ∙ ap (λ (z : ℤ). remainder z b) (+ℤ_idl b) ∙ remainder_of_same b ∙ sym e

-- a sum of a number and a divisor of different signs is nearer to zero than the divisor
nearer : (r b : ℤ) → r ≢ pos 0 → unsigned_abs r < unsigned_abs b → int_lt r (pos 0) ≢ int_lt b (pos 0) → unsigned_abs (r +ℤ b) < unsigned_abs b
nearer (pos zero) b n h s = absurd (n refl)
nearer (pos (suc r)) (pos b) n h s = absurd (s (grind (arith, nat_tests)))
nearer (pos (suc r)) (negsuc b) n h s = omega (arith, ints)
nearer (negsuc r) (pos b) n h s = omega (arith, ints)
nearer (negsuc r) (negsuc b) n h s = absurd (s refl)

-- a number and a divisor of different signs
remainder_of_unlike : (r b : ℤ) → r ≢ pos 0 → unsigned_abs r < unsigned_abs b → int_lt r (pos 0) ≢ int_lt b (pos 0) → remainder (r +ℤ b) b ≡ r +ℤ b
remainder_of_unlike r b n h s = remainder_of_small (r +ℤ b) b (nearer r b n h s)

-- what is left is nearer to zero than the divisor
smaller : (a b : ℤ) → b ≢ pos 0 → unsigned_abs (remainder a b) < unsigned_abs b
smaller a b n = rem_below a b (omega (arith, ints))

-- ---- the modulus, where the code has the remainder r

small : (a b r : ℤ) → r ≡ remainder a b → b ≢ pos 0 → unsigned_abs r < unsigned_abs b
small a b r e n = subst (λ (z : ℤ). unsigned_abs z < unsigned_abs b) (sym e) (smaller a b n)

modulus_by : (a b r : ℤ) → r ≡ remainder a b → modulus a b ≡ remainder (r +ℤ b) b
modulus_by a b r e = ap (λ (z : ℤ). remainder (z +ℤ b) b) (sym e)

pub modulus_of_none : (a b r : ℤ) → r ≡ remainder a b → r ≡ pos 0 → r ≡ modulus a b
modulus_of_none a b r e none = sym (modulus_by a b r e ∙ remainder_of_none r b none)

pub modulus_of_alike : (a b r : ℤ) → r ≡ remainder a b → b ≢ pos 0 → int_lt r (pos 0) ≡ int_lt b (pos 0) → r ≡ modulus a b
modulus_of_alike a b r e n s = sym (modulus_by a b r e ∙ remainder_of_alike r b (small a b r e n) s)

pub modulus_of_unlike : (a b r : ℤ) → r ≡ remainder a b → b ≢ pos 0 → r ≢ pos 0 → int_lt r (pos 0) ≢ int_lt b (pos 0) → r +ℤ b ≡ modulus a b
modulus_of_unlike a b r e n some s = sym (modulus_by a b r e ∙ remainder_of_unlike r b some (small a b r e n) s)

-- a number that is nearer to zero than one that fits
fits_below : (w : Width) (z b : ℤ) → unsigned_abs z < unsigned_abs b → FitsSigned w b → FitsSigned w z
fits_below w z b h f = omega (arith, ints)

pub modulus_fits : (w : Width) (a b : ℤ) → b ≢ pos 0 → FitsSigned w b → FitsSigned w (modulus a b)
modulus_fits w a b n f = fits_below w (modulus a b) b (smaller (remainder a b +ℤ b) b n) f

-- ---- the law: a number is a whole multiple of the divisor and its modulus

-- a number that is nearer to zero than the divisor is what the sum leaves, or the sum is
settled : (r b : ℤ) → unsigned_abs r < unsigned_abs b → (remainder (r +ℤ b) b ≡ r) ⊎ (remainder (r +ℤ b) b ≡ r +ℤ b)
settled (pos zero) b h = inl (remainder_of_none (pos zero) b refl)
settled (pos (suc r)) (pos b) h = inl (remainder_of_alike (pos (suc r)) (pos b) h (grind (arith, nat_tests)))
settled (pos (suc r)) (negsuc b) h = inr (remainder_of_small (pos (suc r) +ℤ negsuc b) (negsuc b) (omega (arith, ints)))
settled (negsuc r) (pos b) h = inr (remainder_of_small (negsuc r +ℤ pos b) (pos b) (omega (arith, ints)))
settled (negsuc r) (negsuc b) h = inl (remainder_of_alike (negsuc r) (negsuc b) h refl)

-- a division by 0, which no program does, leaves the number
remainder_of_zero : (z : ℤ) → remainder z (pos 0) ≡ z
remainder_of_zero (pos n) = ap pos (mod-zero n)
remainder_of_zero (negsuc n) = ap (λ (m : ℕ). neg_ℤ (pos m)) (mod-zero (suc n))

one_of : (a b : ℤ) → (modulus a b ≡ remainder a b) ⊎ (modulus a b ≡ remainder a b +ℤ b)
one_of a (pos zero) = inr (remainder_of_zero (remainder a (pos 0) +ℤ pos 0))
one_of a (pos (suc b)) = settled (remainder a (pos (suc b))) (pos (suc b)) (smaller a (pos (suc b)) (λ e. absurd (omega (arith, ints))))
one_of a (negsuc b) = settled (remainder a (negsuc b)) (negsuc b) (smaller a (negsuc b) (λ e. cc))

-- one divisor less in the multiple is one more beside it
regrouped : (x r b : ℤ) → x +ℤ r ≡ (x -ℤ b) +ℤ (r +ℤ b)
regrouped x r b = omega (arith, ints)

pub whole : (a b : ℤ) → (q : ℤ) × (a ≡ (b *ℤ q) +ℤ modulus a b)
whole a b = ⊎_elim same more (one_of a b)
  where
    q : ℤ
    q = quotient a b

    same : modulus a b ≡ remainder a b → (q : ℤ) × (a ≡ (b *ℤ q) +ℤ modulus a b)
    same e = (q, sym (quot-rem a b) ∙ ap (λ (z : ℤ). z +ℤ remainder a b) (*ℤ_comm q b) ∙ ap (λ (z : ℤ). (b *ℤ q) +ℤ z) (sym e))

    more : modulus a b ≡ remainder a b +ℤ b → (q : ℤ) × (a ≡ (b *ℤ q) +ℤ modulus a b)
    more e =
        (pred_ℤ q, sym (quot-rem a b) ∙ regrouped (q *ℤ b) (remainder a b) b ∙ ap (λ (z : ℤ). z +ℤ (remainder a b +ℤ b)) (sym (pred_ℤ-*ℤ q b) ∙ *ℤ_comm (pred_ℤ q) b) ∙ ap (λ (z : ℤ). (b *ℤ pred_ℤ q) +ℤ z) (sym e))
