-- Powers: one more factor, which powers are too wide, and those of 0, 1 and -1.
use Rattle.std.proofs.Common.{◌≡◌, ◌≢◌, ℕ, zero, suc, ◌*◌, ◌^◌, ◌<◌, ◌≤◌, ◌%◌, ◌==◌, cond, not, Bool, true, false, ℤ, pos, negsuc, ◌*ℤ◌, neg_ℤ, unsigned_abs, FitsSigned, refl, ap, ◌∙◌, arith}
use Rattle.std.specs.Int.{w128}
use Rattle.std.proofs.Math.Nat.{pow-zero, pow-suc, pow-succ', mul-zero, mul-one, pow-le-pow_left, pow-le-pow_right, le_trans}
use Rattle.std.proofs.lemmas.Bool.Decides.{nat_tests}
use Rattle.std.proofs.lemmas.Int.{ints, to_z-of_z}
use Rattle.spx_num.specs.Exact.{power_of}

-- every other number is even
even-suc : (n : ℕ) → (suc n % 2 == 0) ≡ not (n % 2 == 0)
even-suc n = grind (arith, nat_tests)

-- one more negative factor changes the sign
signed-suc : (x y : ℕ) (even : Bool) → cond (not even) (pos (suc x * y)) (neg_ℤ (pos (suc x * y))) ≡ negsuc x *ℤ cond even (pos y) (neg_ℤ (pos y))
signed-suc x y true = refl
signed-suc x zero false = rw (mul-zero (suc x)) refl
signed-suc x (suc y) false = refl

-- one more factor
pub power-suc : (a : ℤ) (n : ℕ) → power_of a (suc n) ≡ a *ℤ power_of a n
power-suc (pos a) n = ap pos (pow-succ' a n)
power-suc (negsuc a) n = rw (even-suc n, pow-succ' (suc a) n) (signed-suc a (suc a ^ n) (n % 2 == 0))

-- a product of 128 or more factors of 2 or more
tall : (a n : ℕ) → 2 ≤ a → 128 ≤ n → 2 ^ 128 ≤ a ^ n
tall a n h k = le_trans (pow-le-pow_left {n = 2} {m = a} h 128) (pow-le-pow_right {n = a} (omega arith) k)

-- with either sign, that does not fit
signed_wide : (x : ℕ) (even : Bool) → 2 ^ 128 ≤ x → ¬ FitsSigned w128 (cond even (pos x) (neg_ℤ (pos x)))
signed_wide x true h f = omega (arith, ints)
signed_wide x false h f = omega (arith, ints)

-- the power of a number other than 0, 1 and -1 is too wide
pub wide : (a : ℤ) (n : ℕ) → 2 ≤ unsigned_abs a → 128 ≤ n → ¬ FitsSigned w128 (power_of a n)
wide (pos a) n h k = signed_wide (a ^ n) true (tall a n h k)
wide (negsuc a) n h k = signed_wide (suc a ^ n) (n % 2 == 0) (tall (suc a) n h k)

-- ---- the powers of 0, 1 and -1

one_pow : (n : ℕ) → 1 ^ n ≡ 1
one_pow zero = pow-zero 1
one_pow (suc n) = pow-suc 1 n ∙ mul-one (1 ^ n) ∙ one_pow n

zero_pow : (n : ℕ) → 0 < n → 0 ^ n ≡ 0
zero_pow zero h = absurd (omega arith)
zero_pow (suc n) h = pow-suc 0 n ∙ mul-zero (0 ^ n)

pub power_of_zero : (a : ℤ) (n : ℕ) → a ≡ pos 0 → 0 < n → power_of a n ≡ pos 0
power_of_zero a n e h = ap (λ (z : ℤ). power_of z n) e ∙ ap pos (zero_pow n h)

pub power_of_one : (a : ℤ) (n : ℕ) → a ≡ pos 1 → power_of a n ≡ pos 1
power_of_one a n e = ap (λ (z : ℤ). power_of z n) e ∙ ap pos (one_pow n)

-- 1 with either sign
signed_one : (even : Bool) (m : ℕ) → m ≡ 1 → cond even (pos m) (neg_ℤ (pos m)) ≡ cond even (pos 1) (negsuc 0)
signed_one even m e = ap (λ (k : ℕ). cond even (pos k) (neg_ℤ (pos k))) e

power_of_minus_one : (a : ℤ) (n : ℕ) → a ≡ negsuc 0 → power_of a n ≡ cond (n % 2 == 0) (pos 1) (negsuc 0)
power_of_minus_one a n e = ap (λ (z : ℤ). power_of z n) e ∙ signed_one (n % 2 == 0) (1 ^ n) (one_pow n)

pub power_of_even : (a : ℤ) (n : ℕ) → a ≡ negsuc 0 → n % 2 ≡ 0 → power_of a n ≡ pos 1
power_of_even a n e h = power_of_minus_one a n e ∙ grind (arith, nat_tests)

pub power_of_odd : (a : ℤ) (n : ℕ) → a ≡ negsuc 0 → n % 2 ≢ 0 → power_of a n ≡ negsuc 0
power_of_odd a n e h = power_of_minus_one a n e ∙ grind (arith, nat_tests)

-- for the code, where the exponent is large
pub ruleset powers = (ints, to_z-of_z, power_of_zero, power_of_one, power_of_even, power_of_odd, wide)
