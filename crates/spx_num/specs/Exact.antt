-- Operations on whole numbers, which have no bound (Ada 95 RM 4.5.3, 4.5.5, 4.5.6).
use Rattle.std.specs.Prelude.{ℕ, ℤ, pos, ◌+ℤ◌, ◌-ℤ◌, ◌*ℤ◌, int_div, int_rem, int_lt, unsigned_abs, if◌then◌else◌}
use Rattle.std.specs.Ordering.{int_eq}
use Rattle.std.specs.Int.{int_pow}
use Rattle.spx_num.specs.declared.arithmetic.Op.{Op}
use Rattle.spx_num.specs.declared.arithmetic.Op.TheVariants.{Add, Sub, Mul}

abbrev pub exact : Op → ℤ → ℤ → ℤ
exact Add a b = a +ℤ b
exact Sub a b = a -ℤ b
exact Mul a b = a *ℤ b

-- `a / b`: how often b goes into a, without the fraction
abbrev pub quotient : ℤ → ℤ → ℤ
quotient a b = int_div a b

-- `a rem b`: what the quotient leaves, with the sign of a
abbrev pub remainder : ℤ → ℤ → ℤ
remainder a b = int_rem a b

-- `a mod b`: what a whole multiple of b leaves, with the sign of b
abbrev pub modulus : ℤ → ℤ → ℤ
modulus a b = remainder (remainder a b +ℤ b) b

-- `a ** n`: the product of n factors a, which is 1 where n is 0
abbrev pub power_of : ℤ → ℕ → ℤ
power_of a n = int_pow a n

-- `abs a`
abbrev pub absolute : ℤ → ℤ
absolute a = if int_lt a (pos 0) then pos 0 -ℤ a else a

-- what `/`, `rem` or `mod` gives in an annotation, where a division by 0 gives 0
abbrev pub or_zero : (ℤ → ℤ → ℤ) → ℤ → ℤ → ℤ
or_zero divided a b = if int_eq b (pos 0) then pos 0 else divided a b

-- what `**` gives in an annotation, where a negative exponent gives 0
abbrev pub raised : ℤ → ℤ → ℤ
raised a n = if int_lt n (pos 0) then pos 0 else power_of a (unsigned_abs n)
