-- Values that are not too wide, and how a numeral and an exponent make them greater.
use Rattle.std.proofs.Common.{◌≡◌, ◌≢◌, inl, inr, ℕ, zero, suc, min, ◌+◌, ◌-◌, ◌*◌, ◌/◌, ◌≤◌, ◌<◌, ◌^◌, Bool, true, false, cond, List, [], ◌∷◌, take, drop, get_or, length, not, nat_lt, IfSome, ◌&&◌, Option, Some, None, refl, sym, ap, ◌∙◌, arith, leb, eqb}
use Rattle.std.specs.List.{filter}
use Rattle.std.specs.Char.{digit_value}
use Rattle.std.specs.Str.Parse.{digits_value_after}
use Rattle.std.proofs.Math.Nat.{div-lt_iff_lt-mul, mul_assoc, mul_comm, zero-mul, mul-le-mul_left, pow-le-pow_left, pow-le-pow_right, one-le-pow}
use Rattle.std.proofs.lemmas.Grind.{pow_more}
use Rattle.std.proofs.lemmas.Bool.{le-leb, lt-leb, leb-true, leb-false, ne_eqb, cases_lt}
use Rattle.spx_tree.specs.Numbers.{is_no_underscore, numeral_value}
use Rattle.spx_lexer.specs.declared.lexer.numbers.Digits.{Digits}
use Rattle.spx_lexer.specs.Pieces.{numeral_len, fitting, base_of, begins_with_hash, digits, closed_digits, based_digits, digits_by, digits_at, scaled}

pub fitting-wide : (n : ℕ) → 2 ^ 127 < n → None ≡ fitting n
unfolding fitting
fitting-wide n h = ap (λ (t : Bool). cond t (Some n) None) (sym (lt-leb n (2 ^ 127) h))

pub fitting-small : (n : ℕ) → n ≤ 2 ^ 127 → Some n ≡ fitting n
unfolding fitting
fitting-small n h = ap (λ (t : Bool). cond t (Some n) None) (sym (le-leb n (2 ^ 127) h))

some_by : (n v : ℕ) (t : Bool) → leb n (2 ^ 127) ≡ t → Some v ≡ cond t (Some n) None → (v ≡ n) × (v ≤ 2 ^ 127)
some_by n v true e f = let same : v ≡ n = cc in (same, omega (arith, leb-true n (2 ^ 127) e))
some_by n v false e f = absurd cc

pub fitting-some : (n v : ℕ) → Some v ≡ fitting n → (v ≡ n) × (v ≤ 2 ^ 127)
unfolding fitting
fitting-some n v e = some_by n v (leb n (2 ^ 127)) refl e

none_by : (n : ℕ) (t : Bool) → leb n (2 ^ 127) ≡ t → None ≡ cond t (Some n) None → 2 ^ 127 < n
none_by n true e f = absurd cc
none_by n false e f = leb-false n (2 ^ 127) e

pub fitting-none : (n : ℕ) → None ≡ fitting n → 2 ^ 127 < n
unfolding fitting
fitting-none n e = none_by n (leb n (2 ^ 127)) refl e

-- ---- the value of digits is not too wide

abbrev Fits : Option ℕ → Type 0
Fits o = IfSome o (λ n. n ≤ 2 ^ 127)

fitting_fits : (n : ℕ) → Fits (fitting n)
unfolding fitting
fitting_fits n = fits_by (leb n (2 ^ 127)) refl
  where
    fits_by : (t : Bool) → leb n (2 ^ 127) ≡ t → Fits (cond t (Some n) None)
    fits_by true e = leb-true n (2 ^ 127) e
    fits_by false e = tt

closed_fits : (base : ℕ) (bytes : List ℕ) → IfSome (closed_digits base bytes) (λ d. Fits d.value)
unfolding closed_digits
closed_fits base bytes = fits_by (nat_lt 0 (numeral_len base bytes) && begins_with_hash (drop (numeral_len base bytes) bytes))
  where
    fits_by : (t : Bool) → IfSome (cond t (Some (digits (numeral_len base bytes + 2) base (fitting (numeral_value base (take (numeral_len base bytes) bytes))))) None) (λ d. Fits d.value)
    fits_by true = fitting_fits (numeral_value base (take (numeral_len base bytes) bytes))
    fits_by false = tt

based_fits : (o : Option ℕ) (bytes : List ℕ) → IfSome (based_digits o bytes) (λ d. Fits d.value)
based_fits None bytes = tt
based_fits (Some base) [] = tt
based_fits (Some base) (b ∷ bs) = fits_by (eqb b 35)
  where
    fits_by : (t : Bool) → IfSome (cond t (closed_digits base bs) None) (λ d. Fits d.value)
    fits_by true = closed_fits base bs
    fits_by false = tt

pub digits_at-fits : (bytes : List ℕ) → Fits (digits_at bytes).value
unfolding digits_at
digits_at-fits bytes = fits_by (based_digits (base_of value) (drop (numeral_len 10 bytes) bytes)) (based_fits (base_of value) (drop (numeral_len 10 bytes) bytes))
  where
    value : Option ℕ
    value = fitting (numeral_value 10 (take (numeral_len 10 bytes) bytes))

    fits_by : (o : Option Digits) → IfSome o (λ d. Fits d.value) → Fits (digits_by (numeral_len 10 bytes) value o).value
    fits_by None h = fitting_fits (numeral_value 10 (take (numeral_len 10 bytes) bytes))
    fits_by (Some d) h = h

-- ---- one step

-- no further step fits, or it does
pub step_over : (most d b n : ℕ) → 1 ≤ b → d ≤ most → (most - d) / b < n → most < n * b + d
step_over most d b n some small h = let g : most - d < n * b = (div-lt_iff_lt-mul {k = b} {x = most - d} {y = n} some).0 h in omega arith

pub step_fits : (most d b n : ℕ) → 1 ≤ b → d ≤ most → n ≤ (most - d) / b → n * b + d ≤ most
step_fits most d b n some small h = let g : (most - d < n * b) → (most - d) / b < n = (div-lt_iff_lt-mul {k = b} {x = most - d} {y = n} some).1 in grind arith

-- further digits make no number smaller
pub digits_value_after-ge : (base n : ℕ) (ds : List ℕ) → 1 ≤ base → n ≤ digits_value_after base n ds
digits_value_after-ge base n [] h = omega arith
digits_value_after-ge base n (d ∷ ds) h =
    let g = digits_value_after-ge base (n * base + digit_value d) ds h in
    let m : n * 1 ≤ n * base = mul-le-mul_left n h in
    omega arith

-- the value of the numeral of which these bytes are left
abbrev pub value_after : ℕ → ℕ → List ℕ → ℕ
value_after base n rest = digits_value_after base n (filter is_no_underscore rest)

-- one more digit
pub digit_step : (base n d : ℕ) (rest : List ℕ) → 1 ≤ length rest → get_or rest 0 0 ≢ 95 → d ≡ digit_value (get_or rest 0 0) → value_after base n rest ≡ value_after base (n * base + d) (drop 1 rest)
digit_step base n d [] some ne e = absurd (omega arith)
digit_step base n d (b ∷ rest) some ne e =
    ap (λ (t : Bool). digits_value_after base n (cond (not t) (b ∷ filter is_no_underscore rest) (filter is_no_underscore rest))) (ne_eqb b 95 ne) ∙ ap (λ (v : ℕ). value_after base (n * base + v) rest) (sym e)

-- with which the value is too wide
pub digit_wide : (base n d all : ℕ) (rest : List ℕ) → 1 ≤ base → 1 ≤ length rest → get_or rest 0 0 ≢ 95 → d ≡ digit_value (get_or rest 0 0) → value_after base n rest ≡ all → None ≡ fitting (n * base + d) → None ≡ fitting all
digit_wide base n d all rest some left ne e same none =
    let wide = fitting-none (n * base + d) none in
    let ge = digits_value_after-ge base (n * base + d) (filter is_no_underscore (drop 1 rest)) some in
    fitting-wide all (omega (arith, digit_step base n d rest left ne e))

pub value_after-end : (base n : ℕ) (rest : List ℕ) → length rest ≤ 0 → value_after base n rest ≡ n
value_after-end base n [] h = refl
value_after-end base n (b ∷ rest) h = absurd (omega arith)

-- ---- one more factor

pub factor_step : (v b i : ℕ) → v * b ^ i * b + 0 ≡ v * b ^ (i + 1)
factor_step v b i = omega arith ∙ mul_assoc v (b ^ i) b ∙ ap (λ (x : ℕ). v * x) (sym (pow_more b i))

-- with which the value is too wide
pub factor_wide : (v b i e : ℕ) → 1 ≤ b → i < e → None ≡ fitting (v * b ^ i * b + 0) → None ≡ fitting (v * b ^ e)
factor_wide v b i e some below none =
    let wide = fitting-none (v * b ^ i * b + 0) none in
    let more : b ^ (i + 1) ≤ b ^ e = pow-le-pow_right some (omega arith) in
    fitting-wide (v * b ^ e) (omega (arith, factor_step v b i, mul-le-mul_left v more))

-- ---- the whole exponent

-- an exponent past 128 makes every number but 0 too wide
past_most : (v base e : ℕ) → 2 ≤ base → 128 ≤ e → 1 ≤ v → 2 ^ 127 < v * base ^ e
past_most v base e two most some =
    let least : 2 ^ 128 ≤ base ^ 128 = pow-le-pow_left two 128 in
    let more : base ^ 128 ≤ base ^ e = pow-le-pow_right (omega arith) most in
    let all : base ^ e * 1 ≤ base ^ e * v = mul-le-mul_left (base ^ e) some in
    omega (arith, mul_comm v (base ^ e))

cut_off : (v base e : ℕ) → 2 ≤ base → 128 ≤ e → fitting (v * base ^ 128) ≡ fitting (v * base ^ e)
cut_off zero base e two most = ap fitting (zero-mul (base ^ 128) ∙ sym (zero-mul (base ^ e)))
cut_off (suc v) base e two most =
    sym (fitting-wide (suc v * base ^ 128) (past_most (suc v) base 128 two (omega arith) (omega arith))) ∙ fitting-wide (suc v * base ^ e) (past_most (suc v) base e two most (omega arith))

same_or_cut : (v base e : ℕ) → 2 ≤ base → fitting (v * base ^ min e 128) ≡ fitting (v * base ^ e)
same_or_cut v base e two = elim (cases_lt e 128) [
  | inl h ↦ let same : min e 128 ≡ e = omega arith in ap (λ (k : ℕ). fitting (v * base ^ k)) same
  | inr h ↦ let same : min e 128 ≡ 128 = omega arith in ap (λ (k : ℕ). fitting (v * base ^ k)) same ∙ cut_off v base e two (omega arith)
]

-- digits that are too wide are so with every exponent
wide_scaled : (v base e : ℕ) → 2 ≤ base → 2 ^ 127 < v → None ≡ fitting (v * base ^ e)
wide_scaled v base e two wide =
    let least : v * 1 ≤ v * base ^ e = mul-le-mul_left v (one-le-pow e base (omega arith)) in
    fitting-wide (v * base ^ e) (omega arith)

scaled_by : (v base e : ℕ) (t : Bool) → 2 ≤ base → leb v (2 ^ 127) ≡ t → scaled (cond t (Some v) None) base (min e 128) ≡ fitting (v * base ^ e)
scaled_by v base e true two h = same_or_cut v base e two
scaled_by v base e false two h = wide_scaled v base e two (leb-false v (2 ^ 127) h)

pub scaled_fitting : (v base e : ℕ) → 2 ≤ base → scaled (fitting v) base (min e 128) ≡ fitting (v * base ^ e)
unfolding fitting
scaled_fitting v base e two = scaled_by v base e (leb v (2 ^ 127)) two refl
