-- The longest numeral before a text.
use Rattle.std.proofs.Common.{◌≡◌, ◌⊎◌, inl, inr, ℕ, suc, ◌≤◌, Bool, true, false, cond, List, [], ◌∷◌, ◌++◌, take, drop, length, refl, sym, ap, ◌∙◌, arith, eqb}
use Rattle.std.specs.List.{list_all}
use Rattle.std.specs.Char.{digit_value}
use Rattle.std.proofs.lemmas.Bool.{eqb-true, ltb-true, lt-ltb, le-ltb, both_ways, and_parts, not-true}
use Rattle.std.proofs.lemmas.List.{append-nil, take_at, drop_at}
use Rattle.std.proofs.lemmas.List.Folds.{list_all-append}
use Rattle.spx_tree.specs.Numbers.{IsDigit, IsNumeralRest, IsDigitBehind, IsNumeral}
use Rattle.spx_tree.proofs.Numbers.{stops, is_numeral_byte, numeral_bytes}
use Rattle.spx_tree.proofs.OnePart.{front_of}
use Rattle.spx_lexer.specs.Pieces.{is_digit, numeral_rest_len, digit_following_len, numeral_len}

digit_is : (base b : ℕ) → is_digit base b ≡ true → IsDigit base b
unfolding is_digit
digit_is base b e = ltb-true (digit_value b) base e

digit_passes : (base b : ℕ) → IsDigit base b → is_digit base b ≡ true
unfolding is_digit
digit_passes base b h = lt-ltb (digit_value b) base h

underscore_no_digit : (base : ℕ) → base ≤ 16 → is_digit base 95 ≡ false
unfolding is_digit
underscore_no_digit base h = le-ltb 36 base (omega arith)

-- ---- what is found

pub record NumeralRest (base : ℕ) (bs : List ℕ) (n : ℕ) : Type 0 where
  pub front : List ℕ
  pub rest : List ℕ
  pub parts : bs ≡ front ++ rest
  pub len : length front ≡ n
  pub is : IsNumeralRest base front

record DigitsFollow (base : ℕ) (bs : List ℕ) (n : ℕ) : Type 0 where
  front : List ℕ
  rest : List ℕ
  parts : bs ≡ front ++ rest
  len : suc (length front) ≡ n
  is : IsDigitBehind base front

pub record Numeral (base : ℕ) (bs : List ℕ) (n : ℕ) : Type 0 where
  pub front : List ℕ
  pub rest : List ℕ
  pub parts : bs ≡ front ++ rest
  pub len : length front ≡ n
  pub is : IsNumeral base front

rest_by : (base b : ℕ) (bs : List ℕ) (h u : Bool) → is_digit base b ≡ h → eqb b 95 ≡ u → NumeralRest base bs (numeral_rest_len base bs) → (digit_following_len base bs ≡ 0) ⊎ DigitsFollow base bs (digit_following_len base bs)
    → NumeralRest base (b ∷ bs) (cond h (suc (numeral_rest_len base bs)) (cond u (digit_following_len base bs) 0))
rest_by base b bs true u e f r s = record { front = b ∷ r.front; rest = r.rest; parts = ap (λ (x : List ℕ). b ∷ x) r.parts; len = ap suc r.len; is = inl (digit_is base b e, r.is) }
rest_by base b bs false true e f r (inl s) = record { front = []; rest = b ∷ bs; parts = refl; len = sym s; is = tt }
rest_by base b bs false true e f r (inr s) = record { front = b ∷ s.front; rest = s.rest; parts = ap (λ (x : List ℕ). b ∷ x) s.parts; len = s.len; is = inr (eqb-true b 95 f, s.is) }
rest_by base b bs false false e f r s = record { front = []; rest = b ∷ bs; parts = refl; len = refl; is = tt }

following_by : (base b : ℕ) (bs : List ℕ) (h : Bool) → is_digit base b ≡ h → NumeralRest base bs (numeral_rest_len base bs)
    → (cond h (suc (suc (numeral_rest_len base bs))) 0 ≡ 0) ⊎ DigitsFollow base (b ∷ bs) (cond h (suc (suc (numeral_rest_len base bs))) 0)
following_by base b bs true e r = inr (record { front = b ∷ r.front; rest = r.rest; parts = ap (λ (x : List ℕ). b ∷ x) r.parts; len = ap suc (ap suc r.len); is = (digit_is base b e, r.is) })
following_by base b bs false e r = inl refl

mutual
  numeral_rest : (base : ℕ) (bs : List ℕ) → NumeralRest base bs (numeral_rest_len base bs)
  numeral_rest base [] = record { front = []; rest = []; parts = refl; len = refl; is = tt }
  numeral_rest base (b ∷ bs) = rest_by base b bs (is_digit base b) (eqb b 95) refl refl (numeral_rest base bs) (following base bs)

  following : (base : ℕ) (bs : List ℕ) → (digit_following_len base bs ≡ 0) ⊎ DigitsFollow base bs (digit_following_len base bs)
  following base [] = inl refl
  following base (b ∷ bs) = following_by base b bs (is_digit base b) refl (numeral_rest base bs)

numeral_by : (base b : ℕ) (bs : List ℕ) (h : Bool) → is_digit base b ≡ h → (cond h (suc (numeral_rest_len base bs)) 0 ≡ 0) ⊎ Numeral base (b ∷ bs) (cond h (suc (numeral_rest_len base bs)) 0)
numeral_by base b bs true e =
    let r = numeral_rest base bs in
    inr (record { front = b ∷ r.front; rest = r.rest; parts = ap (λ (x : List ℕ). b ∷ x) r.parts; len = ap suc r.len; is = (digit_is base b e, r.is) })
numeral_by base b bs false e = inl refl

pub numeral : (base : ℕ) (bs : List ℕ) → (numeral_len base bs ≡ 0) ⊎ Numeral base bs (numeral_len base bs)
numeral base [] = inl refl
numeral base (b ∷ bs) = numeral_by base b bs (is_digit base b) refl

pub numeral_front : (base : ℕ) (bs : List ℕ) (n : ℕ) (r : Numeral base bs n) → take n bs ≡ r.front
numeral_front base bs n r = ap (take n) r.parts ∙ take_at r.front r.rest n r.len

pub numeral_following : (base : ℕ) (bs : List ℕ) (n : ℕ) (r : Numeral base bs n) → drop n bs ≡ r.rest
numeral_following base bs n r = ap (drop n) r.parts ∙ drop_at r.front r.rest n r.len

-- ---- and no longer one stands there

mutual
  rest_len-ge : (base : ℕ) (front rest : List ℕ) → base ≤ 16 → IsNumeralRest base front → length front ≤ numeral_rest_len base (front ++ rest)
  rest_len-ge base [] rest le is = omega arith
  rest_len-ge base (b ∷ front) rest le (inl is) =
      let h = rest_len-ge base front rest le is.1 in
      let e : numeral_rest_len base (b ∷ (front ++ rest)) ≡ suc (numeral_rest_len base (front ++ rest)) =
      ap (λ (x : Bool). cond x (suc (numeral_rest_len base (front ++ rest))) (cond (eqb b 95) (digit_following_len base (front ++ rest)) 0)) (digit_passes base b is.0) in
      omega arith
  rest_len-ge base (b ∷ front) rest le (inr is) =
      let h = following_len-ge base front rest le is.1 in
      let e : numeral_rest_len base (b ∷ (front ++ rest)) ≡ digit_following_len base (front ++ rest) =
      ap (λ (x : ℕ). cond (is_digit base x) (suc (numeral_rest_len base (front ++ rest))) (cond (eqb x 95) (digit_following_len base (front ++ rest)) 0)) is.0
      ∙ ap (λ (x : Bool). cond x (suc (numeral_rest_len base (front ++ rest))) (digit_following_len base (front ++ rest))) (underscore_no_digit base le) in
      omega arith

  following_len-ge : (base : ℕ) (front rest : List ℕ) → base ≤ 16 → IsDigitBehind base front → suc (length front) ≤ digit_following_len base (front ++ rest)
  following_len-ge base [] rest le is = absurd is
  following_len-ge base (b ∷ front) rest le is =
      let h = rest_len-ge base front rest le is.1 in
      let e : digit_following_len base (b ∷ (front ++ rest)) ≡ suc (suc (numeral_rest_len base (front ++ rest))) = ap (λ (x : Bool). cond x (suc (suc (numeral_rest_len base (front ++ rest)))) 0) (digit_passes base b is.0) in
      omega arith

pub numeral_len-ge : (base : ℕ) (front rest : List ℕ) → base ≤ 16 → IsNumeral base front → length front ≤ numeral_len base (front ++ rest)
numeral_len-ge base [] rest le is = absurd is
numeral_len-ge base (b ∷ front) rest le is =
    let h = rest_len-ge base front rest le is.1 in
    let e : numeral_len base (b ∷ (front ++ rest)) ≡ suc (numeral_rest_len base (front ++ rest)) = ap (λ (x : Bool). cond x (suc (numeral_rest_len base (front ++ rest))) 0) (digit_passes base b is.0) in
    omega arith

pub numeral_some : (base : ℕ) (front : List ℕ) → IsNumeral base front → 1 ≤ length front
numeral_some base [] is = absurd is
numeral_some base (b ∷ front) is = omega arith

no_more : (p : ℕ → Bool) (front more rest following : List ℕ) → rest ≡ more ++ following → stops p rest ≡ true → list_all p (front ++ more) ≡ true → more ≡ []
no_more p front [] rest following e s h = refl
no_more p front (x ∷ more) rest following e s h =
    let all = and_parts (list_all p front) (list_all p (x ∷ more)) (sym (list_all-append p front (x ∷ more)) ∙ h) in
    absurd (both_ways (p x) (not-true (p x) (sym (ap (stops p) e) ∙ s)) (and_parts (p x) (list_all p more) all.1).0)

-- where no byte of a numeral stands after it, it is the longest
pub numeral_len-exact : (base : ℕ) (front rest : List ℕ) → base ≤ 16 → IsNumeral base front → stops (is_numeral_byte base) rest ≡ true → numeral_len base (front ++ rest) ≡ length front
numeral_len-exact base front rest le is end =
    let ge = numeral_len-ge base front rest le is in
    let some = numeral_some base front is in
    elim (numeral base (front ++ rest)) [
      | inl e ↦ absurd (omega arith)
      | inr r ↦
          let f = front_of front rest r.front r.rest r.parts (omega (arith, r.len)) in
          let none : f.0 ≡ [] = no_more (is_numeral_byte base) front f.0 rest r.rest f.2 end (ap (list_all (is_numeral_byte base)) (sym f.1) ∙ numeral_bytes base r.front r.is) in
          sym r.len ∙ ap length (f.1 ∙ ap (λ (x : List ℕ). front ++ x) none ∙ append-nil front)
    ]
