-- The longest number before a text.
use Rattle.std.proofs.Common.{◌≡◌, ◌⊎◌, inl, inr, ℕ, ◌+◌, ◌*◌, ◌^◌, ◌≤◌, min, List, [], ◌∷◌, ◌++◌, drop, length, Option, refl, sym, ap, subst, ◌∙◌, arith, append_assoc, length-append}
use Rattle.std.proofs.lemmas.List.{drop_at}
use Rattle.spx_tree.specs.Numbers.{IsNumeral, numeral_value, IsExponent, none, some, IsNumber, decimal, based}
use Rattle.spx_lexer.specs.declared.lexer.numbers.Number.{Number}
use Rattle.spx_lexer.specs.Pieces.{numeral_len, fitting, digits_at, exponent_at, scaled, number_by, number_in}
use Rattle.spx_lexer.proofs.Fitting.{scaled_fitting}
use Rattle.spx_lexer.proofs.Numerals.{Numeral}
use Rattle.spx_lexer.proofs.Exponents.{exponent_at-found, exponent_at-ge}
use Rattle.spx_lexer.proofs.NumberDigits.{number_from, two_at_least, digits_at-found, digits_at-ge, digits_at-plain, digits_at-closed}

-- ---- what is found

pub record HasNumber (bytes : List ℕ) (found : Number) : Type 0 where
  pub front : List ℕ
  pub rest : List ℕ
  pub n : ℕ
  pub parts : bytes ≡ front ++ rest
  pub len : length front ≡ found.len
  pub is : IsNumber front n
  pub fits : found.value ≡ fitting n

pub number_in-found : (bytes : List ℕ) → Numeral 10 bytes (numeral_len 10 bytes) → HasNumber bytes (number_in bytes)
unfolding number_in
number_in-found bytes r =
    let found = digits_at bytes in
    let d = digits_at-found bytes r in
    let following : drop found.len bytes ≡ d.rest = ap (drop found.len) d.parts ∙ drop_at d.front d.rest found.len d.len in
    let x = exponent_at-found d.rest in
    let n = d.value * found.base ^ x.e in
    subst (λ (y : List ℕ). HasNumber bytes (number_by found (exponent_at y))) (sym following)
    (
    record {
      front = d.front ++ x.front;
      rest = x.rest;
      n = n;
      parts = d.parts ∙ ap (λ (y : List ℕ). d.front ++ y) x.parts ∙ sym (append_assoc d.front x.front x.rest);
      len = omega (arith, length-append d.front x.front, d.len, x.len);
      is = number_from d.front x.front found.base d.value x.e d.are x.is;
      fits =
          ap (λ (k : ℕ). scaled found.value found.base k) x.value
          ∙ (ap (λ (o : Option ℕ). scaled o found.base (min x.e 128)) d.fits ∙ scaled_fitting d.value found.base x.e (two_at_least d.front found.base d.value d.are));
    }
    )

-- ---- and no longer one stands there

-- digits of this length, and an exponent after them
with_exponent : (bytes front x rest : List ℕ) (e : ℕ) → bytes ≡ front ++ (x ++ rest) → (digits_at bytes).len ≡ length front → IsExponent x e → length front + length x ≤ (number_in bytes).len
unfolding number_in
with_exponent bytes front x rest e p len h =
    let following : drop (digits_at bytes).len bytes ≡ x ++ rest = ap (drop (digits_at bytes).len) p ∙ drop_at front (x ++ rest) (digits_at bytes).len (sym len) in
    omega (arith, exponent_at-ge x rest e h, ap (λ (y : List ℕ). (exponent_at y).len) following)

digits_only : (bytes : List ℕ) → (digits_at bytes).len ≤ (number_in bytes).len
unfolding number_in
digits_only bytes = omega arith

letter_ends : (whole : List ℕ) (letter : ℕ) (rest : List ℕ) → IsNumeral 10 whole → (letter ≡ 69) ⊎ (letter ≡ 101) → (digits_at (whole ++ (letter ∷ rest))).len ≡ length whole
letter_ends whole letter rest w (inl e) = ap (λ (c : ℕ). (digits_at (whole ++ (c ∷ rest))).len) e ∙ digits_at-plain whole 69 rest w refl refl
letter_ends whole letter rest w (inr e) = ap (λ (c : ℕ). (digits_at (whole ++ (c ∷ rest))).len) e ∙ digits_at-plain whole 101 rest w refl refl

decimal_longest : (whole x rest : List ℕ) (e : ℕ) → IsNumeral 10 whole → IsExponent x e → length whole + length x ≤ (number_in (whole ++ (x ++ rest))).len
decimal_longest whole x rest e w (none p v) = omega (arith, ap length p, digits_at-ge whole (x ++ rest) w, digits_only (whole ++ (x ++ rest)))
decimal_longest whole x rest e w (some letter sign inner p l s d v) =
    let same : x ++ rest ≡ letter ∷ ((sign ++ inner) ++ rest) = ap (λ (y : List ℕ). y ++ rest) p in
    let len : (digits_at (whole ++ (x ++ rest))).len ≡ length whole = ap (λ (y : List ℕ). (digits_at (whole ++ y)).len) same ∙ letter_ends whole letter ((sign ++ inner) ++ rest) w l in
    with_exponent (whole ++ (x ++ rest)) whole x rest e refl len (some letter sign inner p l s d v)

based_longest : (whole inner x rest : List ℕ) (e : ℕ) → IsNumeral 10 whole → 2 ≤ numeral_value 10 whole → numeral_value 10 whole ≤ 16 → IsNumeral (numeral_value 10 whole) inner → IsExponent x e
    → length whole + (length inner + 2) + length x ≤ (number_in (whole ++ (35 ∷ (inner ++ (35 ∷ (x ++ rest)))))).len
based_longest whole inner x rest e w lo hi d h =
    let bytes = whole ++ (35 ∷ (inner ++ (35 ∷ (x ++ rest)))) in
    let front = whole ++ (35 ∷ (inner ++ (35 ∷ []))) in
    let parts : bytes ≡ front ++ (x ++ rest) = sym (append_assoc whole (35 ∷ (inner ++ (35 ∷ []))) (x ++ rest) ∙ ap (λ (y : List ℕ). whole ++ (35 ∷ y)) (append_assoc inner (35 ∷ []) (x ++ rest))) in
    let size : length front ≡ length whole + (length inner + 2) = omega (arith, length-append whole (35 ∷ (inner ++ (35 ∷ []))), length-append inner (35 ∷ [])) in
    omega (arith, with_exponent bytes front x rest e parts (digits_at-closed whole inner (x ++ rest) w lo hi d ∙ sym size) h)

pub number_in-longest : (front rest : List ℕ) (n : ℕ) → IsNumber front n → length front ≤ (number_in (front ++ rest)).len
number_in-longest front rest n (decimal whole x e p w h v) =
    let same : front ++ rest ≡ whole ++ (x ++ rest) = ap (λ (y : List ℕ). y ++ rest) p ∙ append_assoc whole x rest in
    omega (arith, decimal_longest whole x rest e w h, ap (λ (y : List ℕ). (number_in y).len) same, ap length p, length-append whole x)
number_in-longest front rest n (based whole inner x e p w lo hi d h v) =
    let tail = 35 ∷ (inner ++ (35 ∷ x)) in
    let same : front ++ rest ≡ whole ++ (35 ∷ (inner ++ (35 ∷ (x ++ rest)))) =
    ap (λ (y : List ℕ). y ++ rest) p ∙ append_assoc whole tail rest ∙ ap (λ (y : List ℕ). whole ++ (35 ∷ y)) (append_assoc inner (35 ∷ x) rest) in
    omega (arith, based_longest whole inner x rest e w lo hi d h, ap (λ (y : List ℕ). (number_in y).len) same, ap length p, length-append whole tail, length-append inner (35 ∷ x))
