-- The longest exponent before a text.
use Rattle.std.proofs.Common.{◌≡◌, ◌⊎◌, inl, inr, ℕ, suc, ◌+◌, ◌<◌, ◌≤◌, min, Bool, true, false, cond, List, [], ◌∷◌, ◌++◌, take, length, refl, sym, ap, ◌∙◌, arith, eqb, append_assoc, length-append}
use Rattle.std.specs.Prelude.{◌||◌, codes}
use Rattle.std.specs.Char.{digit_value}
use Rattle.std.proofs.lemmas.Bool.{eqb-true, eqb-false, ne_eqb, or_cases}
use Rattle.spx_tree.specs.Numbers.{IsNumeral, numeral_value, IsExponent, none, some}
use Rattle.spx_lexer.specs.declared.lexer.numbers.Exponent.{Exponent}
use Rattle.spx_lexer.specs.Pieces.{numeral_len, exponent, exponent_by, exponent_following, exponent_at}
use Rattle.spx_lexer.proofs.Numerals.{numeral, numeral_front, numeral_len-ge, numeral_some}

-- ---- what is found

pub record HasExponent (bytes : List ℕ) (found : Exponent) : Type 0 where
  pub front : List ℕ
  pub rest : List ℕ
  pub e : ℕ
  pub parts : bytes ≡ front ++ rest
  pub len : length front ≡ found.len
  pub is : IsExponent front e
  pub value : found.value ≡ min e 128

no_exponent : (bytes : List ℕ) → HasExponent bytes (exponent 0 0)
no_exponent bytes = record { front = []; rest = bytes; e = 0; parts = refl; len = refl; is = none refl refl; value = refl }

-- the digits of an exponent stand after these bytes
abbrev LeadsIn : List ℕ → Type 0
LeadsIn before = (digits : List ℕ) → IsNumeral 10 digits → IsExponent (before ++ digits) (numeral_value 10 digits)

by_digits : (before bytes : List ℕ) (n : ℕ) → length before ≡ n → LeadsIn before → (t : Bool) → eqb (numeral_len 10 bytes) 0 ≡ t
    → HasExponent (before ++ bytes) (cond t (exponent 0 0) (exponent (n + numeral_len 10 bytes) (min (numeral_value 10 (take (numeral_len 10 bytes) bytes)) 128)))
by_digits before bytes n len leads true e = no_exponent (before ++ bytes)
by_digits before bytes n len leads false e = elim (numeral 10 bytes) [
  | inl f ↦ absurd (eqb-false (numeral_len 10 bytes) 0 e f)
  | inr r ↦ record {
    front = before ++ r.front;
    rest = r.rest;
    e = numeral_value 10 r.front;
    parts = ap (λ (x : List ℕ). before ++ x) r.parts ∙ sym (append_assoc before r.front r.rest);
    len = omega (arith, length-append before r.front, r.len);
    is = leads r.front r.is;
    value = ap (λ (x : List ℕ). min (numeral_value 10 x) 128) (numeral_front 10 bytes (numeral_len 10 bytes) r);
  }
]

exponent_by-found : (before bytes : List ℕ) (n : ℕ) → length before ≡ n → LeadsIn before → HasExponent (before ++ bytes) (exponent_by n bytes)
unfolding exponent_by
exponent_by-found before bytes n len leads = by_digits before bytes n len leads (eqb (numeral_len 10 bytes) 0) refl

letter_leads : (b : ℕ) → (b ≡ 69) ⊎ (b ≡ 101) → LeadsIn (b ∷ [])
letter_leads b l digits d = some b [] digits refl l (inl refl) d refl

plus_leads : (b c : ℕ) → (b ≡ 69) ⊎ (b ≡ 101) → c ≡ 43 → LeadsIn (b ∷ c ∷ [])
plus_leads b c l e digits d = some b (c ∷ []) digits refl l (inr (ap (λ (x : ℕ). x ∷ []) e)) d refl

following_letter : (b : ℕ) (bytes : List ℕ) → (b ≡ 69) ⊎ (b ≡ 101) → HasExponent (b ∷ bytes) (exponent_following bytes)
following_letter b [] l = exponent_by-found (b ∷ []) [] 1 refl (letter_leads b l)
following_letter b (c ∷ bytes) l = by_plus (eqb c 43) refl
  where
    by_plus : (t : Bool) → eqb c 43 ≡ t → HasExponent (b ∷ c ∷ bytes) (cond t (exponent_by 2 bytes) (exponent_by 1 (c ∷ bytes)))
    by_plus true e = exponent_by-found (b ∷ c ∷ []) bytes 2 refl (plus_leads b c l (eqb-true c 43 e))
    by_plus false e = exponent_by-found (b ∷ []) (c ∷ bytes) 1 refl (letter_leads b l)

letter_is : (b : ℕ) → (eqb b 69 || eqb b 101) ≡ true → (b ≡ 69) ⊎ (b ≡ 101)
letter_is b e = elim (or_cases (eqb b 69) (eqb b 101) e) [ inl h ↦ inl (eqb-true b 69 h) | inr h ↦ inr (eqb-true b 101 h) ]

pub exponent_at-found : (bytes : List ℕ) → HasExponent bytes (exponent_at bytes)
exponent_at-found [] = no_exponent []
exponent_at-found (b ∷ bytes) = by_letter (eqb b 69 || eqb b 101) refl
  where
    by_letter : (t : Bool) → (eqb b 69 || eqb b 101) ≡ t → HasExponent (b ∷ bytes) (cond t (exponent_following bytes) (exponent 0 0))
    by_letter true e = following_letter b bytes (letter_is b e)
    by_letter false e = no_exponent (b ∷ bytes)

-- ---- and no longer one stands there

exponent_by-ge : (n : ℕ) (digits rest : List ℕ) → IsNumeral 10 digits → n + length digits ≤ (exponent_by n (digits ++ rest)).len
unfolding exponent_by
exponent_by-ge n digits rest d =
    let ge = numeral_len-ge 10 digits rest (omega arith) d in
    let some = numeral_some 10 digits d in
    let e : eqb (numeral_len 10 (digits ++ rest)) 0 ≡ false = ne_eqb (numeral_len 10 (digits ++ rest)) 0 (λ f. omega arith) in
    let len : (exponent_by n (digits ++ rest)).len ≡ n + numeral_len 10 (digits ++ rest) =
    ap (λ (t : Bool). (cond t (exponent 0 0) (exponent (n + numeral_len 10 (digits ++ rest)) (min (numeral_value 10 (take (numeral_len 10 (digits ++ rest)) (digits ++ rest))) 128))).len) e in
    omega arith

digit_no_plus : (c : ℕ) → digit_value c < 10 → eqb c 43 ≡ false
digit_no_plus c h = ne_eqb c 43 (λ e. plus_no_digit c e h)
  where
    plus_no_digit : (x : ℕ) → x ≡ 43 → digit_value x < 10 → ⊥
    plus_no_digit x e g = let f : digit_value x ≡ 36 = ap digit_value e in omega arith

following_letter-ge : (sign digits rest : List ℕ) → (sign ≡ []) ⊎ (sign ≡ codes "+") → IsNumeral 10 digits → suc (length sign + length digits) ≤ (exponent_following ((sign ++ digits) ++ rest)).len
following_letter-ge sign [] rest s d = absurd d
following_letter-ge sign (c ∷ digits) rest (inl s) d =
    let ge = exponent_by-ge 1 (c ∷ digits) rest d in
    let len : (exponent_following ((sign ++ (c ∷ digits)) ++ rest)).len ≡ (exponent_by 1 (c ∷ (digits ++ rest))).len =
    ap (λ (x : List ℕ). (exponent_following ((x ++ (c ∷ digits)) ++ rest)).len) s
    ∙ ap (λ (t : Bool). (cond t (exponent_by 2 (digits ++ rest)) (exponent_by 1 (c ∷ (digits ++ rest)))).len) (digit_no_plus c d.0) in
    omega (arith, ap length s)
following_letter-ge sign (c ∷ digits) rest (inr s) d =
    let ge = exponent_by-ge 2 (c ∷ digits) rest d in
    let len : (exponent_following ((sign ++ (c ∷ digits)) ++ rest)).len ≡ (exponent_by 2 (c ∷ (digits ++ rest))).len = ap (λ (x : List ℕ). (exponent_following ((x ++ (c ∷ digits)) ++ rest)).len) s in
    omega (arith, ap length s)

letter_found : (b : ℕ) (bytes : List ℕ) → (b ≡ 69) ⊎ (b ≡ 101) → (exponent_at (b ∷ bytes)).len ≡ (exponent_following bytes).len
letter_found b bytes (inl e) = ap (λ (x : ℕ). (exponent_at (x ∷ bytes)).len) e
letter_found b bytes (inr e) = ap (λ (x : ℕ). (exponent_at (x ∷ bytes)).len) e

pub exponent_at-ge : (x rest : List ℕ) (e : ℕ) → IsExponent x e → length x ≤ (exponent_at (x ++ rest)).len
exponent_at-ge x rest e (none p v) = omega (arith, ap length p)
exponent_at-ge x rest e (some letter sign digits p l s d v) =
    let ge = following_letter-ge sign digits rest s d in
    let len : (exponent_at (x ++ rest)).len ≡ (exponent_following ((sign ++ digits) ++ rest)).len = ap (λ (y : List ℕ). (exponent_at (y ++ rest)).len) p ∙ letter_found letter ((sign ++ digits) ++ rest) l in
    omega (arith, ap length p, length-append sign digits)
