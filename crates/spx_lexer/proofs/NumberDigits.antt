-- The digits of the longest number before a text, and their base.
use Rattle.std.proofs.Common.{◌≡◌, ℕ, ◌+◌, ◌*◌, ◌^◌, ◌≤◌, Bool, true, false, cond, not, List, [], ◌∷◌, ◌++◌, take, drop, length, nat_lt, nat_le, Option, Some, None, inl, inr, refl, sym, ap, subst, ◌∙◌, arith, eqb, append_assoc, length-append}
use Rattle.std.proofs.Math.Path.{ap₂}
use Rattle.std.specs.Prelude.{◌&&◌}
use Rattle.std.proofs.lemmas.Bool.{eqb-true, and_parts, and_from, leb-true, le-leb, lt-ltb, ltb-true}
use Rattle.std.proofs.lemmas.List.{take_at, drop_at}
use Rattle.spx_tree.specs.Numbers.{IsNumeral, numeral_value, IsExponent, IsNumber, decimal, based}
use Rattle.spx_tree.proofs.Numbers.{stops, is_numeral_byte, hash_stops}
use Rattle.spx_lexer.specs.declared.lexer.numbers.Digits.{Digits}
use Rattle.spx_lexer.specs.Pieces.{numeral_len, fitting, base_of, begins_with_hash, digits, closed_digits, based_digits, digits_by, digits_at}
use Rattle.spx_lexer.proofs.Numerals.{Numeral, numeral, numeral_front, numeral_following, numeral_len-ge, numeral_some, numeral_len-exact}
use Rattle.spx_lexer.proofs.Fitting.{fitting-small, fitting-some}

-- bytes are digits of this value, of base 10 or after their base
pub data AreDigits (bytes : List ℕ) (base value : ℕ) : Type 0 where
  plain : IsNumeral 10 bytes → base ≡ 10 → value ≡ numeral_value 10 bytes → AreDigits bytes base value
  closed : (whole inner : List ℕ) → bytes ≡ whole ++ (35 ∷ (inner ++ (35 ∷ []))) → IsNumeral 10 whole → base ≡ numeral_value 10 whole → 2 ≤ base → base ≤ 16 → IsNumeral base inner → value ≡ numeral_value base inner → AreDigits bytes base value

closed_before : (whole inner x : List ℕ) → (whole ++ (35 ∷ (inner ++ (35 ∷ [])))) ++ x ≡ whole ++ (35 ∷ (inner ++ (35 ∷ x)))
closed_before whole inner x = append_assoc whole (35 ∷ (inner ++ (35 ∷ []))) x ∙ ap (λ (y : List ℕ). whole ++ (35 ∷ y)) (append_assoc inner (35 ∷ []) x)

-- with an exponent they are a number
pub number_from : (front x : List ℕ) (base value e : ℕ) → AreDigits front base value → IsExponent x e → IsNumber (front ++ x) (value * base ^ e)
number_from front x base value e (plain w b v) h = decimal front x e refl w h (ap₂ (λ (n c : ℕ). n * c ^ e) v b)
number_from front x base value e (closed whole inner p w b lo hi d v) h =
    based whole inner x e (ap (λ (y : List ℕ). y ++ x) p ∙ closed_before whole inner x) w (subst (λ (c : ℕ). 2 ≤ c) b lo) (subst (λ (c : ℕ). c ≤ 16) b hi) (subst (λ (c : ℕ). IsNumeral c inner) b d) h
    (ap₂ (λ (n c : ℕ). n * c ^ e) (v ∙ ap (λ (c : ℕ). numeral_value c inner) b) b)

pub two_at_least : (front : List ℕ) (base value : ℕ) → AreDigits front base value → 2 ≤ base
two_at_least front base value (plain w b v) = omega arith
two_at_least front base value (closed whole inner p w b lo hi d v) = lo

-- ---- what is found

pub record HasDigits (bytes : List ℕ) (found : Digits) : Type 0 where
  pub front : List ℕ
  pub rest : List ℕ
  pub value : ℕ
  pub parts : bytes ≡ front ++ rest
  pub len : length front ≡ found.len
  pub are : AreDigits front found.base value
  pub fits : found.value ≡ fitting value

record Closed (base : ℕ) (bytes : List ℕ) (found : Digits) : Type 0 where
  inner : List ℕ
  rest : List ℕ
  parts : bytes ≡ inner ++ (35 ∷ rest)
  is : IsNumeral base inner
  found_is : found ≡ digits (length inner + 2) base (fitting (numeral_value base inner))

abbrev IsClosed : ℕ → List ℕ → Option Digits → Type 0
IsClosed base bytes None = Unit {0}
IsClosed base bytes (Some found) = Closed base bytes found

closing : (bytes rest : List ℕ) → bytes ≡ rest → begins_with_hash bytes ≡ true → (following : List ℕ) × (rest ≡ 35 ∷ following)
closing bytes [] e h = let f : begins_with_hash [] ≡ true = ap begins_with_hash (sym e) ∙ h in absurd cc
closing bytes (c ∷ following) e h = (following, ap (λ (x : ℕ). x ∷ following) (eqb-true c 35 (ap begins_with_hash (sym e) ∙ h)))

closed_digits-found : (base : ℕ) (bytes : List ℕ) → IsClosed base bytes (closed_digits base bytes)
unfolding closed_digits
closed_digits-found base bytes = by_test (nat_lt 0 (numeral_len base bytes) && begins_with_hash (drop (numeral_len base bytes) bytes)) refl
  where
    by_test : (t : Bool) → (nat_lt 0 (numeral_len base bytes) && begins_with_hash (drop (numeral_len base bytes) bytes)) ≡ t
        → IsClosed base bytes (cond t (Some (digits (numeral_len base bytes + 2) base (fitting (numeral_value base (take (numeral_len base bytes) bytes))))) None)
    by_test false e = tt
    by_test true e =
        let n = numeral_len base bytes in
        let h = and_parts (nat_lt 0 n) (begins_with_hash (drop n bytes)) e in
        elim (numeral base bytes) [
          | inl none ↦ absurd (omega (arith, ltb-true 0 n h.0))
          | inr r ↦
              let c = closing (drop n bytes) r.rest (numeral_following base bytes n r) h.1 in
              record {
                inner = r.front;
                rest = c.0;
                parts = r.parts ∙ ap (λ (x : List ℕ). r.front ++ x) c.1;
                is = r.is;
                found_is = ap₂ (λ (k : ℕ) (x : List ℕ). digits (k + 2) base (fitting (numeral_value base x))) (sym r.len) (numeral_front base bytes n r);
              }
        ]

record IsBase (b n : ℕ) : Type 0 where
  same : b ≡ n
  least : 2 ≤ b
  most : b ≤ 16

base_by : (b n v : ℕ) (t : Bool) → v ≡ n → (nat_le 2 v && nat_le v 16) ≡ t → Some b ≡ cond t (Some v) None → IsBase b n
base_by b n v false same e f = absurd cc
base_by b n v true same e f =
    let h = and_parts (nat_le 2 v) (nat_le v 16) e in
    let is : b ≡ v = cc in
    record { same = is ∙ same; least = omega (arith, leb-true 2 v h.0); most = omega (arith, leb-true v 16 h.1) }

base_is : (b n : ℕ) (o : Option ℕ) → o ≡ fitting n → Some b ≡ base_of o → IsBase b n
unfolding base_of
base_is b n None e f = absurd cc
base_is b n (Some v) e f = base_by b n v (nat_le 2 v && nat_le v 16) (fitting-some n v e).0 refl f

-- the numeral at the front, which may be a base for the digits after it
module _ (bytes : List ℕ) (len : ℕ) (r : Numeral 10 bytes len) where
  plain_found : HasDigits bytes (digits len 10 (fitting (numeral_value 10 r.front)))
  plain_found = record { front = r.front; rest = r.rest; value = numeral_value 10 r.front; parts = r.parts; len = r.len; are = plain r.is refl refl; fits = refl }

  closed_found : (base : ℕ) (inner : List ℕ) (found : Digits) → IsBase base (numeral_value 10 r.front) → r.rest ≡ 35 ∷ inner → Closed base inner found → HasDigits bytes (digits_by len (fitting (numeral_value 10 r.front)) (Some found))
  closed_found base inner found b e k =
      let f = k.found_is in
      record {
        front = r.front ++ (35 ∷ (k.inner ++ (35 ∷ [])));
        rest = k.rest;
        value = numeral_value base k.inner;
        parts = r.parts ∙ ap (λ (x : List ℕ). r.front ++ x) (e ∙ ap (λ (x : List ℕ). 35 ∷ x) k.parts) ∙ sym (closed_before r.front k.inner k.rest);
        len = omega (arith, r.len, length-append r.front (35 ∷ (k.inner ++ (35 ∷ []))), length-append k.inner (35 ∷ []), ap (λ (d : Digits). d.len) f);
        are = subst (λ (c : ℕ). AreDigits (r.front ++ (35 ∷ (k.inner ++ (35 ∷ [])))) c (numeral_value base k.inner)) (sym (ap (λ (d : Digits). d.base) f)) (closed r.front k.inner refl r.is b.same b.least b.most k.is refl);
        fits = ap (λ (d : Digits). d.value) f;
      }

  by_closing : (base : ℕ) (inner : List ℕ) (o : Option Digits) → IsBase base (numeral_value 10 r.front) → r.rest ≡ 35 ∷ inner → IsClosed base inner o → HasDigits bytes (digits_by len (fitting (numeral_value 10 r.front)) o)
  by_closing base inner None b e k = plain_found
  by_closing base inner (Some found) b e k = closed_found base inner found b e k

  by_hash : (base c : ℕ) (inner : List ℕ) (t : Bool) → IsBase base (numeral_value 10 r.front) → r.rest ≡ c ∷ inner → eqb c 35 ≡ t → HasDigits bytes (digits_by len (fitting (numeral_value 10 r.front)) (cond t (closed_digits base inner) None))
  by_hash base c inner false b e h = plain_found
  by_hash base c inner true b e h = by_closing base inner (closed_digits base inner) b (e ∙ ap (λ (x : ℕ). x ∷ inner) (eqb-true c 35 h)) (closed_digits-found base inner)

  by_base : (o : Option ℕ) (rest : List ℕ) → o ≡ base_of (fitting (numeral_value 10 r.front)) → r.rest ≡ rest → HasDigits bytes (digits_by len (fitting (numeral_value 10 r.front)) (based_digits o rest))
  by_base None rest e f = plain_found
  by_base (Some base) [] e f = plain_found
  by_base (Some base) (c ∷ inner) e f = by_hash base c inner (eqb c 35) (base_is base (numeral_value 10 r.front) (fitting (numeral_value 10 r.front)) refl e) f refl

-- what is found where a numeral has this length and these bytes, and those stand after it
abbrev found_by : ℕ → List ℕ → List ℕ → Digits
found_by len whole following = digits_by len (fitting (numeral_value 10 whole)) (based_digits (base_of (fitting (numeral_value 10 whole))) following)

pub digits_at-found : (bytes : List ℕ) → Numeral 10 bytes (numeral_len 10 bytes) → HasDigits bytes (digits_at bytes)
unfolding digits_at
digits_at-found bytes r =
    let len = numeral_len 10 bytes in
    subst (HasDigits bytes) (ap₂ (found_by len) (sym (numeral_front 10 bytes len r)) (sym (numeral_following 10 bytes len r)))
    (by_base bytes len r (base_of (fitting (numeral_value 10 r.front))) r.rest refl refl)

-- ---- and no longer ones stand there

digits_by-ge : (len : ℕ) (value : Option ℕ) (o : Option Digits) → len ≤ (digits_by len value o).len
digits_by-ge len value None = omega arith
digits_by-ge len value (Some found) = omega arith

pub digits_at-ge : (whole rest : List ℕ) → IsNumeral 10 whole → length whole ≤ (digits_at (whole ++ rest)).len
unfolding digits_at
digits_at-ge whole rest w =
    let bytes = whole ++ rest in
    let len = numeral_len 10 bytes in
    let value = fitting (numeral_value 10 (take len bytes)) in
    omega (arith, numeral_len-ge 10 whole rest (omega arith) w, digits_by-ge len value (based_digits (base_of value) (drop len bytes)))

-- where no byte of a numeral stands after it, the numeral at the front is this one
module _ (whole rest : List ℕ) (w : IsNumeral 10 whole) (end : stops (is_numeral_byte 10) rest ≡ true) where
  found_exactly : digits_at (whole ++ rest) ≡ found_by (length whole) whole rest
  unfolding digits_at
  found_exactly =
      let bytes = whole ++ rest in
      let len : numeral_len 10 bytes ≡ length whole = numeral_len-exact 10 whole rest (omega arith) w end in
      ap (λ (n : ℕ). found_by n (take n bytes) (drop n bytes)) len ∙ ap₂ (found_by (length whole)) (take_at whole rest (length whole) refl) (drop_at whole rest (length whole) refl)

no_base : (o : Option ℕ) (c : ℕ) (rest : List ℕ) → eqb c 35 ≡ false → based_digits o (c ∷ rest) ≡ None
no_base None c rest e = refl
no_base (Some base) c rest e = ap (λ (t : Bool). cond t (closed_digits base rest) None) e

pub digits_at-plain : (whole : List ℕ) (c : ℕ) (rest : List ℕ) → IsNumeral 10 whole → not (is_numeral_byte 10 c) ≡ true → eqb c 35 ≡ false → (digits_at (whole ++ (c ∷ rest))).len ≡ length whole
digits_at-plain whole c rest w end no_hash =
    ap (λ (d : Digits). d.len) (found_exactly whole (c ∷ rest) w end)
    ∙ ap (λ (o : Option Digits). (digits_by (length whole) (fitting (numeral_value 10 whole)) o).len) (no_base (base_of (fitting (numeral_value 10 whole))) c rest no_hash)

small_base : (n : ℕ) → 2 ≤ n → n ≤ 16 → Some n ≡ base_of (fitting n)
unfolding base_of
small_base n lo hi = sym (ap (λ (t : Bool). cond t (Some n) None) (and_from (nat_le 2 n) (nat_le n 16) (le-leb 2 n lo) (le-leb n 16 hi))) ∙ ap base_of (fitting-small n (omega arith))

closed_exactly : (base : ℕ) (inner rest : List ℕ) → base ≤ 16 → IsNumeral base inner → Some (digits (length inner + 2) base (fitting (numeral_value base inner))) ≡ closed_digits base (inner ++ (35 ∷ rest))
unfolding closed_digits
closed_exactly base inner rest hi d =
    let bytes = inner ++ (35 ∷ rest) in
    let len : numeral_len base bytes ≡ length inner = numeral_len-exact base inner (35 ∷ rest) hi d (hash_stops base rest hi) in
    let rule : ℕ → List ℕ → List ℕ → Option Digits = λ n x y. cond (nat_lt 0 n && begins_with_hash y) (Some (digits (n + 2) base (fitting (numeral_value base x)))) None in
    let test : (nat_lt 0 (length inner) && true) ≡ true = and_from (nat_lt 0 (length inner)) true (lt-ltb 0 (length inner) (numeral_some base inner d)) refl in
    sym (
    ap (λ (n : ℕ). rule n (take n bytes) (drop n bytes)) len
    ∙ ap₂ (rule (length inner)) (take_at inner (35 ∷ rest) (length inner) refl) (drop_at inner (35 ∷ rest) (length inner) refl)
    ∙ ap (λ (t : Bool). cond t (Some (digits (length inner + 2) base (fitting (numeral_value base inner)))) None) test
    )

pub digits_at-closed : (whole inner rest : List ℕ) → IsNumeral 10 whole → 2 ≤ numeral_value 10 whole → numeral_value 10 whole ≤ 16 → IsNumeral (numeral_value 10 whole) inner
    → (digits_at (whole ++ (35 ∷ (inner ++ (35 ∷ rest))))).len ≡ length whole + (length inner + 2)
digits_at-closed whole inner rest w lo hi d =
    let base = numeral_value 10 whole in
    let following = inner ++ (35 ∷ rest) in
    ap (λ (d : Digits). d.len) (found_exactly whole (35 ∷ following) w refl)
    ∙ ap (λ (o : Option ℕ). (digits_by (length whole) (fitting base) (based_digits o (35 ∷ following))).len) (sym (small_base base lo hi))
    ∙ ap (λ (o : Option Digits). (digits_by (length whole) (fitting base) o).len) (sym (closed_exactly base inner rest hi d))
