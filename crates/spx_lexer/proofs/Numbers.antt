-- A number that is found, or is spoiled or too wide.
use Rattle.std.proofs.Common.{◌≡◌, inl, inr, ℕ, suc, ◌≤◌, ◌<◌, ◌^◌, Bool, true, false, cond, List, [], ◌∷◌, ◌++◌, drop, get_or, length, Option, Some, None, Result, Ok, Err, refl, sym, ap, subst, ◌∙◌, arith, append_assoc, ℤ, pos, ltb, leb}
use Rattle.std.specs.Prelude.{◌<ℤ◌, ◌≤ℤ◌, IfOk}
use Rattle.std.specs.Char.{is_ascii_digit, digit_value}
use Rattle.std.proofs.lemmas.Bool.{both_ways, ltb-true, ltb-false, and_parts, leb-true, leb-false, lt-ltb, le-ltb}
use Rattle.std.proofs.lemmas.Int.{ints}
use Rattle.std.proofs.lemmas.List.{drop_at}
use Rattle.std.proofs.lemmas.Str.{digit_value_digit}
use Rattle.spx_tree.specs.declared.token.Kind.TheVariants as kind
use Rattle.spx_tree.specs.Lexemes.{word, numeral, delimiter, IsMaximal, spoils_number}
use Rattle.spx_tree.specs.Numbers.{IsNumber}
use Rattle.spx_tree.specs.Spells.{lexeme, BeginsWith, Stands}
use Rattle.spx_tree.proofs.Numbers.{no_empty_number, number_digit}
use Rattle.spx_tree.proofs.Shapes.{digit_plain, letter_no_digit, delimiter_mark}
use Rattle.spx_lexer.specs.declared.lexer.pieces.Piece.{Piece}
use Rattle.spx_lexer.specs.declared.lexer.pieces.Cause.{Cause}
use Rattle.spx_lexer.specs.declared.lexer.pieces.Cause.TheVariants as cause
use Rattle.spx_lexer.specs.Pieces.{is_digit, numeral_rest_len, numeral_len, fitting, as_integer, number_of, number_in, number_at}
use Rattle.spx_lexer.proofs.Numerals.{Numeral}
use Rattle.spx_lexer.proofs.Numerals as longest
use Rattle.spx_lexer.proofs.LongestNumber.{HasNumber, number_in-found, number_in-longest}
use Rattle.spx_lexer.proofs.Found.{Finds, nil_by_len, not_hyphen}

-- a numeral stands where a digit does
digit_passes : (b : ℕ) → is_ascii_digit b ≡ true → is_digit 10 b ≡ true
unfolding is_digit
digit_passes b e = let h = and_parts _ _ e in lt-ltb (digit_value b) 10 (omega (arith, leb-true 48 b h.0, leb-true b 57 h.1, digit_value_digit b (leb-true 48 b h.0, leb-true b 57 h.1)))

pub numeral_at : (b : ℕ) (bs : List ℕ) → is_ascii_digit b ≡ true → Numeral 10 (b ∷ bs) (numeral_len 10 (b ∷ bs))
numeral_at b bs dg =
    let len : numeral_len 10 (b ∷ bs) ≡ suc (numeral_rest_len 10 bs) = ap (λ (t : Bool). cond t (suc (numeral_rest_len 10 bs)) 0) (digit_passes b dg) in
    elim (longest.numeral 10 (b ∷ bs)) [ inl none ↦ absurd (omega arith) | inr r ↦ r ]

number_some : (b : ℕ) (bs : List ℕ) → is_ascii_digit b ≡ true → 1 ≤ (number_in (b ∷ bs)).len
number_some b bs dg = let h = number_in-found (b ∷ bs) (numeral_at b bs dg) in some_bytes h.front h.n h.is h.len
  where
    some_bytes : (front : List ℕ) (n : ℕ) → IsNumber front n → length front ≡ (number_in (b ∷ bs)).len → 1 ≤ (number_in (b ∷ bs)).len
    some_bytes [] n d e = absurd (no_empty_number n d)
    some_bytes (c ∷ front) n d e = omega arith

sized_by : (o : Result Piece Cause) (n most : ℕ) → 1 ≤ n → IfOk o (λ p. (p.len ≡ n) × (p.len ≤ most)) → IfOk o (λ p. (1 ≤ p.len) × (p.len ≤ most))
sized_by (Ok p) n most some h = (omega (arith, h), h.1)
sized_by (Err c) n most some h = tt

-- a number that is found has a byte
pub number_sized : (o : Result Piece Cause) (bytes : List ℕ) → 1 ≤ length bytes → is_ascii_digit (get_or bytes 0 0) ≡ true → IfOk o (λ p. (p.len ≡ (number_in bytes).len) × (p.len ≤ length bytes)) → IfOk o (λ p. (1 ≤ p.len) × (p.len ≤ length bytes))
number_sized o [] some dg h = absurd (omega arith)
number_sized o (b ∷ bs) some dg h = sized_by o (number_in (b ∷ bs)).len (length (b ∷ bs)) (number_some b bs dg) h

number_maximal : (m : Bool) (front rest : List ℕ) (n : ℕ) → IsNumber front n → length front ≡ (number_in (front ++ rest)).len → IsMaximal m front rest
number_maximal m [] rest n d len more following k v e l = absurd (no_empty_number n d)
number_maximal m (b ∷ front) rest n d len more following k v e (word w f g) = absurd (both_ways (is_ascii_digit b) (letter_no_digit b w.0) (number_digit b front n d))
number_maximal m (b ∷ front) rest n d len more following k v e (numeral o c f g) =
    let same : ((b ∷ front) ++ more) ++ following ≡ (b ∷ front) ++ rest = append_assoc (b ∷ front) more following ∙ ap (λ (x : List ℕ). (b ∷ front) ++ x) (sym e) in
    nil_by_len (b ∷ front) more (omega (arith, number_in-longest ((b ∷ front) ++ more) following o c, ap (λ (x : List ℕ). (number_in x).len) same))
number_maximal m (b ∷ front) rest n d len more following k v e (delimiter f g) = absurd (both_ways (is_ascii_digit b) (delimiter_mark m b (front ++ more) k f).no_digit (number_digit b front n d))

no_lone_hyphen : (bytes rest : List ℕ) (n : ℕ) → IsNumber bytes n → bytes ≡ 45 ∷ [] → BeginsWith 45 rest → ⊥
no_lone_hyphen [] rest n d e f = absurd cc
no_lone_hyphen (b ∷ bs) rest n d e f = not_hyphen b bs rest (digit_plain b (number_digit b bs n d)).no_hyphen e f

pub number_stands : (m : Bool) (bytes : List ℕ) (h : HasNumber bytes (number_in bytes)) → Stands m (lexeme kind.Number (pos h.n)) h.front h.rest
number_stands m bytes h =
    (numeral h.n h.is refl refl, number_maximal m h.front h.rest h.n h.is (h.len ∙ ap (λ (x : List ℕ). (number_in x).len) h.parts), no_lone_hyphen h.front h.rest h.n h.is)

below_wide : (n : ℕ) → n < 2 ^ 127 → pos n <ℤ pos (2 ^ 127)
below_wide n h = omega (arith, ints)

wide : (n : ℕ) → 2 ^ 127 ≤ n → pos (2 ^ 127) ≤ℤ pos n
wide n h = omega (arith, ints)

-- a value that is not too wide is one that is at most 2**127 and is not 2**127
as_integer-fitting : (n : ℕ) → as_integer (fitting n) ≡ cond (ltb n (2 ^ 127)) (Some (pos n)) None
unfolding fitting
as_integer-fitting n = by_order (leb n (2 ^ 127)) refl
  where
    by_order : (t : Bool) → leb n (2 ^ 127) ≡ t → as_integer (cond t (Some n) None) ≡ cond (ltb n (2 ^ 127)) (Some (pos n)) None
    by_order true e = refl
    by_order false e = ap (λ (t : Bool). cond t (Some (pos n)) None) (sym (le-ltb n (2 ^ 127) (omega (arith, leb-false n (2 ^ 127) e))))

-- what is found, by the two tests
number_finds : (m : Bool) (bytes : List ℕ) (h : HasNumber bytes (number_in bytes)) (spoiled fits : Bool) → spoils_number h.rest ≡ spoiled → ltb h.n (2 ^ 127) ≡ fits
    → Finds m bytes (cond spoiled (Err cause.BadNumber) (number_of (cond fits (Some (pos h.n)) None) (number_in bytes).len))
number_finds m bytes h true fits e f = (pos h.n, h.front, h.rest, h.parts, number_stands m bytes h, e)
number_finds m bytes h false false e f = (pos h.n, h.front, h.rest, h.parts, number_stands m bytes h, e, wide h.n (ltb-false h.n (2 ^ 127) f))
number_finds m bytes h false true e f =
    record { front = h.front; rest = h.rest; parts = h.parts; len = h.len; stands = number_stands m bytes h; sound = λ g. (e, below_wide h.n (ltb-true h.n (2 ^ 127) f)) }

pub number_found : (m : Bool) (b : ℕ) (bs : List ℕ) → is_ascii_digit b ≡ true → Finds m (b ∷ bs) (number_at (b ∷ bs))
unfolding number_at
number_found m b bs dg =
    let bytes = b ∷ bs in
    let h = number_in-found bytes (numeral_at b bs dg) in
    let found = number_in bytes in
    let rest : drop found.len bytes ≡ h.rest = ap (drop found.len) h.parts ∙ drop_at h.front h.rest found.len h.len in
    subst (λ (o : Option ℤ). Finds m bytes (cond (spoils_number (drop found.len bytes)) (Err cause.BadNumber) (number_of o found.len))) (sym (ap as_integer h.fits ∙ as_integer-fitting h.n))
    (subst (λ (x : List ℕ). Finds m bytes (cond (spoils_number x) (Err cause.BadNumber) (number_of (cond (ltb h.n (2 ^ 127)) (Some (pos h.n)) None) found.len))) (sym rest)
    (number_finds m bytes h (spoils_number h.rest) (ltb h.n (2 ^ 127)) refl refl))
