-- Parts of a text stand where a computed test says so.
use Rattle.std.proofs.Common.{◌≡◌, inl, inr, ℕ, ◌<◌, Bool, true, false, not, List, [], ◌∷◌, ◌++◌, length, take, Option, Some, None, refl, sym, ap, subst, ◌∙◌, arith, append_assoc, ℤ, pos}
use Rattle.std.specs.Prelude.{◌&&◌, ◌||◌, ◌==◌, ◌^◌, ◌<ℤ◌, IsFalse, codes}
use Rattle.std.specs.List.{list_all}
use Rattle.std.specs.Char.{is_ascii_digit, is_ascii_alphabetic, is_ascii_alphanumeric, digit_value}
use Rattle.std.specs.Str.{bytes_eq, byte}
use Rattle.std.proofs.Math.Dec.{ltb}
use Rattle.std.proofs.Math.Seq.{take-append_seam}
use Rattle.std.proofs.lemmas.Bool.{and_parts, and_from, both_ways, not-true, ltb-true}
use Rattle.std.proofs.lemmas.Int.{ints}
use Rattle.std.proofs.lemmas.List.{append-nil}
use Rattle.std.proofs.lemmas.List.Folds.{list_all-append}
use Rattle.std.proofs.lemmas.Slice.Eq.{bytes_eq-Decides}
use Rattle.spx_tree.specs.declared.token.Kind.{Kind}
use Rattle.spx_tree.specs.declared.token.Kind.TheVariants as kind
use Rattle.spx_tree.specs.declared.token.Token.{Token}
use Rattle.spx_tree.specs.Lexemes.{IsWordRest, IsAfterUnderscore, IsWord, kind_of_word, kind_of, delimiters, IsLexeme, word, numeral, delimiter, IsMaximal, spoils_number}
use Rattle.spx_tree.specs.Numbers.{IsNumeralRest, IsNumeral, numeral_value, none as no_exponent, IsNumber, decimal}
use Rattle.spx_tree.specs.Spells.{BeginsWith, Role, line_end, separator, head, lexeme, Stands, IsSound, Part, bytes_of, marked_following, AllStand, tokens_of, Spells}
use Rattle.spx_tree.proofs.Numbers.{is_number_byte, number_bytes, number_digit}
use Rattle.spx_tree.proofs.Shapes.{kind_of_passes}
use Rattle.spx_tree.proofs.OnlyDigits.{word_no_number, delimiter_no_number}

-- ---- bytes that begin no lexeme

-- a byte that a word may have after its first
abbrev is_word_byte : ℕ → Bool
is_word_byte b = is_ascii_alphanumeric b || b == byte "_"

-- a word may begin with these bytes
abbrev begins_word : List ℕ → Bool
begins_word [] = true
begins_word (b ∷ bs) = is_ascii_alphabetic b && list_all is_word_byte bs

-- a number may begin with these bytes
abbrev begins_number : List ℕ → Bool
begins_number [] = true
begins_number (b ∷ bs) = is_ascii_digit b && list_all is_number_byte bs

-- these bytes are the first of those
abbrev begins : List ℕ → List ℕ → Bool
begins front bytes = bytes_eq (take (length front) bytes) front

-- no word, no number and no delimiter begins with these bytes
abbrev begins_none : Bool → List ℕ → Bool
begins_none m front = not (begins_word front) && (not (begins_number front) && list_all (λ (e : List ℕ × Kind). not (begins front e.0)) (delimiters m))

mutual
  word_rest : (front more : List ℕ) → IsWordRest (front ++ more) → list_all is_word_byte front ≡ true
  word_rest [] more w = refl
  word_rest (b ∷ front) more (inl w) = ap (λ (t : Bool). (t || b == byte "_") && list_all is_word_byte front) w.0 ∙ word_rest front more w.1
  word_rest (b ∷ front) more (inr w) = ap (λ (c : ℕ). is_word_byte c && list_all is_word_byte front) w.0 ∙ after_underscore front more w.1

  after_underscore : (front more : List ℕ) → IsAfterUnderscore (front ++ more) → list_all is_word_byte front ≡ true
  after_underscore [] more w = refl
  after_underscore (b ∷ front) more w = ap (λ (t : Bool). (t || b == byte "_") && list_all is_word_byte front) w.0 ∙ word_rest front more w.1

word_begins : (front more : List ℕ) → IsWord (front ++ more) → begins_word front ≡ true
word_begins [] more w = refl
word_begins (b ∷ front) more w = ap (λ (t : Bool). t && list_all is_word_byte front) w.0 ∙ word_rest front more w.1

number_begins : (front more : List ℕ) (n : ℕ) → IsNumber (front ++ more) n → begins_number front ≡ true
number_begins [] more n d = refl
number_begins (b ∷ front) more n d =
    let all = and_parts (is_number_byte b) (list_all is_number_byte (front ++ more)) (number_bytes (b ∷ (front ++ more)) n d) in
    let here = and_parts (list_all is_number_byte front) (list_all is_number_byte more) (sym (list_all-append is_number_byte front more) ∙ all.1) in
    and_from (is_ascii_digit b) (list_all is_number_byte front) (number_digit b (front ++ more) n d) here.0

begins_itself : (front more : List ℕ) → begins front (front ++ more) ≡ true
begins_itself front more = (bytes_eq-Decides (take (length front) (front ++ more)) front).1 (take-append_seam front more)

no_lexeme : (m : Bool) (k : Kind) (n : ℤ) (front more : List ℕ) → begins_none m front ≡ true → IsLexeme m k n (front ++ more) → ⊥
no_lexeme m k n front more none l =
    let h = and_parts (not (begins_word front)) (not (begins_number front) && list_all (λ (e : List ℕ × Kind). not (begins front e.0)) (delimiters m)) none in
    let g = and_parts (not (begins_number front)) (list_all (λ (e : List ℕ × Kind). not (begins front e.0)) (delimiters m)) h.1 in
    elim l [
      | word w e f ↦ both_ways (begins_word front) (not-true (begins_word front) h.0) (word_begins front more w)
      | numeral v d e f ↦ both_ways (begins_number front) (not-true (begins_number front) g.0) (number_begins front more v d)
      | delimiter e f ↦ both_ways (begins front (front ++ more)) (not-true (begins front (front ++ more)) (kind_of_passes (λ (x : List ℕ). not (begins front x)) (delimiters m) (front ++ more) k g.1 e)) (begins_itself front more)
    ]

-- ---- lexemes

-- no lexeme goes on with the next byte
abbrev ends : Bool → List ℕ → List ℕ → Bool
ends m bytes [] = true
ends m bytes (c ∷ rest) = begins_none m (bytes ++ c ∷ [])

head_is : (x y : ℕ) (xs ys : List ℕ) → x ∷ xs ≡ y ∷ ys → y ≡ x
head_is x y xs ys e = cc

maximal : (m : Bool) (bytes rest : List ℕ) → ends m bytes rest ≡ true → IsMaximal m bytes rest
maximal m bytes rest h [] following k n e l = refl
maximal m bytes [] h (x ∷ more) following k n e l = absurd cc
maximal m bytes (c ∷ rest) h (x ∷ more) following k n e l =
    let longer : bytes ++ x ∷ more ≡ (bytes ++ c ∷ []) ++ more = ap (λ (y : ℕ). bytes ++ y ∷ more) (head_is c x rest (more ++ following) e) ∙ sym (append_assoc bytes (c ∷ []) more) in
    absurd (no_lexeme m k n (bytes ++ c ∷ []) more h (subst (IsLexeme m k n) longer l))

-- a hyphen comes next
abbrev hyphen_follows : List ℕ → Bool
hyphen_follows [] = false
hyphen_follows (b ∷ bs) = b == byte "-"

-- the lexeme ends there, and is no hyphen before another one
abbrev closes : Bool → List ℕ → List ℕ → Bool
closes m bytes rest = not (bytes_eq bytes (codes "-") && hyphen_follows rest) && ends m bytes rest

follows : (rest : List ℕ) → BeginsWith (byte "-") rest → hyphen_follows rest ≡ true
follows [] h = absurd h
follows (b ∷ rest) h = ap (λ (c : ℕ). c == byte "-") h

lexeme_stands : (m : Bool) (k : Kind) (n : ℤ) (bytes rest : List ℕ) → IsLexeme m k n bytes → closes m bytes rest ≡ true → Stands m (lexeme k n) bytes rest
lexeme_stands m k n bytes rest l h =
    let two = bytes_eq bytes (codes "-") && hyphen_follows rest in
    let p = and_parts (not two) (ends m bytes rest) h in
    (l, maximal m bytes rest p.1, λ e g. both_ways two (not-true two p.0) (and_from (bytes_eq bytes (codes "-")) (hyphen_follows rest) ((bytes_eq-Decides bytes (codes "-")).1 e) (follows rest g)))

-- a word without underscores
abbrev is_word : List ℕ → Bool
is_word [] = false
is_word (b ∷ bs) = is_ascii_alphabetic b && list_all is_ascii_alphanumeric bs

rest_is : (bs : List ℕ) → list_all is_ascii_alphanumeric bs ≡ true → IsWordRest bs
rest_is [] h = tt
rest_is (b ∷ bs) h = let p = and_parts (is_ascii_alphanumeric b) (list_all is_ascii_alphanumeric bs) h in inl (p.0, rest_is bs p.1)

word_is : (bytes : List ℕ) → is_word bytes ≡ true → IsWord bytes
word_is [] h = absurd cc
word_is (b ∷ bs) h = let p = and_parts (is_ascii_alphabetic b) (list_all is_ascii_alphanumeric bs) h in (p.0, rest_is bs p.1)

abbrev is_digit : ℕ → Bool
is_digit b = ltb (digit_value b) 10

-- digits, one or more
abbrev is_numeral : List ℕ → Bool
is_numeral [] = false
is_numeral (b ∷ bs) = list_all is_digit (b ∷ bs)

digits_are : (bs : List ℕ) → list_all is_digit bs ≡ true → IsNumeralRest 10 bs
digits_are [] h = tt
digits_are (b ∷ bs) h = let p = and_parts (is_digit b) (list_all is_digit bs) h in inl (ltb-true (digit_value b) 10 p.0, digits_are bs p.1)

numeral_is : (bytes : List ℕ) → is_numeral bytes ≡ true → IsNumeral 10 bytes
numeral_is [] h = absurd cc
numeral_is (b ∷ bs) h = let p = and_parts (is_digit b) (list_all is_digit bs) h in (ltb-true (digit_value b) 10 p.0, digits_are bs p.1)

-- a numeral is a number
pub number_is : (bytes : List ℕ) → IsNumeral 10 bytes → IsNumber bytes (numeral_value 10 bytes)
number_is bytes d = decimal bytes [] 0 (sym (append-nil bytes)) d (no_exponent refl refl) (omega arith)

-- digits with which the number ends
abbrev pub is_number : Bool → List ℕ → List ℕ → Bool
is_number m bytes rest = is_numeral bytes && closes m bytes rest

pub number_stands : (m : Bool) (bytes rest : List ℕ) → is_number m bytes rest ≡ true → Stands m (lexeme kind.Number (pos (numeral_value 10 bytes))) bytes rest
number_stands m bytes rest h =
    let p = and_parts (is_numeral bytes) (closes m bytes rest) h in
    lexeme_stands m kind.Number (pos (numeral_value 10 bytes)) bytes rest (numeral (numeral_value 10 bytes) (number_is bytes (numeral_is bytes p.0)) refl refl) p.1

-- ---- pieces

-- what a text is cut into: a word, the digits of a number, a delimiter, a space, the head `--#` of annotation text, the end of a line
pub data Piece : Type 0 where
  Word : List ℕ → Piece
  Digits : List ℕ → Piece
  Delimiter : List ℕ → Piece
  Space : Piece
  Head : Piece
  LineEnd : Piece

-- what a delimiter is, by the kind that it has
abbrev delimiter_role : Option Kind → Role
delimiter_role None = separator
delimiter_role (Some k) = lexeme k (pos 0)

-- what a piece is
abbrev pub role_of : Bool → Piece → Role
role_of m (Word bytes) = lexeme (kind_of_word m bytes) (pos 0)
role_of m (Digits bytes) = lexeme kind.Number (pos (numeral_value 10 bytes))
role_of m (Delimiter bytes) = delimiter_role (kind_of (delimiters m) bytes)
role_of m Space = separator
role_of m Head = head
role_of m LineEnd = line_end

-- its bytes
abbrev pub text_of : Piece → List ℕ
text_of (Word bytes) = bytes
text_of (Digits bytes) = bytes
text_of (Delimiter bytes) = bytes
text_of Space = codes " "
text_of Head = codes "--#"
text_of LineEnd = 10 ∷ []

-- the parts that pieces are
abbrev pub parts_of : Bool → List Piece → List Part
parts_of m [] = []
parts_of m (p ∷ ps) = record { role = role_of m p; bytes = text_of p } ∷ parts_of (marked_following (role_of m p) m) ps

abbrev is_some : Option Kind → Bool
is_some None = false
is_some (Some k) = true

-- a piece stands before this rest of the text
abbrev pub fits : Bool → Piece → List ℕ → Bool
fits m (Word bytes) rest = is_word bytes && closes m bytes rest
fits m (Digits bytes) rest = is_number m bytes rest && (not (spoils_number rest) && ltb (numeral_value 10 bytes) (2 ^ 127))
fits m (Delimiter bytes) rest = is_some (kind_of (delimiters m) bytes) && closes m bytes rest
fits m Head rest = not m
fits m _ rest = true

-- each piece stands before those after it, and this rest
abbrev pub all_fit : Bool → List Piece → List ℕ → Bool
all_fit m [] rest = true
all_fit m (p ∷ ps) rest = fits m p (bytes_of (parts_of (marked_following (role_of m p) m) ps) ++ rest) && all_fit (marked_following (role_of m p) m) ps rest

delimiter_stands : (m : Bool) (bytes rest : List ℕ) (o : Option Kind) → kind_of (delimiters m) bytes ≡ o → is_some o ≡ true → closes m bytes rest ≡ true → Stands m (delimiter_role o) bytes rest × IsSound (delimiter_role o) rest
delimiter_stands m bytes rest None e some h = absurd cc
delimiter_stands m bytes rest (Some k) e some h = (lexeme_stands m k (pos 0) bytes rest (delimiter e refl) h, λ f. absurd (delimiter_no_number m bytes k e f))

number_sound : (rest : List ℕ) (n : ℕ) → (not (spoils_number rest) && ltb n (2 ^ 127)) ≡ true → IsFalse (spoils_number rest) × (pos n <ℤ pos (2 ^ 127))
number_sound rest n h =
    let p = and_parts (not (spoils_number rest)) (ltb n (2 ^ 127)) h in
    let small : n < 2 ^ 127 = ltb-true n (2 ^ 127) p.1 in
    (not-true (spoils_number rest) p.0, omega (arith, ints))

piece_stands : (m : Bool) (p : Piece) (rest : List ℕ) → fits m p rest ≡ true → Stands m (role_of m p) (text_of p) rest × IsSound (role_of m p) rest
piece_stands m (Word bytes) rest h =
    let p = and_parts (is_word bytes) (closes m bytes rest) h in
    (lexeme_stands m (kind_of_word m bytes) (pos 0) bytes rest (word (word_is bytes p.0) refl refl) p.1, λ e. absurd (word_no_number m bytes e))
piece_stands m (Digits bytes) rest h =
    let p = and_parts (is_number m bytes rest) (not (spoils_number rest) && ltb (numeral_value 10 bytes) (2 ^ 127)) h in
    (number_stands m bytes rest p.0, λ e. number_sound rest (numeral_value 10 bytes) p.1)
piece_stands m (Delimiter bytes) rest h =
    let p = and_parts (is_some (kind_of (delimiters m) bytes)) (closes m bytes rest) h in
    delimiter_stands m bytes rest (kind_of (delimiters m) bytes) refl p.0 p.1
piece_stands m Space rest h = ((32, refl, refl), tt)
piece_stands m Head rest h = ((refl, not-true m h), tt)
piece_stands m LineEnd rest h = (refl, tt)

pub all_stand : (m : Bool) (ps : List Piece) (rest : List ℕ) → all_fit m ps rest ≡ true → AllStand m (parts_of m ps) rest
all_stand m [] rest h = tt
all_stand m (p ∷ ps) rest h =
    let next = marked_following (role_of m p) m in
    let here = and_parts (fits m p (bytes_of (parts_of next ps) ++ rest)) (all_fit next ps rest) h in
    let stands = piece_stands m p (bytes_of (parts_of next ps) ++ rest) here.0 in
    (stands.0, stands.1, all_stand next ps rest here.1)

-- pieces that fit spell a text
pub spelled_by : {file : ℕ} {bytes : List ℕ} {tokens : List Token} (ps : List Piece) → bytes_of (parts_of false ps) ≡ bytes → all_fit false ps [] ≡ true → tokens ≡ tokens_of file [] false (parts_of false ps) → Spells file bytes tokens
spelled_by ps whole fit are = record { parts = parts_of false ps; whole = whole; stand = all_stand false ps [] fit; are = are }
