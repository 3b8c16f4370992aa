-- What the lexer finds at a place of a text.
use Rattle.std.specs.Prelude.{ℕ, suc, ◌+◌, ◌*◌, ◌^◌, min, Bool, false, not, ◌&&◌, ◌||◌, if◌then◌else◌, ◌==◌, nat_lt, nat_le, List, [], ◌∷◌, take, drop, Option, Some, None, Result, Ok, Err, ℤ, pos}
use Rattle.std.specs.Char.{is_ascii_digit, is_ascii_alphabetic, is_ascii_alphanumeric, digit_value}
use Rattle.spx_tree.specs.declared.token.Kind.{Kind}
use Rattle.spx_tree.specs.declared.token.Kind.TheVariants as kind
use Rattle.spx_tree.specs.Lexemes.{kind_of_word, spoils_number}
use Rattle.spx_tree.specs.Numbers.{numeral_value}
use Rattle.spx_tree.specs.Spells.{is_separator}
use Rattle.spx_lexer.specs.declared.lexer.numbers.Digits.{Digits}
use Rattle.spx_lexer.specs.declared.lexer.numbers.Exponent.{Exponent}
use Rattle.spx_lexer.specs.declared.lexer.numbers.Number.{Number}
use Rattle.spx_lexer.specs.declared.lexer.pieces.What.{What}
use Rattle.spx_lexer.specs.declared.lexer.pieces.What.TheVariants as what
use Rattle.spx_lexer.specs.declared.lexer.pieces.Piece.{Piece}
use Rattle.spx_lexer.specs.declared.lexer.pieces.Cause.{Cause}
use Rattle.spx_lexer.specs.declared.lexer.pieces.Cause.TheVariants as cause

abbrev mutual
  pub word_rest_len : List ℕ → ℕ
  word_rest_len [] = 0
  word_rest_len (b ∷ bs) = if is_ascii_alphanumeric b then suc (word_rest_len bs) else (if b == 95 then underscore_len bs else 0)

  pub underscore_len : List ℕ → ℕ
  underscore_len [] = 0
  underscore_len (b ∷ bs) = if is_ascii_alphanumeric b then suc (suc (word_rest_len bs)) else 0

abbrev pub line_len : List ℕ → ℕ
line_len [] = 0
line_len (b ∷ bs) = if b == 10 then 0 else suc (line_len bs)

-- ---- numbers

unfoldable pub is_digit : ℕ → ℕ → Bool
is_digit base b = nat_lt (digit_value b) base

abbrev mutual
  pub numeral_rest_len : ℕ → List ℕ → ℕ
  numeral_rest_len base [] = 0
  numeral_rest_len base (b ∷ bs) = if is_digit base b then suc (numeral_rest_len base bs) else (if b == 95 then digit_following_len base bs else 0)

  pub digit_following_len : ℕ → List ℕ → ℕ
  digit_following_len base [] = 0
  digit_following_len base (b ∷ bs) = if is_digit base b then suc (suc (numeral_rest_len base bs)) else 0

abbrev pub numeral_len : ℕ → List ℕ → ℕ
numeral_len base [] = 0
numeral_len base (b ∷ bs) = if is_digit base b then suc (numeral_rest_len base bs) else 0

-- a value that is at most 2**127: after `-` this is the least value of 128 bits, and elsewhere it is too wide
unfoldable pub fitting : ℕ → Option ℕ
fitting n = if nat_le n (2 ^ 127) then Some n else None

-- the base that a numeral of this value writes
unfoldable pub base_of : Option ℕ → Option ℕ
base_of None = None
base_of (Some n) = if nat_le 2 n && nat_le n 16 then Some n else None

abbrev pub begins_with_hash : List ℕ → Bool
begins_with_hash [] = false
begins_with_hash (b ∷ bs) = b == 35

abbrev pub digits : ℕ → ℕ → Option ℕ → Digits
digits len base value = record { len = len; base = base; value = value }

-- the digits at the front, where `#` closes them; another `#` stands before them
unfoldable pub closed_digits : ℕ → List ℕ → Option Digits
closed_digits base bytes =
    let len = numeral_len base bytes in
    if nat_lt 0 len && begins_with_hash (drop len bytes) then Some (digits (len + 2) base (fitting (numeral_value base (take len bytes)))) else None

abbrev pub based_digits : Option ℕ → List ℕ → Option Digits
based_digits None bytes = None
based_digits (Some base) [] = None
based_digits (Some base) (b ∷ bs) = if b == 35 then closed_digits base bs else None

-- digits and the base before them, or else these digits, of base 10
abbrev pub digits_by : ℕ → Option ℕ → Option Digits → Digits
digits_by len value None = digits len 10 value
digits_by len value (Some found) = digits (len + found.len) found.base found.value

unfoldable pub digits_at : List ℕ → Digits
digits_at bytes =
    let len = numeral_len 10 bytes in
    let value = fitting (numeral_value 10 (take len bytes)) in
    digits_by len value (based_digits (base_of value) (drop len bytes))

abbrev pub exponent : ℕ → ℕ → Exponent
exponent len value = record { len = len; value = value }

-- the digits of an exponent at the front, where so many bytes of it stand before them; 0 fits with every exponent, and no other number with 128
unfoldable pub exponent_by : ℕ → List ℕ → Exponent
exponent_by before bytes = let len = numeral_len 10 bytes in if len == 0 then exponent 0 0 else exponent (before + len) (min (numeral_value 10 (take len bytes)) 128)

abbrev pub exponent_following : List ℕ → Exponent
exponent_following [] = exponent_by 1 []
exponent_following (b ∷ bs) = if b == 43 then exponent_by 2 bs else exponent_by 1 (b ∷ bs)

abbrev pub exponent_at : List ℕ → Exponent
exponent_at [] = exponent 0 0
exponent_at (b ∷ bs) = if b == 69 || b == 101 then exponent_following bs else exponent 0 0

abbrev pub scaled : Option ℕ → ℕ → ℕ → Option ℕ
scaled None base exponent = None
scaled (Some value) base exponent = fitting (value * base ^ exponent)

abbrev pub value_of : Digits → ℕ → Option ℕ
value_of found exponent = scaled found.value found.base exponent

abbrev pub number_by : Digits → Exponent → Number
number_by found exponent = record { len = found.len + exponent.len; value = value_of found exponent.value }

unfoldable pub number_in : List ℕ → Number
number_in bytes = let found = digits_at bytes in number_by found (exponent_at (drop found.len bytes))

-- a value that a text may have, as a number with a sign
abbrev pub as_integer : Option ℕ → Option ℤ
as_integer None = None
as_integer (Some value) = if nat_lt value (2 ^ 127) then Some (pos value) else None

abbrev pub least_by : ℕ → Option ℕ → Option ℕ
least_by len None = None
least_by len (Some value) = if value == 2 ^ 127 then Some len else None

-- how many bytes the number at the front has, if it is 2**127
unfoldable pub least_len : List ℕ → Option ℕ
least_len bytes = let number = number_in bytes in least_by number.len number.value

-- how many bytes the number 2**127 has by which a text is stopped before these bytes, outside of annotation text
abbrev pub least_at : Option Cause → Bool → List ℕ → Option ℕ
least_at (Some cause.TooWide) false bytes = least_len bytes
least_at stop marked bytes = None

-- ---- delimiters

abbrev pub single : Bool → ℕ → Option Kind
single marked a =
    if a == 38 then Some kind.Ampersand
    else (if a == 39 then Some kind.Apostrophe
    else (if a == 40 then Some kind.LeftParenthesis
    else (if a == 41 then Some kind.RightParenthesis
    else (if a == 42 then Some kind.Asterisk
    else (if a == 43 then Some kind.Plus
    else (if a == 44 then Some kind.Comma
    else (if a == 45 then Some kind.Minus
    else (if a == 46 then Some kind.Dot
    else (if a == 47 then Some kind.Slash
    else (if a == 58 then Some kind.Colon
    else (if a == 59 then Some kind.Semicolon
    else (if a == 60 then Some kind.Less
    else (if a == 61 then Some kind.Equal
    else (if a == 62 then Some kind.Greater
    else (if a == 124 then Some kind.Bar
    else (if marked && a == 126 then Some kind.Tilde
    else (if marked && a == 91 then Some kind.LeftBracket
    else (if marked && a == 93 then Some kind.RightBracket else None))))))))))))))))))

abbrev pub pair : Bool → ℕ → ℕ → Option Kind
pair marked a b =
    if a == 61 && b == 62 then Some kind.Arrow
    else (if a == 46 && b == 46 then Some kind.DoubleDot
    else (if a == 42 && b == 42 then Some kind.DoubleAsterisk
    else (if a == 58 && b == 61 then Some kind.Assignment
    else (if a == 47 && b == 61 then Some kind.NotEqual
    else (if a == 62 && b == 61 then Some kind.GreaterOrEqual
    else (if a == 60 && b == 61 then Some kind.LessOrEqual
    else (if a == 60 && b == 62 then Some kind.Diamond
    else (if marked && a == 45 && b == 62 then Some kind.Implication else None))))))))

abbrev pub pair_at : Bool → ℕ → List ℕ → Option Kind
pair_at marked a [] = None
pair_at marked a (b ∷ bs) = pair marked a b

abbrev pub is_equivalence : Bool → ℕ → List ℕ → Bool
is_equivalence marked a [] = false
is_equivalence marked a (b ∷ []) = false
is_equivalence marked a (b ∷ c ∷ bs) = marked && a == 60 && b == 45 && c == 62

abbrev pub sized : ℕ → Option Kind → Option (Kind × ℕ)
sized len None = None
sized len (Some what) = Some (what, len)

abbrev pub or_else : Option (Kind × ℕ) → Option (Kind × ℕ) → Option (Kind × ℕ)
or_else None other = other
or_else (Some found) other = Some found

-- the longest delimiter
unfoldable pub delimiter_at : Bool → ℕ → List ℕ → Option (Kind × ℕ)
delimiter_at marked a bs =
    if is_equivalence marked a bs then Some (kind.Equivalence, 3)
    else or_else (sized 2 (pair_at marked a bs)) (sized 1 (single marked a))

abbrev pub piece : What → ℕ → Piece
piece what len = record { what = what; len = len }

abbrev pub lexeme : Kind → ℤ → ℕ → Piece
lexeme kind number len = piece (what.Lexeme kind number) len

abbrev pub word_at : Bool → List ℕ → ℕ → Piece
word_at marked bytes len = lexeme (kind_of_word marked (take len bytes)) (pos 0) len

abbrev pub number_of : Option ℤ → ℕ → Result Piece Cause
number_of None len = Err cause.TooWide
number_of (Some value) len = Ok (lexeme kind.Number value len)

unfoldable pub number_at : List ℕ → Result Piece Cause
number_at bytes = let number = number_in bytes in if spoils_number (drop number.len bytes) then Err cause.BadNumber else number_of (as_integer number.value) number.len

abbrev pub mark_by : Option (Kind × ℕ) → Result Piece Cause
mark_by None = Err cause.BadByte
mark_by (Some found) = Ok (lexeme found.0 (pos 0) found.1)

unfoldable pub lexeme_at : Bool → ℕ → List ℕ → Result Piece Cause
lexeme_at marked b bs =
    if is_ascii_alphabetic b then Ok (word_at marked (b ∷ bs) (word_rest_len bs + 1))
    else (if is_ascii_digit b then number_at (b ∷ bs) else mark_by (delimiter_at marked b bs))

abbrev pub lexeme_in : Bool → List ℕ → Result Piece Cause
lexeme_in marked [] = Err cause.BadByte
lexeme_in marked (b ∷ bs) = lexeme_at marked b bs

-- what two hyphens begin
abbrev pub comment_at : Bool → List ℕ → Piece
comment_at marked [] = piece what.Comment 2
comment_at marked (b ∷ bs) = if b == 35 && not marked then piece what.Head 3 else piece what.Comment (line_len (b ∷ bs) + 2)

abbrev pub begins_comment : ℕ → List ℕ → Bool
begins_comment a [] = false
begins_comment a (b ∷ bs) = a == 45 && b == 45

unfoldable pub piece_at : Bool → List ℕ → Result Piece Cause
piece_at marked [] = Err cause.BadByte
piece_at marked (b ∷ bs) =
    if b == 10 then Ok (piece what.LineEnd 1)
    else (if is_separator b then Ok (piece what.Separator 1)
    else (if begins_comment b bs then Ok (comment_at marked (drop 1 bs)) else lexeme_at marked b bs))
