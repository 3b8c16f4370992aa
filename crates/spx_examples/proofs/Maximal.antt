-- A lexeme stands before bytes with which it does not go on.
use Rattle.std.proofs.Common.{◌≡◌, inl, inr, ℕ, Bool, true, false, List, [], ◌∷◌, ◌++◌, Some, refl, sym, ap, subst, ◌∙◌, arith, append_assoc, ℤ, pos, eqb}
use Rattle.std.specs.Prelude.{◌&&◌, ◌||◌, ◌==◌, not, codes}
use Rattle.std.specs.List.{list_all}
use Rattle.std.specs.Char.{is_ascii_digit, is_ascii_alphabetic, is_ascii_alphanumeric}
use Rattle.std.proofs.lemmas.Bool.{and_parts, both_ways, not-true}
use Rattle.std.proofs.lemmas.List.Folds.{list_all-append}
use Rattle.spx_tree.specs.declared.token.Kind.{Kind}
use Rattle.spx_tree.specs.declared.token.Kind.TheVariants as kind
use Rattle.spx_tree.specs.Lexemes.{IsWordRest, IsAfterUnderscore, IsWord, kind_of_word, kind_of, delimiters, IsLexeme, word, numeral, delimiter, IsMaximal}
use Rattle.spx_tree.specs.Numbers.{IsNumber}
use Rattle.spx_tree.specs.Spells.{Role, lexeme, BeginsWith, Stands}
use Rattle.spx_tree.proofs.Numbers.{stops, is_number_byte, number_bytes, number_digit, no_empty_number}
use Rattle.spx_tree.proofs.Shapes.{other, shape, shape_of, stands_shape, stands_some, begins_hyphen, kind_of_passes, letter_plain, digit_plain, letter_no_digit, no_empty_delimiter, delimiter_mark}

head_is : (x y : ℕ) (xs ys : List ℕ) → x ∷ xs ≡ y ∷ ys → x ≡ y
head_is x y xs ys e = cc

-- ---- words

abbrev begins_with_alphanumeric : List ℕ → Bool
begins_with_alphanumeric [] = false
begins_with_alphanumeric (b ∷ bs) = is_ascii_alphanumeric b

-- a word goes on with what stands at the front
abbrev pub continues_word : List ℕ → Bool
continues_word [] = false
continues_word (b ∷ bs) = is_ascii_alphanumeric b || (b == 95 && begins_with_alphanumeric bs)

by_alphanumeric : (b : ℕ) (bs : List ℕ) → is_ascii_alphanumeric b ≡ true → continues_word (b ∷ bs) ≡ true
by_alphanumeric b bs e = ap (λ (t : Bool). t || (b == 95 && begins_with_alphanumeric bs)) e

by_underscore : (b c : ℕ) (bs : List ℕ) → b ≡ 95 → is_ascii_alphanumeric c ≡ true → continues_word (b ∷ c ∷ bs) ≡ true
by_underscore b c bs e f = ap (λ (x : ℕ). continues_word (x ∷ c ∷ bs)) e ∙ f

mutual
  word_continues : (front : List ℕ) (x : ℕ) (more following : List ℕ) → IsWordRest (front ++ (x ∷ more)) → continues_word (x ∷ (more ++ following)) ≡ true
  word_continues [] x more following (inl w) = by_alphanumeric x (more ++ following) w.0
  word_continues [] x [] following (inr w) = absurd w.1
  word_continues [] x (y ∷ more) following (inr w) = by_underscore x y (more ++ following) w.0 w.1.0
  word_continues (a ∷ front) x more following (inl w) = word_continues front x more following w.1
  word_continues (a ∷ front) x more following (inr w) = underscore_continues front x more following w.1

  underscore_continues : (front : List ℕ) (x : ℕ) (more following : List ℕ) → IsAfterUnderscore (front ++ (x ∷ more)) → continues_word (x ∷ (more ++ following)) ≡ true
  underscore_continues [] x more following w = by_alphanumeric x (more ++ following) w.0
  underscore_continues (a ∷ front) x more following w = word_continues front x more following w.1

word_maximal : (m : Bool) (bytes rest : List ℕ) → IsWord bytes → continues_word rest ≡ false → IsMaximal m bytes rest
word_maximal m [] rest w ends more following k n e l = absurd w
word_maximal m (b ∷ front) rest w ends [] following k n e l = refl
word_maximal m (b ∷ front) rest w ends (x ∷ more) following k n e (word v f g) = absurd (both_ways (continues_word rest) ends (ap continues_word e ∙ word_continues front x more following v.1))
word_maximal m (b ∷ front) rest w ends (x ∷ more) following k n e (numeral v d f g) = absurd (both_ways (is_ascii_digit b) (letter_no_digit b w.0) (number_digit b (front ++ (x ∷ more)) v d))
word_maximal m (b ∷ front) rest w ends (x ∷ more) following k n e (delimiter f g) = absurd (both_ways (is_ascii_alphabetic b) (delimiter_mark m b (front ++ (x ∷ more)) k f).no_letter w.0)

-- ---- numbers

-- each byte of a number is one that numbers may have
number_continues : (front : List ℕ) (x : ℕ) (more : List ℕ) (n : ℕ) → IsNumber (front ++ (x ∷ more)) n → is_number_byte x ≡ true
number_continues front x more n d =
    let all = and_parts (list_all is_number_byte front) (list_all is_number_byte (x ∷ more)) (sym (list_all-append is_number_byte front (x ∷ more)) ∙ number_bytes (front ++ (x ∷ more)) n d) in
    (and_parts (is_number_byte x) (list_all is_number_byte more) all.1).0

number_maximal : (m : Bool) (bytes rest : List ℕ) (v : ℕ) → IsNumber bytes v → stops is_number_byte rest ≡ true → IsMaximal m bytes rest
number_maximal m [] rest v d ends more following k n e l = absurd (no_empty_number v d)
number_maximal m (b ∷ front) rest v d ends [] following k n e l = refl
number_maximal m (b ∷ front) rest v d ends (x ∷ more) following k n e (word w f g) = absurd (both_ways (is_ascii_digit b) (letter_no_digit b w.0) (number_digit b front v d))
number_maximal m (b ∷ front) rest v d ends (x ∷ more) following k n e (numeral o c f g) =
    absurd (both_ways (is_number_byte x) (not-true (is_number_byte x) (ap (stops is_number_byte) (sym e) ∙ ends)) (number_continues (b ∷ front) x more o c))
number_maximal m (b ∷ front) rest v d ends (x ∷ more) following k n e (delimiter f g) = absurd (both_ways (is_ascii_digit b) (delimiter_mark m b (front ++ (x ∷ more)) k f).no_digit (number_digit b front v d))

-- ---- delimiters

-- these bytes begin that text
abbrev is_front : List ℕ → List ℕ → Bool
is_front [] bytes = true
is_front (a ∷ front) [] = false
is_front (a ∷ front) (b ∷ bytes) = eqb a b && is_front front bytes

eqb_same : (a : ℕ) → eqb a a ≡ true
eqb_same a = search arith

front_is : (front more : List ℕ) → is_front front (front ++ more) ≡ true
front_is [] more = refl
front_is (a ∷ front) more = ap (λ (t : Bool). t && is_front front (front ++ more)) (eqb_same a) ∙ front_is front more

-- no delimiter begins with these bytes
abbrev pub begins_none : Bool → List ℕ → Bool
begins_none m front = list_all (λ (e : List ℕ × Kind). not (is_front front e.0)) (delimiters m)

pub no_delimiter : (m : Bool) (front more : List ℕ) (k : Kind) → begins_none m front ≡ true → kind_of (delimiters m) (front ++ more) ≡ Some k → ⊥
no_delimiter m front more k none e =
    let h = kind_of_passes (λ (x : List ℕ). not (is_front front x)) (delimiters m) (front ++ more) k none e in
    both_ways (is_front front (front ++ more)) (not-true (is_front front (front ++ more)) h) (front_is front more)

delimiter_maximal : (m : Bool) (bytes : List ℕ) (c : ℕ) (rest : List ℕ) (k : Kind) → kind_of (delimiters m) bytes ≡ Some k → begins_none m (bytes ++ (c ∷ [])) ≡ true → IsMaximal m bytes (c ∷ rest)
delimiter_maximal m [] c rest k d none more following l n e lex = absurd (no_empty_delimiter m k d)
delimiter_maximal m (a ∷ front) c rest k d none [] following l n e lex = refl
delimiter_maximal m (a ∷ front) c rest k d none (x ∷ more) following l n e (word w f g) = absurd (both_ways (is_ascii_alphabetic a) (delimiter_mark m a front k d).no_letter w.0)
delimiter_maximal m (a ∷ front) c rest k d none (x ∷ more) following l n e (numeral o v f g) = absurd (both_ways (is_ascii_digit a) (delimiter_mark m a front k d).no_digit (number_digit a (front ++ (x ∷ more)) o v))
delimiter_maximal m (a ∷ front) c rest k d none (x ∷ more) following l n e (delimiter f g) =
    let longer : (a ∷ front) ++ (x ∷ more) ≡ ((a ∷ front) ++ (c ∷ [])) ++ more =
    ap (λ (y : ℕ). (a ∷ front) ++ (y ∷ more)) (sym (head_is c x rest (more ++ following) e)) ∙ sym (append_assoc (a ∷ front) (c ∷ []) more) in
    absurd (no_delimiter m ((a ∷ front) ++ (c ∷ [])) more l none (ap (kind_of (delimiters m)) (sym longer) ∙ f))

-- ---- what stands at the front

no_lone_hyphen : (bytes rest : List ℕ) → begins_hyphen bytes ≡ false → bytes ≡ codes "-" → BeginsWith 45 rest → ⊥
no_lone_hyphen bytes rest h e f = both_ways (begins_hyphen bytes) h (ap begins_hyphen e)

word_hyphen : (bytes : List ℕ) → IsWord bytes → begins_hyphen bytes ≡ false
word_hyphen [] w = absurd w
word_hyphen (b ∷ bs) w = (letter_plain b w.0).no_hyphen

number_hyphen : (bytes : List ℕ) (v : ℕ) → IsNumber bytes v → begins_hyphen bytes ≡ false
number_hyphen [] v d = absurd (no_empty_number v d)
number_hyphen (b ∷ bs) v d = (digit_plain b (number_digit b bs v d)).no_hyphen

pub word_stands : (m : Bool) (k : Kind) (bytes rest : List ℕ) → IsWord bytes → k ≡ kind_of_word m bytes → continues_word rest ≡ false → Stands m (lexeme k (pos 0)) bytes rest
word_stands m k bytes rest w e ends = (word w e refl, word_maximal m bytes rest w ends, no_lone_hyphen bytes rest (word_hyphen bytes w))

pub number_stands : (m : Bool) (v : ℕ) (bytes rest : List ℕ) → IsNumber bytes v → stops is_number_byte rest ≡ true → Stands m (lexeme kind.Number (pos v)) bytes rest
number_stands m v bytes rest d ends = (numeral v d refl refl, number_maximal m bytes rest v d ends, no_lone_hyphen bytes rest (number_hyphen bytes v d))

pub delimiter_stands : (m : Bool) (k : Kind) (bytes : List ℕ) (c : ℕ) (rest : List ℕ) → kind_of (delimiters m) bytes ≡ Some k → begins_none m (bytes ++ (c ∷ [])) ≡ true → begins_hyphen bytes ≡ false → Stands m (lexeme k (pos 0)) bytes (c ∷ rest)
delimiter_stands m k bytes c rest d none h = (delimiter d refl, delimiter_maximal m bytes c rest k d none, no_lone_hyphen bytes (c ∷ rest) h)

-- ---- nothing stands at the front

no_lexeme : (m : Bool) (a : ℕ) (bs : List ℕ) (k : Kind) (n : ℤ) → is_ascii_alphabetic a ≡ false → is_ascii_digit a ≡ false → begins_none m (a ∷ []) ≡ true → IsLexeme m k n (a ∷ bs) → ⊥
no_lexeme m a bs k n letter digit none (word w e f) = both_ways (is_ascii_alphabetic a) letter w.0
no_lexeme m a bs k n letter digit none (numeral v d e f) = both_ways (is_ascii_digit a) digit (number_digit a bs v d)
no_lexeme m a bs k n letter digit none (delimiter e f) = no_delimiter m (a ∷ []) bs k none e

no_lexeme_at : (m : Bool) (a : ℕ) (bs : List ℕ) → is_ascii_alphabetic a ≡ false → is_ascii_digit a ≡ false → begins_none m (a ∷ []) ≡ true → (k : Kind) (n : ℤ) (bytes following : List ℕ) → a ∷ bs ≡ bytes ++ following → Stands m (lexeme k n) bytes following → ⊥
no_lexeme_at m a bs letter digit none k n [] following e s = absurd (omega (arith, stands_some m (lexeme k n) [] following s))
no_lexeme_at m a bs letter digit none k n (c ∷ bytes) following e s =
    no_lexeme m a bytes k n letter digit none (subst (λ (x : ℕ). IsLexeme m k n (x ∷ bytes)) (sym (head_is a c bs (bytes ++ following) e)) s.0)

-- a byte that begins no gap, no word, no number and no delimiter
pub nothing_stands : (m : Bool) (a : ℕ) (bs : List ℕ) → shape (a ∷ bs) ≡ other → is_ascii_alphabetic a ≡ false → is_ascii_digit a ≡ false → begins_none m (a ∷ []) ≡ true
    → (role : Role) (bytes following : List ℕ) → a ∷ bs ≡ bytes ++ following → Stands m role bytes following → ⊥
nothing_stands m a bs gap letter digit none (lexeme k n) bytes following e s = no_lexeme_at m a bs letter digit none k n bytes following e s
nothing_stands m a bs gap letter digit none role bytes following e s = let f : other ≡ shape_of role = sym gap ∙ ap shape e ∙ stands_shape m role bytes following s in absurd cc
