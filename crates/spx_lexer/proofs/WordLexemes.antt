-- A word that is found.
use Rattle.std.proofs.Common.{◌≡◌, ℕ, suc, ◌+◌, Bool, true, List, ◌∷◌, ◌++◌, take, length, refl, sym, ap, ◌∙◌, arith, append_assoc}
use Rattle.std.specs.Char.{is_ascii_digit, is_ascii_alphabetic}
use Rattle.std.proofs.lemmas.Bool.{both_ways}
use Rattle.std.proofs.lemmas.List.{take_at}
use Rattle.spx_tree.specs.Lexemes.{kind_of_word, word, numeral, delimiter, IsMaximal}
use Rattle.spx_tree.proofs.OnlyDigits.{word_no_number}
use Rattle.spx_tree.proofs.Shapes.{letter_plain, letter_no_digit, delimiter_mark}
use Rattle.spx_tree.proofs.Numbers.{number_digit}
use Rattle.spx_lexer.specs.Pieces.{word_rest_len, word_at}
use Rattle.spx_lexer.proofs.Runs.{word_rest, word_rest_len-ge}
use Rattle.spx_lexer.proofs.Found.{Found, nil_by_len, not_hyphen}

word_maximal : (m : Bool) (b : ℕ) (front rest : List ℕ) → is_ascii_alphabetic b ≡ true → length front ≡ word_rest_len (front ++ rest) → IsMaximal m (b ∷ front) rest
word_maximal m b front rest al len more following k n e (word w f g) =
    let h = word_rest_len-ge (front ++ more) following w.1 in
    let same : (front ++ more) ++ following ≡ front ++ rest = append_assoc front more following ∙ ap (λ (x : List ℕ). front ++ x) (sym e) in
    nil_by_len front more (omega (arith, ap word_rest_len same))
word_maximal m b front rest al len more following k n e (numeral v d f g) = absurd (both_ways (is_ascii_digit b) (letter_no_digit b al) (number_digit b (front ++ more) v d))
word_maximal m b front rest al len more following k n e (delimiter f g) = absurd (both_ways (is_ascii_alphabetic b) (delimiter_mark m b (front ++ more) k f).no_letter al)

pub word_found : (m : Bool) (b : ℕ) (bs : List ℕ) → is_ascii_alphabetic b ≡ true → Found m (b ∷ bs) (word_at m (b ∷ bs) (word_rest_len bs + 1))
word_found m b bs al =
    let r = word_rest bs in
    let len : suc (length r.front) ≡ word_rest_len bs + 1 = omega (arith, r.len) in
    let text : take (word_rest_len bs + 1) (b ∷ bs) ≡ b ∷ r.front = ap (take (word_rest_len bs + 1)) (ap (λ (x : List ℕ). b ∷ x) r.parts) ∙ take_at (b ∷ r.front) r.rest (word_rest_len bs + 1) len in
    record {
      front = b ∷ r.front;
      rest = r.rest;
      parts = ap (λ (x : List ℕ). b ∷ x) r.parts;
      len = len;
      stands = (word (al, r.is) (ap (kind_of_word m) text) refl, word_maximal m b r.front r.rest al (r.len ∙ ap word_rest_len r.parts), not_hyphen b r.front r.rest (letter_plain b al).no_hyphen);
      sound = λ e. absurd (word_no_number m (take (word_rest_len bs + 1) (b ∷ bs)) e);
    }
