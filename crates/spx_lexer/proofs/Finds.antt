-- What the lexer finds at a place stands there, and where it finds nothing the text is stopped.
use Rattle.std.proofs.Common.{◌≡◌, ℕ, ◌+◌, ◌<◌, Bool, true, false, cond, List, [], ◌∷◌, drop, length, Ok, refl, ap, arith}
use Rattle.std.specs.Char.{is_ascii_digit, is_ascii_alphabetic}
use Rattle.std.proofs.lemmas.Bool.{eqb-true}
use Rattle.spx_tree.specs.Places.{is_line_end}
use Rattle.spx_tree.specs.Spells.{is_separator}
use Rattle.spx_lexer.specs.declared.lexer.pieces.What.TheVariants as what
use Rattle.spx_lexer.specs.Pieces.{word_rest_len, delimiter_at, piece, word_at, number_at, mark_by, lexeme_at, comment_at, begins_comment, piece_at}
use Rattle.spx_lexer.proofs.Delimiters.{delimiter_found}
use Rattle.spx_lexer.proofs.Found.{Finds}
use Rattle.spx_lexer.proofs.WordLexemes.{word_found}
use Rattle.spx_lexer.proofs.Numbers.{number_found}
use Rattle.spx_lexer.proofs.Marks.{mark_finds}
use Rattle.spx_lexer.proofs.Gaps.{hyphens_found, not_hyphens}

finds_by : (m : Bool) (b : ℕ) (bs : List ℕ) (ends separates hyphens letter digit : Bool) → is_line_end b ≡ ends → is_separator b ≡ separates → begins_comment b bs ≡ hyphens → is_ascii_alphabetic b ≡ letter → is_ascii_digit b ≡ digit
    → Finds m (b ∷ bs) (cond ends (Ok (piece what.LineEnd 1)) (cond separates (Ok (piece what.Separator 1)) (cond hyphens (Ok (comment_at m (drop 1 bs))) (cond letter (Ok (word_at m (b ∷ bs) (word_rest_len bs + 1))) (cond digit (number_at (b ∷ bs)) (mark_by (delimiter_at m b bs)))))))
finds_by m b bs true s h l d e es eh el ed = record { front = b ∷ []; rest = bs; parts = refl; len = refl; stands = ap (λ (x : ℕ). x ∷ []) (eqb-true b 10 e); sound = tt }
finds_by m b bs false true h l d e es eh el ed = record { front = b ∷ []; rest = bs; parts = refl; len = refl; stands = (b, refl, es); sound = tt }
finds_by m b bs false false true l d e es eh el ed = hyphens_found m b bs eh
finds_by m b bs false false false true d e es eh el ed = word_found m b bs el
finds_by m b bs false false false false true e es eh el ed = number_found m b bs ed
finds_by m b bs false false false false false e es eh el ed =
    let nh = not_hyphens b bs eh in
    mark_finds m b bs (delimiter_at m b bs) (λ none. record { no_line_end = e; no_separator = es; no_hyphens = nh; no_letter = el; no_digit = ed; no_delimiter = none }) nh refl (delimiter_found m b bs)

-- What is found stands before the text, and where nothing is found the text is stopped.
pub piece_at-finds : (m : Bool) (bytes : List ℕ) → 0 < length bytes → Finds m bytes (piece_at m bytes)
unfolding piece_at lexeme_at
piece_at-finds m [] some = absurd (omega arith)
piece_at-finds m (b ∷ bs) some = finds_by m b bs (is_line_end b) (is_separator b) (begins_comment b bs) (is_ascii_alphabetic b) (is_ascii_digit b) refl refl refl refl refl
