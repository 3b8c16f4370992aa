-- The definition of spelling on one line.
use Rattle.std.proofs.Common.{◌≡◌, inl, ℕ, true, false, List, [], ◌∷◌, ◌++◌, refl, arith, pos}
use Rattle.std.specs.Prelude.{codes, ◌≢◌}
use Rattle.std.specs.List.{All}
use Rattle.std.proofs.lemmas.List.Elements.{All-nil, All-cons}
use Rattle.std.proofs.lemmas.Int.{ints}
use Rattle.spx_tree.specs.declared.token.Kind.TheVariants as kind
use Rattle.spx_tree.specs.Lexemes.{unreserved, kind_of_word, code_delimiters, annotation_delimiters, delimiters}
use Rattle.spx_tree.specs.Numbers.{none, IsNumber, decimal}
use Rattle.spx_tree.specs.Places.{place_after_bytes}
use Rattle.spx_tree.specs.Spells.{Role, line_end, separator, comment, head, lexeme, Stands, Part, bytes_of, AllStand, tokens_of, Spells}
use Rattle.spx_tree.specs.Stops.{bad_byte, StopsAt}
use Rattle.spx_examples.specs.Example.{line, line_tokens, stopped_line, stop}
use Rattle.spx_examples.proofs.Maximal.{word_stands, number_stands, delimiter_stands, nothing_stands}

abbrev part : Role → List ℕ → Part
part role bytes = record { role = role; bytes = bytes }

-- ---- a line that is spelled

abbrev following_comment : List Part
following_comment = part line_end (10 ∷ []) ∷ part (lexeme kind.End (pos 0)) (codes "end") ∷ []

abbrev following_head : List Part
following_head =
    part separator (codes " ")
    ∷ part (lexeme kind.Pre (pos 0)) (codes "pre")
    ∷ part separator (codes " ")
    ∷ part (lexeme kind.Identifier (pos 0)) (codes "X")
    ∷ part (lexeme kind.LessOrEqual (pos 0)) (codes "<=")
    ∷ part (lexeme kind.Number (pos 1)) (codes "1")
    ∷ part (lexeme kind.Semicolon (pos 0)) (codes ";")
    ∷ part separator (codes " ")
    ∷ part comment (codes "-- #")
    ∷ following_comment

abbrev parts : List Part
parts =
    part (lexeme kind.Identifier (pos 0)) (codes "X")
    ∷ part (lexeme kind.Assignment (pos 0)) (codes ":=")
    ∷ part (lexeme kind.Identifier (pos 0)) (codes "X")
    ∷ part separator (codes " ")
    ∷ part head (codes "--#")
    ∷ following_head

following_comment_stands : AllStand true following_comment []
unfolding unreserved kind_of_word
following_comment_stands = (refl, tt, (word_stands false kind.End (codes "end") [] (refl, inl (refl, inl (refl, tt))) refl refl, λ e. absurd cc, tt))

whole : bytes_of parts ≡ line
whole = refl

are : line_tokens ≡ tokens_of 0 [] false parts
unfolding place_after_bytes
are = refl

comment_text : All (λ b. b ≢ 10) (codes " #")
comment_text = All-cons (λ (b : ℕ). b ≢ 10) 32 (35 ∷ []) (λ e. absurd (omega arith)) (All-cons (λ (b : ℕ). b ≢ 10) 35 [] (λ e. absurd (omega arith)) (All-nil (λ (b : ℕ). b ≢ 10)))

one : IsNumber (codes "1") 1
one = decimal (codes "1") [] 0 refl (omega arith, tt) (none refl refl) refl

following_head_stands : AllStand true following_head []
unfolding unreserved kind_of_word delimiters code_delimiters annotation_delimiters
following_head_stands = (
  (32, refl, refl),
  tt,
  (
    word_stands true kind.Pre (codes "pre") _ (refl, inl (refl, inl (refl, tt))) refl refl,
    λ e. absurd cc,
    (
      (32, refl, refl),
      tt,
      (
        word_stands true kind.Identifier (codes "X") _ (refl, tt) refl refl,
        λ e. absurd cc,
        (
          delimiter_stands true kind.LessOrEqual (codes "<=") 49 _ refl refl refl,
          λ e. absurd cc,
          (
            number_stands true 1 (codes "1") _ one refl,
            λ e. (refl, omega (arith, ints)),
            (
              delimiter_stands true kind.Semicolon (codes ";") 32 _ refl refl refl,
              λ e. absurd cc,
              (
                (32, refl, refl),
                tt,
                (
                  (codes " #", refl, comment_text, refl, λ e. refl),
                  tt,
                  following_comment_stands,
                ),
              ),
            ),
          ),
        ),
      ),
    ),
  ),
)

stand : AllStand false parts []
unfolding unreserved kind_of_word delimiters code_delimiters annotation_delimiters
stand = (
  word_stands false kind.Identifier (codes "X") _ (refl, tt) refl refl,
  λ e. absurd cc,
  (
    delimiter_stands false kind.Assignment (codes ":=") 88 _ refl refl refl,
    λ e. absurd cc,
    (
      word_stands false kind.Identifier (codes "X") _ (refl, tt) refl refl,
      λ e. absurd cc,
      (
        (32, refl, refl),
        tt,
        (
          (refl, refl),
          tt,
          following_head_stands,
        ),
      ),
    ),
  ),
)

pub line_spelled : Spells 0 line line_tokens
line_spelled = record { parts = parts; whole = whole; stand = stand; are = are }

-- ---- a line that is stopped

abbrev first_part : List Part
first_part = part (lexeme kind.Identifier (pos 0)) (codes "A") ∷ []

first_stands : AllStand false first_part (codes "__B")
unfolding unreserved kind_of_word
first_stands = (word_stands false kind.Identifier (codes "A") _ (refl, tt) refl refl, λ e. absurd cc, tt)

at : stop ≡ place_after_bytes 0 (bytes_of first_part)
unfolding place_after_bytes
at = refl

underscore_stands_nowhere : (role : Role) (bytes following : List ℕ) → codes "__B" ≡ bytes ++ following → Stands false role bytes following → ⊥
unfolding delimiters code_delimiters
underscore_stands_nowhere = nothing_stands false 95 (codes "_B") refl refl refl refl

pub line_stopped : StopsAt 0 stopped_line bad_byte stop
line_stopped = record { parts = first_part; rest = codes "__B"; whole = refl; stand = first_stands; at = at; stopped = (omega arith, underscore_stands_nowhere) }
