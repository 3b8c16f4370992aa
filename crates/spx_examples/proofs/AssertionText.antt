-- The words and delimiters of annotation text.
use Rattle.std.proofs.Common.{◌≡◌, ℕ, false, List, [], ◌∷◌, ◌++◌, refl, arith}
use Rattle.std.specs.Prelude.{codes}
use Rattle.spx_tree.specs.Lexemes.{unreserved, kind_of_word, code_delimiters, annotation_delimiters, delimiters}
use Rattle.spx_tree.specs.Places.{place_after_bytes}
use Rattle.spx_tree.specs.Spells.{Role, Stands, Spells}
use Rattle.spx_tree.specs.Stops.{bad_byte, StopsAt}
use Rattle.spx_examples.specs.Assertions.{assertion_line, assertion_tokens, tilde_in_code}
use Rattle.spx_examples.specs.Increment.{place}
use Rattle.spx_examples.proofs.Maximal.{nothing_stands}
use Rattle.spx_examples.proofs.Spelling.{Piece, Word, Delimiter, Space, Head, parts_of, all_stand, spelled_by}

abbrev pieces : List Piece
pieces =
    Word (codes "post") ∷ Delimiter (codes "-") ∷ Delimiter (codes ">") ∷ Word (codes "X") ∷ Space
    ∷ Head ∷ Space ∷ Word (codes "check") ∷ Space ∷ Word (codes "X") ∷ Delimiter (codes "~") ∷ Delimiter (codes "->") ∷ Word (codes "X") ∷ Delimiter (codes "<->") ∷ Word (codes "X")
    ∷ Delimiter (codes ";") ∷ []

pub line_is_spelled : Spells 0 assertion_line assertion_tokens
unfolding unreserved kind_of_word delimiters code_delimiters annotation_delimiters place_after_bytes
line_is_spelled = spelled_by pieces refl refl refl

tilde_stands_nowhere : (role : Role) (bytes following : List ℕ) → codes "~" ≡ bytes ++ following → Stands false role bytes following → ⊥
unfolding delimiters code_delimiters
tilde_stands_nowhere = nothing_stands false 126 [] refl refl refl refl

pub tilde_is_stopped : StopsAt 0 tilde_in_code bad_byte (place 1 2)
unfolding unreserved kind_of_word delimiters code_delimiters place_after_bytes
tilde_is_stopped = record {
  parts = parts_of false (Word (codes "X") ∷ []);
  rest = codes "~";
  whole = refl;
  stand = all_stand false (Word (codes "X") ∷ []) (codes "~") refl;
  at = refl;
  stopped = (omega arith, tilde_stands_nowhere);
}
