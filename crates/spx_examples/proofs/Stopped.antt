-- Texts that are stopped by their bytes, and tokens with which no file goes on.
use Rattle.std.proofs.Common.{◌≡◌, ℕ, false, List, [], ◌∷◌, ◌++◌, drop, Err, refl, sym, pos, arith}
use Rattle.std.specs.Prelude.{◌^◌, codes}
use Rattle.std.proofs.lemmas.Int.{ints}
use Rattle.spx_tree.specs.declared.token.Kind.TheVariants as k
use Rattle.spx_tree.specs.declared.subprogram.Unit.{Unit}
use Rattle.spx_tree.specs.declared.subprogram.Unit.TheVariants as unit
use Rattle.spx_tree.specs.Lexemes.{unreserved, kind_of_word, code_delimiters, delimiters}
use Rattle.spx_tree.specs.Places.{place_after_bytes}
use Rattle.spx_tree.specs.Spells.{Spells}
use Rattle.spx_tree.specs.Stops.{bad_number, too_wide, StopsAt}
use Rattle.spx_tree.specs.Form.{Form, placed, bare, forms_of}
use Rattle.spx_tree.specs.Written.{program, written}
use Rattle.spx_tree.specs.Grammar.{IsFile}
use Rattle.spx_tree.specs.Goes.{Expected, Begins, Ends, Answers, place_with}
use Rattle.spx_tree.proofs.MoreLevels.{file_more}
use Rattle.spx_examples.specs.Increment.{place, inc_units}
use Rattle.spx_examples.specs.IncrementText.{inc_bytes, inc_tokens}
use Rattle.spx_examples.specs.Stopped.{spoiled_number, wide_number, widest_number, widest_tokens, unnamed, unnamed_tokens, cut_short, cut_short_tokens}
use Rattle.spx_examples.proofs.Spelling.{Piece, Word, Digits, Delimiter, Space, LineEnd, parts_of, all_stand, number_stands, spelled_by}
use Rattle.spx_examples.proofs.IncrementText.{grammatical, as_written}

-- ---- by their bytes

-- `X := `
abbrev before_number : List Piece
before_number = Word (codes "X") ∷ Space ∷ Delimiter (codes ":=") ∷ Space ∷ []

abbrev wide : List ℕ
wide = codes "170141183460469231731687303715884105728"

pub number_is_spoiled : StopsAt 0 spoiled_number bad_number (place 1 6)
unfolding delimiters code_delimiters place_after_bytes
number_is_spoiled = record {
  parts = parts_of false before_number;
  rest = codes "12X;";
  whole = refl;
  stand = all_stand false before_number (codes "12X;") refl;
  at = refl;
  stopped = (pos 12, codes "12", codes "X;", refl, number_stands false (codes "12") (codes "X;") refl, refl);
}

pub number_is_too_wide : StopsAt 0 wide_number too_wide (place 1 6)
unfolding delimiters code_delimiters place_after_bytes
number_is_too_wide = record {
  parts = parts_of false before_number;
  rest = wide ++ codes ";";
  whole = refl;
  stand = all_stand false before_number (wide ++ codes ";") refl;
  at = refl;
  stopped = (pos (2 ^ 127), wide, codes ";", refl, number_stands false wide (codes ";") refl, refl, omega (arith, ints));
}

pub widest_is_spelled : Spells 0 widest_number widest_tokens
unfolding place_after_bytes
widest_is_spelled = spelled_by (Digits widest_number ∷ []) refl refl refl

-- ---- by their tokens

-- the second of two forms
pub second_kind : (f g h i : Form) (fs gs : List Form) → f ∷ g ∷ fs ≡ h ∷ i ∷ gs → g.kind ≡ i.kind
second_kind f g h i fs gs e = cc

abbrev procedure_form : Form
procedure_form = placed program k.Procedure (place 1 1)

abbrev is_form : Form
is_form = bare program k.Is

-- `procedure` begins a file
begins : Begins written IsFile 200 (procedure_form ∷ [])
begins = (drop 1 (forms_of inc_bytes inc_tokens), inc_units, file_more 1 200 (omega arith) inc_units grammatical, sym as_written)

-- and is none
no_file : (n : ℕ) (units : List Unit) → IsFile n units → procedure_form ∷ [] ≡ written units → ⊥
no_file n [] fit e = absurd cc
no_file n (unit.Subprogram sub ∷ units) fit e = absurd cc

-- and no file goes on with `is`
ends : Ends written IsFile (procedure_form ∷ []) (is_form ∷ [])
ends levels (more, [], fit, e) = absurd cc
ends levels (more, unit.Subprogram sub ∷ units, fit, e) = let kind : k.Is ≡ k.Identifier = second_kind _ _ _ _ _ _ e in absurd cc

pub unnamed_spelled : Spells 0 unnamed unnamed_tokens
unfolding unreserved kind_of_word delimiters code_delimiters place_after_bytes
unnamed_spelled = spelled_by (Word (codes "procedure") ∷ Space ∷ Word (codes "is") ∷ []) refl refl refl

pub unnamed_answer : Answers written IsFile 200 (forms_of unnamed unnamed_tokens) (Err (Expected 1))
unnamed_answer = record { taken = procedure_form ∷ []; rest = is_form ∷ []; parts = refl; count = refl; begins = begins; no_text = no_file; ends = ends }

pub unnamed_place : place_with (place_after_bytes 0 unnamed) unnamed_tokens 1 ≡ place 1 11
unnamed_place = refl

pub cut_short_spelled : Spells 0 cut_short cut_short_tokens
unfolding unreserved kind_of_word delimiters code_delimiters place_after_bytes
cut_short_spelled = spelled_by (Word (codes "procedure") ∷ LineEnd ∷ []) refl refl refl

pub cut_short_answer : Answers written IsFile 200 (forms_of cut_short cut_short_tokens) (Err (Expected 0))
cut_short_answer = record { taken = procedure_form ∷ []; rest = []; parts = refl; count = refl; begins = begins; no_text = no_file; ends = tt }

pub cut_short_place : place_with (place_after_bytes 0 cut_short) cut_short_tokens 0 ≡ place 2 1
unfolding place_after_bytes
cut_short_place = refl
