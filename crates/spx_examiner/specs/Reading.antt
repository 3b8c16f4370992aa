-- What lexis and syntax say of the text of a file.
use Rattle.std.specs.Prelude.{◌≡◌, ◌⊎◌, ℕ, List, [], ◌∷◌, length, codes}
use Rattle.spx_text.specs.declared.place.Place.{Place}
use Rattle.spx_tree.specs.declared.token.Token.{Token}
use Rattle.spx_tree.specs.declared.subprogram.Unit.{Unit}
use Rattle.spx_tree.specs.Places.{place_after_bytes}
use Rattle.spx_tree.specs.Spells.{Spells}
use Rattle.spx_tree.specs.Stops.{Cause, bad_byte, bad_number, too_wide, StopsAt}
use Rattle.spx_tree.specs.Form.{Form, forms_of}
use Rattle.spx_tree.specs.Written.{written}
use Rattle.spx_tree.specs.Grammar.{IsFile}
use Rattle.spx_tree.specs.Goes as goes
use Rattle.spx_tree.specs.Goes.{most_levels, place_with}
use Rattle.spx_tree.specs.Stops.{HasMoreTokens, most_tokens}
use Rattle.spx_core.specs.declared.rule.RuleName.{RuleName}
use Rattle.spx_core.specs.declared.rule.RuleName.TheVariants as rule
use Rattle.spx_report.specs.declared.report.Finding.{Finding}
use Rattle.spx_examiner.specs.declared.reading.Reading.{Reading}
use Rattle.spx_examiner.specs.declared.reading.Reading.TheVariants.{Units, Broken, TooManyTokens, TooNested}

-- the rule that is broken where a text is stopped, and what is printed of it
abbrev pub rule_of : Cause → RuleName
rule_of bad_byte = rule.L1
rule_of bad_number = rule.L2
rule_of too_wide = rule.L3

-- what is printed of the cause
abbrev pub words_of : Cause → List ℕ
words_of bad_byte = codes "bad byte"
words_of bad_number = codes "bad number"
words_of too_wide = codes "number too wide"

-- the finding on a text that is stopped here
abbrev pub stopped_at : Cause → Place → Finding
stopped_at cause place = record { place = place; rule = rule_of cause; text = words_of cause }

-- no text of the grammar goes on with the token at this place, or ends there
abbrev pub expected_at : Place → Finding
expected_at place = record { place = place; rule = rule.P1; text = codes "expected another token" }

-- The longest front of the forms that begins a file ends where so many are left, and it is no file or not all of them.
abbrev pub GoesNoFurther : List Form → ℕ → Type 0
GoesNoFurther fs left =
    goes.IsExpected written IsFile most_levels fs left
    ⊎ ((f : Form) × (rest : List Form) × (units : List Unit) × goes.IsText written IsFile most_levels fs (f ∷ rest) units × (left ≡ length (f ∷ rest)))

-- these are the tokens of the text, which are not too many
pub record AreTokens (bytes : List ℕ) (tokens : List Token) : Type 0 where
  pub spelled : Spells 0 bytes tokens
  pub few : ¬ HasMoreTokens most_tokens 0 bytes

-- Lexis comes first, up to `most_tokens` tokens, and then syntax, within `most_levels` levels.
pub data IsRead (bytes : List ℕ) (reading : Reading) : Type 0 where
  crowded : HasMoreTokens most_tokens 0 bytes → reading ≡ TooManyTokens → IsRead bytes reading
  stopped : (cause : Cause) (place : Place) → StopsAt 0 bytes cause place → ¬ HasMoreTokens most_tokens 0 bytes → reading ≡ Broken (stopped_at cause place) → IsRead bytes reading
  ended : (tokens : List Token) (left : ℕ) → AreTokens bytes tokens → GoesNoFurther (forms_of bytes tokens) left → reading ≡ Broken (expected_at (place_with (place_after_bytes 0 bytes) tokens left)) → IsRead bytes reading
  nested : (tokens : List Token) (left : ℕ) → AreTokens bytes tokens → goes.IsTooDeep written IsFile most_levels (forms_of bytes tokens) left → reading ≡ TooNested → IsRead bytes reading
  whole : (tokens : List Token) (units : List Unit) → AreTokens bytes tokens → goes.IsText written IsFile most_levels (forms_of bytes tokens) [] units → reading ≡ Units units → IsRead bytes reading
