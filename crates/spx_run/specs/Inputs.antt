-- What an inputs file says: a line `NAME = VALUE` for each import, in the lexemes of the language.
use Rattle.std.specs.Prelude.{◌≡◌, ⊤, ◌⊎◌, ℕ, suc, ◌^◌, pos, ◌-ℤ◌, false, List, [], ◌∷◌, ◌++◌, Result, Ok, Err}
use Rattle.spx_tree.specs.declared.token.Kind.{Kind}
use Rattle.spx_tree.specs.declared.token.Kind.TheVariants as kind
use Rattle.spx_tree.specs.declared.token.Token.{Token}
use Rattle.spx_tree.specs.Form.{spelling}
use Rattle.spx_tree.specs.Spells.{Spells}
use Rattle.spx_tree.specs.Stops.{HasMoreTokens, most_tokens}
use Rattle.spx_lexer.specs.Least.{EndsInLeast}
use Rattle.spx_run.specs.declared.inputs.InputValue.{InputValue}
use Rattle.spx_run.specs.declared.inputs.InputValue.TheVariants.{Number, Word, Parts}
use Rattle.spx_run.specs.declared.inputs.InputPart.{InputPart}
use Rattle.spx_run.specs.declared.inputs.InputPart.TheVariants as part
use Rattle.spx_run.specs.declared.inputs.InputLine.{InputLine}
use Rattle.spx_run.specs.Lines.{lines_of}

-- a token of this kind that is not in annotation text
pub record IsToken (what : Kind) (t : Token) : Type 0 where
  pub of_kind : t.kind ≡ what
  pub in_code : t.marked ≡ false

mutual
  -- the tokens of one value, and its parts: a number, a number after `-`, a word, or values in parentheses
  pub data AreOneValue (source : List ℕ) : List Token → List InputPart → Type 0 where
    number : (t : Token) → IsToken kind.Number t → AreOneValue source (t ∷ []) (part.Number t.number ∷ [])
    negative : (minus t : Token) → IsToken kind.Minus minus → IsToken kind.Number t → AreOneValue source (minus ∷ t ∷ []) (part.Number (pos 0 -ℤ t.number) ∷ [])
    word : (t : Token) → IsToken kind.Identifier t → AreOneValue source (t ∷ []) (part.Word (spelling source t) ∷ [])
    listed : (left right : Token) (inside : List Token) (parts : List InputPart) → IsToken kind.LeftParenthesis left → AreValues source inside parts → IsToken kind.RightParenthesis right
        → AreOneValue source (left ∷ (inside ++ right ∷ [])) (part.Open ∷ (parts ++ part.Close ∷ []))

  -- the tokens of values after each other, with a comma between two, and their parts
  pub data AreValues (source : List ℕ) : List Token → List InputPart → Type 0 where
    last : (tokens : List Token) (parts : List InputPart) → AreOneValue source tokens parts → AreValues source tokens parts
    next : (first rest : List Token) (comma : Token) (parts others : List InputPart) → AreOneValue source first parts → IsToken kind.Comma comma → AreValues source rest others
        → AreValues source (first ++ comma ∷ rest) (parts ++ others)

-- the value of these parts: a number or a word by itself, or values in parentheses
abbrev pub value_of : List InputPart → InputValue
value_of (part.Number n ∷ []) = Number n
value_of (part.Word w ∷ []) = Word w
value_of parts = Parts parts

-- the tokens of a value
pub record IsValue (source : List ℕ) (tokens : List Token) (value : InputValue) : Type 0 where
  pub parts : List InputPart
  pub written : AreOneValue source tokens parts
  pub valued : value ≡ value_of parts

-- The bytes of a line spell `NAME = VALUE`, within the tokens that a text may have.
pub record IsSpelled (bytes : List ℕ) (line : InputLine) : Type 0 where
  pub name : Token
  pub equal : Token
  pub value : List Token
  pub spelled : Spells 0 bytes (name ∷ equal ∷ value)
  pub few : ¬ HasMoreTokens most_tokens 0 bytes
  pub is_name : IsToken kind.Identifier name
  pub is_equal : IsToken kind.Equal equal
  pub named : line.name ≡ spelling bytes name
  pub valued : IsValue bytes value line.value

-- The bytes of a line are `NAME = - N`, where N is 2**127. No text spells this number, but its negative has 128 bits.
pub record IsLeast (bytes : List ℕ) (line : InputLine) : Type 0 where
  pub name : Token
  pub equal : Token
  pub minus : Token
  pub ends : EndsInLeast 0 bytes (name ∷ equal ∷ minus ∷ [])
  pub few : ¬ HasMoreTokens most_tokens 0 bytes
  pub is_name : IsToken kind.Identifier name
  pub is_equal : IsToken kind.Equal equal
  pub is_minus : IsToken kind.Minus minus
  pub named : line.name ≡ spelling bytes name
  pub valued : line.value ≡ Number (pos 0 -ℤ pos (2 ^ 127))

-- these bytes are this line
pub data IsLine (bytes : List ℕ) (line : InputLine) : Type 0 where
  spelled : IsSpelled bytes line → IsLine bytes line
  least : IsLeast bytes line → IsLine bytes line

-- the lines are these, numbered from this number on
abbrev pub AreLines : ℕ → List (List ℕ) → List InputLine → Type 0
AreLines n [] [] = ⊤
AreLines n [] (line ∷ lines) = ⊥
AreLines n (bytes ∷ more) [] = ⊥
AreLines n (bytes ∷ more) (line ∷ lines) = IsLine bytes line × (line.line ≡ n) × AreLines (suc n) more lines

-- the first that is none has this number
abbrev pub IsFirstBad : ℕ → List (List ℕ) → ℕ → Type 0
IsFirstBad n [] bad = ⊥
IsFirstBad n (bytes ∷ more) bad =
    ((bad ≡ n) × ((line : InputLine) → ¬ IsLine bytes line)) ⊎ (((line : InputLine) × IsLine bytes line) × IsFirstBad (suc n) more bad)

-- the inputs of a text, or the number of its first bad line
abbrev pub AreInputs : List ℕ → Result (List InputLine) ℕ → Type 0
AreInputs bytes (Ok lines) = AreLines 1 (lines_of bytes) lines
AreInputs bytes (Err bad) = IsFirstBad 1 (lines_of bytes) bad
