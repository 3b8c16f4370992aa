-- What only the code needs, in terms of the definitions. No claim on runs rests on these.
use Rattle.std.specs.Prelude.{◌≡◌, ◌<◌, ℕ, suc, ◌-◌, ◌==◌, ◌^◌, pos, ◌-ℤ◌, Bool, true, false, not, ◌&&◌, if◌then◌else◌, List, [], ◌∷◌, ◌++◌, length, codes, Option, Some, None, option_map, option_and_then}
use Rattle.std.specs.List.{All, position_or_len}
use denote.Enum.Bare.{sameb}
use Rattle.spx_text.specs.declared.place.Place.{Place}
use Rattle.spx_core.specs.declared.entity.VarId.{VarId}
use Rattle.spx_core.specs.declared.program.Program.{Program}
use Rattle.spx_core.specs.declared.subprogram.Sub.{Sub}
use Rattle.spx_core.specs.Dependency.{imports}
use Rattle.spx_core.specs.Mirror.VarSets.{holds}
use Rattle.spx_tree.specs.contracts.token.Kind.{the_type}
use Rattle.spx_tree.specs.declared.token.Kind.{Kind}
use Rattle.spx_tree.specs.declared.token.Kind.TheVariants as kind
use Rattle.spx_tree.specs.declared.token.Token.{Token}
use Rattle.spx_tree.specs.Form.{spelling}
use Rattle.spx_term.specs.declared.value.Value.{Value}
use Rattle.spx_term.specs.declared.value.Value.TheVariants as value
use Rattle.spx_report.specs.Report.{place_text}
use Rattle.spx_run.specs.declared.inputs.InputValue.{InputValue}
use Rattle.spx_run.specs.declared.inputs.InputValue.TheVariants.{Number}
use Rattle.spx_run.specs.declared.inputs.InputPart.{InputPart}
use Rattle.spx_run.specs.declared.inputs.InputPart.TheVariants as part
use Rattle.spx_run.specs.declared.values.Expected.{Expected}
use Rattle.spx_run.specs.declared.values.Expected.TheVariants as expected
use Rattle.spx_run.specs.declared.values.Reading.{Reading}
use Rattle.spx_run.specs.declared.inputs.InputLine.{InputLine}
use Rattle.spx_run.specs.Given.{import_named, is_word}
use Rattle.spx_run.specs.Inputs.{IsLine, value_of}

-- ---- tokens

-- the number of a token is not below 0
abbrev pub IsNatural : Token → Type 0
IsNatural t = (n : ℕ) × (t.number ≡ pos n)

-- the numbers of these tokens are not negative
abbrev pub AreNatural : List Token → Type 0
AreNatural tokens = All IsNatural tokens

-- the kinds are one
unfoldable pub same_kind : Kind → Kind → Bool
same_kind = sameb the_type

-- the token is one of this kind that is not in annotation text
abbrev pub is_token : Kind → Token → Bool
is_token what t = same_kind t.kind what && not t.marked

-- a reading with this part more
abbrev pub with_part : Reading → InputPart → ℕ → Expected → Reading
with_part r part depth expected = record { parts = r.parts ++ part ∷ []; depth = depth; expected = expected }

-- the reading after this token, where a value begins
abbrev pub begin_value : List ℕ → Reading → Token → Option Reading
begin_value source r t =
    if is_token kind.LeftParenthesis t then Some (with_part r part.Open (suc r.depth) expected.Value)
    else if is_token kind.Minus t then Some (record { parts = r.parts; depth = r.depth; expected = expected.Number })
    else if is_token kind.Number t then Some (with_part r (part.Number t.number) r.depth expected.Mark)
    else if is_token kind.Identifier t then Some (with_part r (part.Word (spelling source t)) r.depth expected.Mark) else None

-- the reading after this token, after `-`
abbrev pub negate_number : Reading → Token → Option Reading
negate_number r t = if is_token kind.Number t then Some (with_part r (part.Number (pos 0 -ℤ t.number)) r.depth expected.Mark) else None

-- the reading after this token, after a value
abbrev pub end_value : Reading → Token → Option Reading
end_value r t =
    if r.depth == 0 then None
    else if is_token kind.Comma t then Some (record { parts = r.parts; depth = r.depth; expected = expected.Value })
    else if is_token kind.RightParenthesis t then Some (with_part r part.Close (r.depth - 1) expected.Mark) else None

-- the reading after this token
abbrev pub step : List ℕ → Expected → Reading → Token → Option Reading
step source expected.Value r t = begin_value source r t
step source expected.Number r t = negate_number r t
step source expected.Mark r t = end_value r t

abbrev pub is_mark : Expected → Bool
is_mark expected.Value = false
is_mark expected.Number = false
is_mark expected.Mark = true

-- the parts that are read, if a value is at its end
abbrev pub finish : Reading → Option (List InputPart)
finish r = if is_mark r.expected && r.depth == 0 then Some r.parts else None

-- the parts after these tokens more
abbrev pub parts_after : List ℕ → Reading → List Token → Option (List InputPart)
parts_after source r [] = finish r
parts_after source r (t ∷ ts) = option_and_then (λ next. parts_after source next ts) (step source r.expected r t)

-- the parts of the value that tokens are
abbrev pub parts_in : List ℕ → List Token → Option (List InputPart)
parts_in source tokens = parts_after source (record { parts = []; depth = 0; expected = expected.Value }) tokens

-- the value that tokens are
abbrev pub value_in : List ℕ → List Token → Option InputValue
value_in source tokens = option_map value_of (parts_in source tokens)

-- the line of this number, name and value, where there is a value
abbrev pub named_value : ℕ → List ℕ → Option InputValue → Option InputLine
named_value n name found = option_map (λ value. record { line = n; name = name; value = value }) found

-- the line of this number that tokens are
abbrev pub line_in : ℕ → List ℕ → List Token → Option InputLine
line_in n source [] = None
line_in n source (name ∷ []) = None
line_in n source (name ∷ equal ∷ value) =
    if is_token kind.Identifier name && is_token kind.Equal equal then named_value n (spelling source name) (value_in source value) else None

-- the line of this number that tokens before the number 2**127 are
abbrev pub least_line : ℕ → List ℕ → List Token → Option InputLine
least_line n source [] = None
least_line n source (name ∷ []) = None
least_line n source (name ∷ equal ∷ []) = None
least_line n source (name ∷ equal ∷ minus ∷ []) =
    if is_token kind.Identifier name && is_token kind.Equal equal && is_token kind.Minus minus
    then Some (record { line = n; name = spelling source name; value = Number (pos 0 -ℤ pos (2 ^ 127)) }) else None
least_line n source (name ∷ equal ∷ minus ∷ t ∷ more) = None

-- the line of this number that bytes are, or that they are none
abbrev pub IsReadAs : ℕ → List ℕ → Option InputLine → Type 0
IsReadAs n bytes (Some line) = IsLine bytes line × (line.line ≡ n)
IsReadAs n bytes None = (line : InputLine) → IsLine bytes line → ⊥

-- how many bytes come before the end of the first line
abbrev pub line_len : List ℕ → ℕ
line_len bytes = position_or_len (λ b. b == 10) bytes

-- ---- imports

-- the set has the imports of the subprogram, and no other variable
abbrev pub AreImports : Sub → List ℕ → Type 0
AreImports sub set = (v : VarId) → holds set v ≡ imports v sub

-- an import that is found by its name is a variable of the program
abbrev pub ImportsAreDeclared : Program → Sub → Type 0
ImportsAreDeclared p sub = (name : List ℕ) (v : VarId) → import_named p sub name ≡ Some v → v.0 < length p.vars

-- ---- values

-- the truth value that a word is
abbrev pub truth_written : List ℕ → Option Value
truth_written w = if is_word w (codes "true") then Some (value.Truth true) else if is_word w (codes "false") then Some (value.Truth false) else None

-- ---- texts

-- what is said of a place
unfoldable pub place_line : List (List ℕ) → Place → List ℕ → List ℕ
place_line names place what = place_text names place ++ what

-- what is said of a name
unfoldable pub name_line : List ℕ → List ℕ → List ℕ
name_line what name = what ++ (name ++ codes "\n")
