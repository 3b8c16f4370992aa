-- The text of a term.
use Rattle.std.specs.Prelude.{◌≡◌, ◌<◌, ◌^◌, ℕ, ℤ, pos, int_lt, Bool, ◌||◌, ◌==◌, List, [], ◌++◌, length, slice_get, slice_index_or, codes, Option, Some, None, if◌then◌else◌}
use Rattle.std.specs.Char.{is_ascii_alphanumeric}
use Rattle.std.specs.Fmt.{decimal, signed_decimal}
use Rattle.std.specs.Ordering.{int_eq}
use Rattle.std.specs.List.{AllPass, list_all}
use Rattle.std.specs.Str.{byte}
use Rattle.spx_term.specs.declared.printing.Position.{Position}
use Rattle.spx_term.specs.declared.printing.Position.TheVariants.{Whole, OfNumbers, OfOthers, Rest}
use Rattle.spx_term.specs.declared.term.Symbol.{Symbol}
use Rattle.spx_term.specs.declared.term.Symbol.TheVariants.{Now, Entry, First, Last, New, Bound}
use Rattle.spx_term.specs.declared.term.TermOp.{TermOp}
use Rattle.spx_term.specs.declared.term.TermOp.TheVariants as op
use Rattle.spx_term.specs.declared.term.TermPrefix.{TermPrefix}
use Rattle.spx_term.specs.declared.term.TermPrefix.TheVariants as sign
use Rattle.spx_term.specs.declared.term.BoundVariable.{BoundVariable}
use Rattle.spx_term.specs.declared.term.FieldName.{FieldName}
use Rattle.spx_term.specs.declared.term.UnaryOp.{UnaryOp}
use Rattle.spx_term.specs.declared.term.UnaryOp.TheVariants as unary
use Rattle.spx_term.specs.declared.term.BinaryOp.{BinaryOp}
use Rattle.spx_term.specs.declared.term.BinaryOp.TheVariants as binary
use Rattle.spx_term.specs.declared.term.TernaryOp.{TernaryOp}
use Rattle.spx_term.specs.declared.term.TernaryOp.TheVariants as ternary
use Rattle.spx_term.specs.declared.term.Quantifier.{Quantifier}
use Rattle.spx_term.specs.declared.term.Quantifier.TheVariants as quantifier
use Rattle.spx_term.specs.declared.printing.Names.{Names}
use Rattle.spx_term.specs.declared.printing.TypeNames.{TypeNames}
use Rattle.spx_term.specs.declared.term.Term.{Term, Term-F, fold-Term}

-- ---- names

-- the declared name of a variable, by its position; past the end of the list it is empty
abbrev pub declared_name : List (List ℕ) → ℕ → List ℕ
declared_name declared n = slice_index_or declared n []

-- the name that a symbol begins with
abbrev pub stem_of : List (List ℕ) → Symbol → List ℕ
stem_of declared (Now n) = declared_name declared n
stem_of declared (Entry n) = declared_name declared n
stem_of declared (First n) = declared_name declared n
stem_of declared (Last n) = declared_name declared n
stem_of declared (New n) = declared_name declared n.variable
stem_of declared (Bound b) = declared_name declared b.variable

-- what follows that name
abbrev pub suffix_of : Symbol → List ℕ
suffix_of (Now n) = []
suffix_of (Entry n) = codes "~"
suffix_of (First n) = codes "!first"
suffix_of (Last n) = codes "!last"
suffix_of (New n) = codes "!" ++ decimal n.number
suffix_of (Bound b) = codes "#" ++ decimal b.depth

-- `X`, `X~`, `I!first`, `I!last`, `I!1`, `I#1`
unfoldable pub symbol_text : List (List ℕ) → Symbol → List ℕ
symbol_text declared s = stem_of declared s ++ suffix_of s

-- ---- types and fields

abbrev pub name_in : Option TypeNames → List ℕ
name_in (Some t) = t.name
name_in None = []

abbrev pub field_in : Option TypeNames → ℕ → List ℕ
field_in (Some t) k = declared_name t.fields k
field_in None k = []

-- the declared name of a composite type, by its position, and those of its fields; past the end of a list they are empty
abbrev pub type_name : Names → ℕ → List ℕ
type_name names id = name_in (slice_get names.types id)

abbrev pub field_name : Names → FieldName → List ℕ
field_name names f = field_in (slice_get names.types f.position) f.place

-- ---- operators

abbrev pub prefix_text : TermPrefix → List ℕ
prefix_text sign.Minus = codes "-"
prefix_text sign.Abs = codes "abs "
prefix_text sign.Not = codes "not "

-- with a space on each side
abbrev pub infix_text : TermOp → List ℕ
infix_text op.Add = codes " + "
infix_text op.Subtract = codes " - "
infix_text op.Multiply = codes " * "
infix_text op.Divide = codes " / "
infix_text op.Rem = codes " rem "
infix_text op.Mod = codes " mod "
infix_text op.Power = codes " ** "
infix_text op.Equal = codes " = "
infix_text op.NotEqual = codes " /= "
infix_text op.Less = codes " < "
infix_text op.LessOrEqual = codes " <= "
infix_text op.Greater = codes " > "
infix_text op.GreaterOrEqual = codes " >= "
infix_text op.And = codes " and "
infix_text op.Or = codes " or "
infix_text op.Implies = codes " -> "
infix_text op.Equivalent = codes " <-> "

-- ---- positions

-- where the operand of `-`, `abs` or `not` is printed
abbrev pub operand_of : TermPrefix → Position
operand_of sign.Minus = OfNumbers
operand_of sign.Abs = OfNumbers
operand_of sign.Not = OfOthers

-- where the operands of an operator are printed: those of `+ - * / rem mod **` apart from the others
abbrev pub operands_of : TermOp → Position
operands_of op.Add = OfNumbers
operands_of op.Subtract = OfNumbers
operands_of op.Multiply = OfNumbers
operands_of op.Divide = OfNumbers
operands_of op.Rem = OfNumbers
operands_of op.Mod = OfNumbers
operands_of op.Power = OfNumbers
operands_of _ = OfOthers

-- an operation that is an operand has parentheses
abbrev pub opening : Position → List ℕ
opening Whole = []
opening Rest = []
opening _ = codes "("

abbrev pub closing : Position → List ℕ
closing Whole = []
closing Rest = []
closing _ = codes ")"

-- a literal has parentheses where it is below 0 and an operand of an operation on numbers
unfoldable pub number_text : ℤ → Position → List ℕ
number_text n OfNumbers = if int_lt n (pos 0) then codes "(" ++ (signed_decimal n ++ codes ")") else signed_decimal n
number_text n _ = signed_decimal n

-- ---- aggregates

-- before and after the parts of an aggregate, or of the rest of one
abbrev pub before_parts : List ℕ → Position → List ℕ
before_parts name Rest = codes ", "
before_parts name _ = name ++ codes "'("

abbrev pub after_parts : Position → List ℕ
after_parts Rest = []
after_parts _ = codes ")"

-- an aggregate of which no part is there yet
abbrev pub blank_text : List ℕ → Position → List ℕ
blank_text name Rest = []
blank_text name _ = name ++ codes "'()"

-- one index, or a range
unfoldable pub span_text : ℤ → ℤ → List ℕ
span_text low high = if int_eq low high then signed_decimal low else signed_decimal low ++ (codes " .. " ++ signed_decimal high)

-- ---- quantifiers

abbrev pub quantifier_text : Quantifier → List ℕ
quantifier_text quantifier.All = codes "for all "
quantifier_text quantifier.Some = codes "for some "

-- `for all I#1 in `
unfoldable pub binder_text : List (List ℕ) → Position → Quantifier → BoundVariable → List ℕ
binder_text declared position q b = opening position ++ (quantifier_text q ++ (symbol_text declared (Bound b) ++ codes " in "))

-- `)`, and one more where the quantifier is an operand
abbrev pub end_text : Position → List ℕ
end_text position = codes ")" ++ closing position

-- ---- terms

-- the text of an operation on terms with these texts
abbrev pub unary_text : Names → UnaryOp → (Position → List ℕ) → Position → List ℕ
unary_text names (unary.Field f c) a position = a Whole ++ (codes "." ++ field_name names f)
unary_text names (unary.In id) a position = opening position ++ (a OfOthers ++ (codes " in " ++ (type_name names id ++ closing position)))
unary_text names (unary.Others id) a position = before_parts (type_name names id) position ++ (codes "others => " ++ (a Whole ++ after_parts position))

abbrev pub binary_text : Names → BinaryOp → (a b : Position → List ℕ) → Position → List ℕ
binary_text names (binary.Element t) a b position = a Whole ++ (codes "[" ++ (b Whole ++ codes "]"))
binary_text names (binary.Update f) a b position = a Whole ++ (codes "[" ++ (field_name names f ++ (codes " => " ++ (b Whole ++ codes "]"))))
binary_text names (binary.Elements id low high) a b position = before_parts (type_name names id) position ++ (span_text low high ++ (codes " => " ++ (b Whole ++ (a Rest ++ after_parts position))))
binary_text names (binary.Field f) a b position = before_parts (type_name names f.position) position ++ (field_name names f ++ (codes " => " ++ (b Whole ++ (a Rest ++ after_parts position))))

abbrev pub ternary_text : Names → TernaryOp → (a b c : Position → List ℕ) → Position → List ℕ
ternary_text names (ternary.Update id) a b c position = a Whole ++ (codes "[" ++ (b Whole ++ (codes " => " ++ (c Whole ++ codes "]"))))
ternary_text names (ternary.Quantified q b) low high p position = binder_text names.variables position q b ++ (low Whole ++ (codes " .. " ++ (high Whole ++ (codes " => (" ++ (p Whole ++ end_text position)))))

-- the text of one level, whose parts have these texts at each position
abbrev pub text_step : Names → Term-F (Position → List ℕ) → Position → List ℕ
text_step names (Term-F.Number n) position = number_text n position
text_step names (Term-F.Truth b) position = if b then codes "true" else codes "false"
text_step names (Term-F.Variable name) position = symbol_text names.variables name.symbol
text_step names (Term-F.Blank id) position = blank_text (type_name names id) position
text_step names (Term-F.Prefix op a) position = opening position ++ (prefix_text op ++ (a (operand_of op) ++ closing position))
text_step names (Term-F.Infix op a b) position =
    opening position ++ (a (operands_of op) ++ (infix_text op ++ (b (operands_of op) ++ closing position)))
text_step names (Term-F.Unary op a) position = unary_text names op a position
text_step names (Term-F.Binary op a b) position = binary_text names op a b position
text_step names (Term-F.Ternary op a b c) position = ternary_text names op a b c position

-- the text of a term at a position
unfoldable pub text_at : Names → Term → Position → List ℕ
text_at names = fold-Term (Position → List ℕ) (text_step names)

-- the text of a term by itself
abbrev pub text_of : Names → Term → List ℕ
text_of names t = text_at names t Whole

-- ---- names that print apart

-- a letter, a digit or an underscore
abbrev pub is_identifier_byte : ℕ → Bool
is_identifier_byte b = is_ascii_alphanumeric b || b == byte "_"

abbrev pub is_identifier : List ℕ → Bool
is_identifier = list_all is_identifier_byte

-- these names are identifiers, and no two of them are equal
pub record AreApart (declared : List (List ℕ)) : Type 0 where
  pub identifiers : AllPass is_identifier declared
  pub differ : (m n : ℕ) → m < length declared → n < length declared → declared_name declared m ≡ declared_name declared n → m ≡ n

-- a symbol whose variable has a name; depths and the numbers of new names are machine numbers
abbrev pub IsNamed : List (List ℕ) → Symbol → Type 0
IsNamed declared (Now n) = n < length declared
IsNamed declared (Entry n) = n < length declared
IsNamed declared (First n) = n < length declared
IsNamed declared (Last n) = n < length declared
IsNamed declared (New n) = (n.variable < length declared) × (n.number < 2 ^ 64)
IsNamed declared (Bound b) = (b.variable < length declared) × (b.depth < 2 ^ 64)

-- two symbols that are printed as one text are equal
abbrev pub SymbolsPrintApart : Type 0
SymbolsPrintApart = (declared : List (List ℕ)) → AreApart declared → (a b : Symbol) → IsNamed declared a → IsNamed declared b →
    symbol_text declared a ≡ symbol_text declared b → a ≡ b
