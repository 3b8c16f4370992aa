-- The names of terms and sequents.
use Rattle.std.specs.Prelude.{ℕ, suc, Bool, true, false, max, List, [], ◌∷◌, ◌++◌, if◌then◌else◌}
use Rattle.std.specs.List.{list_all, list_any, flat_map}
use Rattle.spx_term.specs.declared.condition.Sequent.{Sequent}
use Rattle.spx_term.specs.declared.term.Sort.TheVariants.{Integer, Boolean}
use Rattle.spx_term.specs.declared.term.Component.{Component}
use Rattle.spx_term.specs.declared.term.Component.TheVariants as component
use Rattle.spx_term.specs.declared.term.BoundVariable.{BoundVariable}
use Rattle.spx_term.specs.declared.term.Symbol.{Symbol}
use Rattle.spx_term.specs.declared.term.Symbol.TheVariants.{New}
use Rattle.spx_term.specs.declared.term.Name.{Name}
use Rattle.spx_term.specs.declared.term.TermOp.{TermOp}
use Rattle.spx_term.specs.declared.term.TermOp.TheVariants as op
use Rattle.spx_term.specs.declared.term.TermPrefix.TheVariants as sign
use Rattle.spx_term.specs.declared.term.UnaryOp.{UnaryOp}
use Rattle.spx_term.specs.declared.term.UnaryOp.TheVariants as unary
use Rattle.spx_term.specs.declared.term.BinaryOp.{BinaryOp}
use Rattle.spx_term.specs.declared.term.BinaryOp.TheVariants as binary
use Rattle.spx_term.specs.declared.term.TernaryOp.{TernaryOp}
use Rattle.spx_term.specs.declared.term.TernaryOp.TheVariants as ternary
use Rattle.spx_term.specs.declared.term.Term.{Term, Term-F, fold-Term, out-Term}
use Rattle.spx_term.specs.Equality.{same_name, same_sort}
use Rattle.spx_term.specs.Substitution.{is_free}

-- ---- names

-- one level, whose parts have these names
abbrev pub names_step : Term-F (List Name) → List Name
names_step (Term-F.Number n) = []
names_step (Term-F.Truth b) = []
names_step (Term-F.Variable name) = if is_free name.symbol then name ∷ [] else []
names_step (Term-F.Blank id) = []
names_step (Term-F.Prefix op a) = a
names_step (Term-F.Infix op a b) = a ++ b
names_step (Term-F.Unary op a) = a
names_step (Term-F.Binary op a b) = a ++ b
names_step (Term-F.Ternary op a b c) = a ++ (b ++ c)

-- the names of a term but those of its quantifiers
unfoldable pub names_of : Term → List Name
names_of = fold-Term (List Name) names_step

-- whether a sequent has this name
abbrev pub is_name_of : Sequent → Name → Bool
is_name_of s x = list_any (same_name x) (flat_map names_of (s.goal ∷ s.hyps))

-- whether a term has no other names than a sequent
unfoldable pub is_over : Sequent → Term → Bool
is_over s t = list_all (is_name_of s) (names_of t)

-- ---- new names

-- the number after `!`; other names have 0
abbrev pub number_after : Symbol → ℕ
number_after (New x) = x.number
number_after _ = 0

-- one level, whose parts have these greatest numbers
abbrev pub greatest_step : Term-F ℕ → ℕ
greatest_step (Term-F.Number n) = 0
greatest_step (Term-F.Truth b) = 0
greatest_step (Term-F.Variable name) = number_after name.symbol
greatest_step (Term-F.Blank id) = 0
greatest_step (Term-F.Prefix op a) = a
greatest_step (Term-F.Infix op a b) = max a b
greatest_step (Term-F.Unary op a) = a
greatest_step (Term-F.Binary op a b) = max a b
greatest_step (Term-F.Ternary op a b c) = max a (max b c)

-- the greatest number after `!` in a term
unfoldable pub greatest : Term → ℕ
greatest = fold-Term ℕ greatest_step

-- the greatest number after `!` in several terms
abbrev pub greatest_in : List Term → ℕ
greatest_in [] = 0
greatest_in (t ∷ ts) = max (greatest t) (greatest_in ts)

-- `K!k`, where K is the variable of a quantifier
abbrev pub new : ℕ → BoundVariable → Name
new k b = record { symbol = New (record { number = k; variable = b.variable }); sort = Integer }

-- the name for the variable of a quantifier that a sequent does not have yet
unfoldable pub new_name : Sequent → BoundVariable → Name
new_name s b = new (suc (greatest_in (s.goal ∷ s.hyps))) b

-- ---- sorts that are seen at a term

-- whether an operation on well-sorted operands is a truth value
abbrev pub gives_truth : TermOp → Bool
gives_truth op.Add = false
gives_truth op.Subtract = false
gives_truth op.Multiply = false
gives_truth op.Divide = false
gives_truth op.Rem = false
gives_truth op.Mod = false
gives_truth op.Power = false
gives_truth _ = true

-- whether the values of this type are truth values
abbrev pub is_truth_type : Component → Bool
is_truth_type component.Boolean = true
is_truth_type _ = false

-- whether an operation on one term is a truth value
abbrev pub unary_truth : UnaryOp → Bool
unary_truth (unary.Field f c) = is_truth_type c
unary_truth (unary.In t) = true
unary_truth (unary.Others t) = false

-- whether an operation on a composite value and another term is a truth value
abbrev pub binary_truth : BinaryOp → Bool
binary_truth (binary.Element a) = is_truth_type a.element
binary_truth _ = false

-- whether an operation on three terms is a truth value
abbrev pub ternary_truth : TernaryOp → Bool
ternary_truth (ternary.Quantified q d) = true
ternary_truth (ternary.Update t) = false

-- whether a well-sorted term of this form is a truth value
abbrev pub is_boolean_in : Term-F Term → Bool
is_boolean_in (Term-F.Truth b) = true
is_boolean_in (Term-F.Variable name) = same_sort name.sort Boolean
is_boolean_in (Term-F.Prefix sign.Not a) = true
is_boolean_in (Term-F.Infix op a b) = gives_truth op
is_boolean_in (Term-F.Unary op a) = unary_truth op
is_boolean_in (Term-F.Binary op a b) = binary_truth op
is_boolean_in (Term-F.Ternary op a b c) = ternary_truth op
is_boolean_in _ = false

-- whether a well-sorted term is a truth value
unfoldable pub is_boolean : Term → Bool
is_boolean t = is_boolean_in (out-Term t)
