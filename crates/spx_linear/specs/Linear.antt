-- The linear forms of terms and of comparisons.
use Rattle.std.specs.Prelude.{◌≡◌, ◌↔◌, refl, ℕ, Bool, true, false, ℤ, pos, negsuc, ◌+ℤ◌, ◌*ℤ◌, ◌≤ℤ◌, Option, Some, None, option_map, List, [], ◌∷◌}
use denote.Hole.Carrier.{hidden}
use Rattle.spx_num.specs.declared.arithmetic.Op.TheVariants.{Add, Sub}
use Rattle.spx_term.specs.declared.term.Name.{Name}
use Rattle.spx_term.specs.declared.term.Sort.TheVariants.{Boolean}
use Rattle.spx_term.specs.declared.term.TermOp.{TermOp}
use Rattle.spx_term.specs.declared.term.TermOp.TheVariants as op
use Rattle.spx_term.specs.declared.term.TermPrefix.{TermPrefix}
use Rattle.spx_term.specs.declared.term.TermPrefix.TheVariants as sign
use Rattle.spx_term.specs.declared.term.UnaryOp.{UnaryOp}
use Rattle.spx_term.specs.declared.term.BinaryOp.{BinaryOp}
use Rattle.spx_term.specs.declared.term.TernaryOp.{TernaryOp}
use Rattle.spx_term.specs.declared.term.Term.{Term}
use Rattle.spx_term.specs.declared.term.Term.TheBlock.{hidden-the_row-Term-0}
use Rattle.spx_term.specs.declared.term.Term.TheVariants.{Number, Truth, Variable, Blank, Prefix, Infix, Unary, Binary, Ternary}
use Rattle.spx_term.specs.Shapes.{prefix_of, infix_of}
use Rattle.spx_term.specs.Negation.{is_numeric}
use Rattle.spx_term.specs.Sorts.{sort_of}
use Rattle.spx_term.specs.Values.{Types}
use Rattle.spx_term.specs.Meaning.{as_number, Valuation, value_of, Holds, Respects}
use Rattle.spx_linear.specs.declared.form.Part.{Part}
use Rattle.spx_linear.specs.declared.form.Form.{Form}
use Rattle.spx_linear.specs.Forms.{constant_form, atom_form, joined, scaled, two, once}

-- the literal that a term is
abbrev pub number_in : Term → Option ℤ
number_in (Number n) = Some n
number_in _ = None

-- `a * b`, where these are the literals that a and b are, if they are literals
abbrev pub times : Option ℤ → Option ℤ → Term → Term → Option Form → Option Form → Option Form
times (Some m) n a b f g = once (scaled m) g
times None (Some n) a b f g = once (scaled n) f
times None None a b f g = Some (atom_form (Infix op.Multiply a b))

-- `a * b`, where these are the forms of a and b
abbrev pub product_form : Term → Term → Option Form → Option Form → Option Form
product_form a b f g = times (number_in a) (number_in b) a b f g

-- `a op b`, where these are the forms of a and b
abbrev pub form_of_infix : TermOp → Term → Term → Option Form → Option Form → Option Form
form_of_infix op.Add a b f g = two (joined Add) f g
form_of_infix op.Subtract a b f g = two (joined Sub) f g
form_of_infix op.Multiply a b f g = product_form a b f g
form_of_infix op a b f g = Some (atom_form (Infix op a b))

-- `op a`, where this is the form of a
abbrev pub form_of_prefix : TermPrefix → Term → Option Form → Option Form
form_of_prefix sign.Minus a f = once (scaled (negsuc 0)) f
form_of_prefix op a f = Some (atom_form (Prefix op a))

-- the form of a term, whose atoms are its greatest parts that are no literals, sums, differences, negations or products with a literal
unfoldable pub form_of : Term → Option Form
form_of (Number n) = Some (constant_form n)
form_of (prefix_of op a) = form_of_prefix op a (form_of a)
form_of (infix_of op a b) = form_of_infix op a b (form_of a) (form_of b)
form_of t = Some (atom_form t)

pub form_of-Number : (n : ℤ) → form_of (Number n) ≡ Some (constant_form n)
unfolding form_of
form_of-Number n = refl

pub form_of-Truth : (b : Bool) → form_of (Truth b) ≡ Some (atom_form (Truth b))
unfolding form_of
form_of-Truth b = refl

pub form_of-Variable : (name : Name) → form_of (Variable name) ≡ Some (atom_form (Variable name))
unfolding form_of
form_of-Variable name = refl

pub form_of-Blank : (id : ℕ) → form_of (Blank id) ≡ Some (atom_form (Blank id))
unfolding form_of
form_of-Blank id = refl

pub form_of-Prefix : (op : TermPrefix) (a : Term) → form_of (Prefix op a) ≡ form_of_prefix op a (form_of a)
unfolding form_of hidden-the_row-Term-0 hidden
form_of-Prefix op a = refl

pub form_of-Infix : (op : TermOp) (a b : Term) → form_of (Infix op a b) ≡ form_of_infix op a b (form_of a) (form_of b)
unfolding form_of hidden-the_row-Term-0 hidden
form_of-Infix op a b = refl

pub form_of-Unary : (op : UnaryOp) (a : Term) → form_of (Unary op a) ≡ Some (atom_form (Unary op a))
unfolding form_of
form_of-Unary op a = refl

pub form_of-Binary : (op : BinaryOp) (a b : Term) → form_of (Binary op a b) ≡ Some (atom_form (Binary op a b))
unfolding form_of
form_of-Binary op a b = refl

pub form_of-Ternary : (op : TernaryOp) (a b c : Term) → form_of (Ternary op a b c) ≡ Some (atom_form (Ternary op a b c))
unfolding form_of
form_of-Ternary op a b c = refl

-- the form at each form of a term
pub ruleset term_forms = (form_of-Number, form_of-Truth, form_of-Variable, form_of-Blank, form_of-Prefix, form_of-Infix, form_of-Unary, form_of-Binary, form_of-Ternary)

-- ---- comparisons

-- whether a comparison by this operator is one of integers other than `/=`, where the left operand is seen to be a number or not
abbrev pub is_listed : TermOp → Bool → Bool
is_listed op.Equal numeric = numeric
is_listed op.Less numeric = true
is_listed op.LessOrEqual numeric = true
is_listed op.Greater numeric = true
is_listed op.GreaterOrEqual numeric = true
is_listed _ numeric = false

-- what a form stands for is at least 0
abbrev pub at_least_zero : Form → Form
at_least_zero f = record f { equation = false }

-- it is above 0
abbrev pub above_zero : Form → Option Form
above_zero f = option_map at_least_zero (joined Sub f (constant_form (pos 1)))

-- the form of `a op b`, where these are the forms of a and b
abbrev pub form_of_comparison : TermOp → Option Form → Option Form → Option Form
form_of_comparison op.Equal f g = two (joined Sub) f g
form_of_comparison op.Less f g = once above_zero (two (joined Sub) g f)
form_of_comparison op.LessOrEqual f g = option_map at_least_zero (two (joined Sub) g f)
form_of_comparison op.Greater f g = once above_zero (two (joined Sub) f g)
form_of_comparison op.GreaterOrEqual f g = option_map at_least_zero (two (joined Sub) f g)
form_of_comparison _ f g = None

-- whether a term is a comparison of integers other than `/=`
unfoldable pub is_comparison : Term → Bool
is_comparison (infix_of op a b) = is_listed op (is_numeric a)
is_comparison t = false

-- the form of such a comparison
unfoldable pub linear_form : Term → Option Form
linear_form (infix_of op a b) = form_of_comparison op (form_of a) (form_of b)
linear_form t = None

pub is_comparison-Number : (n : ℤ) → is_comparison (Number n) ≡ false
unfolding is_comparison
is_comparison-Number n = refl

pub is_comparison-Truth : (b : Bool) → is_comparison (Truth b) ≡ false
unfolding is_comparison
is_comparison-Truth b = refl

pub is_comparison-Variable : (name : Name) → is_comparison (Variable name) ≡ false
unfolding is_comparison
is_comparison-Variable name = refl

pub is_comparison-Blank : (id : ℕ) → is_comparison (Blank id) ≡ false
unfolding is_comparison
is_comparison-Blank id = refl

pub is_comparison-Prefix : (op : TermPrefix) (a : Term) → is_comparison (Prefix op a) ≡ false
unfolding is_comparison
is_comparison-Prefix op a = refl

pub is_comparison-Infix : (op : TermOp) (a b : Term) → is_comparison (Infix op a b) ≡ is_listed op (is_numeric a)
unfolding is_comparison hidden-the_row-Term-0 hidden
is_comparison-Infix op a b = refl

pub is_comparison-Unary : (op : UnaryOp) (a : Term) → is_comparison (Unary op a) ≡ false
unfolding is_comparison
is_comparison-Unary op a = refl

pub is_comparison-Binary : (op : BinaryOp) (a b : Term) → is_comparison (Binary op a b) ≡ false
unfolding is_comparison
is_comparison-Binary op a b = refl

pub is_comparison-Ternary : (op : TernaryOp) (a b c : Term) → is_comparison (Ternary op a b c) ≡ false
unfolding is_comparison
is_comparison-Ternary op a b c = refl

pub linear_form-Infix : (op : TermOp) (a b : Term) → linear_form (Infix op a b) ≡ form_of_comparison op (form_of a) (form_of b)
unfolding linear_form hidden-the_row-Term-0 hidden
linear_form-Infix op a b = refl

-- which terms are such comparisons, and their forms
pub ruleset comparison_forms = (is_comparison-Number, is_comparison-Truth, is_comparison-Variable, is_comparison-Blank, is_comparison-Prefix, is_comparison-Infix, is_comparison-Unary, is_comparison-Binary, is_comparison-Ternary, linear_form-Infix)

-- ---- meaning

-- the number that a part is
abbrev pub part_value : Types → Valuation → Part → ℤ
part_value types v p = p.factor *ℤ as_number (value_of types v p.atom)

abbrev pub parts_value : Types → Valuation → List Part → ℤ
parts_value types v [] = pos 0
parts_value types v (p ∷ ps) = part_value types v p +ℤ parts_value types v ps

-- the number that a form is
abbrev pub form_value : Types → Valuation → Form → ℤ
form_value types v f = parts_value types v f.parts +ℤ f.constant

-- 0, or at least 0
abbrev pub Meets : Bool → ℤ → Type 0
Meets true n = n ≡ pos 0
Meets false n = pos 0 ≤ℤ n

-- what the form says is so: it is 0, or at least 0
abbrev pub FormHolds : Types → Valuation → Form → Type 0
FormHolds types v f = Meets f.equation (form_value types v f)

-- a well-sorted comparison holds where its form does, and nowhere else
abbrev pub LinearFormIsMeant : Type 0
LinearFormIsMeant =
    (types : Types) (v : Valuation) → Respects types v → (t : Term) → sort_of types t ≡ Some Boolean → is_comparison t ≡ true → (f : Form) → linear_form t ≡ Some f → Holds types t v ↔ FormHolds types v f
