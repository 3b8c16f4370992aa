-- Comparisons of integers, their linear forms, and multipliers. The comparisons are those of a loop that doubles.
use Rattle.std.specs.Prelude.{ℕ, ℤ, pos, negsuc, true, false, List, [], ◌∷◌}
use Rattle.spx_term.specs.declared.term.Sort.{Sort}
use Rattle.spx_term.specs.declared.term.Sort.TheVariants.{Integer, Boolean}
use Rattle.spx_term.specs.declared.term.Symbol.TheVariants.{Now}
use Rattle.spx_term.specs.declared.term.TermOp.TheVariants as op
use Rattle.spx_term.specs.declared.term.TermPrefix.TheVariants as sign
use Rattle.spx_term.specs.declared.term.Term.{Term}
use Rattle.spx_term.specs.declared.term.Term.TheVariants.{Number, Variable, Prefix, Infix}
use Rattle.spx_linear.specs.declared.form.Part.{Part}
use Rattle.spx_linear.specs.declared.form.Form.{Form}
use Rattle.spx_linear.specs.Forms.{part}

-- ---- terms

-- the value of the variable at this position
abbrev pub variable : ℕ → Sort → Term
variable k s = Variable (record { symbol = Now k; sort = s })

-- `S`, `I` and `N`, integers
abbrev pub integer_s : Term
integer_s = variable 0 Integer

abbrev pub integer_i : Term
integer_i = variable 1 Integer

abbrev pub integer_n : Term
integer_n = variable 2 Integer

-- `P` and `Q`, which are true or false
abbrev pub boolean_p : Term
boolean_p = variable 3 Boolean

abbrev pub boolean_q : Term
boolean_q = variable 4 Boolean

-- the literal of a number
abbrev pub number : ℕ → Term
number n = Number (pos n)

-- `a + b`
abbrev pub sum : Term → Term → Term
sum a b = Infix op.Add a b

-- `a * b`
abbrev pub product : Term → Term → Term
product a b = Infix op.Multiply a b

-- `-a`
abbrev pub minus : Term → Term
minus a = Prefix sign.Minus a

-- `a = b`
abbrev pub equal : Term → Term → Term
equal a b = Infix op.Equal a b

-- `a /= b`
abbrev pub unequal : Term → Term → Term
unequal a b = Infix op.NotEqual a b

-- `a < b`
abbrev pub less : Term → Term → Term
less a b = Infix op.Less a b

-- `a <= b`
abbrev pub at_most : Term → Term → Term
at_most a b = Infix op.LessOrEqual a b

-- `a > b`
abbrev pub greater : Term → Term → Term
greater a b = Infix op.Greater a b

-- `a >= b`
abbrev pub at_least : Term → Term → Term
at_least a b = Infix op.GreaterOrEqual a b

-- ---- comparisons

-- `S = 2 * I`, `I <= N`, `0 <= N` and `N <= 1000`, the hypotheses
abbrev pub s_is_doubled : Term
s_is_doubled = equal integer_s (product (number 2) integer_i)

abbrev pub i_in_range : Term
i_in_range = at_most integer_i integer_n

abbrev pub n_is_natural : Term
n_is_natural = at_most (number 0) integer_n

abbrev pub n_is_small : Term
n_is_small = at_most integer_n (number 1000)

abbrev pub hypotheses : List Term
hypotheses = s_is_doubled ∷ i_in_range ∷ n_is_natural ∷ n_is_small ∷ []

-- `S + 2 <= 2147483647`, the goal
abbrev pub s_fits : Term
s_fits = at_most (sum integer_s (number 2)) (number 2147483647)

-- `S + 2 > 2147483647`, its negation
abbrev pub s_is_wide : Term
s_is_wide = greater (sum integer_s (number 2)) (number 2147483647)

-- `a = 0`
abbrev pub equals_zero : Term → Term
equals_zero a = equal a (number 0)

-- `I + I < N`
abbrev pub twice_is_less : Term
twice_is_less = less (sum integer_i integer_i) integer_n

-- `I <= I`
abbrev pub i_is_itself : Term
i_is_itself = at_most integer_i integer_i

-- ---- forms

-- that a sum is 0
abbrev pub equation : List Part → ℤ → Form
equation ps n = record { parts = ps; constant = n; equation = true }

-- that a sum is at least 0
abbrev pub inequality : List Part → ℤ → Form
inequality ps n = record { parts = ps; constant = n; equation = false }

-- `S - 2 * I = 0`
abbrev pub doubled_form : Form
doubled_form = equation (part (pos 1) integer_s ∷ part (negsuc 1) integer_i ∷ []) (pos 0)

-- `N - I >= 0`
abbrev pub range_form : Form
range_form = inequality (part (pos 1) integer_n ∷ part (negsuc 0) integer_i ∷ []) (pos 0)

-- `N >= 0`
abbrev pub natural_form : Form
natural_form = inequality (part (pos 1) integer_n ∷ []) (pos 0)

-- `-N + 1000 >= 0`
abbrev pub small_form : Form
small_form = inequality (part (negsuc 0) integer_n ∷ []) (pos 1000)

-- `S - 2147483646 >= 0`
abbrev pub wide_form : Form
wide_form = inequality (part (pos 1) integer_s ∷ []) (negsuc 2147483645)

-- `N - 2 * I - 1 >= 0`
abbrev pub twice_form : Form
twice_form = inequality (part (pos 1) integer_n ∷ part (negsuc 1) integer_i ∷ []) (negsuc 0)

-- `0 * I >= 0`
abbrev pub itself_form : Form
itself_form = inequality (part (pos 0) integer_i ∷ []) (pos 0)

-- the goal that is negated, with all hypotheses but `0 <= N`
abbrev pub goal_and_bounds : List Form
goal_and_bounds = wide_form ∷ doubled_form ∷ range_form ∷ small_form ∷ []

-- their multipliers in a certificate
abbrev pub certificate : List ℤ
certificate = pos 1 ∷ negsuc 0 ∷ pos 2 ∷ pos 2 ∷ []

-- `n = 0`
abbrev pub constant : ℤ → Form
constant n = equation [] n

-- ---- numbers

-- the greatest number of 128 bits
abbrev pub most : ℤ
most = pos 170141183460469231731687303715884105727

-- the least one
abbrev pub least : ℤ
least = negsuc 170141183460469231731687303715884105727

-- 2 ** 126
abbrev pub half : ℕ
half = 85070591730234615865843651857942052864
