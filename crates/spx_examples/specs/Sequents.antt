-- Sequents as terms, each shown as a formula, and values for their names.
use Rattle.std.specs.Prelude.{ℕ, zero, ℤ, pos, false, List, [], ◌∷◌}
use Rattle.spx_term.specs.declared.term.Sort.{Sort}
use Rattle.spx_term.specs.declared.term.Sort.TheVariants.{Integer, Boolean, Composite}
use Rattle.spx_term.specs.declared.term.Symbol.{Symbol}
use Rattle.spx_term.specs.declared.term.Symbol.TheVariants as symbol
use Rattle.spx_term.specs.declared.term.TermOp.TheVariants as sign
use Rattle.spx_term.specs.declared.term.TermPrefix.TheVariants.{Not}
use Rattle.spx_term.specs.declared.term.Term.{Term}
use Rattle.spx_term.specs.declared.term.Term.TheVariants as term
use Rattle.spx_term.specs.declared.value.Value.{Value}
use Rattle.spx_term.specs.declared.value.Value.TheVariants as value
use Rattle.spx_term.specs.Meaning.{Valuation}
use Rattle.spx_examples.specs.Increment.{entry_x, next_x}

-- ---- terms

-- the value on entry of a variable, by its position
abbrev pub entry_of : ℕ → Sort → Term
entry_of k s = term.Variable (record { symbol = symbol.Entry k; sort = s })

-- `Y~`, an integer
abbrev pub entry_y : Term
entry_y = entry_of 1 Integer

-- `Z~`, an integer
abbrev pub entry_z : Term
entry_z = entry_of 2 Integer

-- `B~`, a truth value
abbrev pub entry_b : Term
entry_b = entry_of 3 Boolean

-- `C~`, a truth value
abbrev pub entry_c : Term
entry_c = entry_of 4 Boolean

-- `a <= b`
abbrev pub at_most : Term → Term → Term
at_most a b = term.Infix sign.LessOrEqual a b

-- `a -> b`
abbrev pub implies : Term → Term → Term
implies a b = term.Infix sign.Implies a b

-- ---- hypotheses and goals

-- `X~ <= n`
abbrev pub x_at_most : ℤ → Term
x_at_most n = at_most entry_x (term.Number n)

-- `X~ <= Y~, Y~ <= Z~`
abbrev pub in_order : List Term
in_order = at_most entry_x entry_y ∷ at_most entry_y entry_z ∷ []

-- `B~ -> C~, not B~ -> C~`
abbrev pub in_both_cases : List Term
in_both_cases = implies entry_b entry_c ∷ implies (term.Prefix Not entry_b) entry_c ∷ []

-- `X~ <= Y~, Y~ <= X~`
abbrev pub in_both_orders : List Term
in_both_orders = at_most entry_x entry_y ∷ at_most entry_y entry_x ∷ []

-- `X~ <= 0, X~ >= 1`
abbrev pub contradictory : List Term
contradictory = x_at_most (pos 0) ∷ term.Infix sign.GreaterOrEqual entry_x (term.Number (pos 1)) ∷ []

-- `X~ < X~ + 1`
abbrev pub below_next : Term
below_next = term.Infix sign.Less entry_x next_x

-- ---- values

-- a number, or false where none is asked for
abbrev pub of_sort : Sort → ℤ → Value
of_sort Integer n = value.Number n
of_sort Boolean n = value.Truth false
of_sort (Composite id) n = value.Truth false

-- m for X~, n for every other
abbrev pub for_x : ℤ → ℤ → Symbol → ℤ
for_x m n (symbol.Entry zero) = m
for_x m n _ = n

-- X~ is m, each other number is n, and each truth value is false
abbrev pub where_x_is : ℤ → ℤ → Valuation
where_x_is m n name = of_sort name.sort (for_x m n name.symbol)
