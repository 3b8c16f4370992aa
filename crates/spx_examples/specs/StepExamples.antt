-- Terms and sequents on which the steps of proofs are tried.
use Rattle.std.specs.Prelude.{ℕ, ℤ, pos, false, Some, None, List, [], ◌∷◌}
use Rattle.spx_term.specs.declared.condition.Sequent.{Sequent}
use Rattle.spx_term.specs.declared.term.ArrayType.{ArrayType}
use Rattle.spx_term.specs.declared.term.BoundVariable.{BoundVariable}
use Rattle.spx_term.specs.declared.term.Component.TheVariants as component
use Rattle.spx_term.specs.declared.term.Sort.TheVariants.{Integer, Composite}
use Rattle.spx_term.specs.declared.term.Symbol.TheVariants.{New, Bound}
use Rattle.spx_term.specs.declared.term.Quantifier.TheVariants as quantifier
use Rattle.spx_term.specs.declared.term.TermOp.TheVariants as op
use Rattle.spx_term.specs.declared.term.TermPrefix.TheVariants as sign
use Rattle.spx_term.specs.declared.term.BinaryOp.TheVariants as binary
use Rattle.spx_term.specs.declared.term.TernaryOp.TheVariants as ternary
use Rattle.spx_term.specs.declared.term.Term.{Term}
use Rattle.spx_term.specs.declared.term.Term.TheVariants.{Truth, Variable, Prefix, Infix, Binary, Ternary}
use Rattle.spx_kernel.specs.declared.rule.Entry.{Entry}
use Rattle.spx_examples.specs.LinearExamples.{variable, i_in_range, n_is_small, integer_s, integer_i, integer_n, number, sum, product, equal, less, at_most, greater, at_least}

-- ---- sequents and entries

-- under these hypotheses the goal
abbrev pub under : List Term → Term → Sequent
under hyps goal = record { hyps = hyps; goal = goal }

-- the entry of a hypothesis, with its multiplier
abbrev pub hyp_times : ℕ → ℤ → Entry
hyp_times n m = record { hyp = Some (pos n); by = m }

-- the entry of the negation of the goal
abbrev pub goal_times : ℤ → Entry
goal_times m = record { hyp = None; by = m }

-- ---- truth values

-- `a and b`
abbrev pub both : Term → Term → Term
both a b = Infix op.And a b

-- `a or b`
abbrev pub either : Term → Term → Term
either a b = Infix op.Or a b

-- `a -> b`
abbrev pub implies : Term → Term → Term
implies a b = Infix op.Implies a b

-- `a <-> b`
abbrev pub equivalent : Term → Term → Term
equivalent a b = Infix op.Equivalent a b

-- `not a`
abbrev pub negation : Term → Term
negation a = Prefix sign.Not a

-- `false`
abbrev pub falsity : Term
falsity = Truth false

-- `(a >= low) and (a <= high)`
abbrev pub lies_in : Term → Term → Term → Term
lies_in a low high = both (at_least a low) (at_most a high)

-- ---- certificates

-- `I <= N` and `N <= 1000`
abbrev pub two_bounds : List Term
two_bounds = i_in_range ∷ n_is_small ∷ []

-- `I <= 1000`, which follows
abbrev pub i_is_small : Term
i_is_small = at_most integer_i (number 1000)

-- ---- divisions

-- `a / b`
abbrev pub quotient : Term → Term → Term
quotient a b = Infix op.Divide a b

-- `a rem b`
abbrev pub remainder : Term → Term → Term
remainder a b = Infix op.Rem a b

-- `a mod b`
abbrev pub modulus : Term → Term → Term
modulus a b = Infix op.Mod a b

-- `abs a`
abbrev pub distance : Term → Term
distance a = Prefix sign.Abs a

-- what a division of S by I gives
abbrev pub s_by_i : List Term
s_by_i =
    equal integer_s (sum (product integer_i (quotient integer_s integer_i)) (remainder integer_s integer_i))
    ∷ less (distance (remainder integer_s integer_i)) (distance integer_i)
    ∷ implies (at_least integer_s (number 0)) (at_least (remainder integer_s integer_i) (number 0))
    ∷ implies (at_most integer_s (number 0)) (at_most (remainder integer_s integer_i) (number 0))
    ∷ implies (greater integer_i (number 0)) (both (at_least (modulus integer_s integer_i) (number 0)) (less (modulus integer_s integer_i) integer_i))
    ∷ implies (less integer_i (number 0)) (both (at_most (modulus integer_s integer_i) (number 0)) (greater (modulus integer_s integer_i) integer_i))
    ∷ either (equal (modulus integer_s integer_i) (remainder integer_s integer_i)) (equal (modulus integer_s integer_i) (sum (remainder integer_s integer_i) integer_i))
    ∷ []

-- ---- quantifiers

-- the variables `J` and `K` of quantifiers, by the depth of the quantifier
abbrev pub of_j : ℕ → BoundVariable
of_j d = record { depth = d; variable = 5 }

abbrev pub of_k : ℕ → BoundVariable
of_k d = record { depth = d; variable = 6 }

-- `J#d` and `K#d`
abbrev pub bound_j : ℕ → Term
bound_j d = Variable (record { symbol = Bound (of_j d); sort = Integer })

abbrev pub bound_k : ℕ → Term
bound_k d = Variable (record { symbol = Bound (of_k d); sort = Integer })

-- `J!n`
abbrev pub new_j : ℕ → Term
new_j n = Variable (record { symbol = New (record { number = n; variable = 5 }); sort = Integer })

-- `for all J#1 in 1 .. N => (p)`
abbrev pub all_to_n : Term → Term
all_to_n p = Ternary (ternary.Quantified quantifier.All (of_j 1)) (number 1) integer_n p

-- `for some J#1 in 1 .. N => (p)`
abbrev pub some_to_n : Term → Term
some_to_n p = Ternary (ternary.Quantified quantifier.Some (of_j 1)) (number 1) integer_n p

-- `for all K#d in 1 .. a => (p)`
abbrev pub all_k_to : ℕ → Term → Term → Term
all_k_to d a p = Ternary (ternary.Quantified quantifier.All (of_k d)) (number 1) a p

-- `for all J#1 in 1 .. N => (J#1 <= S)`
abbrev pub all_below_s : Term
all_below_s = all_to_n (at_most (bound_j 1) integer_s)

-- `for some J#1 in 1 .. N => (J#1 <= S)`
abbrev pub some_below_s : Term
some_below_s = some_to_n (at_most (bound_j 1) integer_s)

-- `for all J#1 in 1 .. N => (for all K#2 in 1 .. J#1 => (K#2 <= J#1))`
abbrev pub one_in_another : Term
one_in_another = all_to_n (all_k_to 2 (bound_j 1) (at_most (bound_k 2) (bound_j 1)))

-- ---- arrays

-- an array type with a number from 0 to 9 at each index from 1 to 3
abbrev pub digits : ArrayType
digits = record { position = 0; first = pos 1; last = pos 3; element = component.Integer (pos 0) (pos 9) }

-- `A`, an array of this type
abbrev pub array_a : Term
array_a = variable 7 (Composite 0)

-- `a[i]`
abbrev pub element : Term → Term → Term
element a i = Binary (binary.Element digits) a i

-- `a[i => e]`
abbrev pub updated : Term → Term → Term → Term
updated a i e = Ternary (ternary.Update 0) a i e

-- `A[I => S][N]` and `A[N => S][I]`
abbrev pub n_of_update : Term
n_of_update = element (updated array_a integer_i integer_s) integer_n

abbrev pub i_of_update : Term
i_of_update = element (updated array_a integer_n integer_s) integer_i

-- `A[N]`
abbrev pub n_of_a : Term
n_of_a = element array_a integer_n
