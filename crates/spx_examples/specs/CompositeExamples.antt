-- Terms over arrays, records and quantifiers, the types in them, and values for their names.
use Rattle.std.specs.Prelude.{ℕ, zero, suc, ℤ, pos, false, List, [], ◌∷◌}
use Rattle.spx_term.specs.declared.term.Sort.{Sort}
use Rattle.spx_term.specs.declared.term.Sort.TheVariants.{Integer, Boolean, Composite}
use Rattle.spx_term.specs.declared.term.Name.{Name}
use Rattle.spx_term.specs.declared.term.Symbol.TheVariants.{Entry, Bound}
use Rattle.spx_term.specs.declared.term.TermOp.TheVariants as op
use Rattle.spx_term.specs.declared.term.Component.{Component}
use Rattle.spx_term.specs.declared.term.Component.TheVariants as component
use Rattle.spx_term.specs.declared.term.ArrayType.{ArrayType}
use Rattle.spx_term.specs.declared.term.FieldName.{FieldName}
use Rattle.spx_term.specs.declared.term.BoundVariable.{BoundVariable}
use Rattle.spx_term.specs.declared.term.Quantifier.TheVariants as quantifier
use Rattle.spx_term.specs.declared.term.UnaryOp.TheVariants as unary
use Rattle.spx_term.specs.declared.term.BinaryOp.TheVariants as binary
use Rattle.spx_term.specs.declared.term.TernaryOp.TheVariants as ternary
use Rattle.spx_term.specs.declared.term.Term.{Term}
use Rattle.spx_term.specs.declared.term.Term.TheVariants.{Number, Variable, Blank, Infix, Unary, Binary, Ternary}
use Rattle.spx_term.specs.declared.value.Shape.{Shape}
use Rattle.spx_term.specs.declared.value.Shape.TheVariants as shape
use Rattle.spx_term.specs.declared.value.Value.{Value}
use Rattle.spx_term.specs.declared.value.Value.TheVariants as value
use Rattle.spx_term.specs.Meaning.{Valuation}
use Rattle.spx_term.specs.Values.{Types, first_value}

-- ---- types

-- the numbers from 0 to 9
abbrev pub digit : Component
digit = component.Integer (pos 0) (pos 9)

-- T, an array type with a digit at each index from 1 to 3
abbrev pub numbers : ArrayType
numbers = record { position = 0; first = pos 1; last = pos 3; element = digit }

-- F and G, two digits in the record type P
abbrev pub field_f : FieldName
field_f = record { position = 1; place = 0 }

abbrev pub field_g : FieldName
field_g = record { position = 1; place = 1 }

-- F and G in the record type Q; F is an array of the type T, and G a digit
abbrev pub array_f : FieldName
array_f = record { position = 2; place = 0 }

abbrev pub digit_g : FieldName
digit_g = record { position = 2; place = 1 }

-- what the values of a digit and of T look like
abbrev pub digit_shape : Shape
digit_shape = shape.Integer (pos 0) (pos 9)

abbrev pub numbers_shape : Shape
numbers_shape = shape.Array 0 (pos 1) (pos 3) digit_shape

-- what T, P and Q look like
abbrev pub types : Types
types zero = numbers_shape
types (suc zero) = shape.Record 1 (digit_shape ∷ digit_shape ∷ [])
types _ = shape.Record 2 (numbers_shape ∷ digit_shape ∷ [])

-- ---- names

-- the value on entry of the variable at this position
abbrev pub entry : ℕ → Sort → Term
entry k s = Variable (record { symbol = Entry k; sort = s })

-- `A`, an array of the type T
abbrev pub array_a : Term
array_a = entry 0 (Composite 0)

-- `R`, a record of the type P
abbrev pub record_r : Term
record_r = entry 1 (Composite 1)

-- `N`, a record of the type Q
abbrev pub nested_n : Term
nested_n = entry 2 (Composite 2)

-- `X`, an integer
abbrev pub name_x : Name
name_x = record { symbol = Entry 3; sort = Integer }

abbrev pub integer_x : Term
integer_x = Variable name_x

-- ---- operations

-- the literal of a number
abbrev pub number : ℕ → Term
number n = Number (pos n)

-- `a[i]`
abbrev pub at : Term → Term → Term
at a i = Binary (binary.Element numbers) a i

-- `a[i => e]`
abbrev pub with_at : Term → Term → Term → Term
with_at a i e = Ternary (ternary.Update 0) a i e

-- `R.F` or `R.G` of a record of the type P
abbrev pub digit_of : Term → FieldName → Term
digit_of r f = Unary (unary.Field f digit) r

-- `N.F` of a record of the type Q
abbrev pub array_of : Term → Term
array_of n = Unary (unary.Field array_f (component.Composite 0)) n

-- `r[F => e]`
abbrev pub with_in : Term → FieldName → Term → Term
with_in r f e = Binary (binary.Update f) r e

-- the first value of T, with which an aggregate begins where it has no `others`
abbrev pub blank_t : Term
blank_t = Blank 0

-- `T'(others => e)`
abbrev pub others_t : Term → Term
others_t e = Unary (unary.Others 0) e

-- the aggregate of the type T with e from one index to another, and else as t
abbrev pub aggregate : Term → ℕ → ℕ → Term → Term
aggregate t low high e = Binary (binary.Elements 0 (pos low) (pos high)) t e

-- `T'(1 => 4, 2 .. 3 => 5)`
abbrev pub four_and_fives : Term
four_and_fives = aggregate (aggregate blank_t 2 3 (number 5)) 1 1 (number 4)

-- `T'(1 => 4, 1 .. 3 => 5)`, in which two ranges have the index 1
abbrev pub four_over_fives : Term
four_over_fives = aggregate (aggregate blank_t 1 3 (number 5)) 1 1 (number 4)

-- `T'(1 => 4, others => 6)`
abbrev pub four_and_others : Term
four_and_others = aggregate (others_t (number 6)) 1 1 (number 4)

-- `T'(1 => 10, others => 6)`, with an element that is no digit
abbrev pub ten_and_others : Term
ten_and_others = aggregate (others_t (number 6)) 1 1 (number 10)

-- `P'(F => 1, G => 2)`
abbrev pub one_and_two : Term
one_and_two = Binary (binary.Field field_f) (Binary (binary.Field field_g) (Blank 1) (number 2)) (number 1)

-- `N[F => A[1 => 5]][G => 2]`
abbrev pub updated_n : Term
updated_n = with_in (with_in nested_n array_f (with_at array_a (number 1) (number 5))) digit_g (number 2)

-- `K`, the variable of a quantifier
abbrev pub bound_k : BoundVariable
bound_k = record { depth = 1; variable = 4 }

abbrev pub integer_k : Term
integer_k = Variable (record { symbol = Bound bound_k; sort = Integer })

-- the same variable, of a quantifier one level deeper
abbrev pub deeper_k : Term
deeper_k = Variable (record { symbol = Bound (record { depth = 2; variable = 4 }); sort = Integer })

-- `for all K in low .. high => p`
abbrev pub for_all : Term → Term → Term → Term
for_all low high p = Ternary (ternary.Quantified quantifier.All bound_k) low high p

-- `for some K in low .. high => p`
abbrev pub for_some : Term → Term → Term → Term
for_some low high p = Ternary (ternary.Quantified quantifier.Some bound_k) low high p

-- `for all K in 1 .. 1 => K = t`
abbrev pub each_is : Term → Term
each_is t = for_all (number 1) (number 1) (Infix op.Equal integer_k t)

-- `K = 1`
abbrev pub k_is_one : Term
k_is_one = Infix op.Equal integer_k (number 1)

-- an aggregate with one range of 2 ** 31 elements; it is there for its size, and T has no such indexes
abbrev pub wide : Term
wide = aggregate blank_t 0 2147483647 (number 4)

-- ---- hypotheses and goals

-- `a in T`
abbrev pub in_t : Term → Term
in_t a = Unary (unary.In 0) a

-- `n in Q`
abbrev pub in_q : Term → Term
in_q n = Unary (unary.In 2) n

-- `a >= n`
abbrev pub at_least : Term → ℕ → Term
at_least a n = Infix op.GreaterOrEqual a (number n)

-- `a <= n`
abbrev pub at_most : Term → ℕ → Term
at_most a n = Infix op.LessOrEqual a (number n)

-- `a = n`
abbrev pub is : Term → ℕ → Term
is a n = Infix op.Equal a (number n)

-- `X >= 1, X <= 3`
abbrev pub x_in_range : List Term
x_in_range = at_least integer_x 1 ∷ at_most integer_x 3 ∷ []

-- `A[X => 7][X] = 7`
abbrev pub updated_is_read : Term
updated_is_read = is (at (with_at array_a integer_x (number 7)) integer_x) 7

-- ---- values

-- a value of the sort: n as a number, false, or the first value of the type
abbrev pub of_sort : ℤ → Sort → Value
of_sort n Integer = value.Number n
of_sort n Boolean = value.Truth false
of_sort n (Composite id) = first_value (types id)

-- each integer is n, and each array and each record is the first value of its type
abbrev pub where_x_is : ℤ → Valuation
where_x_is n name = of_sort n name.sort

-- a value of the sort: 1, false, an array with n at each index, or the first value of a record type
abbrev pub elements_of_sort : ℤ → Sort → Value
elements_of_sort n Integer = value.Number (pos 1)
elements_of_sort n Boolean = value.Truth false
elements_of_sort n (Composite zero) = value.Elements (pos 1) (value.Number n ∷ value.Number n ∷ value.Number n ∷ [])
elements_of_sort n (Composite (suc id)) = first_value (types (suc id))

-- each element of an array of the type T is n, and each integer is 1
abbrev pub where_elements_are : ℤ → Valuation
where_elements_are n name = elements_of_sort n name.sort

-- an array with these elements at 1, 2 and 3
abbrev pub numbers_of : ℕ → ℕ → ℕ → Value
numbers_of k m n = value.Elements (pos 1) (value.Number (pos k) ∷ value.Number (pos m) ∷ value.Number (pos n) ∷ [])

-- a record with these values of F and G
abbrev pub digits_of : ℕ → ℕ → Value
digits_of m n = value.Fields (value.Number (pos m) ∷ value.Number (pos n) ∷ [])
