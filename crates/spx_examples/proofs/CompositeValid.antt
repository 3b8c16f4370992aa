-- Which sequents are valid, and values that refute others.
use Rattle.std.proofs.Common.{◌≡◌, ℕ, zero, suc, ℤ, pos, negsuc, Some, Bool, true, false, ◌&&◌, [], ◌∷◌, sym, ap, ap₂, ◌∙◌, arith, int_le}
use Rattle.std.proofs.lemmas.Int.{ints}
use Rattle.std.proofs.lemmas.List.Elements.{All-cons, All-nil, All-head, All-tail}
use Rattle.spx_term.specs.declared.term.Sort.{Sort}
use Rattle.spx_term.specs.declared.term.Sort.TheVariants.{Integer, Boolean, Composite}
use Rattle.spx_term.specs.declared.term.Symbol.TheVariants.{Entry}
use Rattle.spx_term.specs.declared.term.TermOp.TheVariants as op
use Rattle.spx_term.specs.declared.term.UnaryOp.TheVariants as unary
use Rattle.spx_term.specs.declared.term.Term.{Term}
use Rattle.spx_term.specs.declared.value.Value.{Value}
use Rattle.spx_term.specs.declared.value.Value.TheVariants as value
use Rattle.spx_term.specs.Values.{first_value, is_in, element_in, element_at, with_elements}
use Rattle.spx_term.specs.Meaning.{as_number, value_of, value_of_unary, value_of_op, HasSort, Holds, Respects, Valid, Valuation}
use Rattle.spx_term.specs.Sorts.{sort_of}
use Rattle.spx_term.specs.Plain.{closes}
use Rattle.spx_term.proofs.Terms.{value-Number, value-Variable, value-Unary, value-Infix}
use Rattle.spx_term.proofs.ValueLaws.{first_is_in, read_inside}
use Rattle.spx_term.proofs.PlainLaws.{plain_valid}
use Rattle.spx_examples.proofs.CompositeMeaning.{name_a, has_numbers, put_is, put_outside, element_is, read_outside, first_digit}
use Rattle.spx_examples.proofs.CompositeValues.{numbers_in, zeros_in, part_in}
use Rattle.spx_examples.proofs.CompositePlain.{answers, closed}
use Rattle.spx_examples.proofs.CompositeSorts.{variable_has, element_has, digit_has, part_has, in_t_has, in_q_has, least_has, most_has, is_has}
use Rattle.spx_examples.specs.CompositeExamples.{types, digit_shape, numbers_shape, array_a, integer_x, number, at, with_at, is, at_least, at_most, x_in_range, updated_is_read, of_sort, where_x_is, elements_of_sort, where_elements_are, in_t, in_q, digit_of, array_of, record_r, nested_n, field_f}

truth_is : (a b : Bool) → value.Truth a ≡ value.Truth b → a ≡ b
truth_is a b h = cc

both_true : (a b : Bool) → a ≡ true → b ≡ true → (a && b) ≡ true
both_true a b p q = ap₂ ◌&&◌ p q

no_less : (m : ℤ) → int_le m m ≡ true
no_less m = grind (arith, ints)

module _ (v : Valuation) where
  abbrev x_value : ℤ
  x_value = as_number (value_of types v integer_x)

  -- what the hypotheses say
  least : Holds types (at_least integer_x 1) v → int_le (pos 1) x_value ≡ true
  unfolding value_of_op
  least h = truth_is _ _ (sym (value-Infix types v op.GreaterOrEqual integer_x (number 1) ∙ ap (λ (n : Value). value.Truth (int_le (as_number n) x_value)) (value-Number types v (pos 1))) ∙ h)

  most : Holds types (at_most integer_x 3) v → int_le x_value (pos 3) ≡ true
  unfolding value_of_op
  most h = truth_is _ _ (sym (value-Infix types v op.LessOrEqual integer_x (number 3) ∙ ap (λ (n : Value). value.Truth (int_le x_value (as_number n))) (value-Number types v (pos 3))) ∙ h)

  -- the element that the goal compares
  read_is : value_of types v (at (with_at array_a integer_x (number 7)) integer_x) ≡ element_at (first_value digit_shape) x_value (with_elements x_value x_value (value.Number (pos 7)) (v name_a))
  read_is = element_is v (with_at array_a integer_x (number 7)) integer_x ∙ ap (element_at (first_value digit_shape) x_value) (put_is v integer_x)

  -- the value of the goal, where the element is a number
  goal_is : (x : Value) → value_of types v (at (with_at array_a integer_x (number 7)) integer_x) ≡ x → value_of types v updated_is_read ≡ value_of_op op.Equal x (value.Number (pos 7))
  goal_is x e = value-Infix types v op.Equal (at (with_at array_a integer_x (number 7)) integer_x) (number 7) ∙ ap₂ (value_of_op op.Equal) e (value-Number types v (pos 7))

pub updated_valid : Valid types x_in_range updated_is_read
unfolding value_of_op
updated_valid v respects known =
    let test = λ (hyp : Term). Holds types hyp v in
    let first = least v (All-head test (at_least integer_x 1) (at_most integer_x 3 ∷ []) known) in
    let second = most v (All-head test (at_most integer_x 3) [] (All-tail test (at_least integer_x 1) (at_most integer_x 3 ∷ []) known)) in
    let m = x_value v in
    let here = both_true (int_le m m) (int_le m m) (no_less m) (no_less m) in
    let inside = both_true (int_le (pos 1) m) (int_le m (pos 3)) first second in
    goal_is v (value.Number (pos 7)) (read_is v ∙ read_inside (pos 1) (pos 3) (is_in false digit_shape) (v name_a) (has_numbers v respects) (first_value digit_shape) (value.Number (pos 7)) m m m here inside)

-- ---- where X is 4

abbrev four : Valuation
four = where_x_is (pos 4)

of_its_sort : (s : Sort) → HasSort types s (of_sort (pos 4) s)
of_its_sort Integer = tt
of_its_sort Boolean = tt
of_its_sort (Composite id) = first_is_in (types id)

pub four_sorted : Respects types four
four_sorted name = of_its_sort name.sort

x_is_four : x_value four ≡ pos 4
x_is_four = ap as_number (value-Variable types four (record { symbol = Entry 3; sort = Integer }))

element_is_zero : value_of types four (at (with_at array_a integer_x (number 7)) integer_x) ≡ value.Number (pos 0)
element_is_zero =
    let a = has_numbers four four_sorted in
    read_is four
    ∙ ap (λ n. element_at (first_value digit_shape) n (with_elements n n (value.Number (pos 7)) (four name_a))) x_is_four
    ∙ ap (element_at (first_value digit_shape) (pos 4)) (put_outside (value.Number (pos 7)) (four name_a) a)
    ∙ read_outside (first_value digit_shape) (four name_a) a
    ∙ first_digit

goal_is_false : value_of types four updated_is_read ≡ value.Truth false
unfolding value_of_op
goal_is_false = goal_is four (value.Number (pos 0)) element_is_zero

pub at_four : ¬ Holds types updated_is_read four
at_four h = absurd (let e : false ≡ true = truth_is false true (sym goal_is_false ∙ h) in cc)

pub updated_not_valid : ¬ Valid types [] updated_is_read
updated_not_valid valid = at_four (valid four four_sorted (All-nil (λ (hyp : Term). Holds types hyp four)))

-- ---- an element outside of its type

-- an element that is a number, compared with another
least_is : (v : Valuation) (a : Term) (n : ℕ) (x : Value) → value_of types v a ≡ x → value_of types v (at_least a n) ≡ value.Truth (int_le (pos n) (as_number x))
unfolding value_of_op
least_is v a n x e = value-Infix types v op.GreaterOrEqual a (number n) ∙ ap₂ (λ (y m : Value). value.Truth (int_le (as_number m) (as_number y))) e (value-Number types v (pos n))

false_fails : (v : Valuation) (t : Term) → value_of types v t ≡ value.Truth false → ¬ Holds types t v
false_fails v t e h = absurd (let f : false ≡ true = truth_is false true (sym e ∙ h) in cc)

abbrev negative : Valuation
negative = where_elements_are (negsuc 0)

has_elements : (s : Sort) → HasSort types s (elements_of_sort (negsuc 0) s)
has_elements Integer = tt
has_elements Boolean = tt
has_elements (Composite zero) = numbers_in false (negsuc 0) (negsuc 0) (negsuc 0)
has_elements (Composite (suc id)) = first_is_in (types (suc id))

pub negative_sorted : Respects types negative
negative_sorted name = has_elements name.sort

negative_read : value_of types negative (at array_a integer_x) ≡ value.Number (negsuc 0)
unfolding element_at
negative_read =
    let minus = value.Number (negsuc 0) in
    let xs = minus ∷ minus ∷ minus ∷ [] in
    element_is negative array_a integer_x
    ∙ ap₂ (λ (n x : Value). element_at (first_value digit_shape) (as_number n) x) (value-Variable types negative (record { symbol = Entry 3; sort = Integer })) (value-Variable types negative name_a)
    ∙ ap (element_in (first_value digit_shape) (pos 1)) (value.outs-Elements (pos 1) xs)

pub negative_fails : ¬ Holds types (at_least (at array_a integer_x) 0) negative
negative_fails = false_fails negative _ (least_is negative (at array_a integer_x) 0 (value.Number (negsuc 0)) negative_read)

pub negative_not_valid : ¬ Valid types [] (at_least (at array_a integer_x) 0)
negative_not_valid valid = negative_fails (valid negative negative_sorted (All-nil (λ (hyp : Term). Holds types hyp negative)))

-- that another array is in its type does not mend it
pub other_part_not_valid : ¬ Valid types (in_t (array_of nested_n) ∷ []) (at_least (at array_a integer_x) 0)
other_part_not_valid valid =
    let test = λ (hyp : Term). Holds types hyp negative in
    let holds = part_in negative (value-Variable types negative (record { symbol = Entry 2; sort = Composite 2 })) in
    negative_fails (valid negative negative_sorted (All-cons test (in_t (array_of nested_n)) [] holds (All-nil test)))

-- ---- an element that is the first of its type

zero_read : value_of types four (at array_a integer_x) ≡ value.Number (pos 0)
zero_read =
    element_is four array_a integer_x
    ∙ ap (λ n. element_at (first_value digit_shape) n (value_of types four array_a)) x_is_four
    ∙ ap (element_at (first_value digit_shape) (pos 4)) (value-Variable types four name_a)
    ∙ read_outside (first_value digit_shape) (four name_a) (has_numbers four four_sorted)
    ∙ first_digit

zeros_hold : Holds types (in_t array_a) four
unfolding value_of_unary
zeros_hold = value-Unary types four (unary.In 0) array_a ∙ ap (λ x. value.Truth (is_in true numbers_shape x)) (value-Variable types four name_a) ∙ ap value.Truth zeros_in

pub zero_not_valid : ¬ Valid types (in_t array_a ∷ []) (at_least (at array_a integer_x) 1)
zero_not_valid valid =
    let test = λ (hyp : Term). Holds types hyp four in
    false_fails four _ (least_is four (at array_a integer_x) 1 (value.Number (pos 0)) zero_read) (valid four four_sorted (All-cons test (in_t array_a) [] zeros_hold (All-nil test)))

-- ---- sequents that need no proof are valid

module _ (hyp goal : Term) where
  valid_by : sort_of types hyp ≡ Some Boolean → sort_of types goal ≡ Some Boolean → closes (hyp ∷ []) goal ≡ true → Valid types (hyp ∷ []) goal
  valid_by p q h = let test = λ (t : Term). sort_of types t ≡ Some Boolean in plain_valid types (hyp ∷ []) goal (All-cons test hyp [] p (All-nil test)) q (closed (hyp ∷ []) goal h)

pub element_valid : Valid types (in_t array_a ∷ []) (at_least (at array_a integer_x) 0)
element_valid = valid_by _ _ (in_t_has _ (variable_has _)) (least_has _ 0 (element_has _ _ (variable_has _) (variable_has _))) answers.0

pub field_valid : Valid types (is (digit_of record_r field_f) 3 ∷ []) (at_most (digit_of record_r field_f) 5)
field_valid = valid_by _ _ (is_has _ 3 (digit_has _ (variable_has _))) (most_has _ 5 (digit_has _ (variable_has _))) answers.3

part_least : sort_of types (at_least (at (array_of nested_n) integer_x) 0) ≡ Some Boolean
part_least = least_has _ 0 (element_has _ _ (part_has _ (variable_has _)) (variable_has _))

pub whole_valid : Valid types (in_q nested_n ∷ []) (at_least (at (array_of nested_n) integer_x) 0)
whole_valid = valid_by _ _ (in_q_has _ (variable_has _)) part_least answers.5

pub part_valid : Valid types (in_t (array_of nested_n) ∷ []) (at_least (at (array_of nested_n) integer_x) 0)
part_valid = valid_by _ _ (in_t_has _ (part_has _ (variable_has _))) part_least answers.6
