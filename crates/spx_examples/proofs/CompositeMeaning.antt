-- What terms over arrays, records and quantifiers mean.
use Rattle.std.proofs.Common.{◌≡◌, ℕ, ℤ, pos, Bool, false, List, [], ◌∷◌, length, refl, sym, ap, ap₂, ◌∙◌}
use Rattle.std.specs.Prelude.{if◌then◌else◌}
use Rattle.std.specs.Ordering.{int_eq}
use Rattle.spx_term.specs.declared.term.Name.{Name}
use Rattle.spx_term.specs.declared.term.Sort.TheVariants.{Composite}
use Rattle.spx_term.specs.declared.term.Symbol.TheVariants.{Entry}
use Rattle.spx_term.specs.declared.term.TermOp.TheVariants as op
use Rattle.spx_term.specs.declared.term.Quantifier.{Quantifier}
use Rattle.spx_term.specs.declared.term.BinaryOp.TheVariants as binary
use Rattle.spx_term.specs.declared.term.TernaryOp.TheVariants as ternary
use Rattle.spx_term.specs.declared.term.Term.{Term}
use Rattle.spx_term.specs.declared.term.Term.TheVariants.{Number, Ternary}
use Rattle.spx_term.specs.declared.value.Shape.{Shape, map-Shape, fold_out-Shape}
use Rattle.spx_term.specs.declared.value.Shape.TheVariants as shape
use Rattle.spx_term.specs.declared.value.Value.{Value, roll-Value, roll-out-Value}
use Rattle.spx_term.specs.declared.value.Value.TheVariants as value
use Rattle.spx_term.specs.Values.{first_step, first_value, is_in, element_in, element_at, nth, replaced, with_elements}
use Rattle.spx_term.specs.Meaning.{as_number, as_truth, quantified, bound, value_of, value_of_op, value_of_binary, with_value_at, Valuation, Respects}
use Rattle.spx_term.proofs.Equality.{same_name-Decides}
use Rattle.spx_term.proofs.Terms.{value-Number, value-Variable, value-Infix, value-Binary, value-Ternary}
use Rattle.spx_term.proofs.CompositeLaws.{ArrayShape, array_passes}
use Rattle.spx_term.proofs.FoldingLaws.{quantified_same}
use Rattle.spx_term.proofs.ValueLaws.{ArrayValue, with_elements_is, read_inside}
use Rattle.spx_examples.specs.CompositeExamples.{types, digit_shape, numbers_shape, numbers, array_a, number, at, with_at, bound_k, integer_k, k_is_one}

-- ---- quantifiers

-- over literals
pub over_literals : (v : Valuation) (q : Quantifier) (m n : ℤ) (p : Term) → value_of types v (Ternary (ternary.Quantified q bound_k) (Number m) (Number n) p) ≡ value.Truth (quantified q m n (λ k. as_truth (value_of types (with_value_at v (bound bound_k) (value.Number k)) p)))
over_literals v q m n p =
    value-Ternary types v (ternary.Quantified q bound_k) (Number m) (Number n) p
    ∙ ap₂ (λ (a b : Value). value.Truth (quantified q (as_number a) (as_number b) (λ k. as_truth (value_of types (with_value_at v (bound bound_k) (value.Number k)) p)))) (value-Number types v m) (value-Number types v n)

bound_is : (v : Valuation) (x : Name) (w : Value) → with_value_at v x w x ≡ w
bound_is v x w = ap (λ (b : Bool). if b then w else v x) ((same_name-Decides x x).1 refl)

is_one : (v : Valuation) (k : ℤ) → as_truth (value_of types (with_value_at v (bound bound_k) (value.Number k)) k_is_one) ≡ int_eq k (pos 1)
unfolding value_of_op
is_one v k =
    let w = with_value_at v (bound bound_k) (value.Number k) in
    ap as_truth (value-Infix types w op.Equal integer_k (number 1) ∙ ap₂ (value_of_op op.Equal) (value-Variable types w (bound bound_k) ∙ bound_is v (bound bound_k) (value.Number k)) (value-Number types w (pos 1)))

pub one_in : (v : Valuation) (q : Quantifier) (m n : ℤ) → value_of types v (Ternary (ternary.Quantified q bound_k) (Number m) (Number n) k_is_one) ≡ value.Truth (quantified q m n (λ k. int_eq k (pos 1)))
one_in v q m n = over_literals v q m n k_is_one ∙ ap value.Truth (quantified_same q m n _ (λ k. int_eq k (pos 1)) (is_one v))

-- ---- arrays

numbers_look : ArrayShape numbers_shape digit_shape
numbers_look = record { id = 0; low = pos 1; high = pos 3; is = shape.outs-Array 0 (pos 1) (pos 3) digit_shape }

abbrev pub name_a : Name
name_a = record { symbol = Entry 0; sort = Composite 0 }

abbrev pub OfNumbers : Value → Type 0
OfNumbers x = ArrayValue (pos 1) (pos 3) (is_in false digit_shape) x

pub has_numbers : (v : Valuation) → Respects types v → OfNumbers (v name_a)
unfolding numbers_look
has_numbers v respects = array_passes false numbers_shape digit_shape numbers_look (v name_a) (respects name_a)

three_replaced : (e : Value) (xs : List Value) → length xs ≡ 3 → replaced (pos 4) (pos 4) e (pos 1) xs ≡ xs
three_replaced e [] h = absurd (cc)
three_replaced e (a ∷ []) h = absurd (cc)
three_replaced e (a ∷ b ∷ []) h = absurd (cc)
three_replaced e (a ∷ b ∷ c ∷ []) h = refl
three_replaced e (a ∷ b ∷ c ∷ d ∷ xs) h = absurd (cc)

three_read : (other : Value) (xs : List Value) → length xs ≡ 3 → nth other (pos 4) (pos 1) xs ≡ other
three_read other [] h = absurd (cc)
three_read other (a ∷ []) h = absurd (cc)
three_read other (a ∷ b ∷ []) h = absurd (cc)
three_read other (a ∷ b ∷ c ∷ []) h = refl
three_read other (a ∷ b ∷ c ∷ d ∷ xs) h = absurd (cc)

elements_are : (x : Value) (a : OfNumbers x) → x ≡ value.Elements (pos 1) a.items
elements_are x a = sym (roll-out-Value x) ∙ ap roll-Value a.is ∙ value.rolls-Elements (pos 1) a.items

pub put_outside : (e x : Value) → OfNumbers x → with_elements (pos 4) (pos 4) e x ≡ x
put_outside e x a = with_elements_is (pos 1) (pos 3) (is_in false digit_shape) (pos 4) (pos 4) e x a ∙ ap (value.Elements (pos 1)) (three_replaced e a.items a.many) ∙ sym (elements_are x a)

-- the array with 7 at an index
pub put_is : (v : Valuation) (i : Term) → value_of types v (with_at array_a i (number 7)) ≡ with_elements (as_number (value_of types v i)) (as_number (value_of types v i)) (value.Number (pos 7)) (v name_a)
put_is v i =
    let n = as_number (value_of types v i) in
    value-Ternary types v (ternary.Update 0) array_a i (number 7) ∙ ap₂ (λ (e x : Value). with_elements n n e x) (value-Number types v (pos 7)) (value-Variable types v name_a)

put_at : (v : Valuation) (i : ℕ) → value_of types v (with_at array_a (number i) (number 7)) ≡ with_elements (pos i) (pos i) (value.Number (pos 7)) (v name_a)
put_at v i = put_is v (number i) ∙ ap (λ (n : Value). with_elements (as_number n) (as_number n) (value.Number (pos 7)) (v name_a)) (value-Number types v (pos i))

pub outside_is_kept : (v : Valuation) → Respects types v → value_of types v (with_at array_a (number 4) (number 7)) ≡ value_of types v array_a
outside_is_kept v respects = put_at v 4 ∙ put_outside (value.Number (pos 7)) (v name_a) (has_numbers v respects) ∙ sym (value-Variable types v name_a)

-- the element at an index
pub element_is : (v : Valuation) (a i : Term) → value_of types v (at a i) ≡ element_at (first_value digit_shape) (as_number (value_of types v i)) (value_of types v a)
unfolding value_of_binary
element_is v a i = value-Binary types v (binary.Element numbers) a i

read_at : (v : Valuation) (a : Term) (i : ℕ) → value_of types v (at a (number i)) ≡ element_at (first_value digit_shape) (pos i) (value_of types v a)
read_at v a i = element_is v a (number i) ∙ ap (λ (n : Value). element_at (first_value digit_shape) (as_number n) (value_of types v a)) (value-Number types v (pos i))

pub inside_is_read : (v : Valuation) → Respects types v → value_of types v (at (with_at array_a (number 1) (number 7)) (number 1)) ≡ value.Number (pos 7)
inside_is_read v respects =
    read_at v (with_at array_a (number 1) (number 7)) 1
    ∙ ap (element_at (first_value digit_shape) (pos 1)) (put_at v 1)
    ∙ read_inside (pos 1) (pos 3) (is_in false digit_shape) (v name_a) (has_numbers v respects) (first_value digit_shape) (value.Number (pos 7)) (pos 1) (pos 1) (pos 1) refl refl

pub first_digit : first_value digit_shape ≡ value.Number (pos 0)
first_digit = fold_out-Shape Value first_step digit_shape ∙ ap (λ x. first_step (map-Shape Shape Value first_value x)) (shape.outs-Integer (pos 0) (pos 9))

pub read_outside : (other x : Value) → OfNumbers x → element_at other (pos 4) x ≡ other
unfolding element_at
read_outside other x a = ap (element_in other (pos 4)) a.is ∙ three_read other a.items a.many

pub outside_is_first : (v : Valuation) → Respects types v → value_of types v (at array_a (number 4)) ≡ value.Number (pos 0)
outside_is_first v respects =
    read_at v array_a 4
    ∙ ap (element_at (first_value digit_shape) (pos 4)) (value-Variable types v name_a)
    ∙ read_outside (first_value digit_shape) (v name_a) (has_numbers v respects)
    ∙ first_digit
