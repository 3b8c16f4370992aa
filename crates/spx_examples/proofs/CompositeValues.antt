-- The values of aggregates, and which of them are in their types.
use Rattle.std.proofs.Common.{◌≡◌, ℕ, ℤ, pos, Bool, true, false, ◌&&◌, List, [], ◌∷◌, map, ap, ap₂, ◌∙◌}
use Rattle.std.specs.Prelude.{slice_set}
use Rattle.spx_term.specs.declared.term.Component.TheVariants as component
use Rattle.spx_term.specs.declared.term.FieldName.{FieldName}
use Rattle.spx_term.specs.declared.term.UnaryOp.TheVariants as unary
use Rattle.spx_term.specs.declared.term.BinaryOp.TheVariants as binary
use Rattle.spx_term.specs.declared.term.Term.{Term}
use Rattle.spx_term.specs.declared.term.Term.TheVariants.{Binary}
use Rattle.spx_term.specs.declared.value.Shape.{Shape, Shape-F, map-Shape, fold_out-Shape}
use Rattle.spx_term.specs.declared.value.Shape.TheVariants as shape
use Rattle.spx_term.specs.declared.value.Value.{Value}
use Rattle.spx_term.specs.declared.value.Value.TheVariants.{Number, Truth, Elements, Fields, outs-Number, outs-Elements, outs-Fields}
use Rattle.spx_term.specs.Values.{first_step, first_value, number_passes, elements_pass, within, is_in, replaced, with_elements_in, with_elements, filled_in, filled, with_field_in, with_field, field_in, field_at}
use Rattle.spx_term.specs.Meaning.{value_of, value_of_unary, value_of_binary, Valuation}
use Rattle.spx_term.proofs.Terms.{value-Number, value-Blank, value-Unary, value-Binary}
use Rattle.spx_term.proofs.ValueLaws.{is_in-layer}
use Rattle.spx_examples.proofs.CompositeMeaning.{first_digit}
use Rattle.spx_examples.specs.CompositeExamples.{types, digit_shape, numbers_shape, aggregate, blank_t, others_t, number, numbers_of, digits_of, four_and_fives, four_over_fives, four_and_others, one_and_two, field_f, field_g, in_t, ten_and_others, array_of, nested_n, array_f}

-- ---- first values

pub first_numbers : first_value numbers_shape ≡ numbers_of 0 0 0
first_numbers =
    fold_out-Shape Value first_step numbers_shape
    ∙ ap (λ x. first_step (map-Shape Shape Value first_value x)) (shape.outs-Array 0 (pos 1) (pos 3) digit_shape)
    ∙ (λ i. Elements (pos 1) (first_digit i ∷ first_digit i ∷ first_digit i ∷ []))

first_digits : first_value (types 1) ≡ digits_of 0 0
first_digits =
    fold_out-Shape Value first_step (types 1)
    ∙ ap (λ x. first_step (map-Shape Shape Value first_value x)) (shape.outs-Record 1 (digit_shape ∷ digit_shape ∷ []))
    ∙ (λ i. Fields (first_digit i ∷ first_digit i ∷ []))

first_mixed : first_value (types 2) ≡ Fields (numbers_of 0 0 0 ∷ Number (pos 0) ∷ [])
first_mixed =
    fold_out-Shape Value first_step (types 2)
    ∙ ap (λ x. first_step (map-Shape Shape Value first_value x)) (shape.outs-Record 2 (numbers_shape ∷ digit_shape ∷ []))
    ∙ (λ i. Fields (first_numbers i ∷ first_digit i ∷ []))

-- ---- aggregates

put : (low high : ℤ) (e : Value) (n : ℤ) (xs : List Value) → with_elements low high e (Elements n xs) ≡ Elements n (replaced low high e n xs)
unfolding with_elements
put low high e n xs = ap (with_elements_in low high e (Elements n xs)) (outs-Elements n xs)

fill : (e : Value) (n : ℤ) (xs : List Value) → filled e (Elements n xs) ≡ Elements n (map (λ (x : Value). e) xs)
unfolding filled
fill e n xs = ap (filled_in e (Elements n xs)) (outs-Elements n xs)

put_field : (k : ℕ) (e : Value) (xs : List Value) → with_field k e (Fields xs) ≡ Fields (slice_set xs k e)
unfolding with_field
put_field k e xs = ap (with_field_in k e (Fields xs)) (outs-Fields xs)

module _ (v : Valuation) where
  range_is : (t : Term) (low high e : ℕ) (xs : List Value) → value_of types v t ≡ Elements (pos 1) xs → value_of types v (aggregate t low high (number e)) ≡ Elements (pos 1) (replaced (pos low) (pos high) (Number (pos e)) (pos 1) xs)
  unfolding value_of_binary
  range_is t low high e xs h =
      value-Binary types v (binary.Elements 0 (pos low) (pos high)) t (number e)
      ∙ ap₂ (λ (x n : Value). with_elements (pos low) (pos high) n x) h (value-Number types v (pos e))
      ∙ put (pos low) (pos high) (Number (pos e)) (pos 1) xs

  blank_is : value_of types v blank_t ≡ numbers_of 0 0 0
  blank_is = value-Blank types v 0 ∙ first_numbers

  others_is : (e : ℕ) → value_of types v (others_t (number e)) ≡ numbers_of e e e
  unfolding value_of_unary
  others_is e =
      value-Unary types v (unary.Others 0) (number e)
      ∙ ap₂ (λ (n x : Value). filled n x) (value-Number types v (pos e)) first_numbers
      ∙ fill (Number (pos e)) (pos 1) _

  field_is : (f : FieldName) (t : Term) (e : ℕ) (xs : List Value) → value_of types v t ≡ Fields xs → value_of types v (Binary (binary.Field f) t (number e)) ≡ Fields (slice_set xs f.place (Number (pos e)))
  unfolding value_of_binary
  field_is f t e xs h =
      value-Binary types v (binary.Field f) t (number e)
      ∙ ap₂ (λ (x n : Value). with_field f.place n x) h (value-Number types v (pos e))
      ∙ put_field f.place (Number (pos e)) xs

  pub ranges_are : value_of types v four_and_fives ≡ numbers_of 4 5 5
  ranges_are = range_is _ 1 1 4 _ (range_is blank_t 2 3 5 _ blank_is)

  pub outermost_is : value_of types v four_over_fives ≡ numbers_of 4 5 5
  outermost_is = range_is _ 1 1 4 _ (range_is blank_t 1 3 5 _ blank_is)

  pub others_are : value_of types v four_and_others ≡ numbers_of 4 6 6
  others_are = range_is (others_t (number 6)) 1 1 4 _ (others_is 6)

  pub fields_are : value_of types v one_and_two ≡ digits_of 1 2
  fields_are = field_is field_f _ 1 _ (field_is field_g _ 2 _ (value-Blank types v 1 ∙ first_digits))

-- ---- values in their types

-- without bounds each number is
number_in : (b : Bool) (n : ℤ) → is_in b digit_shape (Number n) ≡ within b (pos 0) (pos 9) n
number_in b n = is_in-layer b digit_shape (Shape-F.Integer (pos 0) (pos 9)) (shape.outs-Integer (pos 0) (pos 9)) (Number n) ∙ ap (number_passes (within b (pos 0) (pos 9))) (outs-Number n)

pub numbers_in : (b : Bool) (k m n : ℤ) → is_in b numbers_shape (Elements (pos 1) (Number k ∷ Number m ∷ Number n ∷ [])) ≡ (within b (pos 0) (pos 9) k && (within b (pos 0) (pos 9) m && (within b (pos 0) (pos 9) n && true)))
numbers_in b k m n =
    let xs = Number k ∷ Number m ∷ Number n ∷ [] in
    is_in-layer b numbers_shape (Shape-F.Array 0 (pos 1) (pos 3) digit_shape) (shape.outs-Array 0 (pos 1) (pos 3) digit_shape) (Elements (pos 1) xs)
    ∙ ap (elements_pass (pos 1) (pos 3) (is_in b digit_shape)) (outs-Elements (pos 1) xs)
    ∙ (λ i. number_in b k i && (number_in b m i && (number_in b n i && true)))

pub zero_in : is_in true digit_shape (first_value digit_shape) ≡ true
zero_in = ap (is_in true digit_shape) first_digit ∙ number_in true (pos 0)

pub zeros_in : is_in true numbers_shape (first_value numbers_shape) ≡ true
zeros_in = ap (is_in true numbers_shape) first_numbers ∙ numbers_in true (pos 0) (pos 0) (pos 0)

pub elements_in : (v : Valuation) → value_of types v (in_t four_and_fives) ≡ Truth true
unfolding value_of_unary
elements_in v = value-Unary types v (unary.In 0) four_and_fives ∙ ap (λ x. Truth (is_in true numbers_shape x)) (ranges_are v) ∙ ap Truth (numbers_in true (pos 4) (pos 5) (pos 5))

pub ten_out : (v : Valuation) → value_of types v (in_t ten_and_others) ≡ Truth false
unfolding value_of_unary
ten_out v =
    value-Unary types v (unary.In 0) ten_and_others
    ∙ ap (λ x. Truth (is_in true numbers_shape x)) (range_is v (others_t (number 6)) 1 1 10 _ (others_is v 6))
    ∙ ap Truth (numbers_in true (pos 10) (pos 6) (pos 6))

-- the first value of Q has an array in its type
pub part_in : (v : Valuation) → value_of types v nested_n ≡ first_value (types 2) → value_of types v (in_t (array_of nested_n)) ≡ Truth true
unfolding value_of_unary field_at
part_in v h =
    let xs = numbers_of 0 0 0 ∷ Number (pos 0) ∷ [] in
    let first = first_value numbers_shape in
    let part =
    value-Unary types v (unary.Field array_f (component.Composite 0)) nested_n ∙ ap (field_at first 0) (h ∙ first_mixed) ∙ ap (field_in first 0) (outs-Fields xs) in
    value-Unary types v (unary.In 0) (array_of nested_n) ∙ ap (λ x. Truth (is_in true numbers_shape x)) part ∙ ap Truth (numbers_in true (pos 0) (pos 0) (pos 0))
