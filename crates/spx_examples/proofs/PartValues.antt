-- Values of parts, computed.
use Rattle.std.proofs.Common.{◌≡◌, ℕ, pos, List, [], ◌∷◌, ap, ◌∙◌}
use Rattle.spx_term.specs.declared.term.Component.TheVariants as component
use Rattle.spx_term.specs.declared.value.Value.{Value}
use Rattle.spx_term.specs.declared.value.Value.TheVariants as value
use Rattle.spx_term.specs.Values.{first_of, element_in, element_at, with_elements_in, with_elements, field_in, field_at, with_field_in, with_field}
use Rattle.spx_term.specs.Meaning.{value_of_unary, value_of_binary}
use Rattle.spx_term.specs.Parts.{part_of, with_part, at_end, with_end}
use Rattle.spx_examples.specs.CompositeExamples.{types, digit, numbers_of}
use Rattle.spx_examples.specs.PartExamples.{element, field_array, field_digit, to_element, array_and_digit}

-- a record and its parts
array_in : (a : Value) (n : ℕ) → part_of types field_array (array_and_digit a n) ≡ a
unfolding value_of_unary field_at
array_in a n = ap (field_in (first_of types (component.Composite 0)) 0) (value.outs-Fields (a ∷ value.Number (pos n) ∷ []))

put_array : (a b : Value) (n : ℕ) → with_part field_array (array_and_digit a n) b ≡ array_and_digit b n
unfolding with_field
put_array a b n = ap (with_field_in 0 b (array_and_digit a n)) (value.outs-Fields (a ∷ value.Number (pos n) ∷ []))

pub put_digit : (a : Value) (n m : ℕ) → with_end types (field_digit ∷ []) (array_and_digit a n) (value.Number (pos m)) ≡ array_and_digit a m
unfolding with_field
put_digit a n m = ap (with_field_in 1 (value.Number (pos m)) (array_and_digit a n)) (value.outs-Fields (a ∷ value.Number (pos n) ∷ []))

-- the three numbers
items : (k m n : ℕ) → List Value
items k m n = value.Number (pos k) ∷ value.Number (pos m) ∷ value.Number (pos n) ∷ []

second_in : (k m n : ℕ) → part_of types (element 2) (numbers_of k m n) ≡ value.Number (pos m)
unfolding value_of_binary element_at items
second_in k m n = ap (element_in (first_of types digit) (pos 2)) (value.outs-Elements (pos 1) (items k m n))

pub put_second : (k m n l : ℕ) → with_part (element 2) (numbers_of k m n) (value.Number (pos l)) ≡ numbers_of k l n
unfolding with_elements items
put_second k m n l = ap (with_elements_in (pos 2) (pos 2) (value.Number (pos l)) (numbers_of k m n)) (value.outs-Elements (pos 1) (items k m n))

pub put_fourth : (k m n : ℕ) (w : Value) → with_end types (element 4 ∷ []) (numbers_of k m n) w ≡ numbers_of k m n
unfolding with_elements items
put_fourth k m n w = ap (with_elements_in (pos 4) (pos 4) w (numbers_of k m n)) (value.outs-Elements (pos 1) (items k m n))

pub second_is : (k m n g : ℕ) → at_end types (to_element 2) (array_and_digit (numbers_of k m n) g) ≡ value.Number (pos m)
second_is k m n g = ap (part_of types (element 2)) (array_in (numbers_of k m n) g) ∙ second_in k m n

pub second_put : (k m n g l : ℕ) → with_end types (to_element 2) (array_and_digit (numbers_of k m n) g) (value.Number (pos l)) ≡ array_and_digit (numbers_of k l n) g
second_put k m n g l =
    ap (λ u. with_part field_array (array_and_digit (numbers_of k m n) g) (with_part (element 2) u (value.Number (pos l)))) (array_in (numbers_of k m n) g)
    ∙ ap (with_part field_array (array_and_digit (numbers_of k m n) g)) (put_second k m n l)
    ∙ put_array (numbers_of k m n) (numbers_of k l n) g
