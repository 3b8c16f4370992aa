-- Values of composite types. Elements are counted by their index, fields by their place.
use Rattle.std.specs.Prelude.{◌≡◌, refl, ℕ, Bool, true, false, ◌&&◌, ◌==◌, ℤ, pos, negsuc, ◌+ℤ◌, ◌-ℤ◌, int_le, List, [], ◌∷◌, map, length, replicate, slice_index_or, slice_set, if◌then◌else◌}
use Rattle.std.specs.List.{list_all}
use Rattle.std.specs.Ordering.{int_eq}
use Rattle.spx_term.specs.declared.term.Component.{Component}
use Rattle.spx_term.specs.declared.term.Component.TheVariants as component
use Rattle.spx_term.specs.declared.value.Shape.{Shape, Shape-F, fold-Shape}
use Rattle.spx_term.specs.declared.value.Shape.TheVariants as shape
use Rattle.spx_term.specs.declared.value.Literal.{Literal}
use Rattle.spx_term.specs.declared.value.Literal.TheVariants as literal
use Rattle.spx_term.specs.declared.value.Value.{Value, Value-F, out-Value}
use Rattle.spx_term.specs.declared.value.Value.TheVariants.{Number, Truth, Elements, Fields}

-- the value of a literal
abbrev pub value_in : Literal → Value
value_in (literal.Number n) = Number n
value_in (literal.Truth b) = Truth b

-- the literal of a number or a truth value
abbrev pub literal_in : Value → Literal
literal_in (Number n) = literal.Number n
literal_in (Truth b) = literal.Truth b
literal_in _ = literal.Number (pos 0)

pub literal_back : (x : Literal) → literal_in (value_in x) ≡ x
literal_back (literal.Number n) = refl
literal_back (literal.Truth b) = refl

-- what the values of each composite type look like, by the position of the type
abbrev pub Types : Type 0
Types = ℕ → Shape

abbrev pub shape_of : Types → Component → Shape
shape_of types (component.Integer low high) = shape.Integer low high
shape_of types component.Boolean = shape.Boolean
shape_of types (component.Composite id) = types id

-- how many numbers there are from 0 up to below n
abbrev pub natural : ℤ → ℕ
natural (pos n) = n
natural (negsuc n) = 0

-- how many numbers there are from one to another
abbrev pub count : ℤ → ℤ → ℕ
count low high = natural ((high -ℤ low) +ℤ pos 1)

abbrev pub lies_between : ℤ → ℤ → ℤ → Bool
lies_between low high n = int_le low n && int_le n high

-- ---- first values

abbrev pub first_step : Shape-F Value → Value
first_step (Shape-F.Integer low high) = Number low
first_step Shape-F.Boolean = Truth false
first_step (Shape-F.Array id low high element) = Elements low (replicate (count low high) element)
first_step (Shape-F.Record id fields) = Fields fields

-- the first value of a type is made of first values
abbrev pub first_value : Shape → Value
first_value = fold-Shape Value first_step

abbrev pub first_of : Types → Component → Value
first_of types c = first_value (shape_of types c)

-- ---- values of a type

abbrev pub number_passes : (ℤ → Bool) → Value-F Value → Bool
number_passes test (Value-F.Number n) = test n
number_passes test _ = false

abbrev pub is_truth : Value-F Value → Bool
is_truth (Value-F.Truth b) = true
is_truth _ = false

abbrev pub elements_pass : ℤ → ℤ → (Value → Bool) → Value-F Value → Bool
elements_pass low high test (Value-F.Elements first xs) = int_eq first low && (length xs == count low high && list_all test xs)
elements_pass low high test _ = false

-- whether each value passes the test at its place, and there are as many values as tests
abbrev pub each_passes : List (Value → Bool) → List Value → Bool
each_passes [] [] = true
each_passes [] (x ∷ xs) = false
each_passes (test ∷ tests) [] = false
each_passes (test ∷ tests) (x ∷ xs) = test x && each_passes tests xs

abbrev pub fields_pass : List (Value → Bool) → Value-F Value → Bool
fields_pass tests (Value-F.Fields xs) = each_passes tests xs
fields_pass tests _ = false

-- what bounds ask of a number, where they count
abbrev pub within : Bool → ℤ → ℤ → ℤ → Bool
within bounded low high n = if bounded then lies_between low high n else true

abbrev pub is_in_step : Bool → Shape-F (Value → Bool) → Value → Bool
is_in_step bounded (Shape-F.Integer low high) x = number_passes (within bounded low high) (out-Value x)
is_in_step bounded Shape-F.Boolean x = is_truth (out-Value x)
is_in_step bounded (Shape-F.Array id low high element) x = elements_pass low high element (out-Value x)
is_in_step bounded (Shape-F.Record id fields) x = fields_pass fields (out-Value x)

-- whether a value is of a type; without bounds only its sort counts
unfoldable pub is_in : Bool → Shape → Value → Bool
is_in bounded = fold-Shape (Value → Bool) (is_in_step bounded)

-- whether a type has its own first value
abbrev pub has_first : Shape → Bool
has_first s = is_in true s (first_value s)

-- ---- elements

-- the element at index i, where the first one has index n; past the ends another value
abbrev pub nth : Value → ℤ → ℤ → List Value → Value
nth other i n [] = other
nth other i n (x ∷ xs) = if int_eq i n then x else nth other i (n +ℤ pos 1) xs

abbrev pub element_in : Value → ℤ → Value-F Value → Value
element_in other i (Value-F.Elements n xs) = nth other i n xs
element_in other i _ = other

-- the element at an index; where there is none, another value
unfoldable pub element_at : Value → ℤ → Value → Value
element_at other i x = element_in other i (out-Value x)

-- e at the indexes from low to high, where the first one is n
abbrev pub replaced : ℤ → ℤ → Value → ℤ → List Value → List Value
replaced low high e n [] = []
replaced low high e n (x ∷ xs) = (if lies_between low high n then e else x) ∷ replaced low high e (n +ℤ pos 1) xs

abbrev pub with_elements_in : ℤ → ℤ → Value → Value → Value-F Value → Value
with_elements_in low high e x (Value-F.Elements n xs) = Elements n (replaced low high e n xs)
with_elements_in low high e x _ = x

-- the value with e at the indexes from low to high, as far as it has them
unfoldable pub with_elements : ℤ → ℤ → Value → Value → Value
with_elements low high e x = with_elements_in low high e x (out-Value x)

abbrev pub filled_in : Value → Value → Value-F Value → Value
filled_in e x (Value-F.Elements n xs) = Elements n (map (λ _. e) xs)
filled_in e x _ = x

-- the value with e at each index
unfoldable pub filled : Value → Value → Value
filled e x = filled_in e x (out-Value x)

-- ---- fields

abbrev pub field_in : Value → ℕ → Value-F Value → Value
field_in other k (Value-F.Fields xs) = slice_index_or xs k other
field_in other k _ = other

-- the field at a place; where there is none, another value
unfoldable pub field_at : Value → ℕ → Value → Value
field_at other k x = field_in other k (out-Value x)

abbrev pub with_field_in : ℕ → Value → Value → Value-F Value → Value
with_field_in k e x (Value-F.Fields xs) = Fields (slice_set xs k e)
with_field_in k e x _ = x

-- the value with e at a place, where it has that
unfoldable pub with_field : ℕ → Value → Value → Value
with_field k e x = with_field_in k e x (out-Value x)
