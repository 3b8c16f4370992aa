-- Operations on composite values give values of their sorts.
use Rattle.std.proofs.Common.{◌≡◌, ℕ, ℤ, Bool, true, false, ◌&&◌, ◌==◌, List, map, refl, sym, ap, ◌∙◌, subst, Option, Some, None}
use Rattle.std.specs.Prelude.{slice_get}
use Rattle.std.proofs.lemmas.Bool.{and_parts, eqb-true}
use Rattle.spx_term.specs.declared.term.Sort.{Sort}
use Rattle.spx_term.specs.declared.term.Sort.TheVariants.{Integer, Boolean, Composite}
use Rattle.spx_term.specs.declared.term.Component.{Component}
use Rattle.spx_term.specs.declared.term.Component.TheVariants as component
use Rattle.spx_term.specs.declared.term.ArrayType.{ArrayType}
use Rattle.spx_term.specs.declared.term.FieldName.{FieldName}
use Rattle.spx_term.specs.declared.term.UnaryOp.{UnaryOp}
use Rattle.spx_term.specs.declared.term.UnaryOp.TheVariants as unary
use Rattle.spx_term.specs.declared.term.BinaryOp.{BinaryOp}
use Rattle.spx_term.specs.declared.term.BinaryOp.TheVariants as binary
use Rattle.spx_term.specs.declared.value.Shape.{Shape, Shape-F, out-Shape}
use Rattle.spx_term.specs.declared.value.Shape.TheVariants as shape
use Rattle.spx_term.specs.declared.value.Value.{Value, Value-F, out-Value, roll-Value, roll-out-Value}
use Rattle.spx_term.specs.declared.value.Value.TheVariants as value
use Rattle.spx_term.specs.Equality.{same_shape, same_sort}
use Rattle.spx_term.specs.Values.{Types, shape_of, first_value, first_of, has_first, number_passes, is_truth, elements_pass, fields_pass, within, is_in, element_at, with_elements, filled, field_at, with_field}
use Rattle.spx_term.specs.Sorts.{asked, sort_in, sort_of_layer, sort_of_shape, element_shape_in, element_shape, looks, takes, field_shape_in, field_shape, element_takes, field_takes, is_component, is_array, is_field, sort_of_unary, sort_of_binary}
use Rattle.spx_term.specs.Meaning.{IsNumber, IsTruth, HasSort, as_number, value_of_unary, value_of_binary}
use Rattle.spx_term.proofs.Equality.{same_shape-Decides, same_sort-Decides}
use Rattle.spx_term.proofs.ValueLaws.{is_in-layer, ArrayValue, array_value, element_passes, with_elements_pass, filled_pass, RecordValue, record_value, field_is_in, with_field_pass, first_is_in}

-- ---- tests that sorts make

pub asked_is : (test : Bool) (r s : Sort) → asked test r ≡ Some s → (test ≡ true) × (s ≡ r)
asked_is true r s h = (refl, cc)
asked_is false r s h = absurd (cc)

-- a type whose elements look like e
pub record ArrayShape (s e : Shape) : Type 0 where
  pub id : ℕ
  pub low : ℤ
  pub high : ℤ
  pub is : out-Shape s ≡ Shape-F.Array id low high e

array_in : (s e : Shape) (layer : Shape-F Shape) → out-Shape s ≡ layer → element_shape_in layer ≡ Some e → ArrayShape s e
array_in s e (Shape-F.Array id low high f) is h = let same : f ≡ e = cc in record { id = id; low = low; high = high; is = is ∙ ap (Shape-F.Array id low high) same }
array_in s e _ is h = absurd (cc)

pub array_shape : (s e : Shape) → element_shape s ≡ Some e → ArrayShape s e
unfolding element_shape
array_shape s e h = array_in s e (out-Shape s) refl h

pub array_passes : (b : Bool) (s e : Shape) (a : ArrayShape s e) (x : Value) → is_in b s x ≡ true → ArrayValue a.low a.high (is_in b e) x
array_passes b s e a x h = array_value a.low a.high (is_in b e) x (sym (is_in-layer b s (Shape-F.Array a.id a.low a.high e) a.is x) ∙ h)

pub array_is_in : (b : Bool) (s e : Shape) (a : ArrayShape s e) (x : Value) → elements_pass a.low a.high (is_in b e) (out-Value x) ≡ true → is_in b s x ≡ true
array_is_in b s e a x h = is_in-layer b s (Shape-F.Array a.id a.low a.high e) a.is x ∙ h

-- a type with a field that looks like t
pub record RecordShape (s : Shape) (k : ℕ) (t : Shape) : Type 0 where
  pub id : ℕ
  pub fields : List Shape
  pub is : out-Shape s ≡ Shape-F.Record id fields
  pub field : slice_get fields k ≡ Some t

record_in : (s : Shape) (k : ℕ) (t : Shape) (layer : Shape-F Shape) → out-Shape s ≡ layer → field_shape_in layer k ≡ Some t → RecordShape s k t
record_in s k t (Shape-F.Record id fields) is h = record { id = id; fields = fields; is = is; field = h }
record_in s k t _ is h = absurd (cc)

pub record_shape : (s : Shape) (k : ℕ) (t : Shape) → field_shape s k ≡ Some t → RecordShape s k t
unfolding field_shape
record_shape s k t h = record_in s k t (out-Shape s) refl h

pub record_passes : (b : Bool) (s : Shape) (k : ℕ) (t : Shape) (r : RecordShape s k t) (x : Value) → is_in b s x ≡ true → RecordValue (map (is_in b) r.fields) x
record_passes b s k t r x h = record_value (map (is_in b) r.fields) x (sym (is_in-layer b s (Shape-F.Record r.id r.fields) r.is x) ∙ h)

pub record_is_in : (b : Bool) (s : Shape) (k : ℕ) (t : Shape) (r : RecordShape s k t) (x : Value) → fields_pass (map (is_in b) r.fields) (out-Value x) ≡ true → is_in b s x ≡ true
record_is_in b s k t r x h = is_in-layer b s (Shape-F.Record r.id r.fields) r.is x ∙ h

-- ---- values of a sort and of a type

number_layer : (x : Value) (layer : Value-F Value) (test : ℤ → Bool) → out-Value x ≡ layer → number_passes test layer ≡ true → IsNumber x
number_layer x (Value-F.Number n) test is h = subst IsNumber (sym (sym (roll-out-Value x) ∙ ap roll-Value is ∙ value.rolls-Number n)) tt
number_layer x _ test is h = absurd (cc)

truth_layer : (x : Value) (layer : Value-F Value) → out-Value x ≡ layer → is_truth layer ≡ true → IsTruth x
truth_layer x (Value-F.Truth b) is h = subst IsTruth (sym (sym (roll-out-Value x) ∙ ap roll-Value is ∙ value.rolls-Truth b)) tt
truth_layer x _ is h = absurd (cc)

module _ (types : Types) where
  pub has_component : (c : Component) (x : Value) → is_in false (shape_of types c) x ≡ true → HasSort types (sort_in c) x
  has_component (component.Integer low high) x h =
      number_layer x (out-Value x) (within false low high) refl (sym (is_in-layer false (shape.Integer low high) (Shape-F.Integer low high) (shape.outs-Integer low high) x) ∙ h)
  has_component component.Boolean x h = truth_layer x (out-Value x) refl (sym (is_in-layer false shape.Boolean Shape-F.Boolean shape.outs-Boolean x) ∙ h)
  has_component (component.Composite id) x h = h

  is_number : (low high : ℤ) (x : Value) → IsNumber x → number_passes (within false low high) (out-Value x) ≡ true
  is_number low high (value.Number n) h = ap (number_passes (within false low high)) (value.outs-Number n)
  is_number low high _ h = absurd h

  is_boolean : (x : Value) → IsTruth x → is_truth (out-Value x) ≡ true
  is_boolean (value.Truth b) h = ap is_truth (value.outs-Truth b)
  is_boolean _ h = absurd h

  looks_in : (s : Shape) (layer : Shape-F Shape) (sort : Sort) (x : Value) → out-Shape s ≡ layer → sort_of_layer layer ≡ sort → looks types s sort ≡ true → HasSort types sort x → is_in false s x ≡ true
  looks_in s (Shape-F.Integer low high) Integer x is same l h = is_in-layer false s (Shape-F.Integer low high) is x ∙ is_number low high x h
  looks_in s Shape-F.Boolean Boolean x is same l h = is_in-layer false s Shape-F.Boolean is x ∙ is_boolean x h
  looks_in s layer (Composite id) x is same l h = ap (λ t. is_in false t x) ((same_shape-Decides s (types id)).0 l) ∙ h
  looks_in s _ _ x is same l h = absurd (cc)

  -- what a type takes
  pub record Takes (option : Option Shape) (sort : Sort) : Type 0 where
    pub look : Shape
    pub is : option ≡ Some look
    pub sorted : sort_of_shape look ≡ sort
    pub fits : (x : Value) → HasSort types sort x → is_in false look x ≡ true

  look_fits : (s : Shape) (sort : Sort) → sort_of_shape s ≡ sort → looks types s sort ≡ true → (x : Value) → HasSort types sort x → is_in false s x ≡ true
  unfolding sort_of_shape
  look_fits s sort same l x h = looks_in s (out-Shape s) sort x refl same l h

  pub takes_is : (option : Option Shape) (sort : Sort) → takes types option sort ≡ true → Takes option sort
  takes_is (Some s) sort h =
      let parts = and_parts (same_sort (sort_of_shape s) sort) (looks types s sort) h in
      let same = (same_sort-Decides (sort_of_shape s) sort).0 parts.0 in
      record { look = s; is = refl; sorted = same; fits = look_fits s sort same parts.1 }
  takes_is None sort h = absurd (cc)

  -- what is said of a component
  pub record SaidOf (option : Option Shape) (c : Component) : Type 0 where
    pub is : option ≡ Some (shape_of types c)
    pub sorted : sort_of_shape (shape_of types c) ≡ sort_in c
    pub first : has_first (shape_of types c) ≡ true

  pub component_is : (option : Option Shape) (c : Component) → is_component types option c ≡ true → SaidOf option c
  component_is (Some s) c h =
      let parts = and_parts (same_shape s (shape_of types c)) (same_sort (sort_of_shape s) (sort_in c) && has_first s) h in
      let others = and_parts (same_sort (sort_of_shape s) (sort_in c)) (has_first s) parts.1 in
      let same = (same_shape-Decides s (shape_of types c)).0 parts.0 in
      record {
        is = ap Some same;
        sorted = ap sort_of_shape (sym same) ∙ (same_sort-Decides (sort_of_shape s) (sort_in c)).0 others.0;
        first = ap has_first (sym same) ∙ others.1;
      }
  component_is None c h = absurd (cc)

  -- what an array type is, and what its elements are
  pub record SaidOfArray (a : ArrayType) : Type 0 where
    pub is : types a.position ≡ shape.Array a.position a.first a.last (shape_of types a.element)
    pub said : SaidOf (element_shape (types a.position)) a.element

  pub array_type_is : (a : ArrayType) → is_array types a ≡ true → SaidOfArray a
  array_type_is a h =
      let full = shape.Array a.position a.first a.last (shape_of types a.element) in
      let parts = and_parts (same_shape (types a.position) full) (is_component types (element_shape (types a.position)) a.element) h in
      record { is = (same_shape-Decides (types a.position) full).0 parts.0; said = component_is (element_shape (types a.position)) a.element parts.1 }

  unfoldable pub array_of : (a : ArrayType) → SaidOfArray a → ArrayShape (types a.position) (shape_of types a.element)
  array_of a said = record { id = a.position; low = a.first; high = a.last; is = ap out-Shape said.is ∙ shape.outs-Array a.position a.first a.last (shape_of types a.element) }

  -- ---- operations

  pub unary_has : (o : UnaryOp) (x : Value) (m s : Sort) → HasSort types m x → sort_of_unary types o m ≡ Some s → HasSort types s (value_of_unary types o x)
  unfolding sort_of_unary value_of_unary
  unary_has (unary.Field f c) x (Composite id) s has h =
      let parts = asked_is (id == f.position && is_field types f c) (sort_in c) s h in
      let tests = and_parts (id == f.position) (is_field types f c) parts.0 in
      let said = component_is (field_shape (types f.position) f.place) c tests.1 in
      let look = record_shape (types f.position) f.place (shape_of types c) said.is in
      let v = record_passes false (types f.position) f.place (shape_of types c) look x (subst (λ id. is_in false (types id) x ≡ true) (eqb-true id f.position tests.0) has) in
      subst (λ s. HasSort types s (field_at (first_of types c) f.place x)) (sym parts.1)
      (has_component c (field_at (first_of types c) f.place x) (field_is_in false look.fields x v f.place (first_of types c) (shape_of types c) look.field))
  unary_has (unary.Field f c) x Integer s has h = absurd (cc)
  unary_has (unary.Field f c) x Boolean s has h = absurd (cc)
  unary_has (unary.In t) x (Composite id) s has h = subst (λ s. HasSort types s (value.Truth (is_in true (types t) x))) (sym (asked_is (id == t) Boolean s h).1) tt
  unary_has (unary.In t) x Integer s has h = absurd (cc)
  unary_has (unary.In t) x Boolean s has h = absurd (cc)
  unary_has (unary.Others t) x m s has h =
      let parts = asked_is (element_takes types t m) (Composite t) s h in
      let took = takes_is (element_shape (types t)) m parts.0 in
      let look = array_shape (types t) took.look took.is in
      let v = array_passes false (types t) took.look look (first_value (types t)) (first_is_in (types t)) in
      subst (λ s. HasSort types s (filled x (first_value (types t)))) (sym parts.1)
      (array_is_in false (types t) took.look look (filled x (first_value (types t)))
      (filled_pass look.low look.high (is_in false took.look) (first_value (types t)) v x (took.fits x has)))

  -- elements and fields that are put
  pub elements_have : (t : ℕ) (low high : ℤ) (x e : Value) (id : ℕ) (n s : Sort) → HasSort types (Composite id) x → HasSort types n e → asked (id == t && element_takes types t n) (Composite id) ≡ Some s → HasSort types s (with_elements low high e x)
  elements_have t low high x e id n s has part h =
      let parts = asked_is (id == t && element_takes types t n) (Composite id) s h in
      let tests = and_parts (id == t) (element_takes types t n) parts.0 in
      let took = takes_is (element_shape (types t)) n tests.1 in
      let same = eqb-true id t tests.0 in
      let look = array_shape (types t) took.look took.is in
      let v = array_passes false (types t) took.look look x (subst (λ id. is_in false (types id) x ≡ true) same has) in
      subst (λ s. HasSort types s (with_elements low high e x)) (sym parts.1)
      (subst (λ id. is_in false (types id) (with_elements low high e x) ≡ true) (sym same)
      (array_is_in false (types t) took.look look (with_elements low high e x)
      (with_elements_pass look.low look.high (is_in false took.look) low high e x v (took.fits e part))))

  pub field_has : (f : FieldName) (x e : Value) (id : ℕ) (n s : Sort) → HasSort types (Composite id) x → HasSort types n e → asked (id == f.position && field_takes types f n) (Composite id) ≡ Some s → HasSort types s (with_field f.place e x)
  field_has f x e id n s has part h =
      let parts = asked_is (id == f.position && field_takes types f n) (Composite id) s h in
      let tests = and_parts (id == f.position) (field_takes types f n) parts.0 in
      let took = takes_is (field_shape (types f.position) f.place) n tests.1 in
      let same = eqb-true id f.position tests.0 in
      let look = record_shape (types f.position) f.place took.look took.is in
      let v = record_passes false (types f.position) f.place took.look look x (subst (λ id. is_in false (types id) x ≡ true) same has) in
      subst (λ s. HasSort types s (with_field f.place e x)) (sym parts.1)
      (subst (λ id. is_in false (types id) (with_field f.place e x) ≡ true) (sym same)
      (record_is_in false (types f.position) f.place took.look look (with_field f.place e x)
      (with_field_pass false look.fields x v f.place e took.look look.field (took.fits e part))))

  pub binary_has : (o : BinaryOp) (x y : Value) (m n s : Sort) → HasSort types m x → HasSort types n y → sort_of_binary types o m n ≡ Some s → HasSort types s (value_of_binary types o x y)
  unfolding sort_of_binary value_of_binary array_of
  binary_has (binary.Element a) x y (Composite id) Integer s has part h =
      let parts = asked_is (id == a.position && is_array types a) (sort_in a.element) s h in
      let tests = and_parts (id == a.position) (is_array types a) parts.0 in
      let said = array_type_is a tests.1 in
      let v = array_passes false (types a.position) (shape_of types a.element) (array_of a said) x (subst (λ id. is_in false (types id) x ≡ true) (eqb-true id a.position tests.0) has) in
      subst (λ s. HasSort types s (element_at (first_of types a.element) (as_number y) x)) (sym parts.1)
      (has_component a.element (element_at (first_of types a.element) (as_number y) x)
      (element_passes a.first a.last (is_in false (shape_of types a.element)) (first_of types a.element) (as_number y) x v (first_is_in (shape_of types a.element))))
  binary_has (binary.Element a) x y (Composite id) Boolean s has part h = absurd (cc)
  binary_has (binary.Element a) x y (Composite id) (Composite k) s has part h = absurd (cc)
  binary_has (binary.Element a) x y Integer n s has part h = absurd (cc)
  binary_has (binary.Element a) x y Boolean n s has part h = absurd (cc)
  binary_has (binary.Update f) x y (Composite id) n s has part h = field_has f x y id n s has part h
  binary_has (binary.Update f) x y Integer n s has part h = absurd (cc)
  binary_has (binary.Update f) x y Boolean n s has part h = absurd (cc)
  binary_has (binary.Field f) x y (Composite id) n s has part h = field_has f x y id n s has part h
  binary_has (binary.Field f) x y Integer n s has part h = absurd (cc)
  binary_has (binary.Field f) x y Boolean n s has part h = absurd (cc)
  binary_has (binary.Elements t low high) x y (Composite id) n s has part h = elements_have t low high x y id n s has part h
  binary_has (binary.Elements t low high) x y Integer n s has part h = absurd (cc)
  binary_has (binary.Elements t low high) x y Boolean n s has part h = absurd (cc)
