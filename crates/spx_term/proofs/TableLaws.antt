-- The types of a table look as its rows say.
use Rattle.std.proofs.Common.{◌≡◌, ℕ, zero, suc, ◌<◌, ◌+◌, ℤ, Bool, true, false, ◌&&◌, List, [], ◌∷◌, ◌++◌, map, length, replicate, Option, Some, refl, sym, ap, ap₂, ◌∙◌, subst, int_le, arith}
use Rattle.std.specs.Prelude.{slice_get}
use Rattle.std.specs.List.{AllByRecursion, list_all}
use Rattle.std.proofs.lemmas.Int.{ints}
use Rattle.std.proofs.lemmas.List.{length-replicate}
use Rattle.spx_term.specs.declared.term.ArrayType.{ArrayType}
use Rattle.spx_term.specs.declared.term.Component.{Component}
use Rattle.spx_term.specs.declared.term.Component.TheVariants as component
use Rattle.spx_term.specs.declared.term.FieldName.{FieldName}
use Rattle.spx_term.specs.declared.term.Sort.TheVariants as sort
use Rattle.spx_term.specs.declared.value.Shape.{Shape, Shape-F, out-Shape, map-Shape, fold_out-Shape}
use Rattle.spx_term.specs.declared.value.Shape.TheVariants as shape
use Rattle.spx_term.specs.declared.value.Value.{Value}
use Rattle.spx_term.specs.declared.value.Value.TheVariants.{outs-Number, outs-Truth, outs-Fields}
use Rattle.spx_term.specs.Equality.{same_shape, same_sort}
use Rattle.spx_term.specs.Values.{Types, count, each_passes, fields_pass, first_step, first_value, has_first, is_in, is_in_step, is_truth, number_passes, shape_of, within}
use Rattle.spx_term.specs.Sorts.{element_shape, element_shape_in, field_shape, field_shape_in, is_array, is_component, is_field, sort_in, sort_of_layer, sort_of_shape}
use Rattle.spx_term.specs.Tables.{Row, plain, array_of, record_of, shape_in, shape_at, shapes_from, types_in, IsComposite, IsComponent, IsMade, AreMade, TablesHaveTypes}
use Rattle.spx_term.proofs.Equality.{same_shape-Decides, same_sort-Decides}
use Rattle.spx_term.proofs.ValueLaws.{is_in-layer, from_elements}

both_true : (a b : Bool) → a ≡ true → b ≡ true → (a && b) ≡ true
both_true a b p q = ap₂ ◌&&◌ p q

itself : (n : ℤ) → int_le n n ≡ true
itself n = grind (arith, ints)

-- ---- lists of shapes

at_front : (made more : List Shape) (k : ℕ) → k < length made → shape_at (made ++ more) k ≡ shape_at made k
at_front [] more k h = absurd (omega arith)
at_front (s ∷ made) more zero h = refl
at_front (s ∷ made) more (suc k) h = at_front made more k (omega arith)

at_end : (made : List Shape) (s : Shape) → shape_at (made ++ s ∷ []) (length made) ≡ s
at_end [] s = refl
at_end (x ∷ made) s = at_end made s

longer : (made : List Shape) (s : Shape) → length (made ++ s ∷ []) ≡ suc (length made)
longer [] s = refl
longer (x ∷ made) s = ap suc (longer made s)

-- ---- what agrees on the types before gives one shape

abbrev AgreeBelow : ℕ → Types → Types → Type 0
AgreeBelow k a b = (j : ℕ) → j < k → a j ≡ b j

module _ (rows : List Row) (k : ℕ) (a b : Types) (agree : AgreeBelow k a b) where
  component_same : (c : Component) → IsComponent rows k c → shape_of a c ≡ shape_of b c
  component_same (component.Integer first last) h = refl
  component_same component.Boolean h = refl
  component_same (component.Composite id) h = agree id h.before

  fields_same : (fields : List Component) → AllByRecursion (IsComponent rows k) fields → map (shape_of a) fields ≡ map (shape_of b) fields
  fields_same [] h = refl
  fields_same (c ∷ fields) h = ap₂ (λ (x : Shape) (xs : List Shape). x ∷ xs) (component_same c h.0) (fields_same fields h.1)

  row_same : (row : Row) → IsMade rows k row → shape_in a k row ≡ shape_in b k row
  row_same (plain c) h = component_same c h
  row_same (array_of first last e) h = ap (shape.Array k first last) (component_same e h)
  row_same (record_of fields) h = ap (shape.Record k) (fields_same fields h)

-- ---- the table

abbrev next : List Shape → Row → List Shape
next made row = made ++ shape_in (shape_at made) (length made) row ∷ []

-- what has been made stays
stays : (rows : List Row) (made : List Shape) (k : ℕ) → k < length made → shape_at (shapes_from made rows) k ≡ shape_at made k
stays [] made k h = refl
stays (row ∷ rows) made k h =
    let own = shape_in (shape_at made) (length made) row in
    stays rows (next made row) k (subst (λ n. k < n) (sym (longer made own)) (omega arith)) ∙ at_front made (own ∷ []) k h

row_looks : (whole rows : List Row) (made : List Shape) (j : ℕ) (row : Row) → slice_get rows j ≡ Some row → IsMade whole (length made + j) row
    → shape_at (shapes_from made rows) (length made + j) ≡ shape_in (shape_at (shapes_from made rows)) (length made + j) row
row_looks whole [] made j row is h = absurd (cc)
row_looks whole (other ∷ rows) made zero row is h =
    let one : other ≡ row = cc in
    let own = shape_in (shape_at made) (length made) other in
    let here : length made ≡ length made + zero = omega arith in
    let all = shapes_from (next made other) rows in
    let made_so : IsMade whole (length made) other = subst (IsMade whole (length made)) (sym one) (subst (λ n. IsMade whole n row) (sym here) h) in
    ap (shape_at all) (sym here)
    ∙ stays rows (next made other) (length made) (subst (λ n. length made < n) (sym (longer made own)) (omega arith))
    ∙ at_end made own
    ∙ row_same whole (length made) (shape_at made) (shape_at all)
    (λ k less. sym (stays rows (next made other) k (subst (λ n. k < n) (sym (longer made own)) (omega arith)) ∙ at_front made (own ∷ []) k less)) other made_so
    ∙ ap (shape_in (shape_at all) (length made)) one
    ∙ ap (λ n. shape_in (shape_at all) n row) here
row_looks whole (other ∷ rows) made (suc j) row is h =
    let own = shape_in (shape_at made) (length made) other in
    let same : length (next made other) + j ≡ length made + suc j = ap (λ n. n + j) (longer made own) ∙ omega arith in
    subst (λ n. shape_at (shapes_from (next made other) rows) n ≡ shape_in (shape_at (shapes_from (next made other) rows)) n row) same
    (row_looks whole rows (next made other) j row is (subst (λ n. IsMade whole n row) (sym same) h))

-- ---- first values, one level

first_layer : (s : Shape) (layer : Shape-F Shape) → out-Shape s ≡ layer → is_in_step true (map-Shape Shape (Value → Bool) (is_in true) layer) (first_step (map-Shape Shape Value first_value layer)) ≡ true → has_first s ≡ true
first_layer s layer is h =
    is_in-layer true s layer is (first_value s)
    ∙ ap (is_in_step true (map-Shape Shape (Value → Bool) (is_in true) layer)) (fold_out-Shape Value first_step s ∙ ap (λ x. first_step (map-Shape Shape Value first_value x)) is)
    ∙ h

integer_first : (low high : ℤ) → int_le low high ≡ true → has_first (shape.Integer low high) ≡ true
integer_first low high h =
    first_layer (shape.Integer low high) (Shape-F.Integer low high) (shape.outs-Integer low high)
    (ap (number_passes (within true low high)) (outs-Number low) ∙ both_true (int_le low low) (int_le low high) (itself low) h)

boolean_first : has_first shape.Boolean ≡ true
boolean_first = first_layer shape.Boolean Shape-F.Boolean shape.outs-Boolean (ap is_truth (outs-Truth false))

all_pass : (test : Value → Bool) (x : Value) → test x ≡ true → (n : ℕ) → list_all test (replicate n x) ≡ true
all_pass test x h zero = refl
all_pass test x h (suc n) = both_true (test x) (list_all test (replicate n x)) h (all_pass test x h n)

array_first : (id : ℕ) (low high : ℤ) (e : Shape) → has_first e ≡ true → has_first (shape.Array id low high e) ≡ true
array_first id low high e h =
    first_layer (shape.Array id low high e) (Shape-F.Array id low high e) (shape.outs-Array id low high e)
    (from_elements low high (is_in true e) (replicate (count low high) (first_value e)) (length-replicate (count low high) (first_value e)) (all_pass (is_in true e) (first_value e) h (count low high)))

abbrev HasFirst : Shape → Type 0
HasFirst s = has_first s ≡ true

firsts_pass : (fields : List Shape) → AllByRecursion HasFirst fields → each_passes (map (is_in true) fields) (map first_value fields) ≡ true
firsts_pass [] h = refl
firsts_pass (s ∷ fields) h = both_true (has_first s) (each_passes (map (is_in true) fields) (map first_value fields)) h.0 (firsts_pass fields h.1)

record_first : (id : ℕ) (fields : List Shape) → AllByRecursion HasFirst fields → has_first (shape.Record id fields) ≡ true
record_first id fields h =
    first_layer (shape.Record id fields) (Shape-F.Record id fields) (shape.outs-Record id fields) (ap (fields_pass (map (is_in true) fields)) (outs-Fields (map first_value fields)) ∙ firsts_pass fields h)

-- ---- lists of components

item_at : {A : Type 0} (P : A → Type 0) (xs : List A) (k : ℕ) (x : A) → slice_get xs k ≡ Some x → AllByRecursion P xs → P x
item_at P [] k x is h = absurd (cc)
item_at P (y ∷ ys) zero x is h = subst P (let one : y ≡ x = cc in one) h.0
item_at P (y ∷ ys) (suc k) x is h = item_at P ys k x is h.1

mapped_at : {A B : Type 0} (g : A → B) (xs : List A) (k : ℕ) (x : A) → slice_get xs k ≡ Some x → slice_get (map g xs) k ≡ Some (g x)
mapped_at g [] k x is = absurd (cc)
mapped_at g (y ∷ ys) zero x is = ap (λ z. Some (g z)) (let one : y ≡ x = cc in one)
mapped_at g (y ∷ ys) (suc k) x is = mapped_at g ys k x is

module _ (rows : List Row) (made : AreMade rows) where
  abbrev types : Types
  types = types_in rows

  looks : (k : ℕ) (row : Row) → slice_get rows k ≡ Some row → types k ≡ shape_in types k row
  unfolding types_in
  looks k row is =
      let same : zero + k ≡ k = omega arith in
      let all = shapes_from [] rows in
      subst (λ n. shape_at all n ≡ shape_in (shape_at all) n row) same (row_looks rows rows [] k row is (subst (λ n. IsMade rows n row) (sym same) (made k row is)))

  -- ---- first values

  abbrev HaveFirst : ℕ → Type 0
  HaveFirst k = (j : ℕ) → j < k → (row : Row) → slice_get rows j ≡ Some row → has_first (types j) ≡ true

  component_first : (k : ℕ) → HaveFirst k → (c : Component) → IsComponent rows k c → has_first (shape_of types c) ≡ true
  component_first k below (component.Integer first last) h = integer_first first last h
  component_first k below component.Boolean h = boolean_first
  component_first k below (component.Composite id) h = below id h.before h.row h.is

  fields_first : (k : ℕ) → HaveFirst k → (fields : List Component) → AllByRecursion (IsComponent rows k) fields → AllByRecursion HasFirst (map (shape_of types) fields)
  fields_first k below [] h = tt
  fields_first k below (c ∷ fields) h = (component_first k below c h.0, fields_first k below fields h.1)

  row_first : (k : ℕ) → HaveFirst k → (row : Row) → IsMade rows k row → has_first (shape_in types k row) ≡ true
  row_first k below (plain c) h = component_first k below c h
  row_first k below (array_of first last e) h = array_first k first last (shape_of types e) (component_first k below e h)
  row_first k below (record_of fields) h = record_first k (map (shape_of types) fields) (fields_first k below fields h)

  have_first : (n : ℕ) → HaveFirst n
  have_first zero j less row is = absurd (omega arith)
  have_first (suc n) j less row is = ap has_first (looks j row is) ∙ row_first j (λ i lower. have_first n i (omega arith)) row (made j row is)

  -- ---- what terms say of arrays and fields

  row_sort : (id : ℕ) (row : Row) → IsComposite row → sort_of_layer (out-Shape (shape_in types id row)) ≡ sort.Composite id
  row_sort id (plain c) h = absurd h
  row_sort id (array_of first last e) h = ap sort_of_layer (shape.outs-Array id first last (shape_of types e))
  row_sort id (record_of fields) h = ap sort_of_layer (shape.outs-Record id (map (shape_of types) fields))

  component_sort : (k : ℕ) (c : Component) → IsComponent rows k c → sort_of_shape (shape_of types c) ≡ sort_in c
  unfolding sort_of_shape
  component_sort k (component.Integer first last) h = ap sort_of_layer (shape.outs-Integer first last)
  component_sort k component.Boolean h = ap sort_of_layer shape.outs-Boolean
  component_sort k (component.Composite id) h = ap (λ s. sort_of_layer (out-Shape s)) (looks id h.row h.is) ∙ row_sort id h.row h.composite

  component_said : (k : ℕ) (o : Option Shape) (c : Component) → o ≡ Some (shape_of types c) → IsComponent rows k c → is_component types o c ≡ true
  component_said k o c is h =
      let s = shape_of types c in
      ap (λ u. is_component types u c) is
      ∙ both_true (same_shape s s) (same_sort (sort_of_shape s) (sort_in c) && has_first s) ((same_shape-Decides s s).1 refl)
      (both_true (same_sort (sort_of_shape s) (sort_in c)) (has_first s) ((same_sort-Decides (sort_of_shape s) (sort_in c)).1 (component_sort k c h)) (component_first k (have_first k) c h))

  array_said : (a : ArrayType) → slice_get rows a.position ≡ Some (array_of a.first a.last a.element) → is_array types a ≡ true
  unfolding element_shape
  array_said a is =
      let full = shape.Array a.position a.first a.last (shape_of types a.element) in
      let look : types a.position ≡ full = looks a.position (array_of a.first a.last a.element) is in
      both_true (same_shape (types a.position) full) (is_component types (element_shape (types a.position)) a.element) ((same_shape-Decides (types a.position) full).1 look)
      (component_said a.position (element_shape (types a.position)) a.element
      (ap (λ s. element_shape_in (out-Shape s)) look ∙ ap element_shape_in (shape.outs-Array a.position a.first a.last (shape_of types a.element)))
      (made a.position (array_of a.first a.last a.element) is))

  field_said : (f : FieldName) (c : Component) (all : List Component) → slice_get rows f.position ≡ Some (record_of all) → slice_get all f.place ≡ Some c → is_field types f c ≡ true
  unfolding field_shape
  field_said f c all is at =
      component_said f.position (field_shape (types f.position) f.place) c
      (ap (λ s. field_shape_in (out-Shape s) f.place) (looks f.position (record_of all) is)
      ∙ ap (λ layer. field_shape_in layer f.place) (shape.outs-Record f.position (map (shape_of types) all))
      ∙ mapped_at (shape_of types) all f.place c at)
      (item_at (IsComponent rows f.position) all f.place c at (made f.position (record_of all) is))

pub tables_have_types : TablesHaveTypes
tables_have_types rows made = record {
  looks = looks rows made;
  first = λ k row is. have_first rows made (suc k) k (omega arith) row is;
  arrays = array_said rows made;
  fields = field_said rows made;
}
