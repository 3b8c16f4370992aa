-- The first values of types, by the rows of the table.
use Rattle.std.proofs.Common.{◌≡◌, ℕ, zero, suc, ◌<◌, ◌≤◌, ◌+◌, ℤ, pos, List, [], ◌∷◌, ◌++◌, map, length, get_or, take, replicate, refl, sym, ap, ap₂, ◌∙◌, subst, inl, inr, ◌⊎◌, arith}
use Rattle.std.proofs.lemmas.List.{length-append, length-take, get_or-map, take_all, take_more}
use Rattle.spx_core.specs.declared.entity.Class.{Class}
use Rattle.spx_core.specs.declared.entity.Class.TheVariants as class
use Rattle.spx_core.specs.declared.entity.Subtype.{Subtype}
use Rattle.spx_core.specs.declared.program.Field.{Field}
use Rattle.spx_core.specs.declared.program.Program.{Program}
use Rattle.spx_core.specs.declared.program.TypeForm.TheVariants.{Scalar, Array, Record}
use Rattle.spx_core.specs.declared.program.TypeRow.{TypeRow}
use Rattle.spx_term.specs.declared.value.Shape.{Shape, Shape-F, out-Shape, map-Shape, fold_out-Shape}
use Rattle.spx_term.specs.declared.value.Shape.TheVariants as shape
use Rattle.spx_term.specs.declared.value.Value.{Value}
use Rattle.spx_term.specs.declared.value.Value.TheVariants.{Number, Elements, Fields}
use Rattle.spx_term.specs.Tables.{Row, shape_at, shape_in, shapes_from, types_in}
use Rattle.spx_term.specs.Values as values
use Rattle.spx_term.specs.Values.{Types, count, first_of, first_step, shape_of}
use Rattle.spx_meaning.specs.Mirror.{types_before}
use Rattle.spx_meaning.specs.Stores.{component_of, first_value, row_in, row_of_form, types_of}

-- ---- lists of shapes

at_front : (made more : List Shape) (k : ℕ) → k < length made → shape_at (made ++ more) k ≡ shape_at made k
at_front [] more k h = absurd (omega arith)
at_front (s ∷ made) more zero h = refl
at_front (s ∷ made) more (suc k) h = at_front made more k (omega arith)

at_end : (made : List Shape) (s : Shape) (k : ℕ) → k ≡ length made → shape_at (made ++ s ∷ []) k ≡ s
at_end [] s zero h = refl
at_end [] s (suc k) h = absurd (omega arith)
at_end (x ∷ made) s zero h = absurd (omega arith)
at_end (x ∷ made) s (suc k) h = at_end made s k (omega arith)

at_past : (made : List Shape) (k : ℕ) → length made ≤ k → shape_at made k ≡ shape.Integer (pos 0) (pos 0)
at_past [] k h = refl
at_past (s ∷ made) zero h = absurd (omega arith)
at_past (s ∷ made) (suc k) h = at_past made k (omega arith)

abbrev next : List Shape → Row → List Shape
next made row = made ++ shape_in (shape_at made) (length made) row ∷ []

made_more : (made : List Shape) (rows : List Row) (row : Row) → shapes_from made (rows ++ row ∷ []) ≡ next (shapes_from made rows) row
made_more made [] row = refl
made_more made (first ∷ rows) row = made_more (next made first) rows row

length_next : (made : List Shape) (row : Row) → length (next made row) ≡ length made + 1
length_next made row = length-append made (shape_in (shape_at made) (length made) row ∷ [])

length_made : (made : List Shape) (rows : List Row) → length (shapes_from made rows) ≡ length made + length rows
length_made made [] = omega arith
length_made made (row ∷ rows) = length_made (next made row) rows ∙ ap (λ n. n + length rows) (length_next made row) ∙ omega arith

module _ (rows : List Row) where
  abbrev before : ℕ → List Shape
  before k = shapes_from [] (take k rows)

  length_before : (k : ℕ) → k ≤ length rows → length (before k) ≡ k
  length_before k within = length_made [] (take k rows) ∙ omega (arith, length-take k rows)

  before_more : (k : ℕ) (d : Row) → k < length rows → before (k + 1) ≡ next (before k) (get_or rows k d)
  before_more k d within = ap (shapes_from []) (take_more rows k d within) ∙ made_more [] (take k rows) (get_or rows k d)

  last_or_less : (k size : ℕ) → k < suc size → (k ≡ size) ⊎ (k < size)
  last_or_less zero zero less = inl refl
  last_or_less zero (suc size) less = inr (omega arith)
  last_or_less (suc k) zero less = absurd (omega arith)
  last_or_less (suc k) (suc size) less = elim (last_or_less k size (omega arith)) [ inl same ↦ inl (ap suc same) | inr less ↦ inr (omega arith) ]

  grown : (size : ℕ) (d : Row) → suc size ≤ length rows → before (suc size) ≡ next (before size) (get_or rows size d)
  grown size d within = ap before (let one : suc size ≡ size + 1 = omega arith in one) ∙ before_more size d (omega arith)

  abbrev Looks : ℕ → ℕ → Row → Type 0
  Looks size k d = shape_at (before size) k ≡ shape_in (shape_at (before k)) k (get_or rows k d)

  by_place : (size k : ℕ) (d : Row) → suc size ≤ length rows → (k ≡ size) ⊎ (k < size) → (k < size → Looks size k d) → Looks (suc size) k d
  by_place size k d within (inl same) earlier =
      let whole : length (before size) ≡ size = length_before size (omega arith) in
      ap (λ made. shape_at made k) (grown size d within)
      ∙ at_end (before size) (shape_in (shape_at (before size)) (length (before size)) (get_or rows size d)) k (same ∙ sym whole)
      ∙ ap (λ n. shape_in (shape_at (before size)) n (get_or rows size d)) whole
      ∙ ap (λ n. shape_in (shape_at (before n)) n (get_or rows n d)) (sym same)
  by_place size k d within (inr less) earlier =
      ap (λ made. shape_at made k) (grown size d within)
      ∙ at_front (before size) (shape_in (shape_at (before size)) (length (before size)) (get_or rows size d) ∷ []) k (subst (λ n. k < n) (sym (length_before size (omega arith))) less)
      ∙ earlier less

  -- a type looks as its row says, over those before it
  looks : (size k : ℕ) (d : Row) → k < size → size ≤ length rows → Looks size k d
  looks zero k d less within = absurd (omega arith)
  looks (suc size) k d less within = by_place size k d within (last_or_less k size less) (λ earlier. looks size k d earlier (omega arith))

-- ---- first values of shapes

first_layer : (s : Shape) (layer : Shape-F Shape) → out-Shape s ≡ layer → values.first_value s ≡ first_step (map-Shape Shape Value values.first_value layer)
first_layer s layer is = fold_out-Shape Value first_step s ∙ ap (λ x. first_step (map-Shape Shape Value values.first_value x)) is

first_integer : (low high : ℤ) → values.first_value (shape.Integer low high) ≡ Number low
first_integer low high = first_layer (shape.Integer low high) (Shape-F.Integer low high) (shape.outs-Integer low high)

-- a component has the first value of its type
module _ (types : Types) where
  of_class : (c : Class) (subtype : Subtype) → subtype.base.class ≡ c → first_of types (component_of subtype) ≡ first_value types subtype
  of_class class.Integer subtype is = rw is (first_integer subtype.first subtype.last)
  of_class class.Boolean subtype is = rw is (first_layer shape.Boolean Shape-F.Boolean shape.outs-Boolean)
  of_class class.Enumeration subtype is = rw is (first_integer subtype.first subtype.last)
  of_class class.Composite subtype is = rw is refl

  pub first_component : (subtype : Subtype) → first_of types (component_of subtype) ≡ first_value types subtype
  first_component subtype = of_class subtype.base.class subtype refl

  of_fields : (fields : List Field) → map values.first_value (map (shape_of types) (map (λ (field : Field). component_of field.subtype) fields)) ≡ map (λ (field : Field). first_value types field.subtype) fields
  of_fields [] = refl
  of_fields (field ∷ fields) = ap₂ (λ (x : Value) (xs : List Value). x ∷ xs) (first_component field.subtype) (of_fields fields)

  of_scalar : (k : ℕ) (subtype : Subtype) → values.first_value (shape_in types k (row_of_form subtype Scalar)) ≡ first_value types subtype
  of_scalar k subtype = first_component subtype

  of_array : (k : ℕ) (subtype index element : Subtype)
      → values.first_value (shape_in types k (row_of_form subtype (Array index element))) ≡ Elements index.first (replicate (count index.first index.last) (first_value types element))
  of_array k subtype index element =
      let inner = shape_of types (component_of element) in
      first_layer (shape.Array k index.first index.last inner) (Shape-F.Array k index.first index.last inner) (shape.outs-Array k index.first index.last inner)
      ∙ ap (λ x. Elements index.first (replicate (count index.first index.last) x)) (first_component element)

  of_record : (k : ℕ) (subtype : Subtype) (fields : List Field)
      → values.first_value (shape_in types k (row_of_form subtype (Record fields))) ≡ Fields (map (λ (field : Field). first_value types field.subtype) fields)
  of_record k subtype fields =
      let inner = map (shape_of types) (map (λ (field : Field). component_of field.subtype) fields) in
      first_layer (shape.Record k inner) (Shape-F.Record k inner) (shape.outs-Record k inner) ∙ ap Fields (of_fields fields)

-- ---- first values of types

length_rows : (types : List TypeRow) → length (map row_in types) ≡ length types
length_rows [] = refl
length_rows (row ∷ types) = ap suc (length_rows types)

rows_within : (p : Program) (size : ℕ) → size ≤ length p.types → size ≤ length (map row_in p.types)
rows_within p size within = omega (arith, length_rows p.types)

module _ (p : Program) (size k : ℕ) where
  pub first_past : size ≤ length p.types → size ≤ k → values.first_value (types_before p size k) ≡ Number (pos 0)
  unfolding types_before
  first_past within past =
      ap values.first_value (at_past (before (map row_in p.types) size) k (subst (λ n. n ≤ k) (sym (length_before (map row_in p.types) size (rows_within p size within))) past))
      ∙ first_integer (pos 0) (pos 0)

  looks_so : (row : TypeRow) → k < size → size ≤ length p.types → row ≡ get_or p.types k row → values.first_value (types_before p size k) ≡ values.first_value (shape_in (types_before p k) k (row_in row))
  unfolding types_before
  looks_so row less within at =
      ap values.first_value (looks (map row_in p.types) size k (row_in row) less (rows_within p size within))
      ∙ ap (λ r. values.first_value (shape_in (types_before p k) k r)) (get_or-map row_in p.types k row (row_in row) (omega arith) ∙ ap row_in (sym at))

  pub first_scalar : (row : TypeRow) → k < size → size ≤ length p.types → row ≡ get_or p.types k row → row.form ≡ Scalar → values.first_value (types_before p size k) ≡ first_value (types_before p k) row.subtype
  first_scalar row less within at is =
      looks_so row less within at ∙ ap (λ form. values.first_value (shape_in (types_before p k) k (row_of_form row.subtype form))) is ∙ of_scalar (types_before p k) k row.subtype

  pub first_array : (row : TypeRow) (index element : Subtype) → k < size → size ≤ length p.types → row ≡ get_or p.types k row → row.form ≡ Array index element
      → values.first_value (types_before p size k) ≡ Elements index.first (replicate (count index.first index.last) (first_value (types_before p k) element))
  first_array row index element less within at is =
      looks_so row less within at
      ∙ ap (λ form. values.first_value (shape_in (types_before p k) k (row_of_form row.subtype form))) is
      ∙ of_array (types_before p k) k row.subtype index element

  pub first_record : (row : TypeRow) (fields : List Field) → k < size → size ≤ length p.types → row ≡ get_or p.types k row → row.form ≡ Record fields
      → values.first_value (types_before p size k) ≡ Fields (map (λ (field : Field). first_value (types_before p k) field.subtype) fields)
  first_record row fields less within at is =
      looks_so row less within at
      ∙ ap (λ form. values.first_value (shape_in (types_before p k) k (row_of_form row.subtype form))) is
      ∙ of_record (types_before p k) k row.subtype fields

-- the whole table
pub before_end : (p : Program) → types_before p (length p.types) ≡ types_of p
unfolding types_before types_in
before_end p = ap (λ rows. shape_at (shapes_from [] rows)) (take_all (length p.types) (map row_in p.types) (omega (arith, length_rows p.types)))
