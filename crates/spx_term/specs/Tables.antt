-- A table of types, in the order of their declarations, and what the values of each look like (Ada 95 RM 3.2). A type is made of those before it.
use Rattle.std.specs.Prelude.{◌≡◌, ⊤, ◌<◌, ℕ, zero, suc, ℤ, pos, true, int_le, Some, List, [], ◌∷◌, ◌++◌, map, length, slice_get}
use Rattle.std.specs.List.{AllByRecursion}
use Rattle.spx_term.specs.declared.term.ArrayType.{ArrayType}
use Rattle.spx_term.specs.declared.term.Component.{Component}
use Rattle.spx_term.specs.declared.term.Component.TheVariants as component
use Rattle.spx_term.specs.declared.term.FieldName.{FieldName}
use Rattle.spx_term.specs.declared.value.Shape.{Shape}
use Rattle.spx_term.specs.declared.value.Shape.TheVariants as shape
use Rattle.spx_term.specs.Values.{Types, shape_of, has_first}
use Rattle.spx_term.specs.Sorts.{is_array, is_field}

-- a type of numbers, of truth values, or of the values of an earlier composite type; an array type with its bounds (RM 3.6); a record type with its fields (RM 3.8)
pub data Row : Type 0 where
  plain : Component → Row
  array_of : (first last : ℤ) → Component → Row
  record_of : List Component → Row

-- what the values of the type at a position look like, where those before it look so
abbrev pub shape_in : Types → ℕ → Row → Shape
shape_in before k (plain c) = shape_of before c
shape_in before k (array_of first last e) = shape.Array k first last (shape_of before e)
shape_in before k (record_of fields) = shape.Record k (map (shape_of before) fields)

-- those of the types so far; a type that is not there looks like the number 0
abbrev pub shape_at : List Shape → ℕ → Shape
shape_at [] k = shape.Integer (pos 0) (pos 0)
shape_at (s ∷ shapes) zero = s
shape_at (s ∷ shapes) (suc k) = shape_at shapes k

-- each type is looked at with those before it
abbrev pub shapes_from : List Shape → List Row → List Shape
shapes_from made [] = made
shapes_from made (row ∷ rows) = shapes_from (made ++ shape_in (shape_at made) (length made) row ∷ []) rows

-- what the values of the types of a table look like
unfoldable pub types_in : List Row → Types
types_in rows = shape_at (shapes_from [] rows)

-- ---- tables that are made in their order

-- the type is an array or a record
abbrev pub IsComposite : Row → Type 0
IsComposite (plain c) = ⊥
IsComposite (array_of first last e) = ⊤
IsComposite (record_of fields) = ⊤

-- a composite type before the one at k
pub record IsEarlier (rows : List Row) (k id : ℕ) : Type 0 where
  pub before : id < k
  pub row : Row
  pub is : slice_get rows id ≡ Some row
  pub composite : IsComposite row

-- a component of the type at k: its range has a number, and a composite type is an earlier one
abbrev pub IsComponent : List Row → ℕ → Component → Type 0
IsComponent rows k (component.Integer first last) = int_le first last ≡ true
IsComponent rows k component.Boolean = ⊤
IsComponent rows k (component.Composite id) = IsEarlier rows k id

abbrev pub IsMade : List Row → ℕ → Row → Type 0
IsMade rows k (plain c) = IsComponent rows k c
IsMade rows k (array_of first last e) = IsComponent rows k e
IsMade rows k (record_of fields) = AllByRecursion (IsComponent rows k) fields

-- each type is made of those before it
abbrev pub AreMade : List Row → Type 0
AreMade rows = (k : ℕ) (row : Row) → slice_get rows k ≡ Some row → IsMade rows k row

-- ---- the law

-- Each type looks as its row says and has its first value, and what a term says of arrays and fields is so.
pub record HasTypes (rows : List Row) : Type 0 where
  pub looks : (k : ℕ) (row : Row) → slice_get rows k ≡ Some row → types_in rows k ≡ shape_in (types_in rows) k row
  pub first : (k : ℕ) (row : Row) → slice_get rows k ≡ Some row → has_first (types_in rows k) ≡ true
  pub arrays : (a : ArrayType) → slice_get rows a.position ≡ Some (array_of a.first a.last a.element) → is_array (types_in rows) a ≡ true
  pub fields : (f : FieldName) (c : Component) (all : List Component) → slice_get rows f.position ≡ Some (record_of all) → slice_get all f.place ≡ Some c → is_field (types_in rows) f c ≡ true

abbrev pub TablesHaveTypes : Type 0
TablesHaveTypes = (rows : List Row) → AreMade rows → HasTypes rows
