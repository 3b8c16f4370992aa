-- The table of the types of the examples.
use Rattle.std.proofs.Common.{◌≡◌, ℕ, zero, suc, pos, true, [], ◌∷◌, Some, refl, subst, arith}
use Rattle.spx_term.specs.Sorts.{is_array}
use Rattle.spx_term.specs.Tables.{Row, array_of, record_of, types_in, IsMade, AreMade}
use Rattle.spx_term.specs.declared.term.Component.TheVariants as component
use Rattle.spx_term.specs.declared.value.Shape.TheVariants as shape
use Rattle.spx_term.proofs.TableLaws.{tables_have_types}
use Rattle.spx_examples.specs.CompositeExamples.{types, digit, digit_shape, numbers_shape, numbers}
use Rattle.spx_examples.specs.PartExamples.{rows, rows_out_of_order}

made_at : (k : ℕ) (a b : Row) → ◌≡◌ {A = _} (Some a) (Some b) → IsMade rows k a → IsMade rows k b
made_at k a b is h = subst (IsMade rows k) (let one : a ≡ b = cc in one) h

pub are_made : AreMade rows
are_made zero row is = made_at 0 (array_of (pos 1) (pos 3) digit) row is refl
are_made (suc zero) row is = made_at 1 (record_of (digit ∷ digit ∷ [])) row is (refl, (refl, tt))
are_made (suc (suc zero)) row is =
    made_at 2 (record_of (component.Composite 0 ∷ digit ∷ [])) row is
    (record { before = omega arith; row = array_of (pos 1) (pos 3) digit; is = refl; composite = tt }, (refl, tt))
are_made (suc (suc (suc k))) row is = absurd (cc)

pub array_looks : types_in rows 0 ≡ numbers_shape
unfolding types_in
array_looks = refl

pub record_looks : types_in rows 1 ≡ types 1
unfolding types_in
record_looks = refl

pub nested_looks : types_in rows 2 ≡ types 2
unfolding types_in
nested_looks = refl

pub array_is : is_array (types_in rows) numbers ≡ true
array_is = (tables_have_types rows are_made).arrays numbers refl

pub none_made : AreMade rows_out_of_order → ⊥
none_made made = let earlier = (made 0 (record_of (component.Composite 1 ∷ digit ∷ [])) refl).0 in absurd (omega (arith, earlier.before))

pub none_looks : types_in rows_out_of_order 0 ≡ shape.Record 0 (shape.Integer (pos 0) (pos 0) ∷ digit_shape ∷ [])
unfolding types_in
none_looks = refl
