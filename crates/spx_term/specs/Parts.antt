-- Parts of composite values (Ada 95 RM 4.1.1, 4.1.3): the way to a part, what is there, and the value with another part there. An assignment to `A (I).F` gives A such a
-- value (RM 5.2).
use Rattle.std.specs.Prelude.{◌≡◌, ◌⊎◌, ℤ, Bool, true, false, ◌==◌, Some, List, [], ◌∷◌, map}
use Rattle.std.specs.Ordering.{int_eq}
use Rattle.spx_term.specs.declared.term.Sort.{Sort}
use Rattle.spx_term.specs.declared.term.Sort.TheVariants.{Integer, Composite}
use Rattle.spx_term.specs.declared.term.ArrayType.{ArrayType}
use Rattle.spx_term.specs.declared.term.Component.{Component}
use Rattle.spx_term.specs.declared.term.FieldName.{FieldName}
use Rattle.spx_term.specs.declared.term.UnaryOp.TheVariants as unary
use Rattle.spx_term.specs.declared.term.BinaryOp.TheVariants as binary
use Rattle.spx_term.specs.declared.term.TernaryOp.TheVariants as ternary
use Rattle.spx_term.specs.declared.term.Term.{Term}
use Rattle.spx_term.specs.declared.term.Term.TheVariants as term
use Rattle.spx_term.specs.declared.value.Shape.{Shape}
use Rattle.spx_term.specs.declared.value.Value.{Value}
use Rattle.spx_term.specs.declared.value.Value.TheVariants.{Number}
use Rattle.spx_term.specs.Values.{Types, shape_of, lies_between, is_in, with_elements, with_field}
use Rattle.spx_term.specs.Sorts.{sort_in, is_array, is_field, sort_of}
use Rattle.spx_term.specs.Meaning.{as_number, value_of_unary, value_of_binary, Valuation, value_of}

-- a step to a part of a value: to the element at an index, or to a field
pub data Step : Type 0 where
  indexed : ArrayType → ℤ → Step
  selected : FieldName → Component → Step

-- the part there; what is not there has the first value of its type
abbrev pub part_of : Types → Step → Value → Value
part_of types (indexed t i) u = value_of_binary types (binary.Element t) u (Number i)
part_of types (selected f c) u = value_of_unary types (unary.Field f c) u

-- the value with another part there; where nothing is there, the value itself
abbrev pub with_part : Step → Value → Value → Value
with_part (indexed t i) u w = with_elements i i w u
with_part (selected f c) u w = with_field f.place w u

-- the part at the end of a way
abbrev pub at_end : Types → List Step → Value → Value
at_end types [] u = u
at_end types (step ∷ way) u = at_end types way (part_of types step u)

-- the value with another part at the end of a way
abbrev pub with_end : Types → List Step → Value → Value → Value
with_end types [] u w = w
with_end types (step ∷ way) u w = with_part step u (with_end types way (part_of types step u) w)

-- ---- terms

-- a step whose index is a term
pub data TermStep : Type 0 where
  indexed_by : ArrayType → Term → TermStep
  selecting : FieldName → Component → TermStep

-- the step, where names have these values
abbrev pub step_in : Types → Valuation → TermStep → Step
step_in types v (indexed_by t i) = indexed t (as_number (value_of types v i))
step_in types v (selecting f c) = selected f c

abbrev pub part_term : TermStep → Term → Term
part_term (indexed_by t i) a = term.Binary (binary.Element t) a i
part_term (selecting f c) a = term.Unary (unary.Field f c) a

abbrev pub with_part_term : TermStep → Term → Term → Term
with_part_term (indexed_by t i) a e = term.Ternary (ternary.Update t.position) a i e
with_part_term (selecting f c) a e = term.Binary (binary.Update f) a e

-- the term of the part at the end of a way
abbrev pub end_term : List TermStep → Term → Term
end_term [] a = a
end_term (step ∷ way) a = end_term way (part_term step a)

-- the term of the value with another part at the end of a way
abbrev pub with_end_term : List TermStep → Term → Term → Term
with_end_term [] a e = e
with_end_term (step ∷ way) a e = with_part_term step a (with_end_term way (part_term step a) e)

-- ---- laws

-- terms mean the part and the value with another part
pub record AreMeant (types : Types) (v : Valuation) (way : List TermStep) (a e : Term) : Type 0 where
  pub part : value_of types v (end_term way a) ≡ at_end types (map (step_in types v) way) (value_of types v a)
  pub whole : value_of types v (with_end_term way a e) ≡ with_end types (map (step_in types v) way) (value_of types v a) (value_of types v e)

abbrev pub PartsAreMeant : Type 0
PartsAreMeant = (types : Types) (v : Valuation) (way : List TermStep) (a e : Term) → AreMeant types v way a e

-- a way from terms of one sort to terms of another
abbrev pub LeadsTo : Types → Sort → List TermStep → Sort → Type 0
LeadsTo types m [] n = m ≡ n
LeadsTo types m (indexed_by t i ∷ way) n = (is_array types t ≡ true) × (m ≡ Composite t.position) × (sort_of types i ≡ Some Integer) × LeadsTo types (sort_in t.element) way n
LeadsTo types m (selecting f c ∷ way) n = (is_field types f c ≡ true) × (m ≡ Composite f.position) × LeadsTo types (sort_in c) way n

-- the terms have the sorts of the part and of the whole
pub record AreSorted (types : Types) (m n : Sort) (way : List TermStep) (a : Term) : Type 0 where
  pub part : sort_of types (end_term way a) ≡ Some n
  pub whole : (e : Term) → sort_of types e ≡ Some n → sort_of types (with_end_term way a e) ≡ Some m

abbrev pub PartsAreSorted : Type 0
PartsAreSorted = (types : Types) (m n : Sort) (way : List TermStep) (a : Term) → LeadsTo types m way n → sort_of types a ≡ Some m → AreSorted types m n way a

-- a way from values that look like s to parts that look like t; each index is one of its array
abbrev pub Leads : Types → Shape → List Step → Shape → Type 0
Leads types s [] t = s ≡ t
Leads types s (indexed a i ∷ way) t = (is_array types a ≡ true) × (s ≡ types a.position) × (lies_between a.first a.last i ≡ true) × Leads types (shape_of types a.element) way t
Leads types s (selected f c ∷ way) t = (is_field types f c ≡ true) × (s ≡ types f.position) × Leads types (shape_of types c) way t

-- the part is of its type, the value with another part of that type is of the type of the whole, and that part is then there
pub record IsReplaced (types : Types) (bounded : Bool) (s t : Shape) (way : List Step) (u : Value) : Type 0 where
  pub part : is_in bounded t (at_end types way u) ≡ true
  pub whole : (w : Value) → is_in bounded t w ≡ true → is_in bounded s (with_end types way u w) ≡ true
  pub there : (w : Value) → at_end types way (with_end types way u w) ≡ w

abbrev pub PartsAreReplaced : Type 0
PartsAreReplaced = (types : Types) (bounded : Bool) (s t : Shape) (way : List Step) (u : Value) → Leads types s way t → is_in bounded s u ≡ true → IsReplaced types bounded s t way u

-- two steps to different elements or to different fields
abbrev pub Differ : Step → Step → Type 0
Differ (indexed a i) (indexed b j) = int_eq i j ≡ false
Differ (selected f c) (selected g d) = (f.place == g.place) ≡ false
Differ _ _ = ⊥

-- two ways that go apart at some step
abbrev pub Diverge : List Step → List Step → Type 0
Diverge [] others = ⊥
Diverge (x ∷ way) [] = ⊥
Diverge (x ∷ way) (y ∷ others) = Differ x y ⊎ ((x ≡ y) × Diverge way others)

-- a part elsewhere stays as it is
abbrev pub OtherPartsStay : Type 0
OtherPartsStay = (types : Types) (s t : Shape) (way others : List Step) (u w : Value) → Leads types s way t → is_in false s u ≡ true → Diverge way others → at_end types others (with_end types way u w) ≡ at_end types others u
