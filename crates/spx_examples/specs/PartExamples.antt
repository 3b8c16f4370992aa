-- The table of the types of these examples, ways to parts of arrays and records, and values that change there. The types are those of the examples of terms.
use Rattle.std.specs.Prelude.{ℕ, pos, List, [], ◌∷◌}
use Rattle.spx_term.specs.declared.term.Component.TheVariants as component
use Rattle.spx_term.specs.declared.term.Term.{Term}
use Rattle.spx_term.specs.declared.value.Value.{Value}
use Rattle.spx_term.specs.declared.value.Value.TheVariants as value
use Rattle.spx_term.specs.Tables.{Row, array_of, record_of}
use Rattle.spx_term.specs.Parts.{Step, indexed, selected, TermStep, indexed_by, selecting}
use Rattle.spx_examples.specs.CompositeExamples.{digit, numbers, array_f, digit_g}

-- T, P and Q, in their order
abbrev pub rows : List Row
rows = array_of (pos 1) (pos 3) digit ∷ record_of (digit ∷ digit ∷ []) ∷ record_of (component.Composite 0 ∷ digit ∷ []) ∷ []

-- Q before the type of its field F
abbrev pub rows_out_of_order : List Row
rows_out_of_order = record_of (component.Composite 1 ∷ digit ∷ []) ∷ array_of (pos 1) (pos 3) digit ∷ []

-- the element at an index of an array of the type T
abbrev pub element : ℕ → Step
element i = indexed numbers (pos i)

-- F of a record of the type Q
abbrev pub field_array : Step
field_array = selected array_f (component.Composite 0)

-- G of a record of the type Q
abbrev pub field_digit : Step
field_digit = selected digit_g digit

-- `.F (i)`
abbrev pub to_element : ℕ → List Step
to_element i = field_array ∷ element i ∷ []

-- the same as terms, where the index is a term
abbrev pub to_element_at : Term → List TermStep
to_element_at i = selecting array_f (component.Composite 0) ∷ indexed_by numbers i ∷ []

-- a record of the type Q with this array in F and this number in G
abbrev pub array_and_digit : Value → ℕ → Value
array_and_digit a n = value.Fields (a ∷ value.Number (pos n) ∷ [])
