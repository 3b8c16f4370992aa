-- `A (I)` and `A (I) := E`, where A has an integer at each of the indexes 1, 2 and 3, and a way to a field of a record in an array.
use Rattle.std.specs.Prelude.{ℕ, pos, List, [], ◌∷◌, Option, Some, None, codes}
use Rattle.spx_core.specs.declared.entity.TheConstants.{INTEGER}
use Rattle.spx_core.specs.declared.entity.Class.TheVariants as class
use Rattle.spx_core.specs.declared.entity.Entity.TheVariants as entity
use Rattle.spx_core.specs.declared.entity.Subtype.{Subtype}
use Rattle.spx_core.specs.declared.entity.VarId.{VarId}
use Rattle.spx_core.specs.declared.entity.VarKind.TheVariants.{Local}
use Rattle.spx_core.specs.declared.expression.CoreExpr.{CoreExpr}
use Rattle.spx_core.specs.declared.expression.CoreExpr.TheVariants.{Name, Element, Selected}
use Rattle.spx_core.specs.declared.name.CoreName.{CoreName}
use Rattle.spx_core.specs.declared.part.Indexing.{Indexing}
use Rattle.spx_core.specs.declared.part.PartStep.TheVariants.{Index, Field}
use Rattle.spx_core.specs.declared.part.Selection.{Selection}
use Rattle.spx_core.specs.declared.part.Target.{Target}
use Rattle.spx_core.specs.declared.program.Program.{Program}
use Rattle.spx_core.specs.declared.program.TypeForm.TheVariants.{Array}
use Rattle.spx_core.specs.Commands.{Command, Set}
use Rattle.spx_term.specs.declared.term.ArrayType.{ArrayType}
use Rattle.spx_term.specs.declared.term.Component.TheVariants as component
use Rattle.spx_term.specs.declared.value.Value.{Value}
use Rattle.spx_term.specs.declared.value.Value.TheVariants as value
use Rattle.spx_term.specs.Parts.{Step, indexed, selected}
use Rattle.spx_meaning.specs.Stores.{Store}
use Rattle.spx_examples.specs.CompositeExamples.{digit, field_g}
use Rattle.spx_examples.specs.Declarations.{local, program_of, row}
use Rattle.spx_examples.specs.Increment.{place, word}

-- ---- types

-- the integers from 1 to 3
abbrev pub index_type : Subtype
index_type = record { id = record { 0 = 5 }; base = INTEGER.base; first = pos 1; last = pos 3 }

-- the arrays with an integer at each of them
abbrev pub array_type : Subtype
array_type = record { id = record { 0 = 6 }; base = record { id = record { 0 = 6 }; class = class.Composite; first = pos 0; last = pos 0 }; first = pos 0; last = pos 0 }

-- what stands with a name of an element
abbrev pub indexing : Indexing
indexing = record { array = array_type.id; index = index_type; element = INTEGER }

-- ---- variables

-- I and E, which are integers, and A
abbrev pub i : VarId
i = record { 0 = 0 }

abbrev pub e : VarId
e = record { 0 = 1 }

abbrev pub a : VarId
a = record { 0 = 2 }

-- a name of a local variable of this type in line 6
abbrev pub local_at : List ℕ → VarId → Subtype → ℕ → CoreName
local_at text v subtype column = record { name = word text 6 column; entity = Some (entity.Variable v (record { kind = Local; subtype = subtype })) }

abbrev pub i_at : ℕ → CoreName
i_at column = local_at (codes "I") i INTEGER column

abbrev pub e_at : ℕ → CoreName
e_at column = local_at (codes "E") e INTEGER column

abbrev pub a_at : ℕ → CoreName
a_at column = local_at (codes "A") a array_type column

-- ---- expressions and statements

-- the element of an array of that type at an index
abbrev pub element_at : CoreName → CoreExpr → CoreExpr
element_at prefix at = Element (Name prefix) (place 6 6) at indexing

-- `A (I)`
abbrev pub element_of_a : CoreExpr
element_of_a = element_at (a_at 4) (Name (i_at 7))

-- the same as a target
abbrev pub to_element : Target
to_element = record { root = a_at 4; way = Index (place 6 6) (Name (i_at 7)) indexing ∷ []; faulty = None }

-- `A (I) := E`
abbrev pub setting : Command
setting = Set to_element (Name (e_at 13))

-- the program of these types and variables
abbrev pub part_program : Program
part_program =
    program_of
    (row (codes "Index") index_type ∷ record { name = codes "T"; subtype = array_type; form = Array index_type INTEGER } ∷ [])
    (local (codes "I") INTEGER ∷ local (codes "E") INTEGER ∷ local (codes "A") array_type ∷ [])

-- a program where each element of an array of that type is such an array itself
abbrev pub endless_program : Program
endless_program = program_of (row (codes "Index") index_type ∷ record { name = codes "T"; subtype = array_type; form = Array index_type array_type } ∷ []) []

-- ---- a field of a record

-- a record type, whose field G has an integer
abbrev pub record_type : Subtype
record_type = record array_type { id = record { 0 = 7 }; base = record array_type.base { id = record { 0 = 7 } } }

-- what stands with its name
abbrev pub selection : Selection
selection = record { «record» = record_type.id; position = 1; field = INTEGER }

-- `R`, which is such a record
abbrev pub r_at : ℕ → CoreName
r_at column = local_at (codes "R") a record_type column

-- `R.G`
abbrev pub field_of_r : CoreExpr
field_of_r = Selected (Name (r_at 4)) (word (codes "G") 6 6) selection

-- `R.G := E`
abbrev pub setting_field : Command
setting_field = Set (record { root = r_at 4; way = Field (word (codes "G") 6 6) selection ∷ []; faulty = None }) (Name (e_at 11))

-- ---- values

-- the number, as the value of a variable
abbrev pub number : ℕ → Option Value
number n = Some (value.Number (pos n))

-- the values of I and E, and of A or R
abbrev pub values : (of_i of_e of_a : Option Value) → Store
values of_i of_e of_a = of_i ∷ of_e ∷ of_a ∷ []

-- ---- a record in an array

-- an array type with a record of the type P at 1 and at 2
abbrev pub pairs : ArrayType
pairs = record { position = 3; first = pos 1; last = pos 2; element = component.Composite 1 }

-- `(2).G`
abbrev pub to_second_g : List Step
to_second_g = indexed pairs (pos 2) ∷ selected field_g digit ∷ []

-- an array with these records
abbrev pub pairs_of : (first second : Value) → Value
pairs_of first second = value.Elements (pos 1) (first ∷ second ∷ [])
