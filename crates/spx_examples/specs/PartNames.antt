-- Names of parts in line 6, each begins at column 4: A is an array of integers at the indexes 1, 2 and 3, R a record of an integer F and a truth value G, L an array of
-- such records at these indexes, and X an integer. T is the type of A.
use Rattle.std.specs.Prelude.{ℕ, true, false, List, [], ◌∷◌, ◌++◌, Some, None, codes}
use Rattle.spx_tree.specs.declared.expression.Arguments.TheVariants.{Positional, Named}
use Rattle.spx_tree.specs.declared.expression.NameStep.{NameStep}
use Rattle.spx_tree.specs.declared.expression.NameStep.TheVariants as step
use Rattle.spx_core.specs.declared.entity.Entity.TheVariants as entity
use Rattle.spx_core.specs.declared.entity.Subtype.{Subtype}
use Rattle.spx_core.specs.declared.entity.TheConstants.{BOOLEAN, INTEGER}
use Rattle.spx_core.specs.declared.expression.CoreExpr.{CoreExpr}
use Rattle.spx_core.specs.declared.expression.CoreExpr.TheVariants.{Element, Name, Selected}
use Rattle.spx_core.specs.declared.name.CoreName.{CoreName}
use Rattle.spx_core.specs.declared.name.NameFault.{NameFault}
use Rattle.spx_core.specs.declared.part.ArrayEnds.{ArrayEnds}
use Rattle.spx_core.specs.declared.part.Indexing.{Indexing}
use Rattle.spx_core.specs.declared.part.PartStep.{PartStep}
use Rattle.spx_core.specs.declared.part.Selection.{Selection}
use Rattle.spx_core.specs.declared.part.Target.{Target}
use Rattle.spx_core.specs.declared.program.TypeForm.TheVariants.{Array, Record}
use Rattle.spx_core.specs.declared.program.TypeRow.{TypeRow}
use Rattle.spx_core.specs.ResolvedExpressions.{faulty_name, faulty_value, in_annotation, in_code, in_declaration, target_of, value_of_path}
use Rattle.spx_core.specs.ResolvedDeclarations.{composite_type}
use Rattle.spx_core.specs.Resolved.{standard_types}
use Rattle.spx_examples.specs.Declarations.{row}
use Rattle.spx_examples.specs.Increment.{place, word}
use Rattle.spx_examples.specs.Names.{path_of}
use Rattle.spx_examples.specs.PartPrograms.{a_at, array_type, index_type, local_at}

-- ---- types and variables

abbrev pub pair_type : Subtype
pair_type = composite_type 7

abbrev pub list_type : Subtype
list_type = composite_type 8

-- the table of types, where each stands at the position that is its id
abbrev pub table : List TypeRow
table =
    standard_types
    ++ row (codes "Index") index_type
    ∷ record { name = codes "T"; subtype = array_type; form = Array index_type INTEGER }
    ∷ record { name = codes "Pair"; subtype = pair_type; form = Record (record { name = codes "F"; subtype = INTEGER } ∷ record { name = codes "G"; subtype = BOOLEAN } ∷ []) }
    ∷ record { name = codes "List"; subtype = list_type; form = Array index_type pair_type }
    ∷ []

-- a name of each of the variables, and of the type T
abbrev pub a : CoreName
a = a_at 4

abbrev pub r : CoreName
r = local_at (codes "R") (record { 0 = 3 }) pair_type 4

abbrev pub l : CoreName
l = local_at (codes "L") (record { 0 = 4 }) list_type 4

abbrev pub x : CoreName
x = local_at (codes "X") (record { 0 = 5 }) INTEGER 4

abbrev pub t : CoreName
t = record { name = word (codes "T") 6 4; entity = Some (entity.TypeName array_type) }

-- a name that nothing declares
abbrev pub unknown : CoreName
unknown = record { name = word (codes "Y") 6 4; entity = None }

-- ---- steps

-- `.field`, `'designator`, and so many expressions in parentheses
abbrev pub selecting : List ℕ → NameStep
selecting field = step.Selected (word field 6 9)

abbrev pub attribute_step : List ℕ → NameStep
attribute_step designator = step.Attribute (word designator 6 9)

abbrev pub applying : ℕ → NameStep
applying count = step.Applied (place 6 6) (Positional count)

-- one expression for the formal I
abbrev pub by_formal : NameStep
by_formal = step.Applied (place 6 6) (Named (word (codes "I") 6 7 ∷ []))

-- ---- what they denote

-- the value of a name of these steps with these expressions, in code, and where a target is needed
abbrev pub valued : CoreName → List NameStep → List CoreExpr → CoreExpr
valued root steps parts = value_of_path (in_code table) root (path_of root.name steps) parts

abbrev pub targeted : CoreName → List NameStep → List CoreExpr → Target
targeted root steps parts = target_of table root (path_of root.name steps) parts

-- the same in a declaration, and in an annotation that may name no value on entry
abbrev pub declared : CoreName → List NameStep → List CoreExpr → CoreExpr
declared root steps parts = value_of_path (in_declaration table) root (path_of root.name steps) parts

abbrev pub annotated : CoreName → List NameStep → List CoreExpr → CoreExpr
annotated root steps parts = value_of_path (in_annotation table []) root (path_of root.name steps) parts

-- nothing, for this reason
abbrev pub no_value : CoreName → NameFault → List NameStep → List CoreExpr → CoreExpr
no_value root fault steps parts = faulty_value root fault (path_of root.name steps) parts

abbrev pub no_target : CoreName → NameFault → List NameStep → List CoreExpr → Target
no_target root fault steps parts = record { root = root; way = []; faulty = Some (faulty_name root fault (path_of root.name steps) parts) }

-- a part of a variable
abbrev pub part_at : CoreName → List PartStep → Target
part_at root way = record { root = root; way = way; faulty = None }

-- ---- parts

-- what stands with an element of A and of L, and with the fields F and G
abbrev pub of_a : Indexing
of_a = record { array = array_type.id; index = index_type; element = INTEGER }

abbrev pub of_l : Indexing
of_l = record { array = list_type.id; index = index_type; element = pair_type }

abbrev pub the_f : Selection
the_f = record { «record» = pair_type.id; position = 0; field = INTEGER }

abbrev pub the_g : Selection
the_g = record { «record» = pair_type.id; position = 1; field = BOOLEAN }

-- what stands with an attribute of an array, static or not
abbrev pub ends_of : Subtype → ArrayEnds
ends_of array = record { array = array.id; index = index_type; is_static = true }

abbrev pub declared_ends : ArrayEnds
declared_ends = record (ends_of array_type) { is_static = false }

-- `A (i)`, `L (i)` and `L (i).F`
abbrev pub a_element : CoreExpr → CoreExpr
a_element i = Element (Name a) (place 6 6) i of_a

abbrev pub l_element : CoreExpr → CoreExpr
l_element i = Element (Name l) (place 6 6) i of_l

abbrev pub f_of : CoreExpr → CoreExpr
f_of prefix = Selected prefix (word (codes "F") 6 9) the_f
