-- Declarations of array types and record types, each alone in line 4 of a procedure without formals.
use Rattle.std.specs.Prelude.{⊤, ℕ, ◌+◌, List, [], ◌∷◌, Err, codes}
use Rattle.spx_tree.specs.declared.declaration.Decl.{Decl}
use Rattle.spx_tree.specs.declared.declaration.Decl.TheVariants.{FullType}
use Rattle.spx_tree.specs.declared.declaration.FieldDecl.{FieldDecl}
use Rattle.spx_tree.specs.declared.declaration.TypeDef.TheVariants as definition
use Rattle.spx_tree.specs.declared.expression.Identifier.{Identifier}
use Rattle.spx_core.specs.declared.program.TypeForm.{TypeForm}
use Rattle.spx_core.specs.declared.program.TypeRow.{TypeRow}
use Rattle.spx_core.specs.declared.rule.RuleName.{RuleName}
use Rattle.spx_core.specs.declared.statement.CoreDecl.{CoreDecl}
use Rattle.spx_core.specs.Judged.{Judged}
use Rattle.spx_core.specs.Regions.{Region, standard}
use Rattle.spx_core.specs.DeclaredNames.{declaring_all}
use Rattle.spx_core.specs.ResolvedDeclarations.{composite_type, declared_by, resolved_decl, rows_by}
use Rattle.spx_core.specs.Resolved.{at_start}
use Rattle.spx_core.specs.Statements.{judged_decl}
use Rattle.spx_examples.specs.Increment.{place, word}
use Rattle.spx_examples.specs.Names.{simple}

-- `type T is array (index) of element`, with these names at the columns 20 and 40
abbrev pub array_of : (index element : List ℕ) → Decl
array_of index element = FullType (word (codes "T") 4 9) (definition.Array (place 4 19) (simple (word index 4 20)) (simple (word element 4 40)))

-- the names of fields, the first of them at this column
abbrev pub names_in : ℕ → List (List ℕ) → List Identifier
names_in column [] = []
names_in column (name ∷ names) = word name 4 column ∷ names_in (column + 3) names

-- `names : type_name`, with the first name at this column, and the type 20 columns after it
abbrev pub fields_in : ℕ → List (List ℕ) → List ℕ → FieldDecl
fields_in column names type_name = record { names = names_in column names; type_name = simple (word type_name 4 (column + 20)) }

-- `type T is record fields end record`
abbrev pub record_of : List FieldDecl → Decl
record_of fields = FullType (word (codes "T") 4 9) (definition.Record fields (place 4 90))

-- such a declaration, each name with what it denotes
abbrev pub resolved_alone : Decl → CoreDecl
resolved_alone d = resolved_decl (standard ∷ []) [] at_start d

-- what it is judged to be
abbrev pub judgement_of : Decl → Judged ⊤
judgement_of d = judged_decl (resolved_alone d)

-- this rule is broken, at this column
abbrev pub broken : RuleName → ℕ → Judged ⊤
broken rule column = Err (record { rule = rule; place = place 4 column })

-- the rows that it adds to the table of types
abbrev pub rows_of : Decl → List TypeRow
rows_of d = rows_by (resolved_alone d)

-- the row of the type T, whose values are made of this; it comes after the predefined types
abbrev pub row_of_parts : TypeForm → List TypeRow
row_of_parts form = record { name = codes "T"; subtype = composite_type 5; form = form } ∷ []

-- the region of the procedure after it
abbrev pub region_after : Decl → Region
region_after d = declaring_all [] (declared_by (resolved_alone d))
