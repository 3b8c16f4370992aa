-- The procedure `Inc` with declarations, as it is written. Each declaration stands in a line of its own, its name and the parts after it at these
-- columns: of a type or subtype 4, of its parent 20, of a range 30 and 50, of literals 20, 30 and 40; of a constant or variable 4, of its type 20, of
-- its value 30. The one statement stands in line 9, after the declarations.
use Rattle.std.specs.Prelude.{ℕ, ◌+◌, ℤ, pos, List, [], ◌∷◌, ◌++◌, ◌≡◌, Option, Some, None, codes}
use Rattle.spx_tree.specs.declared.declaration.Decl.{Decl}
use Rattle.spx_tree.specs.declared.declaration.Decl.TheVariants as written_decl
use Rattle.spx_tree.specs.declared.declaration.TypeDef.TheVariants as written_definition
use Rattle.spx_tree.specs.declared.expression.Expr.{Expr}
use Rattle.spx_tree.specs.declared.expression.Expr.TheVariants as written_expr
use Rattle.spx_tree.specs.declared.expression.Identifier.{Identifier}
use Rattle.spx_tree.specs.declared.expression.InfixOp.{InfixOp}
use Rattle.spx_tree.specs.declared.expression.InfixOp.TheVariants as op
use Rattle.spx_tree.specs.declared.expression.Name.{Name}
use Rattle.spx_tree.specs.declared.expression.PrefixOp.{PrefixOp}
use Rattle.spx_tree.specs.declared.expression.PrefixOp.TheVariants.{Minus}
use Rattle.spx_tree.specs.declared.statement.Stmt.{Stmt}
use Rattle.spx_tree.specs.declared.statement.Stmt.TheVariants.{Assignment}
use Rattle.spx_tree.specs.declared.subprogram.Subprogram.{Subprogram}
use Rattle.spx_tree.specs.declared.subprogram.Unit.TheVariants as unit
use Rattle.spx_core.specs.declared.entity.BaseType.{BaseType}
use Rattle.spx_core.specs.declared.entity.Class.TheVariants as class
use Rattle.spx_core.specs.declared.entity.Entity.{Entity}
use Rattle.spx_core.specs.declared.entity.Entity.TheVariants as entity
use Rattle.spx_core.specs.declared.entity.Subtype.{Subtype}
use Rattle.spx_core.specs.declared.entity.TheConstants.{INTEGER_FIRST, INTEGER_LAST, WIDEST_FIRST, WIDEST_LAST}
use Rattle.spx_core.specs.declared.entity.VarKind.TheVariants.{Local}
use Rattle.spx_core.specs.declared.expression.CoreExpr.{CoreExpr}
use Rattle.spx_core.specs.declared.expression.CoreExpr.TheVariants as expr
use Rattle.spx_core.specs.declared.name.CoreName.{CoreName}
use Rattle.spx_core.specs.declared.name.Defining.{Defining}
use Rattle.spx_core.specs.declared.program.Program.{Program}
use Rattle.spx_core.specs.declared.program.TypeForm.TheVariants.{Scalar}
use Rattle.spx_core.specs.declared.program.TypeRow.{TypeRow}
use Rattle.spx_core.specs.declared.program.Var.{Var}
use Rattle.spx_core.specs.declared.rule.Breach.{Breach}
use Rattle.spx_core.specs.declared.statement.CoreStmt.TheVariants.{Assignment as Set}
use Rattle.spx_core.specs.declared.subprogram.Sub.{Sub}
use Rattle.spx_core.specs.Commands.{commands}
use Rattle.spx_core.specs.Obeyed.{first_rule_breach}
use Rattle.spx_core.specs.Regions.{denoted}
use Rattle.spx_core.specs.DeclaredNames.{declaring_all}
use Rattle.spx_core.specs.Resolved.{around_body, at_start, formal_names, local_names, resolved, resolved_sub, standard_types, unit_name}
use Rattle.spx_core.specs.Statements.{first_name_breach}
use Rattle.spx_meaning.specs.Frames.{around}
use Rattle.spx_meaning.specs.Runs.{Outcome, run}
use Rattle.spx_meaning.specs.Stores.{Store}
use Rattle.spx_examples.specs.Increment.{place, word, x_written, inc_written, increment}
use Rattle.spx_examples.specs.NameRules.{alone}
use Rattle.spx_examples.specs.Names.{attribute, operation, path_of, signed, simple, target_to, without_parts}
use Rattle.spx_examples.specs.Operators.{a_at, number, two, values}

-- ---- expressions, each at its line and column

abbrev pub number_in : ℤ → ℕ → ℕ → Expr
number_in n line column = written_expr.Number n (place line column)

abbrev pub name_in : List ℕ → ℕ → ℕ → Expr
name_in text line column = without_parts (path_of (word text line column) [])

-- `text'designator`
abbrev pub attribute_in : (text designator : List ℕ) → ℕ → ℕ → Expr
attribute_in text designator line column = without_parts (attribute (word text line column) (word designator line (column + 8))).path

-- a sign, with its operand in the next column
abbrev pub signed_in : PrefixOp → (ℕ → ℕ → Expr) → ℕ → ℕ → Expr
signed_in op operand line column = signed op (place line column) (operand line (column + 1))

-- an operation, whose operator stands 10 columns after its left operand, and its right operand 3 columns after that
abbrev pub operation_in : InfixOp → (left right : ℕ → ℕ → Expr) → ℕ → ℕ → Expr
operation_in op left right line column = operation op (place line (column + 10)) (left line column) (right line (column + 13))

-- ---- declarations, each in its line

-- `type name is range low .. high`
abbrev pub type_in : ℕ → List ℕ → (low high : ℕ → ℕ → Expr) → Decl
type_in line name low high = written_decl.FullType (word name line 4) (written_definition.Integer (record { low = low line 30; high = high line 50 }))

-- `type name is range low .. high`, of numbers
abbrev pub numbers_in : ℕ → List ℕ → (low high : ℤ) → Decl
numbers_in line name low high = type_in line name (number_in low) (number_in high)

-- the literals, the first at this column
abbrev pub literals_in : ℕ → ℕ → List (List ℕ) → List Identifier
literals_in line column [] = []
literals_in line column (literal ∷ literals) = word literal line column ∷ literals_in line (column + 10) literals

-- `type name is (literals)`
abbrev pub enumeration_in : ℕ → List ℕ → List (List ℕ) → Decl
enumeration_in line name literals = written_decl.FullType (word name line 4) (written_definition.Enumeration (place line 19) (literals_in line 20 literals))

-- `subtype name is parent`
abbrev pub subtype_in : ℕ → (name parent : List ℕ) → Decl
subtype_in line name parent = written_decl.Subtype (word name line 4) (simple (word parent line 20)) None

-- `subtype name is parent range low .. high`
abbrev pub narrowed_in : ℕ → (name parent : List ℕ) → (low high : ℕ → ℕ → Expr) → Decl
narrowed_in line name parent low high = written_decl.Subtype (word name line 4) (simple (word parent line 20)) (Some (record { low = low line 30; high = high line 50 }))

-- `name : constant type_name := value`
abbrev pub constant_in : ℕ → (name type_name : List ℕ) → (value : ℕ → ℕ → Expr) → Decl
constant_in line name type_name value = written_decl.Constants (word name line 4 ∷ []) (Some (simple (word type_name line 20))) (value line 30)

-- `name : constant := value`
abbrev pub named_number_in : ℕ → List ℕ → (value : ℕ → ℕ → Expr) → Decl
named_number_in line name value = written_decl.Constants (word name line 4 ∷ []) None (value line 30)

-- `name : type_name`
abbrev pub variable_in : ℕ → (name type_name : List ℕ) → Decl
variable_in line name type_name = written_decl.Variables (word name line 4 ∷ []) (simple (word type_name line 20)) None

-- ---- the procedure

-- with these declarations and this statement
abbrev pub stating : List Decl → Stmt → Subprogram
stating ds statement = record inc_written { pre = None; declarations = ds; statements = statement ∷ []; end = place 10 1; end_name = Some (word (codes "Inc") 10 5) }

-- with this assignment
abbrev pub assigning_to : List Decl → Name → Expr → Subprogram
assigning_to ds target value = stating ds (Assignment target value)

-- `X := 1`
abbrev pub declaring : List Decl → Subprogram
declaring ds = assigning_to ds (x_written 9 4) (number_in (pos 1) 9 9)

-- the first broken rule on names and types
abbrev pub breach_of : List Decl → Option Breach
breach_of ds = first_name_breach (alone (declaring ds))

-- the same, where this value is assigned to this name
abbrev pub breach_at : List Decl → Name → Expr → Option Breach
breach_at ds target value = first_name_breach (alone (assigning_to ds target value))

-- and the first broken rule on variables
unfoldable pub rule_breach_at : List Decl → Name → Expr → Option Breach
rule_breach_at ds target value = first_rule_breach (resolved (alone (assigning_to ds target value)))

-- the table of types of that procedure, and of two of them, one after the other
unfoldable pub types_of : List Decl → List TypeRow
types_of ds = (resolved (alone (declaring ds))).types

unfoldable pub types_of_two : (first second : List Decl) → List TypeRow
types_of_two first second = (resolved (unit.Subprogram (declaring first) ∷ unit.Subprogram (declaring second) ∷ [])).types

abbrev pub resolved_alone : Subprogram → Sub
resolved_alone s = resolved_sub (unit_name [] 0 s) at_start s

-- what a word denotes after the declarations
abbrev pub denoted_in : Sub → List Defining → List ℕ → Option Entity
denoted_in sub locals text = denoted (declaring_all [] (formal_names sub ++ locals) ∷ around_body sub.name) text

unfoldable pub denotes : List Decl → List ℕ → Option Entity
denotes ds text = denoted_in (resolved_alone (declaring ds)) (local_names (resolved_alone (declaring ds))) text

-- ---- types and values

-- base types of numbers with the range of `Integer` and with the widest one, of this id
abbrev pub short : ℕ → BaseType
short id = record { id = record { 0 = id }; class = class.Integer; first = INTEGER_FIRST; last = INTEGER_LAST }

abbrev pub wide : ℕ → BaseType
wide id = record { id = record { 0 = id }; class = class.Integer; first = WIDEST_FIRST; last = WIDEST_LAST }

-- the values of a base type between two, of this id
abbrev pub part_of : BaseType → ℕ → (first last : ℤ) → Subtype
part_of base id first last = record { id = record { 0 = id }; base = base; first = first; last = last }

-- the row of a type
abbrev pub row : List ℕ → Subtype → TypeRow
row name subtype = record { name = name; subtype = subtype; form = Scalar }

-- a number after `-`
abbrev pub minus : ℤ → ℕ → ℕ → Expr
minus n = signed_in Minus (number_in n)

-- `type T is range 0 .. 10`, in line 4
abbrev pub t_written : Decl
t_written = numbers_in 4 (codes "T") (pos 0) (pos 10)

-- and the type
abbrev pub t : Subtype
t = part_of (short 5) 5 (pos 0) (pos 10)

-- `type U is range 0 .. 10` and `subtype S is T range 0 .. 5`, in line 5
abbrev pub u_written : Decl
u_written = numbers_in 5 (codes "U") (pos 0) (pos 10)

abbrev pub s_written : Decl
s_written = narrowed_in 5 (codes "S") (codes "T") (number_in (pos 0)) (number_in (pos 5))

-- `C : constant Integer := 1` and `N : constant := 1`, in line 4
abbrev pub c_written : Decl
c_written = constant_in 4 (codes "C") (codes "Integer") (number_in (pos 1))

abbrev pub n_written : Decl
n_written = named_number_in 4 (codes "N") (number_in (pos 1))

-- `type Color is (Red, Green, Blue)`, in line 4
abbrev pub color_written : Decl
color_written = enumeration_in 4 (codes "Color") (codes "Red" ∷ codes "Green" ∷ codes "Blue" ∷ [])

abbrev pub color : Subtype
color = part_of (record { id = record { 0 = 5 }; class = class.Enumeration; first = pos 0; last = pos 2 }) 5 (pos 0) (pos 2)

-- `text'First` and `text'Last`
abbrev pub first_of : List ℕ → ℕ → ℕ → Expr
first_of text = attribute_in text (codes "First")

abbrev pub last_of : List ℕ → ℕ → ℕ → Expr
last_of text = attribute_in text (codes "Last")

-- `Red` and `Green`
abbrev pub red : ℕ → ℕ → Expr
red = name_in (codes "Red")

abbrev pub green : ℕ → ℕ → Expr
green = name_in (codes "Green")

-- what constants of these types and values denote
abbrev pub constant_of : Subtype → ℤ → Option Entity
constant_of subtype n = Some (entity.Constant subtype n)

-- ---- runs of one assignment

-- the program of these types and variables
abbrev pub program_of : List TypeRow → List Var → Program
program_of types vars = record increment { types = standard_types ++ types; vars = vars }

abbrev pub local : List ℕ → Subtype → Var
local name subtype = record { name = name; kind = Local; type_id = subtype.id }

-- in this program the assignment ends so, from this store
abbrev pub Assigned : Program → Store → CoreName → CoreExpr → Outcome → Type 0
Assigned p s target value outcome = (sub : Sub) (entry : Store) (bound : ℕ) → run (around p sub entry) bound s (commands (Set (target_to target) value ∷ [])) ≡ outcome

-- A and B, of the type T
abbrev pub t_program : Program
t_program = program_of (row (codes "T") t ∷ []) (local (codes "A") t ∷ local (codes "B") t ∷ [])

-- `A := A + B`, where A and B are these numbers
abbrev pub SumEnds : (m n : ℤ) → Outcome → Type 0
SumEnds m n outcome = Assigned t_program (values (number m) (number n)) (a_at t 1) (two op.Add t) outcome

-- `subtype Warm is Color range Red .. Green`
abbrev pub warm : Subtype
warm = part_of color.base 6 (pos 0) (pos 1)

-- A, of that subtype
abbrev pub warm_program : Program
warm_program = program_of (row (codes "Color") color ∷ row (codes "Warm") warm ∷ []) (local (codes "A") warm ∷ [])

-- a name, at column 12, that denotes this
abbrev pub standing_for : Entity → CoreName
standing_for e = record { name = word (codes "C") 1 12; entity = Some e }

-- `A := C`, where C denotes the literal at this position
abbrev pub LiteralEnds : ℤ → Outcome → Type 0
LiteralEnds n outcome = Assigned warm_program (None ∷ []) (a_at warm 1) (expr.Name (standing_for (entity.Literal color n))) outcome
