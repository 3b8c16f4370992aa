-- Functions of types, locals that are declared with a value, and `case` statements. What is written stands as specs/Declarations.antt says; the operand
-- of a function stands 10 columns after its name. The one statement is a `case`, whose alternatives stand in lines 10 and 11.
use Rattle.std.specs.Prelude.{◌≡◌, ℕ, ◌+◌, ℤ, pos, List, [], ◌∷◌, ◌++◌, Option, Some, None, codes}
use Rattle.spx_tree.specs.declared.declaration.Decl.{Decl}
use Rattle.spx_tree.specs.declared.declaration.Decl.TheVariants as written_decl
use Rattle.spx_tree.specs.declared.expression.Expr.{Expr}
use Rattle.spx_core.specs.declared.function.FunctionForm.TheVariants as form
use Rattle.spx_tree.specs.declared.statement.Alternative.{Alternative}
use Rattle.spx_tree.specs.declared.statement.Choice.{Choice}
use Rattle.spx_tree.specs.declared.statement.Stmt.TheVariants as written_stmt
use Rattle.spx_core.specs.declared.entity.Entity.TheVariants as entity
use Rattle.spx_core.specs.declared.entity.Subtype.{Subtype}
use Rattle.spx_core.specs.declared.entity.VarKind.TheVariants.{Initialized}
use Rattle.spx_core.specs.declared.expression.CoreExpr.{CoreExpr}
use Rattle.spx_core.specs.declared.expression.CoreExpr.TheVariants as expr
use Rattle.spx_core.specs.declared.program.Program.{Program}
use Rattle.spx_core.specs.declared.rule.Breach.{Breach}
use Rattle.spx_core.specs.declared.statement.CoreChoice.{CoreChoice}
use Rattle.spx_core.specs.declared.statement.CoreStmt.{CoreStmt}
use Rattle.spx_core.specs.declared.statement.CoreStmt.TheVariants as stmt
use Rattle.spx_core.specs.declared.subprogram.Sub.{Sub}
use Rattle.spx_core.specs.Commands.{commands}
use Rattle.spx_core.specs.Statements.{first_name_breach}
use Rattle.spx_meaning.specs.Frames.{around}
use Rattle.spx_meaning.specs.Runs.{Outcome, run}
use Rattle.spx_meaning.specs.Stores.{Store}
use Rattle.spx_examples.specs.Declarations.{color, color_written, green, local, name_in, narrowed_in, program_of, red, row, standing_for, stating, variable_in}
use Rattle.spx_examples.specs.Increment.{increment, place, word}
use Rattle.spx_examples.specs.NameRules.{alone}
use Rattle.spx_examples.specs.Names.{conversion, function, qualified, simple, target_to}
use Rattle.spx_examples.specs.Operators.{a_at, number}

-- ---- what is written

-- `name (operand)`
abbrev pub conversion_in : List ℕ → (operand : ℕ → ℕ → Expr) → ℕ → ℕ → Expr
conversion_in name operand line column = conversion (word name line column) (place line (column + 9)) (operand line (column + 10))

-- `name'designator (operand)`
abbrev pub function_in : (name designator : List ℕ) → (operand : ℕ → ℕ → Expr) → ℕ → ℕ → Expr
function_in name designator operand line column =
    function (word name line column) (word designator line (column + 8)) (place line (column + 9)) (operand line (column + 10))

-- `name'(operand)`
abbrev pub qualified_in : List ℕ → (operand : ℕ → ℕ → Expr) → ℕ → ℕ → Expr
qualified_in name operand line column = qualified (word name line column) (place line (column + 9)) (operand line (column + 10))

-- `name : type_name := value`
abbrev pub initialized_in : ℕ → (name type_name : List ℕ) → (value : ℕ → ℕ → Expr) → Decl
initialized_in line name type_name value = written_decl.Variables (word name line 4 ∷ []) (simple (word type_name line 20)) (Some (value line 30))

-- names as choices, the first at this column
abbrev pub names_in : ℕ → ℕ → List (List ℕ) → List Choice
names_in line column [] = []
names_in line column (name ∷ names) = record { low = name_in name line column; high = None } ∷ names_in line (column + 10) names

-- `when low .. high`, as the one choice
abbrev pub range_in : ℕ → (low high : List ℕ) → Option (List Choice)
range_in line low high = Some (record { low = name_in low line 12; high = Some (name_in high line 22) } ∷ [])

-- `when names`
abbrev pub when_in : ℕ → List (List ℕ) → Option (List Choice)
when_in line names = Some (names_in line 12 names)

-- `null`, for these choices
abbrev pub alternative_in : ℕ → Option (List Choice) → Alternative
alternative_in line choices = record { choices = choices; body = written_stmt.Null (place line 50) ∷ [] }

-- `subtype Warm is Color range Red .. Green`, in line 5
abbrev pub warm_written : Decl
warm_written = narrowed_in 5 (codes "Warm") (codes "Color") red green

-- the first broken rule on names and types, where V is of this type and the statement is `case V`
abbrev pub breach_choosing : List ℕ → (first second : Option (List Choice)) → Option Breach
breach_choosing type_name first second =
    let alternatives = alternative_in 10 first ∷ alternative_in 11 second ∷ [] in
    let statement = written_stmt.Case (place 9 4) (name_in (codes "V") 9 9) alternatives (record { end = place 12 4; word = place 12 8 }) in
    first_name_breach (alone (stating (color_written ∷ warm_written ∷ variable_in 6 (codes "V") type_name ∷ []) statement))

-- ---- runs

-- `name'designator (A)`, where the name denotes the first type and A is of the second
abbrev pub function_at : Subtype → List ℕ → Subtype → CoreExpr
function_at subtype designator of =
    expr.Applied (record { name = record { name = word (codes "Color") 1 1; entity = Some (entity.TypeName subtype) }; form = form.Attribute (word designator 1 7) }) (place 1 11) (expr.Name (a_at of 12))

-- `name (A)`
abbrev pub conversion_at : Subtype → Subtype → CoreExpr
conversion_at subtype of = expr.Applied (record { name = record { name = word (codes "T") 1 1; entity = Some (entity.TypeName subtype) }; form = form.Simple }) (place 1 11) (expr.Name (a_at of 12))

-- the literal at this position
abbrev pub literal_at : ℤ → CoreExpr
literal_at n = expr.Name (standing_for (entity.Literal color n))

-- a choice of one literal, and of those between two
abbrev pub choice : ℤ → CoreChoice
choice n = record { low = literal_at n; high = None; span = record { first = n; last = n } }

abbrev pub choices_to : (m n : ℤ) → CoreChoice
choices_to m n = record { low = literal_at m; high = Some (literal_at n); span = record { first = m; last = n } }

-- `A := ` the literal
abbrev pub giving : ℤ → List CoreStmt
giving n = stmt.Assignment (target_to (a_at color 1)) (literal_at n) ∷ []

-- `case A`, with `A := Blue` for the first choices and `A := Green` for the second
abbrev pub choosing : (first second : Option (List CoreChoice)) → CoreStmt
choosing first second =
    stmt.Case (place 1 1) (expr.Name (a_at color 6))
    (record { choices = first; body = giving (pos 2) } ∷ record { choices = second; body = giving (pos 1) } ∷ [])
    (record { end = place 2 1; word = place 2 5 })

-- A, of the type Color
abbrev pub color_program : Program
color_program = program_of (row (codes "Color") color ∷ []) (local (codes "A") color ∷ [])

abbrev pub holding : ℤ → Store
holding n = Some (number n) ∷ []

-- where A is this, that `case` ends so
abbrev pub Chosen : (first second : Option (List CoreChoice)) → ℤ → Outcome → Type 0
Chosen first second n outcome = (sub : Sub) (entry : Store) (bound : ℕ) → run (around color_program sub entry) bound (holding n) (commands (choosing first second ∷ [])) ≡ outcome

-- ---- `Y`, declared with this value of this type

abbrev pub starting : Subtype → ℤ → Program
starting subtype n = record increment { vars = increment.vars ++ record { name = codes "Y"; kind = Initialized n; type_id = subtype.id } ∷ [] }
