-- Powers of numbers by a variable N of `Integer`, and what they meet. V is a variable of `type Big is range 0 .. 2**40`, whose base range has 64 bits.
-- Each expression stands in line 1, each part of it at the column that is given, and `k ** N` has its operator 2 columns after k, and N 3 columns after that.
use Rattle.std.specs.Prelude.{◌≡◌, ℕ, ◌+◌, ℤ, pos, false, List, [], ◌∷◌, Some, None, codes}
use Rattle.spx_tree.specs.declared.expression.Expr.{Expr}
use Rattle.spx_core.specs.declared.function.FunctionForm.{FunctionForm}
use Rattle.spx_tree.specs.declared.expression.InfixOp.{InfixOp}
use Rattle.spx_tree.specs.declared.expression.InfixOp.TheVariants as op
use Rattle.spx_tree.specs.declared.expression.MemberOp.TheVariants.{In}
use Rattle.spx_tree.specs.declared.expression.Name.{Name}
use Rattle.spx_tree.specs.declared.expression.PrefixOp.TheVariants.{Minus}
use Rattle.spx_tree.specs.declared.statement.Closing.{Closing}
use Rattle.spx_tree.specs.declared.statement.Count.{Count}
use Rattle.spx_tree.specs.declared.statement.Stmt.{Stmt}
use Rattle.spx_core.specs.declared.entity.Entity.{Entity}
use Rattle.spx_core.specs.declared.entity.Entity.TheVariants as entity
use Rattle.spx_core.specs.declared.entity.Subtype.{Subtype}
use Rattle.spx_core.specs.declared.entity.TheConstants.{INTEGER}
use Rattle.spx_core.specs.declared.entity.VarKind.TheVariants.{Local}
use Rattle.spx_core.specs.declared.expression.CoreExpr.{CoreExpr}
use Rattle.spx_core.specs.declared.expression.CoreExpr.TheVariants as expr
use Rattle.spx_core.specs.declared.name.CoreName.{CoreName}
use Rattle.spx_core.specs.declared.name.Reference.{Reference}
use Rattle.spx_core.specs.declared.program.Program.{Program}
use Rattle.spx_core.specs.declared.rule.ExprType.{ExprType}
use Rattle.spx_core.specs.declared.statement.CoreStmt.{CoreStmt}
use Rattle.spx_core.specs.Contexts.{in_context}
use Rattle.spx_core.specs.Regions.{Regions}
use Rattle.spx_core.specs.ResolvedExpressions.{Scene, in_code}
use Rattle.spx_core.specs.ResolvedStatements.{resolved_stmt}
use Rattle.spx_core.specs.Resolved.{standard_types}
use Rattle.spx_core.specs.Shapes.{applied_of, implicit_of, in_range_of, in_type_of, infix_of, parenthesized_of, prefix_of}
use Rattle.spx_term.specs.declared.term.Term.{Term}
use Rattle.spx_term.specs.declared.term.Term.TheVariants as term
use Rattle.spx_term.specs.declared.term.TermOp.TheVariants.{Power}
use Rattle.spx_formula.specs.Terms.{now_term}
use Rattle.spx_examples.specs.Declarations.{name_in, number_in, operation_in, part_of, wide}
use Rattle.spx_examples.specs.Flag.{named}
use Rattle.spx_examples.specs.Increment.{place, word}
use Rattle.spx_examples.specs.Names.{operation, simple}
use Rattle.spx_examples.specs.Operators.{a, b, true_at}

-- ---- parts

-- `Big`
abbrev pub big : Subtype
big = part_of (wide 5) 5 (pos 0) (pos 1099511627776)

-- what `N` and `V` denote
abbrev pub the_n : Entity
the_n = entity.Variable a (record { kind = Local; subtype = INTEGER })

abbrev pub the_v : Entity
the_v = entity.Variable b (record { kind = Local; subtype = big })

-- and `C`, a constant of that type
abbrev pub the_c : Entity
the_c = entity.Constant big (pos 1)

-- `N`, `V` and `C`
abbrev pub n_named : ℕ → CoreName
n_named column = record { name = word (codes "N") 1 column; entity = Some the_n }

abbrev pub v_named : ℕ → CoreName
v_named column = record { name = word (codes "V") 1 column; entity = Some the_v }

abbrev pub c_named : ℕ → CoreName
c_named column = record { name = word (codes "C") 1 column; entity = Some the_c }

abbrev pub n_at : ℕ → CoreExpr
n_at column = expr.Name (n_named column)

abbrev pub v_at : ℕ → CoreExpr
v_at column = expr.Name (v_named column)

-- `True`
abbrev pub truth_at : ℕ → CoreExpr
truth_at column = expr.Name (true_at 1 column)

-- a name that nothing declares
abbrev pub unknown_named : ℕ → CoreName
unknown_named column = record { name = word (codes "Y") 1 column; entity = None }

abbrev pub unknown_at : ℕ → CoreExpr
unknown_at column = expr.Name (unknown_named column)

-- a number
abbrev pub number_at : ℤ → ℕ → CoreExpr
number_at k column = expr.Number k (place 1 column)

-- a named number
abbrev pub constant_at : ℤ → ℕ → CoreExpr
constant_at k column = expr.Name (record { name = word (codes "K") 1 column; entity = Some (entity.NamedNumber k) })

-- an operation, at its operator
abbrev pub operation_at : InfixOp → ℕ → (left right : CoreExpr) → CoreExpr
operation_at o column left right = infix_of o (place 1 column) left right

-- a sign `-`, and what is in parentheses
abbrev pub minus_at : ℕ → CoreExpr → CoreExpr
minus_at column operand = prefix_of Minus (place 1 column) operand

abbrev pub parenthesized_at : ℕ → CoreExpr → CoreExpr
parenthesized_at column inner = parenthesized_of (place 1 column) inner

-- what is converted to the base type of this subtype, at the place where it stands
abbrev pub converted_at : Subtype → ℕ → CoreExpr → CoreExpr
converted_at subtype column operand = implicit_of subtype.base (place 1 column) operand

-- ---- powers

-- `left ** N`, whose left operand ends at this column
abbrev pub raised : ℕ → CoreExpr → CoreExpr
raised column left = operation_at op.Power (column + 2) left (n_at (column + 5))

-- `k ** N`
abbrev pub power : ℤ → ℕ → CoreExpr
power k column = raised column (number_at k column)

-- and where k is converted
abbrev pub power_of : Subtype → ℤ → ℕ → CoreExpr
power_of subtype k column = raised column (converted_at subtype column (number_at k column))

-- its term
abbrev pub raised_term : Program → ℤ → Term
raised_term p k = term.Infix Power (term.Number k) (now_term p a)

-- ---- types and what is tested

-- the name of a type, at column 12
abbrev pub type_named : Subtype → Reference
type_named subtype = named (record { name = word (codes "T") 1 12; entity = Some (entity.TypeName subtype) })

-- `tested in T`
abbrev pub in_type_named : Subtype → CoreExpr → CoreExpr
in_type_named subtype tested = in_type_of In (place 1 9) tested (type_named subtype)

-- `tested in low .. high`
abbrev pub in_range_at : ℕ → (tested low high : CoreExpr) → CoreExpr
in_range_at column tested low high = in_range_of In (place 1 column) tested low high

-- a function of a type, in this form, whose operand stands at column 10
abbrev pub function_of : Subtype → FunctionForm → CoreExpr → CoreExpr
function_of subtype form operand = applied_of (record { name = record { name = word (codes "T") 1 1; entity = Some (entity.TypeName subtype) }; form = form }) (place 1 9) operand

-- ---- what becomes of them

-- whatever type the expression meets, it becomes this
abbrev pub Becomes : CoreExpr → CoreExpr → Type 0
Becomes e other = (of : ExprType) → in_context of e ≡ other

-- it stays as it is
abbrev pub Stays : CoreExpr → Type 0
Stays e = Becomes e e

-- in a comparison with a number `2 ** N` is an `Integer`
abbrev pub ComparedAsInteger : InfixOp → Type 0
ComparedAsInteger o = Becomes (operation_at o 8 (power (pos 2) 1) (number_at (pos 5) 11)) (operation_at o 8 (power_of INTEGER (pos 2) 1) (number_at (pos 5) 11))

-- ---- as it is written

-- a name, and `k ** N`
abbrev pub name_written : List ℕ → ℕ → Name
name_written text column = simple (word text 1 column)

abbrev pub power_written : ℤ → ℕ → Expr
power_written k column = operation op.Power (place 1 (column + 2)) (number_in k 1 column) (name_in (codes "N") 1 (column + 5))

-- `for I in Big range 1 .. 2 ** N`
abbrev pub count_written : Count
count_written = record {
  place = place 1 1;
  name = word (codes "I") 1 5;
  word = place 1 7;
  is_reverse = false;
  type_name = name_written (codes "Big") 10;
  bounds = Some (record { low = number_in (pos 1) 1 20; high = power_written (pos 2) 25 });
}

-- the end of a statement
abbrev pub closing : Closing
closing = record { end = place 2 1; word = place 2 5 }

-- what is declared around a statement
abbrev pub scope : Regions
scope =
    (record { word = codes "N"; entity = Some the_n }
    ∷ record { word = codes "V"; entity = Some the_v }
    ∷ record { word = codes "C"; entity = Some the_c }
    ∷ record { word = codes "Big"; entity = Some (entity.TypeName big) }
    ∷ [])
    ∷ []

-- it stands in code, after the predefined types alone
abbrev pub scene : Scene
scene = in_code standard_types

-- the statement is resolved to this there
abbrev pub Resolves : Stmt → CoreStmt → Type 0
Resolves written s = resolved_stmt scene.types [] scope written [] 0 ≡ (s, 0)

-- `2147483648 ** X`, at its line and column, which breaks rule N12 as an `Integer`
abbrev pub past_integer : ℕ → ℕ → Expr
past_integer = operation_in op.Power (number_in (pos 2147483648)) (name_in (codes "X"))
