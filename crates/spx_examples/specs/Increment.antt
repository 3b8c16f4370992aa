-- The procedure of examples/inc.adb, as it is written and resolved, and its verification conditions.
use Rattle.std.specs.Prelude.{ℕ, ◌+◌, ℤ, pos, false, List, [], ◌∷◌, ◌++◌, Some, None, codes}
use Rattle.spx_text.specs.declared.place.Place.{Place}
use Rattle.spx_tree.specs.declared.expression.Identifier.{Identifier}
use Rattle.spx_tree.specs.declared.expression.InfixOp.TheVariants as op
use Rattle.spx_tree.specs.declared.expression.Name.{Name}
use Rattle.spx_tree.specs.declared.expression.Expr.{Expr}
use Rattle.spx_tree.specs.declared.expression.Expr.TheVariants as written_expr
use Rattle.spx_tree.specs.declared.statement.Stmt.{Stmt}
use Rattle.spx_tree.specs.declared.statement.Stmt.TheVariants as written_stmt
use Rattle.spx_tree.specs.declared.annotation.DerivesItem.{DerivesItem}
use Rattle.spx_tree.specs.declared.annotation.Exports.TheVariants as exports
use Rattle.spx_tree.specs.declared.subprogram.Param.{Param}
use Rattle.spx_tree.specs.declared.subprogram.Subprogram.{Subprogram}
use Rattle.spx_tree.specs.declared.subprogram.Unit.{Unit}
use Rattle.spx_tree.specs.declared.subprogram.Unit.TheVariants as unit
use Rattle.spx_tree.specs.declared.subprogram.WrittenMode.TheVariants as written
use Rattle.spx_core.specs.declared.entity.TheConstants.{INTEGER, INTEGER_FIRST, INTEGER_LAST}
use Rattle.spx_core.specs.declared.entity.Object.{Object}
use Rattle.spx_core.specs.declared.name.Defining.{Defining}
use Rattle.spx_core.specs.declared.name.Reference.{Reference}
use Rattle.spx_core.specs.Resolved.{standard_types}
use Rattle.spx_core.specs.declared.entity.VarKind.TheVariants.{Formal}
use Rattle.spx_core.specs.declared.entity.VarId.{VarId}
use Rattle.spx_core.specs.declared.entity.SubId.{SubId}
use Rattle.spx_core.specs.declared.program.CoreUnit.TheVariants as core_unit
use Rattle.spx_core.specs.declared.program.Program.{Program}
use Rattle.spx_core.specs.declared.entity.Mode.TheVariants as mode
use Rattle.spx_core.specs.declared.subprogram.CoreParam.{CoreParam}
use Rattle.spx_core.specs.declared.subprogram.Sub.{Sub}
use Rattle.spx_core.specs.declared.dependency.CoreDerivesItem.{CoreDerivesItem}
use Rattle.spx_core.specs.declared.entity.Entity.TheVariants as entity
use Rattle.spx_core.specs.declared.name.CoreName.{CoreName}
use Rattle.spx_core.specs.declared.expression.CoreExpr.{CoreExpr}
use Rattle.spx_core.specs.declared.expression.CoreExpr.TheVariants as expr
use Rattle.spx_core.specs.declared.statement.CoreStmt.{CoreStmt}
use Rattle.spx_core.specs.declared.statement.CoreStmt.TheVariants as stmt
use Rattle.spx_core.specs.Effects.{Effect, nothing, assign, next}
use Rattle.spx_term.specs.declared.condition.CondKind.TheVariants.{Overflow, Range}
use Rattle.spx_term.specs.declared.condition.Condition.{Condition}
use Rattle.spx_term.specs.declared.term.Sort.TheVariants.{Integer}
use Rattle.spx_term.specs.declared.term.Symbol.TheVariants as symbol
use Rattle.spx_term.specs.declared.term.TermOp.TheVariants as sign
use Rattle.spx_term.specs.declared.term.Term.{Term}
use Rattle.spx_term.specs.declared.term.Term.TheVariants as term
use Rattle.spx_examples.specs.Names.{attribute, reference_to, simple, target_to, value_named}

-- ---- the file

-- a place of the file
abbrev pub place : ℕ → ℕ → Place
place line column = record { file = 0; line = line; column = column }

-- a word as it is spelled, at its line and column
abbrev pub word : List ℕ → ℕ → ℕ → Identifier
word text line column = record { text = text; place = place line column }

-- `X`, at its line and column
abbrev pub x_written : ℕ → ℕ → Name
x_written line column = simple (word (codes "X") line column)

-- `X : in out Integer`
abbrev pub formal_written : Param
formal_written = record { names = word (codes "X") 1 16 ∷ []; mode = written.InOut (place 1 20); type_name = simple (word (codes "Integer") 1 27) }

-- `X from X`
abbrev pub relation_written : DerivesItem
relation_written = record { exports = exports.Names (x_written 2 13 ∷ []); imports = record { itself = None; names = x_written 2 20 ∷ [] } }

-- `Integer'Last`
abbrev pub last_written : Expr
last_written = value_named (attribute (word (codes "Integer") 3 13) (word (codes "Last") 3 21))

-- `X < Integer'Last`
abbrev pub below_written : Expr
below_written = written_expr.Infix op.Less (place 3 11) (value_named (x_written 3 9)) last_written

-- `X + 1`, whose X is at this line and column
abbrev pub successor_written : ℕ → ℕ → Expr
successor_written line column = written_expr.Infix op.Add (place line (column + 2)) (value_named (x_written line column)) (written_expr.Number (pos 1) (place line (column + 4)))

-- `X := X + 1`
abbrev pub step_written : Stmt
step_written = written_stmt.Assignment (x_written 6 4) (successor_written 6 9)

-- the procedure, with its annotations
abbrev pub inc_written : Subprogram
inc_written = record {
  place = place 1 1;
  name = word (codes "Inc") 1 11;
  formal_part = Some (record { place = place 1 15; params = formal_written ∷ [] });
  derives = Some (record { place = place 2 5; items = relation_written ∷ [] });
  pre = Some (record { place = place 3 5; condition = below_written });
  post = None;
  declarations = [];
  statements = step_written ∷ [];
  end = place 7 1;
  end_name = Some (word (codes "Inc") 7 5);
}

-- the units of the file
abbrev pub inc_units : List Unit
inc_units = unit.Subprogram inc_written ∷ []

-- ---- the program

-- its one variable
abbrev pub x : VarId
x = record { 0 = 0 }

-- what is declared of it
abbrev pub object : Object
object = record { kind = Formal mode.InOut; subtype = INTEGER }

-- `X`, at its line and column
abbrev pub x_at : ℕ → ℕ → CoreName
x_at line column = record { name = word (codes "X") line column; entity = Some (entity.Variable x object) }

-- `X` where a variable is needed
abbrev pub x_named : ℕ → ℕ → Reference
x_named line column = reference_to (x_at line column)

-- `Integer`, at its line and column
abbrev pub integer_at : ℕ → ℕ → CoreName
integer_at line column = record { name = word (codes "Integer") line column; entity = Some (entity.TypeName INTEGER) }

-- `X`, where it is declared
abbrev pub x_declared : Defining
x_declared = record { name = word (codes "X") 1 16; entity = entity.Variable x object; again = false }

-- its one subprogram
abbrev pub inc_id : SubId
inc_id = record { 0 = 0 }

-- `Inc`, where it is declared
abbrev pub inc_declared : Defining
inc_declared = record { name = word (codes "Inc") 1 11; entity = entity.Subprogram inc_id; again = false }

-- `X : in out Integer`
abbrev pub formal : CoreParam
formal = record { names = x_declared ∷ []; mode = written.InOut (place 1 20); type_name = reference_to (integer_at 1 27) }

-- `X from X`
abbrev pub relation : CoreDerivesItem
relation = record { null = None; exports = x_named 2 13 ∷ []; itself = None; imports = x_named 2 20 ∷ [] }

-- `Integer'Last`
abbrev pub integer_last : CoreExpr
integer_last = expr.Attribute (integer_at 3 13) (word (codes "Last") 3 21)

-- `X < Integer'Last`
abbrev pub below_last : CoreExpr
below_last = expr.Infix op.Less (place 3 11) (expr.Name (x_at 3 9)) integer_last

-- `X + 1`, whose X is at this line and column
abbrev pub successor : ℕ → ℕ → CoreExpr
successor line column = expr.Infix op.Add (place line (column + 2)) (expr.Name (x_at line column)) (expr.Number (pos 1) (place line (column + 4)))

-- `X := X + 1`
abbrev pub step : CoreStmt
step = stmt.Assignment (target_to (x_at 6 4)) (successor 6 9)

-- the procedure, with its annotations
abbrev pub inc : Sub
inc = record {
  place = place 1 1;
  name = inc_declared;
  formal_part = Some (record { place = place 1 15; params = formal ∷ [] });
  derives = Some (record { place = place 2 5; items = relation ∷ [] });
  pre = Some (record { place = place 3 5; condition = below_last });
  post = None;
  declarations = [];
  statements = step ∷ [];
  end = place 7 1;
  end_name = Some (word (codes "Inc") 7 5);
  vars = x ∷ [];
  formal_count = 1;
  local_count = 0;
}

-- its body sets X, and reads X for that
abbrev pub inc_effect : Effect
inc_effect = next (assign (Some x) ((place 6 9, x) ∷ []) (place 6 4)) nothing

-- the program of the one procedure
abbrev pub increment : Program
increment = record {
  units = core_unit.Subprogram inc_id ∷ [];
  types = standard_types;
  vars = record { name = codes "X"; kind = Formal mode.InOut; type_id = INTEGER.id } ∷ [];
  subs = inc ∷ [];
  bodies = inc_id ∷ [];
}

-- ---- the conditions

-- the value of X on entry, `X~`
abbrev pub entry_x : Term
entry_x = term.Variable (record { symbol = symbol.Entry 0; sort = Integer })

-- `X~ + 1`
abbrev pub next_x : Term
next_x = term.Infix sign.Add entry_x (term.Number (pos 1))

-- `t >= -2147483648`
abbrev pub at_least_first : Term → Term
at_least_first t = term.Infix sign.GreaterOrEqual t (term.Number INTEGER_FIRST)

-- `t <= 2147483647`
abbrev pub at_most_last : Term → Term
at_most_last t = term.Infix sign.LessOrEqual t (term.Number INTEGER_LAST)

-- `X~ < n`
abbrev pub entry_below : ℤ → Term
entry_below n = term.Infix sign.Less entry_x (term.Number n)

-- what is known of X~ at the start
abbrev pub known_entry : List Term
known_entry = at_least_first entry_x ∷ at_most_last entry_x ∷ []

-- and where it lies below n
abbrev pub known_below : ℤ → List Term
known_below n = known_entry ++ entry_below n ∷ []

-- the sum lies in the type `Integer`
abbrev pub sum_goals : List Term
sum_goals = at_least_first next_x ∷ at_most_last next_x ∷ []

-- the sum lies in the base range
abbrev pub overflow_condition : Condition
overflow_condition = record { name = codes "Inc.1"; kind = Overflow; place = place 6 11; hyps = known_below INTEGER_LAST; goals = sum_goals }

-- the sum lies in the type of X
abbrev pub range_condition : Condition
range_condition = record { name = codes "Inc.2"; kind = Range; place = place 6 11; hyps = known_below INTEGER_LAST ++ sum_goals; goals = sum_goals }

-- both, in the order of the body
abbrev pub inc_conditions : List Condition
inc_conditions = overflow_condition ∷ range_condition ∷ []
