-- Variants of the procedure of examples/inc.adb, as they are written. Each has parts that are not those of
--
--     procedure Inc (X : in out Integer)
--     --# derives X from X;
--
--     is
--     begin
--        X := X + 1;
--     end Inc;
--
-- A precondition stands in line 3, a local after `is`, and another procedure in line 8.
use Rattle.std.specs.Prelude.{ℕ, ◌+◌, ℤ, pos, List, [], ◌∷◌, Option, Some, None, codes}
use Rattle.spx_tree.specs.declared.annotation.Exports.TheVariants as exports
use Rattle.spx_tree.specs.declared.declaration.Decl.TheVariants.{Variables}
use Rattle.spx_tree.specs.declared.expression.Name.{Name}
use Rattle.spx_tree.specs.declared.expression.InfixOp.{InfixOp}
use Rattle.spx_tree.specs.declared.expression.InfixOp.TheVariants as op
use Rattle.spx_tree.specs.declared.expression.PrefixOp.TheVariants.{Minus}
use Rattle.spx_tree.specs.declared.expression.Expr.{Expr}
use Rattle.spx_tree.specs.declared.expression.Expr.TheVariants as written_expr
use Rattle.spx_tree.specs.declared.statement.Stmt.{Stmt}
use Rattle.spx_tree.specs.declared.statement.Stmt.TheVariants as written_stmt
use Rattle.spx_tree.specs.declared.subprogram.Param.{Param}
use Rattle.spx_tree.specs.declared.subprogram.Subprogram.{Subprogram}
use Rattle.spx_tree.specs.declared.subprogram.Unit.{Unit}
use Rattle.spx_tree.specs.declared.subprogram.Unit.TheVariants as unit
use Rattle.spx_core.specs.declared.rule.Breach.{Breach}
use Rattle.spx_core.specs.declared.rule.RuleName.{RuleName}
use Rattle.spx_examples.specs.Increment.{place, word, x_written, formal_written, successor_written, inc_written}
use Rattle.spx_examples.specs.Names.{attribute, simple, value_named}

-- this rule is broken, at this line and column
abbrev pub breach : RuleName → ℕ → ℕ → Option Breach
breach rule line column = Some (record { rule = rule; place = place line column })

-- the units of a file of one procedure
abbrev pub alone : Subprogram → List Unit
alone s = unit.Subprogram s ∷ []

-- ---- parts of line 6, at their columns

abbrev pub name_at : List ℕ → ℕ → Expr
name_at text column = value_named (simple (word text 6 column))

-- a prefix, and a designator after `'`
abbrev pub attribute_at : (prefix : List ℕ) (prefix_column : ℕ) (designator : List ℕ) (column : ℕ) → Expr
attribute_at prefix prefix_column designator column = value_named (attribute (word prefix 6 prefix_column) (word designator 6 column))

abbrev pub number_at : ℤ → ℕ → Expr
number_at value column = written_expr.Number value (place 6 column)

-- an operation, at its operator
abbrev pub operation_at : InfixOp → ℕ → Expr → Expr → Expr
operation_at op column left right = written_expr.Infix op (place 6 column) left right

-- a sign `-`, and its operand
abbrev pub minus_at : ℕ → Expr → Expr
minus_at column operand = written_expr.Prefix Minus (place 6 column) operand

-- `(X = 1)`
abbrev pub comparison_at : ℕ → Expr
comparison_at column = written_expr.Parenthesized (place 6 column) (operation_at op.Equal (column + 3) (name_at (codes "X") (column + 1)) (number_at (pos 1) (column + 5)))

-- ---- procedures with another part

-- a statement
abbrev pub with_statement : Stmt → Subprogram
with_statement statement = record inc_written { pre = None; statements = statement ∷ [] }

-- `if X then X := X + 1; end if;`, in line 6
abbrev pub if_x_written : Stmt
if_x_written = written_stmt.If (record { place = place 6 4; condition = name_at (codes "X") 7; body = written_stmt.Assignment (x_written 6 14) (successor_written 6 19) ∷ [] } ∷ []) None (record { end = place 6 26; word = place 6 30 })

-- a target and a right side
abbrev pub with_target : Name → Expr → Subprogram
with_target target value = with_statement (written_stmt.Assignment target value)

-- `X := ` and a right side
abbrev pub assigning : Expr → Subprogram
assigning value = with_target (x_written 6 4) value

-- none: `X := X + 1`
abbrev pub stepping : Subprogram
stepping = assigning (successor_written 6 9)

-- a name after `end`
abbrev pub ending : Subprogram → List ℕ → Subprogram
ending s text = record s { end_name = Some (word text 7 5) }

-- a local with this type name
abbrev pub with_local : Subprogram → (name type_name : List ℕ) → (type_column : ℕ) → Subprogram
with_local s name type_name type_column = record s { declarations = Variables (word name 4 4 ∷ []) (simple (word type_name 4 type_column)) None ∷ [] }

-- the precondition that a name is true
abbrev pub with_pre : Subprogram → List ℕ → Subprogram
with_pre s name = record s { pre = Some (record { place = place 3 5; condition = value_named (simple (word name 3 9)) }) }

-- the relation of one export, whose name has one letter, and one import
abbrev pub with_relation : Subprogram → (export import : List ℕ) → Subprogram
with_relation s export import =
    record s { derives = Some (record { place = place 2 5; items = record { exports = exports.Names (simple (word export 2 13) ∷ []); imports = record { itself = None; names = simple (word import 2 20) ∷ [] } } ∷ [] }) }

-- a formal part of one parameter
abbrev pub with_formal : Subprogram → Param → Subprogram
with_formal s param = record s { formal_part = Some (record { place = place 1 15; params = param ∷ [] }) }

-- `X, X : in out Integer`
abbrev pub twice_written : Param
twice_written = record formal_written { names = word (codes "X") 1 16 ∷ word (codes "X") 1 19 ∷ []; type_name = simple (word (codes "Integer") 1 30) }

-- `X : in out Inc`
abbrev pub of_own_name : Param
of_own_name = record formal_written { type_name = simple (word (codes "Inc") 1 27) }

-- `procedure` name `is begin null; end Inc;`, in line 8, where the name has three letters
abbrev pub second_written : List ℕ → Subprogram
second_written name = record {
  place = place 8 1;
  name = word name 8 11;
  formal_part = None;
  derives = None;
  pre = None;
  post = None;
  declarations = [];
  statements = written_stmt.Null (place 8 24) ∷ [];
  end = place 8 30;
  end_name = Some (word (codes "Inc") 8 34);
}

-- ---- a procedure that breaks a rule in each of its parts, from one on

-- `Y := Z;`, and `end Dec;`
abbrev pub broken_body : Subprogram
broken_body = ending (with_target (simple (word (codes "Y") 6 4)) (name_at (codes "Z") 9)) (codes "Dec")

-- `T : T;` before them
abbrev pub broken_local : Subprogram
broken_local = with_local broken_body (codes "T") (codes "T") 8

-- `post Y;` before, in line 3 too
abbrev pub broken_post : Subprogram
broken_post = record broken_local { post = Some (record { place = place 3 12; condition = value_named (simple (word (codes "Y") 3 17)) }) }

-- `pre Y;` before
abbrev pub broken_pre : Subprogram
broken_pre = with_pre broken_post (codes "Y")

-- `derives Y from Z;` before
abbrev pub broken_relation : Subprogram
broken_relation = with_relation broken_pre (codes "Y") (codes "Z")

-- `X : in out Inc` before
abbrev pub broken_formal : Subprogram
broken_formal = with_formal broken_relation of_own_name
