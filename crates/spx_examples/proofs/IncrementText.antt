-- The text of examples/inc.adb, cut into its parts, and its units in the grammar.
use Rattle.std.proofs.Common.{◌≡◌, ℕ, suc, ◌+◌, pos, Bool, List, [], ◌∷◌, ◌++◌, refl, sym, ap, subst, ◌∙◌, arith}
use Rattle.std.specs.Prelude.{codes}
use denote.Hole.Carrier.{hidden}
use Rattle.spx_tree.specs.declared.expression.Expr.TheBlock.{hidden-the_row-Expr-0, hidden-the_row-Expr-1}
use Rattle.spx_tree.specs.declared.expression.Expr.TheVariants as tree
use Rattle.spx_tree.specs.declared.expression.Expr.TheVariants.{outs-Infix}
use Rattle.spx_tree.specs.declared.expression.InfixOp.TheVariants as op
use Rattle.spx_tree.specs.declared.expression.Layer.TheVariants as layer
use Rattle.spx_tree.specs.declared.statement.Stmt.{Stmt-F, out-Stmt}
use Rattle.spx_tree.specs.declared.statement.Stmt.TheVariants.{Assignment, outs-Assignment}
use Rattle.spx_tree.specs.Lexemes.{unreserved, kind_of_word, code_delimiters, annotation_delimiters, delimiters}
use Rattle.spx_tree.specs.Places.{place_after_bytes}
use Rattle.spx_tree.specs.Spells.{Spells}
use Rattle.spx_tree.specs.Grammar.{IsNode, LayerWithin, IsExpr, IsPredicate, IsFormed, Within, IsStmt, IsFile}
use Rattle.spx_tree.specs.Form.{forms_of}
use Rattle.spx_tree.specs.Written.{annotation, program, written, written_expr, written_stmt}
use Rattle.spx_tree.proofs.WrittenLevels.{written_level, spelled_stmt}
use Rattle.spx_examples.specs.Increment.{place, word, x_written, last_written, below_written, successor_written, step_written, inc_units}
use Rattle.spx_examples.specs.IncrementText.{inc_bytes, inc_tokens}
use Rattle.spx_examples.specs.Names.{attribute, value_named}
use Rattle.spx_examples.proofs.Spelling.{Piece, Word, Digits, Delimiter, Space, Head, LineEnd, spelled_by}
use Rattle.spx_examples.proofs.WrittenExpressions.{attribute_fits, infix_fits, infix_written, name_written, number_fits, number_right, on_number, simple_fits}

-- ---- its tokens

-- `procedure Inc (X : in out Integer)`
abbrev pub heading : List Piece
heading =
    Word (codes "procedure") ∷ Space ∷ Word (codes "Inc") ∷ Space ∷ Delimiter (codes "(") ∷ Word (codes "X") ∷ Space ∷ Delimiter (codes ":") ∷ Space
    ∷ Word (codes "in") ∷ Space ∷ Word (codes "out") ∷ Space ∷ Word (codes "Integer") ∷ Delimiter (codes ")") ∷ LineEnd ∷ []

-- `--# derives X from X;`
abbrev pub derives : List Piece
derives = Head ∷ Space ∷ Word (codes "derives") ∷ Space ∷ Word (codes "X") ∷ Space ∷ Word (codes "from") ∷ Space ∷ Word (codes "X") ∷ Delimiter (codes ";") ∷ LineEnd ∷ []

-- `--# pre X < Integer'Last;`
abbrev pre : List Piece
pre =
    Head ∷ Space ∷ Word (codes "pre") ∷ Space ∷ Word (codes "X") ∷ Space ∷ Delimiter (codes "<") ∷ Space
    ∷ Word (codes "Integer") ∷ Delimiter (codes "'") ∷ Word (codes "Last") ∷ Delimiter (codes ";") ∷ LineEnd ∷ []

-- `is` and `begin`, and the spaces before what comes next
abbrev pub opening : List Piece
opening = Word (codes "is") ∷ LineEnd ∷ Word (codes "begin") ∷ LineEnd ∷ Space ∷ Space ∷ Space ∷ []

-- `X := X + 1;`
abbrev pub step : List Piece
step = Word (codes "X") ∷ Space ∷ Delimiter (codes ":=") ∷ Space ∷ Word (codes "X") ∷ Space ∷ Delimiter (codes "+") ∷ Space ∷ Digits (codes "1") ∷ Delimiter (codes ";") ∷ LineEnd ∷ []

-- `end Inc;`
abbrev pub ending : List Piece
ending = Word (codes "end") ∷ Space ∷ Word (codes "Inc") ∷ Delimiter (codes ";") ∷ LineEnd ∷ []

pub spelled : Spells 0 inc_bytes inc_tokens
unfolding unreserved kind_of_word delimiters code_delimiters annotation_delimiters place_after_bytes
spelled = spelled_by (heading ++ derives ++ pre ++ opening ++ step ++ ending) refl refl refl

-- ---- its tree

below_expr : IsPredicate 1 (record { place = place 3 5; condition = below_written })
unfolding hidden-the_row-Expr-0 hidden-the_row-Expr-1 hidden
below_expr = infix_fits layer.Predicate 0 op.Less (place 3 11) (value_named (x_written 3 9)) last_written (omega arith) (simple_fits layer.Predicate 0 _) (simple_fits layer.Sum 0 _).0 (attribute_fits layer.Sum 0 _ _)

-- within one level or more
pub sum_within : (levels line column : ℕ) → IsExpr (suc levels) (successor_written line column)
sum_within n line column =
    infix_fits layer.Expression n op.Add (place line (column + 2)) (value_named (x_written line column)) (tree.Number (pos 1) (place line (column + 4))) (omega arith) (simple_fits layer.Predicate n _) (simple_fits layer.Sum n _).0 (number_fits layer.Term n _ _)

pub sum_expr : (line column : ℕ) → IsExpr 1 (successor_written line column)
unfolding hidden-the_row-Expr-0 hidden-the_row-Expr-1 hidden
sum_expr = sum_within 0

-- `X + 1`, at its line and column
pub sum_written_as : (marked : Bool) (line column : ℕ) → written_expr marked (successor_written line column) ≡ on_number marked op.Add (place line (column + 2)) (x_written line column) (pos 1) (place line (column + 4))
sum_written_as marked line column = number_right marked op.Add (place line (column + 2)) (x_written line column) (pos 1) (place line (column + 4))

-- `X := X + 1`, at these columns of a line
module _ (line target value : ℕ) where
  pub step_is : out-Stmt (Assignment (x_written line target) (successor_written line value)) ≡ Stmt-F.Assignment (x_written line target) (successor_written line value)
  step_is = outs-Assignment (x_written line target) (successor_written line value)

  pub step_written_as : written_stmt (Assignment (x_written line target) (successor_written line value)) ≡ written_level (Stmt-F.Assignment (x_written line target) (successor_written line value))
  step_written_as = spelled_stmt (Assignment (x_written line target) (successor_written line value)) ∙ ap written_level step_is

step_stmt : IsStmt 1 step_written
step_stmt = subst (IsFormed 1 (Within 1)) (sym (step_is 6 4 9)) ((tt, tt), sum_expr 6 9)

pub grammatical : IsFile 1 inc_units
grammatical = (record { formal_part = (((tt, tt), (tt, tt)), tt); derives = ((((tt, tt), tt), ((tt, tt), tt)), tt); pre = below_expr; post = tt; declarations = tt; statements = (step_stmt, tt) }, tt)

-- an operator is a level
pub no_fewer_levels : IsFile 0 inc_units → ⊥
unfolding hidden-the_row-Expr-0 hidden-the_row-Expr-1 hidden
no_fewer_levels h = (subst (IsNode (LayerWithin 0)) (outs-Infix op.Less (place 3 11) (value_named (x_written 3 9)) last_written) h.0.pre.1).0

pub as_written : written inc_units ≡ forms_of inc_bytes inc_tokens
unfolding hidden-the_row-Expr-0 hidden-the_row-Expr-1 hidden
as_written =
    rw (step_written_as 6 4 9)
    (rw (infix_written annotation op.Less (place 3 11) (value_named (x_written 3 9)) last_written)
    (rw (name_written annotation (x_written 3 9))
    (rw (name_written annotation (attribute (word (codes "Integer") 3 13) (word (codes "Last") 3 21)))
    (rw (sum_written_as program 6 9) refl))))
