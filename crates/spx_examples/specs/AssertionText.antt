-- A procedure with a postcondition and a `check` or an `assert`: its text, its tokens, its tree, and the program that it is resolved to.
use Rattle.std.specs.Prelude.{pos, List, [], ◌∷◌, ◌++◌, ◌+◌, ℕ, Some, None, codes}
use Rattle.spx_tree.specs.declared.expression.InfixOp.TheVariants as op
use Rattle.spx_tree.specs.declared.expression.Expr.{Expr}
use Rattle.spx_tree.specs.declared.expression.Expr.TheVariants as written_expr
use Rattle.spx_tree.specs.declared.statement.AssertionKind.{AssertionKind}
use Rattle.spx_tree.specs.declared.statement.AssertionKind.TheVariants as assertion
use Rattle.spx_tree.specs.declared.statement.Stmt.{Stmt}
use Rattle.spx_tree.specs.declared.statement.Stmt.TheVariants as written_stmt
use Rattle.spx_tree.specs.declared.subprogram.Subprogram.{Subprogram}
use Rattle.spx_tree.specs.declared.subprogram.Unit.{Unit}
use Rattle.spx_tree.specs.declared.subprogram.Unit.TheVariants as unit
use Rattle.spx_tree.specs.declared.token.Kind.TheVariants as token
use Rattle.spx_tree.specs.declared.token.Token.{Token}
use Rattle.spx_core.specs.declared.program.Program.{Program}
use Rattle.spx_core.specs.declared.subprogram.Sub.{Sub}
use Rattle.spx_examples.specs.Assertions.{is_next, is_positive, post_on, program_of, step_and}
use Rattle.spx_examples.specs.Example.{in_annotation, in_code}
use Rattle.spx_examples.specs.Increment.{place, word, x_written, step_written, inc_written}
use Rattle.spx_examples.specs.IncrementText.{ended, heading_tokens, derives_tokens}
use Rattle.spx_examples.specs.Names.{entry_named, value_named}

-- the lines before the annotation
abbrev pub lines_before : List ℕ
lines_before =
    ended (codes "procedure Inc (X : in out Integer)")
    ++ ended (codes "--# derives X from X;")
    ++ ended (codes "--# post X = X~ + 1;")
    ++ ended (codes "is")
    ++ ended (codes "begin")
    ++ ended (codes "   X := X + 1;")

-- with a `check`, and with an `assert`
abbrev pub asserted_bytes : List ℕ
asserted_bytes = lines_before ++ ended (codes "   --# check X > 0;") ++ ended (codes "end Inc;")

abbrev pub assert_bytes : List ℕ
assert_bytes = lines_before ++ ended (codes "   --# assert X > 0;") ++ ended (codes "end Inc;")

-- `--# post X = X~ + 1;`
abbrev pub post_tokens : List Token
post_tokens =
    in_annotation token.Post (pos 0) 61 65 3 5
    ∷ in_annotation token.Identifier (pos 0) 66 67 3 10
    ∷ in_annotation token.Equal (pos 0) 68 69 3 12
    ∷ in_annotation token.Identifier (pos 0) 70 71 3 14
    ∷ in_annotation token.Tilde (pos 0) 71 72 3 15
    ∷ in_annotation token.Plus (pos 0) 73 74 3 17
    ∷ in_annotation token.Number (pos 1) 75 76 3 19
    ∷ in_annotation token.Semicolon (pos 0) 76 77 3 20
    ∷ []

-- `is`, `begin` and `X := X + 1;`
abbrev pub step_tokens : List Token
step_tokens =
    in_code token.Is (pos 0) 78 80 4 1
    ∷ in_code token.Begin (pos 0) 81 86 5 1
    ∷ in_code token.Identifier (pos 0) 90 91 6 4
    ∷ in_code token.Assignment (pos 0) 92 94 6 6
    ∷ in_code token.Identifier (pos 0) 95 96 6 9
    ∷ in_code token.Plus (pos 0) 97 98 6 11
    ∷ in_code token.Number (pos 1) 99 100 6 13
    ∷ in_code token.Semicolon (pos 0) 100 101 6 14
    ∷ []

-- `--# check X > 0;` and `end Inc;`
abbrev pub check_tokens : List Token
check_tokens =
    in_annotation token.Check (pos 0) 109 114 7 8
    ∷ in_annotation token.Identifier (pos 0) 115 116 7 14
    ∷ in_annotation token.Greater (pos 0) 117 118 7 16
    ∷ in_annotation token.Number (pos 0) 119 120 7 18
    ∷ in_annotation token.Semicolon (pos 0) 120 121 7 19
    ∷ in_code token.End (pos 0) 122 125 8 1
    ∷ in_code token.Identifier (pos 0) 126 129 8 5
    ∷ in_code token.Semicolon (pos 0) 129 130 8 8
    ∷ []

-- `--# assert X > 0;` and `end Inc;`
abbrev pub assert_tokens : List Token
assert_tokens =
    in_annotation token.Assert (pos 0) 109 115 7 8
    ∷ in_annotation token.Identifier (pos 0) 116 117 7 15
    ∷ in_annotation token.Greater (pos 0) 118 119 7 17
    ∷ in_annotation token.Number (pos 0) 120 121 7 19
    ∷ in_annotation token.Semicolon (pos 0) 121 122 7 20
    ∷ in_code token.End (pos 0) 123 126 8 1
    ∷ in_code token.Identifier (pos 0) 127 130 8 5
    ∷ in_code token.Semicolon (pos 0) 130 131 8 8
    ∷ []

-- of the text with these at its end
abbrev pub tokens_with : List Token → List Token
tokens_with last = heading_tokens ++ derives_tokens ++ post_tokens ++ step_tokens ++ last

abbrev pub asserted_tokens : List Token
asserted_tokens = tokens_with check_tokens

-- ---- its tree

-- `X = X~ + 1`
abbrev pub next_written : Expr
next_written =
    written_expr.Infix op.Equal (place 3 12) (value_named (x_written 3 10)) (written_expr.Infix op.Add (place 3 17) (entry_named (word (codes "X") 3 14)) (written_expr.Number (pos 1) (place 3 19)))

-- `X > 0`, at this column
abbrev pub positive_written : ℕ → Expr
positive_written column = written_expr.Infix op.Greater (place 7 (column + 2)) (value_named (x_written 7 column)) (written_expr.Number (pos 0) (place 7 (column + 4)))

-- `assert` or `check` of that
abbrev pub noted_written : AssertionKind → ℕ → Stmt
noted_written kind column = written_stmt.Assertion kind (place 7 8) (positive_written column)

-- the unit with this statement after the assignment
abbrev pub procedure_with : Stmt → Subprogram
procedure_with last = record inc_written {
  pre = None;
  post = Some (record { place = place 3 5; condition = next_written });
  statements = step_written ∷ last ∷ [];
  end = place 8 1;
  end_name = Some (word (codes "Inc") 8 5);
}

abbrev pub units_with : Stmt → List Unit
units_with last = unit.Subprogram (procedure_with last) ∷ []

abbrev pub asserted_units : List Unit
asserted_units = units_with (noted_written assertion.Check 14)

abbrev pub assert_units : List Unit
assert_units = units_with (noted_written assertion.Assert 15)

-- ---- its program

abbrev pub noted_sub : AssertionKind → ℕ → Sub
noted_sub kind column = record (step_and kind (is_positive 7 column)) { post = Some (post_on (is_next 3 10)) }

abbrev pub asserted_program : Program
asserted_program = program_of (noted_sub assertion.Check 14)

abbrev pub assert_program : Program
assert_program = program_of (noted_sub assertion.Assert 15)
