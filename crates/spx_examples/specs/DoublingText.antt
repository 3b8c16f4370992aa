-- The text of the procedure `Double`, its tokens and its tree.
use Rattle.std.specs.Prelude.{ℕ, ◌+◌, ℤ, pos, false, List, [], ◌∷◌, ◌++◌, Some, None, codes}
use Rattle.spx_tree.specs.declared.annotation.DerivesItem.{DerivesItem}
use Rattle.spx_tree.specs.declared.annotation.Exports.TheVariants as exports
use Rattle.spx_tree.specs.declared.declaration.Range.{Range}
use Rattle.spx_tree.specs.declared.expression.Expr.{Expr}
use Rattle.spx_tree.specs.declared.expression.Expr.TheVariants as written_expr
use Rattle.spx_tree.specs.declared.expression.InfixOp.TheVariants as op
use Rattle.spx_tree.specs.declared.expression.Name.{Name}
use Rattle.spx_tree.specs.declared.statement.AssertionKind.TheVariants as assertion
use Rattle.spx_tree.specs.declared.statement.Count.{Count}
use Rattle.spx_tree.specs.declared.statement.Scheme.TheVariants as written_scheme
use Rattle.spx_tree.specs.declared.statement.Stmt.{Stmt}
use Rattle.spx_tree.specs.declared.statement.Stmt.TheVariants as written_stmt
use Rattle.spx_tree.specs.declared.subprogram.Param.{Param}
use Rattle.spx_tree.specs.declared.subprogram.Subprogram.{Subprogram}
use Rattle.spx_tree.specs.declared.subprogram.Unit.{Unit}
use Rattle.spx_tree.specs.declared.subprogram.Unit.TheVariants as unit
use Rattle.spx_tree.specs.declared.subprogram.WrittenMode.TheVariants as written
use Rattle.spx_tree.specs.declared.token.Kind.TheVariants as token
use Rattle.spx_tree.specs.declared.token.Token.{Token}
use Rattle.spx_examples.specs.Doubling.{closing}
use Rattle.spx_examples.specs.Example.{in_annotation, in_code}
use Rattle.spx_examples.specs.Increment.{place, word}
use Rattle.spx_examples.specs.IncrementText.{ended}
use Rattle.spx_examples.specs.Names.{simple, value_named}

-- its bytes, line by line
abbrev pub double_bytes : List ℕ
double_bytes =
    ended (codes "procedure Double (N : in Integer; S : out Integer)")
    ++ ended (codes "--# derives S from N;")
    ++ ended (codes "--# pre 0 <= N and N <= 1000;")
    ++ ended (codes "--# post S = 2 * N;")
    ++ ended (codes "is")
    ++ ended (codes "begin")
    ++ ended (codes "   S := 0;")
    ++ ended (codes "   for I in Integer range 1 .. N loop")
    ++ ended (codes "      S := S + 2;")
    ++ ended (codes "      --# assert S = 2 * I;")
    ++ ended (codes "   end loop;")
    ++ ended (codes "end Double;")

-- `procedure Double (N : in Integer; S : out Integer)` and `derives S from N;`
abbrev pub heading_tokens : List Token
heading_tokens =
    in_code token.Procedure (pos 0) 0 9 1 1
    ∷ in_code token.Identifier (pos 0) 10 16 1 11
    ∷ in_code token.LeftParenthesis (pos 0) 17 18 1 18
    ∷ in_code token.Identifier (pos 0) 18 19 1 19
    ∷ in_code token.Colon (pos 0) 20 21 1 21
    ∷ in_code token.In (pos 0) 22 24 1 23
    ∷ in_code token.Identifier (pos 0) 25 32 1 26
    ∷ in_code token.Semicolon (pos 0) 32 33 1 33
    ∷ in_code token.Identifier (pos 0) 34 35 1 35
    ∷ in_code token.Colon (pos 0) 36 37 1 37
    ∷ in_code token.Out (pos 0) 38 41 1 39
    ∷ in_code token.Identifier (pos 0) 42 49 1 43
    ∷ in_code token.RightParenthesis (pos 0) 49 50 1 50
    ∷ in_annotation token.Derives (pos 0) 55 62 2 5
    ∷ in_annotation token.Identifier (pos 0) 63 64 2 13
    ∷ in_annotation token.From (pos 0) 65 69 2 15
    ∷ in_annotation token.Identifier (pos 0) 70 71 2 20
    ∷ in_annotation token.Semicolon (pos 0) 71 72 2 21
    ∷ []

-- `pre 0 <= N and N <= 1000;` and `post S = 2 * N;`
abbrev pub condition_tokens : List Token
condition_tokens =
    in_annotation token.Pre (pos 0) 77 80 3 5
    ∷ in_annotation token.Number (pos 0) 81 82 3 9
    ∷ in_annotation token.LessOrEqual (pos 0) 83 85 3 11
    ∷ in_annotation token.Identifier (pos 0) 86 87 3 14
    ∷ in_annotation token.And (pos 0) 88 91 3 16
    ∷ in_annotation token.Identifier (pos 0) 92 93 3 20
    ∷ in_annotation token.LessOrEqual (pos 0) 94 96 3 22
    ∷ in_annotation token.Number (pos 1000) 97 101 3 25
    ∷ in_annotation token.Semicolon (pos 0) 101 102 3 29
    ∷ in_annotation token.Post (pos 0) 107 111 4 5
    ∷ in_annotation token.Identifier (pos 0) 112 113 4 10
    ∷ in_annotation token.Equal (pos 0) 114 115 4 12
    ∷ in_annotation token.Number (pos 2) 116 117 4 14
    ∷ in_annotation token.Asterisk (pos 0) 118 119 4 16
    ∷ in_annotation token.Identifier (pos 0) 120 121 4 18
    ∷ in_annotation token.Semicolon (pos 0) 121 122 4 19
    ∷ []

-- `is`, `begin`, `S := 0;` and `for I in Integer range 1 .. N loop`
abbrev pub loop_tokens : List Token
loop_tokens =
    in_code token.Is (pos 0) 123 125 5 1
    ∷ in_code token.Begin (pos 0) 126 131 6 1
    ∷ in_code token.Identifier (pos 0) 135 136 7 4
    ∷ in_code token.Assignment (pos 0) 137 139 7 6
    ∷ in_code token.Number (pos 0) 140 141 7 9
    ∷ in_code token.Semicolon (pos 0) 141 142 7 10
    ∷ in_code token.For (pos 0) 146 149 8 4
    ∷ in_code token.Identifier (pos 0) 150 151 8 8
    ∷ in_code token.In (pos 0) 152 154 8 10
    ∷ in_code token.Identifier (pos 0) 155 162 8 13
    ∷ in_code token.Range (pos 0) 163 168 8 21
    ∷ in_code token.Number (pos 1) 169 170 8 27
    ∷ in_code token.DoubleDot (pos 0) 171 173 8 29
    ∷ in_code token.Identifier (pos 0) 174 175 8 32
    ∷ in_code token.Loop (pos 0) 176 180 8 34
    ∷ []

-- `S := S + 2;`, `assert S = 2 * I;`, `end loop;` and `end Double;`
abbrev pub turn_tokens : List Token
turn_tokens =
    in_code token.Identifier (pos 0) 187 188 9 7
    ∷ in_code token.Assignment (pos 0) 189 191 9 9
    ∷ in_code token.Identifier (pos 0) 192 193 9 12
    ∷ in_code token.Plus (pos 0) 194 195 9 14
    ∷ in_code token.Number (pos 2) 196 197 9 16
    ∷ in_code token.Semicolon (pos 0) 197 198 9 17
    ∷ in_annotation token.Assert (pos 0) 209 215 10 11
    ∷ in_annotation token.Identifier (pos 0) 216 217 10 18
    ∷ in_annotation token.Equal (pos 0) 218 219 10 20
    ∷ in_annotation token.Number (pos 2) 220 221 10 22
    ∷ in_annotation token.Asterisk (pos 0) 222 223 10 24
    ∷ in_annotation token.Identifier (pos 0) 224 225 10 26
    ∷ in_annotation token.Semicolon (pos 0) 225 226 10 27
    ∷ in_code token.End (pos 0) 230 233 11 4
    ∷ in_code token.Loop (pos 0) 234 238 11 8
    ∷ in_code token.Semicolon (pos 0) 238 239 11 12
    ∷ in_code token.End (pos 0) 240 243 12 1
    ∷ in_code token.Identifier (pos 0) 244 250 12 5
    ∷ in_code token.Semicolon (pos 0) 250 251 12 11
    ∷ []

abbrev pub double_tokens : List Token
double_tokens = heading_tokens ++ condition_tokens ++ loop_tokens ++ turn_tokens

-- ---- its tree

-- a name of one word, where a variable or a type is needed, and where a value is
abbrev pub simple_at : List ℕ → ℕ → ℕ → Name
simple_at text line column = simple (word text line column)

abbrev pub value_at : List ℕ → ℕ → ℕ → Expr
value_at text line column = value_named (simple_at text line column)

abbrev pub number_at : ℤ → ℕ → ℕ → Expr
number_at k line column = written_expr.Number k (place line column)

-- `0 <= N and N <= 1000`
abbrev pub bounds_written : Expr
bounds_written =
    written_expr.Infix op.And (place 3 16)
    (written_expr.Infix op.LessOrEqual (place 3 11) (number_at (pos 0) 3 9) (value_at (codes "N") 3 14))
    (written_expr.Infix op.LessOrEqual (place 3 22) (value_at (codes "N") 3 20) (number_at (pos 1000) 3 25))

-- `S =` twice this name, whose S stands at this line and column
abbrev pub twice_written : List ℕ → ℕ → ℕ → Expr
twice_written text line column =
    written_expr.Infix op.Equal (place line (column + 2)) (value_at (codes "S") line column)
    (written_expr.Infix op.Multiply (place line (column + 6)) (number_at (pos 2) line (column + 4)) (value_at text line (column + 8)))

-- `N : in Integer` and `S : out Integer`
abbrev pub n_written : Param
n_written = record { names = word (codes "N") 1 19 ∷ []; mode = written.In (place 1 23); type_name = simple_at (codes "Integer") 1 26 }

abbrev pub s_written : Param
s_written = record { names = word (codes "S") 1 35 ∷ []; mode = written.Out; type_name = simple_at (codes "Integer") 1 43 }

-- `S from N`
abbrev pub item_written : DerivesItem
item_written = record { exports = exports.Names (simple_at (codes "S") 2 13 ∷ []); imports = record { itself = None; names = simple_at (codes "N") 2 20 ∷ [] } }

-- `S := 0`
abbrev pub zero_written : Stmt
zero_written = written_stmt.Assignment (simple_at (codes "S") 7 4) (number_at (pos 0) 7 9)

-- `S + 2`
abbrev pub sum_written : Expr
sum_written = written_expr.Infix op.Add (place 9 14) (value_at (codes "S") 9 12) (number_at (pos 2) 9 16)

-- `S := S + 2`
abbrev pub add_written : Stmt
add_written = written_stmt.Assignment (simple_at (codes "S") 9 7) sum_written

-- `assert S = 2 * I`
abbrev pub assert_written : Stmt
assert_written = written_stmt.Assertion assertion.Assert (place 10 11) (twice_written (codes "I") 10 18)

-- `1 .. N`
abbrev pub range_written : Range
range_written = record { low = number_at (pos 1) 8 27; high = value_at (codes "N") 8 32 }

-- `for I in Integer range 1 .. N`
abbrev pub count_written : Count
count_written = record { place = place 8 4; name = word (codes "I") 8 8; word = place 8 10; is_reverse = false; type_name = simple_at (codes "Integer") 8 13; bounds = Some range_written }

-- the loop
abbrev pub counting_written : Stmt
counting_written = written_stmt.Loop (written_scheme.For count_written) (place 8 34) (add_written ∷ assert_written ∷ []) closing

-- the procedure
abbrev pub double_written : Subprogram
double_written = record {
  place = place 1 1;
  name = word (codes "Double") 1 11;
  formal_part = Some (record { place = place 1 18; params = n_written ∷ s_written ∷ [] });
  derives = Some (record { place = place 2 5; items = item_written ∷ [] });
  pre = Some (record { place = place 3 5; condition = bounds_written });
  post = Some (record { place = place 4 5; condition = twice_written (codes "N") 4 10 });
  declarations = [];
  statements = zero_written ∷ counting_written ∷ [];
  end = place 12 1;
  end_name = Some (word (codes "Double") 12 5);
}

abbrev pub double_units : List Unit
double_units = unit.Subprogram double_written ∷ []
