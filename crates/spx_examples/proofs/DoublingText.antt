-- The text of the procedure `Double`, cut into its parts, its units in the grammar, and the program that they are resolved to.
use Rattle.std.proofs.Common.{◌≡◌, ℕ, suc, ◌+◌, ℤ, pos, ◌≤◌, List, [], ◌∷◌, ◌++◌, Some, inl, refl, sym, ap, ap₂, subst, ◌∙◌, arith}
use Rattle.std.specs.Prelude.{codes}
use denote.Hole.Carrier.{hidden}
use Rattle.spx_text.specs.declared.place.Place.{Place}
use Rattle.spx_tree.specs.declared.expression.Expr.TheBlock.{hidden-the_row-Expr-0, hidden-the_row-Expr-1}
use Rattle.spx_tree.specs.declared.expression.Expr.TheVariants as tree
use Rattle.spx_tree.specs.declared.expression.Expr.{Expr, Expr-F}
use Rattle.spx_tree.specs.declared.expression.InfixOp.TheVariants as op
use Rattle.spx_tree.specs.declared.expression.InfixOp.{InfixOp}
use Rattle.spx_tree.specs.declared.expression.Layer.TheVariants as layer
use Rattle.spx_tree.specs.declared.expression.Layer.{Layer}
use Rattle.spx_tree.specs.declared.statement.AssertionKind.TheVariants as assertion
use Rattle.spx_tree.specs.declared.statement.Scheme.TheVariants as written_scheme
use Rattle.spx_tree.specs.declared.statement.Stmt.{Stmt-F, out-Stmt}
use Rattle.spx_tree.specs.declared.statement.Stmt.TheVariants.{outs-Assertion, outs-Assignment, outs-Loop}
use Rattle.spx_tree.specs.Lexemes.{unreserved, kind_of_word, code_delimiters, annotation_delimiters, delimiters}
use Rattle.spx_tree.specs.Places.{place_after_bytes}
use Rattle.spx_tree.specs.Spells.{Spells}
use Rattle.spx_tree.specs.Grammar.{IsCondition, IsExpr, IsFormed, IsRange, OfLayer, Within, IsStmt, IsFile, rank}
use Rattle.spx_tree.specs.Form.{Form, forms_of}
use Rattle.spx_tree.specs.Written.{annotation, expr_step as expr_forms, program, stmt_step, written, written_expr, written_stmt}
use Rattle.spx_tree.proofs.WrittenLevels.{written_expr_level, written_level, spelled_stmt}
use Rattle.spx_core.specs.declared.dependency.CoreDerivesItem.{CoreDerivesItem}
use Rattle.spx_core.specs.declared.entity.TheConstants.{INTEGER}
use Rattle.spx_core.specs.declared.expression.CoreExpr.{CoreExpr}
use Rattle.spx_core.specs.declared.expression.CoreExpr.TheBlock.{hidden-the_row-CoreExpr-0}
use Rattle.spx_core.specs.declared.name.Defining.{Defining}
use Rattle.spx_core.specs.declared.program.Program.{Program}
use Rattle.spx_core.specs.declared.rule.ExprType.TheVariants.{Of}
use Rattle.spx_core.specs.declared.statement.CoreCount.{CoreCount}
use Rattle.spx_core.specs.declared.statement.CoreScheme.TheVariants as scheme
use Rattle.spx_core.specs.declared.statement.CoreStmt.{CoreStmt}
use Rattle.spx_core.specs.declared.statement.CoreStmt.TheVariants as stmt
use Rattle.spx_core.specs.Regions.{Region, Regions, standard}
use Rattle.spx_core.specs.ResolvedExpressions.{Scene, in_annotation, in_code}
use Rattle.spx_core.specs.DeclaredNames.{around_names, declaring_all}
use Rattle.spx_core.specs.ResolvedStatements.{declared_by_count, parameters_by_stmts, resolved_count, resolved_stmt, resolved_stmts}
use Rattle.spx_core.specs.Resolved.{around_body, resolved, standard_types}
use Rattle.spx_core.proofs.Callers.LoopParameters.{parameters-Assertion, parameters-Assignment, parameters-For}
use Rattle.spx_examples.proofs.WrittenExpressions.{infix_fits, infix_written, name_written, number_fits, number_right, number_written, simple_fits}
use Rattle.spx_examples.specs.Doubling.{add_two, asserting, closing, count, counting, double, double_declared, double_program, n_formal, number, relation, s_at, s_formal, s_is_twice_i, set_zero, two_more}
use Rattle.spx_examples.specs.DoublingText.{add_written, assert_written, bounds_written, count_written, counting_written, double_bytes, double_tokens, double_units, double_written, number_at, range_written, simple_at, sum_written, twice_written, value_at, zero_written}
use Rattle.spx_examples.specs.Increment.{place, word}
use Rattle.spx_examples.proofs.Contexts.{met_is}
use Rattle.spx_examples.proofs.Resolving.{as_body, resolved_as, resolved_assertion, resolved_assignment, resolved_for}
use Rattle.spx_examples.proofs.Spelling.{Piece, Word, Digits, Delimiter, Space, Head, LineEnd, spelled_by}
use Rattle.spx_examples.specs.Names.{target_to}

-- ---- its tokens

-- `procedure Double (N : in Integer; S : out Integer)` and `derives S from N;`
abbrev heading : List Piece
heading =
    Word (codes "procedure") ∷ Space ∷ Word (codes "Double") ∷ Space ∷ Delimiter (codes "(") ∷ Word (codes "N") ∷ Space ∷ Delimiter (codes ":") ∷ Space ∷ Word (codes "in") ∷ Space ∷ Word (codes "Integer") ∷ Delimiter (codes ";") ∷ Space ∷ Word (codes "S") ∷ Space ∷ Delimiter (codes ":") ∷ Space ∷ Word (codes "out") ∷ Space ∷ Word (codes "Integer") ∷ Delimiter (codes ")") ∷ LineEnd
    ∷ Head ∷ Space ∷ Word (codes "derives") ∷ Space ∷ Word (codes "S") ∷ Space ∷ Word (codes "from") ∷ Space ∷ Word (codes "N") ∷ Delimiter (codes ";") ∷ LineEnd
    ∷ []

-- `pre 0 <= N and N <= 1000;` and `post S = 2 * N;`
abbrev conditions : List Piece
conditions =
    Head ∷ Space ∷ Word (codes "pre") ∷ Space ∷ Digits (codes "0") ∷ Space ∷ Delimiter (codes "<=") ∷ Space ∷ Word (codes "N") ∷ Space ∷ Word (codes "and") ∷ Space ∷ Word (codes "N") ∷ Space ∷ Delimiter (codes "<=") ∷ Space ∷ Digits (codes "1000") ∷ Delimiter (codes ";") ∷ LineEnd
    ∷ Head ∷ Space ∷ Word (codes "post") ∷ Space ∷ Word (codes "S") ∷ Space ∷ Delimiter (codes "=") ∷ Space ∷ Digits (codes "2") ∷ Space ∷ Delimiter (codes "*") ∷ Space ∷ Word (codes "N") ∷ Delimiter (codes ";") ∷ LineEnd
    ∷ []

-- `is`, `begin`, `S := 0;` and `for I in Integer range 1 .. N loop`
abbrev opening : List Piece
opening =
    Word (codes "is") ∷ LineEnd
    ∷ Word (codes "begin") ∷ LineEnd
    ∷ Space ∷ Space ∷ Space ∷ Word (codes "S") ∷ Space ∷ Delimiter (codes ":=") ∷ Space ∷ Digits (codes "0") ∷ Delimiter (codes ";") ∷ LineEnd
    ∷ Space ∷ Space ∷ Space ∷ Word (codes "for") ∷ Space ∷ Word (codes "I") ∷ Space ∷ Word (codes "in") ∷ Space ∷ Word (codes "Integer") ∷ Space ∷ Word (codes "range") ∷ Space ∷ Digits (codes "1") ∷ Space ∷ Delimiter (codes "..") ∷ Space ∷ Word (codes "N") ∷ Space ∷ Word (codes "loop") ∷ LineEnd
    ∷ []

-- `S := S + 2;`, `assert S = 2 * I;`, `end loop;` and `end Double;`
abbrev turn : List Piece
turn =
    Space ∷ Space ∷ Space ∷ Space ∷ Space ∷ Space ∷ Word (codes "S") ∷ Space ∷ Delimiter (codes ":=") ∷ Space ∷ Word (codes "S") ∷ Space ∷ Delimiter (codes "+") ∷ Space ∷ Digits (codes "2") ∷ Delimiter (codes ";") ∷ LineEnd
    ∷ Space ∷ Space ∷ Space ∷ Space ∷ Space ∷ Space ∷ Head ∷ Space ∷ Word (codes "assert") ∷ Space ∷ Word (codes "S") ∷ Space ∷ Delimiter (codes "=") ∷ Space ∷ Digits (codes "2") ∷ Space ∷ Delimiter (codes "*") ∷ Space ∷ Word (codes "I") ∷ Delimiter (codes ";") ∷ LineEnd
    ∷ Space ∷ Space ∷ Space ∷ Word (codes "end") ∷ Space ∷ Word (codes "loop") ∷ Delimiter (codes ";") ∷ LineEnd
    ∷ Word (codes "end") ∷ Space ∷ Word (codes "Double") ∷ Delimiter (codes ";") ∷ LineEnd
    ∷ []

pub spelled : Spells 0 double_bytes double_tokens
unfolding unreserved kind_of_word delimiters code_delimiters annotation_delimiters place_after_bytes
spelled = spelled_by (heading ++ conditions ++ opening ++ turn) refl refl refl

-- ---- its tree

-- `0 <= N` and `N <= 1000`
abbrev low_bound : Expr
low_bound = tree.Infix op.LessOrEqual (place 3 11) (number_at (pos 0) 3 9) (value_at (codes "N") 3 14)

abbrev high_bound : Expr
high_bound = tree.Infix op.LessOrEqual (place 3 22) (value_at (codes "N") 3 20) (number_at (pos 1000) 3 25)

low_fits : (l : Layer) → 4 ≤ rank l → OfLayer l 2 low_bound
low_fits l enough = infix_fits l 1 op.LessOrEqual (place 3 11) (number_at (pos 0) 3 9) (value_at (codes "N") 3 14) enough (number_fits layer.Predicate 1 _ _) (number_fits layer.Sum 1 _ _).0 (simple_fits layer.Sum 1 _)

high_fits : OfLayer layer.Relation 2 high_bound
high_fits =
    infix_fits layer.Relation 1 op.LessOrEqual (place 3 22) (value_at (codes "N") 3 20) (number_at (pos 1000) 3 25) (omega arith) (simple_fits layer.Predicate 1 _) (simple_fits layer.Sum 1 _).0 (number_fits layer.Sum 1 _ _)

bounds_condition : IsCondition 3 bounds_written
bounds_condition = infix_fits layer.Predicate 2 op.And (place 3 16) low_bound high_bound (omega arith) (low_fits layer.Predicate (omega arith)) (inl (low_fits layer.Relation (omega arith)).0) high_fits

-- `2 *` this name, as the right side of that condition
abbrev twice_of : List ℕ → ℕ → ℕ → Expr
twice_of text line column = tree.Infix op.Multiply (place line (column + 6)) (number_at (pos 2) line (column + 4)) (value_at text line (column + 8))

-- two levels or more
twice_condition : (levels : ℕ) (text : List ℕ) (line column : ℕ) → IsCondition (suc (suc levels)) (twice_written text line column)
twice_condition n text line column =
    infix_fits layer.Predicate (suc n) op.Equal (place line (column + 2)) (value_at (codes "S") line column) (twice_of text line column) (omega arith) (simple_fits layer.Predicate (suc n) _) (simple_fits layer.Sum (suc n) _).0
    (infix_fits layer.Sum n op.Multiply (place line (column + 6)) (number_at (pos 2) line (column + 4)) (value_at text line (column + 8)) (omega arith) (number_fits layer.Predicate n _ _) (number_fits layer.Term n _ _).0
    (simple_fits layer.Factor n _))

sum_expr : IsExpr 2 sum_written
sum_expr = infix_fits layer.Expression 1 op.Add (place 9 14) (value_at (codes "S") 9 12) (number_at (pos 2) 9 16) (omega arith) (simple_fits layer.Predicate 1 _) (simple_fits layer.Sum 1 _).0 (number_fits layer.Term 1 _ _)

zero_expr : IsExpr 3 (number_at (pos 0) 7 9)
zero_expr = number_fits layer.Expression 3 _ _

bounds_are : IsRange 2 range_written
bounds_are = record { low = number_fits layer.Sum 2 _ _; high = simple_fits layer.Sum 2 _ }

zero_is : out-Stmt zero_written ≡ Stmt-F.Assignment (simple_at (codes "S") 7 4) (number_at (pos 0) 7 9)
zero_is = outs-Assignment (simple_at (codes "S") 7 4) (number_at (pos 0) 7 9)

add_is : out-Stmt add_written ≡ Stmt-F.Assignment (simple_at (codes "S") 9 7) sum_written
add_is = outs-Assignment (simple_at (codes "S") 9 7) sum_written

assert_is : out-Stmt assert_written ≡ Stmt-F.Assertion assertion.Assert (place 10 11) (twice_written (codes "I") 10 18)
assert_is = outs-Assertion assertion.Assert (place 10 11) (twice_written (codes "I") 10 18)

loop_is : out-Stmt counting_written ≡ Stmt-F.Loop (written_scheme.For count_written) (place 8 34) (add_written ∷ assert_written ∷ []) closing
loop_is = outs-Loop (written_scheme.For count_written) (place 8 34) (add_written ∷ assert_written ∷ []) closing

zero_stmt : IsStmt 3 zero_written
zero_stmt = subst (IsFormed 3 (Within 3)) (sym zero_is) ((tt, tt), zero_expr)

-- one level below the loop
add_within : Within 3 add_written
add_within = subst (IsFormed 2 (Within 2)) (sym add_is) ((tt, tt), sum_expr)

assert_within : Within 3 assert_written
assert_within = subst (IsFormed 2 (Within 2)) (sym assert_is) (twice_condition 0 (codes "I") 10 18)

loop_stmt : IsStmt 3 counting_written
loop_stmt = subst (IsFormed 3 (Within 3)) (sym loop_is) (omega arith, ((tt, tt), bounds_are), (add_within, (assert_within, tt)))

pub grammatical : IsFile 3 double_units
grammatical = (
  record {
    formal_part = (((tt, tt), (tt, tt)), (((tt, tt), (tt, tt)), tt));
    derives = ((((tt, tt), tt), ((tt, tt), tt)), tt);
    pre = bounds_condition;
    post = twice_condition 1 (codes "N") 4 10;
    declarations = tt;
    statements = (zero_stmt, (loop_stmt, tt));
  },
  tt,
)

-- the loop, where its statements are written so
abbrev around_turn : (first second : List Form) → List Form
around_turn first second = stmt_step (Stmt-F.Loop (written_scheme.For count_written) (place 8 34) (first ∷ second ∷ []) closing)

zero_written_as : written_stmt zero_written ≡ written_level (Stmt-F.Assignment (simple_at (codes "S") 7 4) (number_at (pos 0) 7 9))
zero_written_as = spelled_stmt zero_written ∙ ap written_level zero_is

loop_written_as : written_stmt counting_written
    ≡ around_turn (written_level (Stmt-F.Assignment (simple_at (codes "S") 9 7) sum_written)) (written_level (Stmt-F.Assertion assertion.Assert (place 10 11) (twice_written (codes "I") 10 18)))
loop_written_as =
    spelled_stmt counting_written
    ∙ ap written_level loop_is
    ∙ ap₂ around_turn (spelled_stmt add_written ∙ ap written_level add_is) (spelled_stmt assert_written ∙ ap written_level assert_is)

-- an operation in an annotation, with operands of these forms, and the forms of a name and of a number
abbrev operated : InfixOp → Place → (left right : List Form) → List Form
operated o at left right = expr_forms annotation (Expr-F.Infix o at left right)

abbrev name_forms : List ℕ → ℕ → ℕ → List Form
name_forms text line column = written_expr_level annotation (Expr-F.Name (simple_at text line column).path [])

abbrev number_forms : ℤ → ℕ → ℕ → List Form
number_forms k line column = written_expr_level annotation (Expr-F.Number k (place line column))

bounds_written_as : written_expr annotation bounds_written
    ≡ operated op.And (place 3 16) (operated op.LessOrEqual (place 3 11) (number_forms (pos 0) 3 9) (name_forms (codes "N") 3 14)) (operated op.LessOrEqual (place 3 22) (name_forms (codes "N") 3 20) (number_forms (pos 1000) 3 25))
bounds_written_as =
    infix_written annotation op.And (place 3 16) low_bound high_bound
    ∙ ap₂ (operated op.And (place 3 16))
    (infix_written annotation op.LessOrEqual (place 3 11) (number_at (pos 0) 3 9) (value_at (codes "N") 3 14)
    ∙ ap₂ (operated op.LessOrEqual (place 3 11)) (number_written annotation (pos 0) (place 3 9)) (name_written annotation (simple_at (codes "N") 3 14)))
    (number_right annotation op.LessOrEqual (place 3 22) (simple_at (codes "N") 3 20) (pos 1000) (place 3 25))

twice_written_as : (text : List ℕ) (line column : ℕ) → written_expr annotation (twice_written text line column)
    ≡ operated op.Equal (place line (column + 2)) (name_forms (codes "S") line column) (operated op.Multiply (place line (column + 6)) (number_forms (pos 2) line (column + 4)) (name_forms text line (column + 8)))
twice_written_as text line column =
    infix_written annotation op.Equal (place line (column + 2)) (value_at (codes "S") line column) (twice_of text line column)
    ∙ ap₂ (operated op.Equal (place line (column + 2))) (name_written annotation (simple_at (codes "S") line column))
    (infix_written annotation op.Multiply (place line (column + 6)) (number_at (pos 2) line (column + 4)) (value_at text line (column + 8))
    ∙ ap₂ (operated op.Multiply (place line (column + 6))) (number_written annotation (pos 2) (place line (column + 4))) (name_written annotation (simple_at text line (column + 8))))

pub as_written : written double_units ≡ forms_of double_bytes double_tokens
unfolding hidden-the_row-Expr-0 hidden-the_row-Expr-1 hidden
as_written =
    rw zero_written_as
    (rw loop_written_as
    (rw (number_written program (pos 0) (place 7 9))
    (rw bounds_written_as
    (rw (twice_written_as (codes "N") 4 10)
    (rw (number_written program (pos 1) (place 8 27))
    (rw (name_written program (simple_at (codes "N") 8 32))
    (rw (number_right program op.Add (place 9 14) (simple_at (codes "S") 9 12) (pos 2) (place 9 16))
    (rw (twice_written_as (codes "I") 10 18) refl))))))))

-- ---- its program

abbrev items : List CoreDerivesItem
items = relation ∷ []

-- what code and annotations stand in
abbrev code : Scene
code = in_code standard_types

abbrev noted : Scene
noted = in_annotation standard_types items

abbrev outer : Regions
outer = around_body double_declared

-- what is declared in it, and in the body of the loop
abbrev region : Region
region = declaring_all [] (n_formal.names ++ s_formal.names)

abbrev in_loop : Region
in_loop = declaring_all region (declared_by_count count ∷ [])

count_is : resolved_count code outer region 2 count_written ≡ count
unfolding standard hidden-the_row-Expr-0 hidden-the_row-Expr-1 hidden-the_row-CoreExpr-0 hidden
count_is =
    ap₂ (λ (low high : CoreExpr). record count { bounds = Some (record { low = low; high = high }) })
    (met_is code (around_names outer region (word (codes "I") 8 8 ∷ [])) (Of INTEGER.base) (number_at (pos 1) 8 27))
    (met_is code (around_names outer region (word (codes "I") 8 8 ∷ [])) (Of INTEGER.base) (value_at (codes "N") 8 32))

zero_resolved : resolved_stmt standard_types items outer zero_written region 2 ≡ (set_zero, 2)
zero_resolved =
    resolved_assignment standard_types items outer region 2 (simple_at (codes "S") 7 4) (number_at (pos 0) 7 9)
    ∙ ap (λ (e : CoreExpr). (stmt.Assignment (target_to (s_at 7 4)) e, 2)) (met_is code (region ∷ outer) (Of INTEGER.base) (number_at (pos 0) 7 9))

add_resolved : resolved_stmt standard_types items outer add_written in_loop 3 ≡ (add_two, 3)
unfolding hidden-the_row-Expr-0 hidden-the_row-Expr-1 hidden-the_row-CoreExpr-0 hidden
add_resolved =
    resolved_assignment standard_types items outer in_loop 3 (simple_at (codes "S") 9 7) sum_written
    ∙ ap (λ (e : CoreExpr). (stmt.Assignment (target_to (s_at 9 7)) e, 3)) (met_is code (in_loop ∷ outer) (Of INTEGER.base) sum_written)

assert_resolved : resolved_stmt standard_types items outer assert_written in_loop 3 ≡ (asserting, 3)
unfolding hidden-the_row-Expr-0 hidden-the_row-Expr-1 hidden-the_row-CoreExpr-0 hidden
assert_resolved =
    resolved_assertion standard_types items outer in_loop 3 assertion.Assert (place 10 11) (twice_written (codes "I") 10 18)
    ∙ ap (λ (e : CoreExpr). (stmt.Assertion assertion.Assert (place 10 11) e, 3)) (met_is noted (in_loop ∷ outer) (Of INTEGER.base) (twice_written (codes "I") 10 18))

turn_resolved : resolved_stmts standard_types items outer (add_written ∷ assert_written ∷ []) in_loop 3 ≡ (add_two ∷ asserting ∷ [], 3)
turn_resolved =
    ap (λ (first : CoreStmt × ℕ). (first.0 ∷ as_body (resolved_stmt standard_types items outer assert_written in_loop first.1), (resolved_stmt standard_types items outer assert_written in_loop first.1).1)) add_resolved
    ∙ ap (λ (second : CoreStmt × ℕ). (add_two ∷ as_body second, second.1)) assert_resolved

-- the loop, where its head and its body are resolved to this
abbrev loop_with : CoreCount → List CoreStmt × ℕ → CoreStmt × ℕ
loop_with c body = (stmt.Loop (scheme.For c) (place 8 34) body.0 closing, body.1)

loop_resolved : resolved_stmt standard_types items outer counting_written region 2 ≡ (counting, 3)
loop_resolved =
    resolved_for standard_types items outer region 2 count_written (place 8 34) (add_written ∷ assert_written ∷ []) closing
    ∙ ap (λ (c : CoreCount). loop_with c (resolved_stmts standard_types items outer (add_written ∷ assert_written ∷ []) (declaring_all region (declared_by_count c ∷ [])) 3)) count_is
    ∙ ap (loop_with count) turn_resolved

-- its parameter is the one of its body
turn_parameters : parameters_by_stmts (add_two ∷ asserting ∷ []) ≡ []
turn_parameters = ap₂ (λ (a b : List Defining). a ++ (b ++ [])) (parameters-Assignment (target_to (s_at 9 7)) two_more) (parameters-Assertion assertion.Assert (place 10 11) s_is_twice_i)

parameters : parameters_by_stmts (set_zero ∷ counting ∷ []) ≡ declared_by_count count ∷ []
parameters =
    ap₂ (λ (a b : List Defining). a ++ (b ++ [])) (parameters-Assignment (target_to (s_at 7 4)) (number (pos 0) 7 9))
    (parameters-For counting (scheme.For count) (place 8 34) (add_two ∷ asserting ∷ []) closing count refl refl ∙ ap (λ (ds : List Defining). declared_by_count count ∷ ds) turn_parameters)

-- the program with these conditions
abbrev with_conditions : (pre post : CoreExpr) → Program
with_conditions pre post =
    record double_program { subs = record double { pre = Some (record { place = place 3 5; condition = pre }); post = Some (record { place = place 4 5; condition = post }) } ∷ [] }

pub made : resolved double_units ≡ double_program
unfolding standard hidden-the_row-Expr-0 hidden-the_row-Expr-1 hidden-the_row-CoreExpr-0 hidden
made =
    resolved_as double_written (set_zero ∷ counting ∷ []) (declared_by_count count ∷ [])
    (ap (λ (first : CoreStmt × ℕ). first.0 ∷ as_body (resolved_stmt standard_types items outer counting_written region first.1)) zero_resolved
    ∙ ap (λ (second : CoreStmt × ℕ). set_zero ∷ as_body second) loop_resolved)
    parameters
    ∙ ap₂ with_conditions (met_is code (region ∷ outer) (Of INTEGER.base) bounds_written) (met_is noted (region ∷ outer) (Of INTEGER.base) (twice_written (codes "N") 4 10))
