-- Variants of the procedures `Inc` and `Flag` with a postcondition, with `assert` and `check` annotations and with values on entry. The first are resolved.
-- Each has parts that are not those of
--
--     procedure Inc (X : in out Integer)
--     --# derives X from X;
--     --# post CONDITION;
--     is
--     begin
--        X := X + 1;
--     end Inc;
--
-- An `assert` or a `check` stands in a line of its own.
use Rattle.std.specs.Prelude.{◌≡◌, ℕ, ◌+◌, ℤ, pos, Bool, true, List, [], ◌∷◌, ◌++◌, Some, None, codes}
use Rattle.spx_tree.specs.declared.expression.InfixOp.{InfixOp}
use Rattle.spx_tree.specs.declared.expression.InfixOp.TheVariants as op
use Rattle.spx_tree.specs.declared.expression.Expr.{Expr}
use Rattle.spx_tree.specs.declared.expression.Expr.TheVariants as written_expr
use Rattle.spx_tree.specs.declared.statement.AssertionKind.{AssertionKind}
use Rattle.spx_tree.specs.declared.statement.AssertionKind.TheVariants as assertion
use Rattle.spx_tree.specs.declared.statement.Stmt.TheVariants as written_stmt
use Rattle.spx_tree.specs.declared.subprogram.Param.{Param}
use Rattle.spx_tree.specs.declared.subprogram.Subprogram.{Subprogram}
use Rattle.spx_tree.specs.declared.subprogram.WrittenMode.{WrittenMode}
use Rattle.spx_tree.specs.declared.subprogram.WrittenMode.TheVariants as written
use Rattle.spx_tree.specs.declared.token.Kind.TheVariants as token
use Rattle.spx_tree.specs.declared.token.Token.{Token}
use Rattle.spx_core.specs.declared.entity.TheConstants.{BOOLEAN, INTEGER}
use Rattle.spx_core.specs.declared.entity.Entity.TheVariants as entity
use Rattle.spx_core.specs.declared.expression.CoreExpr.{CoreExpr}
use Rattle.spx_core.specs.declared.expression.CoreExpr.TheVariants as expr
use Rattle.spx_core.specs.declared.name.CoreName.{CoreName}
use Rattle.spx_core.specs.declared.program.Program.{Program}
use Rattle.spx_core.specs.declared.statement.CoreStmt.{CoreStmt}
use Rattle.spx_core.specs.declared.statement.CoreStmt.TheVariants as stmt
use Rattle.spx_core.specs.declared.subprogram.CorePredicate.{CorePredicate}
use Rattle.spx_core.specs.declared.subprogram.Sub.{Sub}
use Rattle.spx_term.specs.declared.condition.CondKind.TheVariants as kind
use Rattle.spx_term.specs.declared.condition.Condition.{Condition}
use Rattle.spx_term.specs.declared.term.Sort.TheVariants.{Integer}
use Rattle.spx_term.specs.declared.term.Symbol.TheVariants as symbol
use Rattle.spx_term.specs.declared.term.TermOp.TheVariants as sign
use Rattle.spx_term.specs.declared.term.TermPrefix.TheVariants.{Not}
use Rattle.spx_term.specs.declared.term.Term.{Term}
use Rattle.spx_term.specs.declared.term.Term.TheVariants as term
use Rattle.spx_term.specs.Steps.{Tree, Cut, Assign, assume_all, check as proving}
use Rattle.spx_meaning.specs.Annotations.{meant}
use Rattle.spx_meaning.specs.Frames.{Frame}
use Rattle.spx_formula.specs.Terms.{now}
use Rattle.spx_examples.specs.Branches.{arm}
use Rattle.spx_examples.specs.Example.{in_annotation, in_code}
use Rattle.spx_examples.specs.Increment.{place, word, x, x_at, step, inc, increment, x_written, successor_written, entry_x, entry_below, next_x, known_entry, sum_goals, at_least_first, at_most_last}
use Rattle.spx_examples.specs.Names.{entry_named, simple, value_named}
use Rattle.spx_examples.specs.Next.{below_hundred, closing, forked, x_now}
use Rattle.spx_examples.specs.NameRules.{stepping, with_relation, with_local}
use Rattle.spx_examples.specs.Operators.{two, truth, values}
use Rattle.spx_examples.specs.Refused.{overflow_without_pre, range_without_pre}
use Rattle.spx_examples.specs.Variants.{local_y_at as unset_y_at, only_null, out_x_at, out_sub}
use Rattle.spx_examples.specs.VariableRules.{z, z_entity, with_local_z}
use Rattle.spx_examples.specs.Findings.{local_y_at, inc_with_local, flag_with, gives}
use Rattle.spx_examples.specs.Flag as flags

-- ---- conditions, at the line and column of their first name

-- `X~`
abbrev pub entry_at : ℕ → ℕ → CoreExpr
entry_at line column = expr.Entry (x_at line column) true

-- `X~ + 1`
abbrev pub after_entry : ℕ → ℕ → CoreExpr
after_entry line column = expr.Infix op.Add (place line (column + 3)) (entry_at line column) (expr.Number (pos 1) (place line (column + 5)))

-- `C`, a constant of `Integer` with this value
abbrev pub constant_at : ℤ → CoreName
constant_at n = record { name = word (codes "C") 3 10; entity = Some (entity.Constant INTEGER n) }

-- `X =` this
abbrev pub x_equals : ℕ → ℕ → CoreExpr → CoreExpr
x_equals line column e = expr.Infix op.Equal (place line (column + 2)) (expr.Name (x_at line column)) e

-- `X = X~`
abbrev pub is_kept : ℕ → ℕ → CoreExpr
is_kept line column = x_equals line column (entry_at line (column + 4))

-- `X = X~ + 1`
abbrev pub is_next : ℕ → ℕ → CoreExpr
is_next line column = x_equals line column (after_entry line (column + 4))

-- `X > 0`
abbrev pub is_positive : ℕ → ℕ → CoreExpr
is_positive line column = expr.Infix op.Greater (place line (column + 2)) (expr.Name (x_at line column)) (expr.Number (pos 0) (place line (column + 4)))

-- `name > 0`, in a postcondition
abbrev pub positive_name : CoreName → CoreExpr
positive_name name = expr.Infix op.Greater (place 3 12) (expr.Name name) (expr.Number (pos 0) (place 3 14))

-- ---- procedures

-- `post` condition, in line 3
abbrev pub post_on : CoreExpr → CorePredicate
post_on condition = record { place = place 3 5; condition = condition }

-- `assert` or `check` condition, in this line
abbrev pub noting : AssertionKind → ℕ → CoreExpr → CoreStmt
noting kind line condition = stmt.Assertion kind (place line 8) condition

abbrev pub checking : ℕ → CoreExpr → CoreStmt
checking = noting assertion.Check

-- the procedure with this postcondition
abbrev pub promising : CoreExpr → Sub
promising condition = record inc { pre = None; post = Some (post_on condition) }

-- that without one, and with these statements, before the line of `end`
abbrev pub doing : List CoreStmt → ℕ → Sub
doing statements line = record inc { pre = None; statements = statements; end = place line 1; end_name = Some (word (codes "Inc") line 5) }

-- its program
abbrev pub program_of : Sub → Program
program_of sub = record increment { subs = sub ∷ [] }

-- `X := X + 1`, and then `assert` or `check` this, which begins in line 7, at column 15 or at column 14
abbrev pub step_and : AssertionKind → CoreExpr → Sub
step_and kind condition = doing (step ∷ noting kind 7 condition ∷ []) 8

abbrev pub step_and_assert : CoreExpr → Sub
step_and_assert = step_and assertion.Assert

abbrev pub step_and_check : CoreExpr → Sub
step_and_check = step_and assertion.Check

-- `check` this, which begins at column 14 of line 5, and then `X := X + 1`
abbrev pub check_and_step : CoreExpr → Sub
check_and_step condition = doing (checking 5 condition ∷ step ∷ []) 7

-- `check X > 0`, with the postcondition `X = X~`
abbrev pub only_checking : Sub
only_checking = record (doing (checking 6 (is_positive 6 14) ∷ []) 7) { post = Some (post_on (is_kept 3 10)) }

-- `check X > 0 and X = X~`, with the same postcondition
abbrev pub checking_both : Sub
checking_both = record only_checking { statements = checking 6 (expr.Infix op.And (place 6 20) (is_positive 6 14) (is_kept 6 24)) ∷ [] }

-- the procedure whose `out` formal is left unset, with the postcondition `X > 0`
abbrev pub unset_and_promising : Sub
unset_and_promising = record (out_sub only_null) {
  post = Some (post_on (positive_name (out_x_at 3 10)));
}

-- `Z` in a postcondition, a local
abbrev pub z_at : CoreName
z_at = record { name = word (codes "Z") 3 10; entity = Some z_entity }

-- `Flag`, with the postcondition that this name is positive
abbrev pub flag_promising : CoreName → Sub
flag_promising name = record flags.flag { post = Some (post_on (positive_name name)) }

-- its program with a local Z, which its postcondition names
abbrev pub z_promised : Program
z_promised = record (with_local_z []) { subs = record (flag_promising z_at) { vars = x ∷ flags.y ∷ z ∷ []; local_count = 1 } ∷ [] }

-- `check Y < 0`, and `check Y > 0`, for a local Y that nothing sets
abbrev pub checking_unset : InfixOp → List CoreStmt
checking_unset o = checking 6 (expr.Infix o (place 6 16) (expr.Name (unset_y_at 6 14)) (expr.Number (pos 0) (place 6 18))) ∷ []

-- ---- conditions to be shown

-- the term lies in `Integer`
abbrev pub lies_in_integer : Term → List Term
lies_in_integer t = at_least_first t ∷ at_most_last t ∷ []

-- the value of Y now, a variable of that type
abbrev pub y_now : Term
y_now = term.Variable (record { symbol = symbol.Now 1; sort = Integer })

-- `X~ + 1 = X~ + 1`
abbrev pub next_is_next : Term
next_is_next = term.Infix sign.Equal next_x next_x

-- `X~ > 0`
abbrev pub entry_is_positive : Term
entry_is_positive = term.Infix sign.Greater entry_x (term.Number (pos 0))

-- `X~ = X~`
abbrev pub entry_is_kept : Term
entry_is_kept = term.Infix sign.Equal entry_x entry_x

-- those of the procedure with the postcondition `X = X~ + 1`
abbrev pub post_condition : Condition
post_condition = record { name = codes "Inc.3"; kind = kind.Post; place = place 3 5; hyps = known_entry ++ sum_goals; goals = next_is_next ∷ [] }

abbrev pub promised_conditions : List Condition
promised_conditions = overflow_without_pre ∷ range_without_pre ∷ post_condition ∷ []

-- those of the procedure that only checks
abbrev pub check_condition : Condition
check_condition = record { name = codes "Inc.1"; kind = kind.Check; place = place 6 8; hyps = known_entry; goals = entry_is_positive ∷ [] }

abbrev pub kept_condition : Condition
kept_condition = record { name = codes "Inc.2"; kind = kind.Post; place = place 3 5; hyps = known_entry ++ entry_is_positive ∷ []; goals = entry_is_kept ∷ [] }

-- those of the procedure that checks two conditions
abbrev pub both_condition : Condition
both_condition = record check_condition { goals = entry_is_positive ∷ entry_is_kept ∷ [] }

abbrev pub kept_after_both : Condition
kept_after_both = record kept_condition { hyps = known_entry ++ entry_is_positive ∷ entry_is_kept ∷ [] }

-- ---- an `assert` in an arm
--
--     procedure Inc (X : in out Integer)
--     --# derives X from X;
--     --# pre X > 0; post X = X~;
--     is begin
--        if X < 100 then
--           --# assert X > 0;
--        end if;
--     end Inc;

abbrev pub asserting_in_arm : Sub
asserting_in_arm = record (doing (stmt.If (arm (place 5 4) below_hundred (stmt.Assertion assertion.Assert (place 6 11) (is_positive 6 18) ∷ []) ∷ []) None closing ∷ []) 8) {
  pre = Some (record { place = place 3 5; condition = is_positive 3 9 });
  post = Some (record { place = place 3 16; condition = is_kept 3 21 });
}

-- `X > 0` and `X = X~`
abbrev pub now_is_positive : Term
now_is_positive = term.Infix sign.Greater x_now (term.Number (pos 0))

abbrev pub now_is_kept : Term
now_is_kept = term.Infix sign.Equal x_now entry_x

-- the end of its paths
abbrev pub kept_at_end : Tree
kept_at_end = proving kind.Post (place 3 16) (now_is_kept ∷ []) Cut

-- the tree from its start: the path through the arm ends at the `assert`
abbrev pub tree_from_start : Tree
tree_from_start =
    Assign (now (program_of asserting_in_arm) x) entry_x
    (assume_all (lies_in_integer x_now ++ now_is_positive ∷ []) (forked (proving kind.Assert (place 6 11) (now_is_positive ∷ []) Cut) kept_at_end))

-- the tree from the `assert`: X and X~ lie in their type, the precondition was true of X~, and what is asserted is true of X
abbrev pub tree_from_assert : Tree
tree_from_assert = assume_all (lies_in_integer x_now ++ known_entry ++ entry_is_positive ∷ now_is_positive ∷ []) kept_at_end

-- its conditions: the `assert` and the end of the path past the arm, and then the end of the path from the `assert`
abbrev pub asserted_in_arm : Condition
asserted_in_arm = record { name = codes "Inc.1"; kind = kind.Assert; place = place 6 11; hyps = known_entry ++ entry_is_positive ∷ entry_below (pos 100) ∷ []; goals = entry_is_positive ∷ [] }

abbrev pub kept_past_arm : Condition
kept_past_arm = record { name = codes "Inc.2"; kind = kind.Post; place = place 3 16; hyps = known_entry ++ entry_is_positive ∷ term.Prefix Not (entry_below (pos 100)) ∷ []; goals = entry_is_kept ∷ [] }

abbrev pub kept_from_assert : Condition
kept_from_assert = record { name = codes "Inc.3"; kind = kind.Post; place = place 3 16; hyps = lies_in_integer x_now ++ known_entry ++ entry_is_positive ∷ now_is_positive ∷ []; goals = now_is_kept ∷ [] }

-- ---- flow

-- `check Y > 0` for a local Y that nothing sets
abbrev pub checks_local : Sub
checks_local = record inc_with_local {
  statements = step ∷ checking 7 (expr.Infix op.Greater (place 7 16) (expr.Name (local_y_at 7 14)) (expr.Number (pos 0) (place 7 18))) ∷ [];
}

-- `check X > 0`, and then `Y := 1`, where Y is declared to be derived from X
abbrev pub checks_import : Sub
checks_import =
    flag_with (checking 5 (expr.Infix op.Greater (place 5 16) (expr.Name (flags.x_at 5 14)) (expr.Number (pos 0) (place 5 18))) ∷ gives (flags.y_at 6 4) (expr.Number (pos 1) (place 6 9)) ∷ []) 7

-- ---- procedures as they are written

-- `name~ > 0`, at the line and column of its name
abbrev pub entry_written : List ℕ → ℕ → ℕ → Expr
entry_written name line column = written_expr.Infix op.Greater (place line (column + 3)) (entry_named (word name line column)) (written_expr.Number (pos 0) (place line (column + 5)))

-- the procedure `X := X + 1` with this precondition, and with this postcondition, in line 3
abbrev pub requiring : Subprogram → Expr → Subprogram
requiring s condition = record s { pre = Some (record { place = place 3 5; condition = condition }) }

abbrev pub ensuring : Subprogram → Expr → Subprogram
ensuring s condition = record s { post = Some (record { place = place 3 5; condition = condition }) }

-- `check` this in the place of its statement
abbrev pub looking : Subprogram → Expr → Subprogram
looking s condition = record s { statements = written_stmt.Assertion assertion.Check (place 6 8) condition ∷ [] }

-- a parameter of a name of one letter, at its column
abbrev pub param_written : List ℕ → WrittenMode → ℕ → Param
param_written name mode column = record { names = word name 1 column ∷ []; mode = mode; type_name = simple (word (codes "Integer") 1 (column + 8)) }

-- `(X : in Integer; Y : out Integer)`, with `derives Y from X` and `Y := X + 1`
abbrev pub two_formals : Subprogram
two_formals = record (with_relation stepping (codes "Y") (codes "X")) {
  formal_part = Some (record { place = place 1 15; params = param_written (codes "X") (written.In (place 1 20)) 16 ∷ param_written (codes "Y") written.Out 32 ∷ [] });
  statements = written_stmt.Assignment (simple (word (codes "Y") 6 4)) (successor_written 6 9) ∷ [];
}

-- with a local `Y : Integer`
abbrev pub one_local : Subprogram
one_local = with_local stepping (codes "Y") (codes "Integer") 8

-- ---- `->` and `<->`

-- in an annotation `A op B` has these values for truth values
abbrev pub MeansTable : InfixOp → (Bool → Bool → Bool) → Type 0
MeansTable o table = (f : Frame) (p q : Bool) → meant f (values (truth p) (truth q)) (two o BOOLEAN) ≡ truth (table p q)

-- `False`, at this column
abbrev pub false_at : ℕ → CoreName
false_at column = record { name = word (codes "False") 1 column; entity = Some (entity.Literal BOOLEAN (pos 0)) }

-- of two literals
abbrev pub of_literals : InfixOp → (m n : CoreName) → CoreExpr
of_literals o m n = expr.Infix o (place 1 3) (expr.Name m) (expr.Name n)

-- an implication, in line 3
abbrev pub implying : Expr → Expr → Expr
implying left right = written_expr.Infix op.Implies (place 3 16) left right

-- `X > 0`
abbrev pub positive_written : Expr
positive_written = written_expr.Infix op.Greater (place 3 12) (value_named (x_written 3 10)) (written_expr.Number (pos 0) (place 3 14))

-- ---- lexemes

-- the words and delimiters of annotation text, in code and in an annotation
abbrev pub assertion_line : List ℕ
assertion_line = codes "post->X --# check X~->X<->X;"

abbrev pub assertion_tokens : List Token
assertion_tokens =
    in_code token.Identifier (pos 0) 0 4 1 1
    ∷ in_code token.Minus (pos 0) 4 5 1 5
    ∷ in_code token.Greater (pos 0) 5 6 1 6
    ∷ in_code token.Identifier (pos 0) 6 7 1 7
    ∷ in_annotation token.Check (pos 0) 12 17 1 13
    ∷ in_annotation token.Identifier (pos 0) 18 19 1 19
    ∷ in_annotation token.Tilde (pos 0) 19 20 1 20
    ∷ in_annotation token.Implication (pos 0) 20 22 1 21
    ∷ in_annotation token.Identifier (pos 0) 22 23 1 23
    ∷ in_annotation token.Equivalence (pos 0) 23 26 1 24
    ∷ in_annotation token.Identifier (pos 0) 26 27 1 27
    ∷ in_annotation token.Semicolon (pos 0) 27 28 1 28
    ∷ []

-- `~` in code
abbrev pub tilde_in_code : List ℕ
tilde_in_code = codes "X~"
