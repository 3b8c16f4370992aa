-- A procedure with a loop over a parameter, resolved, and two of its verification conditions:
--
--     procedure Double (N : in Integer; S : out Integer)
--     --# derives S from N;
--     --# pre 0 <= N and N <= 1000;
--     --# post S = 2 * N;
--     is
--     begin
--        S := 0;
--        for I in Integer range 1 .. N loop
--           S := S + 2;
--           --# assert S = 2 * I;
--        end loop;
--     end Double;
use Rattle.std.specs.Prelude.{ℕ, ◌+◌, ℤ, pos, false, List, [], ◌∷◌, ◌++◌, Some, None, codes}
use Rattle.spx_tree.specs.declared.expression.InfixOp.{InfixOp}
use Rattle.spx_tree.specs.declared.expression.InfixOp.TheVariants as op
use Rattle.spx_tree.specs.declared.statement.AssertionKind.TheVariants as assertion
use Rattle.spx_tree.specs.declared.statement.Closing.{Closing}
use Rattle.spx_tree.specs.declared.subprogram.WrittenMode.TheVariants as written
use Rattle.spx_core.specs.declared.entity.TheConstants.{INTEGER}
use Rattle.spx_core.specs.declared.entity.Entity.TheVariants as entity
use Rattle.spx_core.specs.declared.entity.Mode.TheVariants.{In, Out}
use Rattle.spx_core.specs.declared.entity.VarId.{VarId}
use Rattle.spx_core.specs.declared.entity.VarKind.{VarKind}
use Rattle.spx_core.specs.declared.entity.VarKind.TheVariants.{Formal, LoopParameter}
use Rattle.spx_core.specs.declared.expression.CoreExpr.{CoreExpr}
use Rattle.spx_core.specs.declared.expression.CoreExpr.TheVariants as expr
use Rattle.spx_core.specs.declared.name.CoreName.{CoreName}
use Rattle.spx_core.specs.declared.name.Defining.{Defining}
use Rattle.spx_core.specs.declared.program.Program.{Program}
use Rattle.spx_core.specs.declared.program.Var.{Var}
use Rattle.spx_core.specs.declared.statement.CoreCount.{CoreCount}
use Rattle.spx_core.specs.declared.statement.CoreRange.{CoreRange}
use Rattle.spx_core.specs.declared.statement.CoreScheme.TheVariants as scheme
use Rattle.spx_core.specs.declared.statement.CoreStmt.{CoreStmt}
use Rattle.spx_core.specs.declared.statement.CoreStmt.TheVariants as stmt
use Rattle.spx_core.specs.declared.dependency.CoreDerivesItem.{CoreDerivesItem}
use Rattle.spx_core.specs.declared.subprogram.CoreParam.{CoreParam}
use Rattle.spx_core.specs.declared.subprogram.Sub.{Sub}
use Rattle.spx_core.specs.Commands.{Command, Skip, Set, Then, Assertion, Repeat, Counted}
use Rattle.spx_term.specs.declared.condition.CondKind.TheVariants as kind
use Rattle.spx_term.specs.declared.condition.Condition.{Condition}
use Rattle.spx_term.specs.declared.term.TermOp.{TermOp}
use Rattle.spx_term.specs.declared.term.TermOp.TheVariants as sign
use Rattle.spx_term.specs.declared.term.Term.{Term}
use Rattle.spx_term.specs.declared.term.Term.TheVariants as term
use Rattle.spx_formula.specs.Terms.{now_term}
use Rattle.spx_examples.specs.Increment.{place, word, integer_at, inc_id, increment, at_least_first, at_most_last}
use Rattle.spx_examples.specs.Flag.{named}
use Rattle.spx_examples.specs.Names.{target_to}

-- ---- the program

-- its variables: two formals, and the parameter of the loop
abbrev pub n : VarId
n = record { 0 = 0 }

abbrev pub s : VarId
s = record { 0 = 1 }

abbrev pub i : VarId
i = record { 0 = 2 }

-- a variable of the type `Integer`, at its line and column
abbrev pub at : List ℕ → VarId → VarKind → ℕ → ℕ → CoreName
at text v kind line column = record { name = word text line column; entity = Some (entity.Variable v (record { kind = kind; subtype = INTEGER })) }

abbrev pub n_at : ℕ → ℕ → CoreName
n_at = at (codes "N") n (Formal In)

abbrev pub s_at : ℕ → ℕ → CoreName
s_at = at (codes "S") s (Formal Out)

abbrev pub i_at : ℕ → ℕ → CoreName
i_at = at (codes "I") i LoopParameter

-- a formal, at the column of its name
abbrev pub declared : List ℕ → VarId → VarKind → ℕ → Defining
declared text v kind column = record { name = word text 1 column; entity = entity.Variable v (record { kind = kind; subtype = INTEGER }); again = false }

-- `N : in Integer`
abbrev pub n_formal : CoreParam
n_formal = record { names = declared (codes "N") n (Formal In) 19 ∷ []; mode = written.In (place 1 23); type_name = named (integer_at 1 26) }

-- `S : out Integer`
abbrev pub s_formal : CoreParam
s_formal = record { names = declared (codes "S") s (Formal Out) 35 ∷ []; mode = written.Out; type_name = named (integer_at 1 43) }

-- `S from N`
abbrev pub relation : CoreDerivesItem
relation = record { null = None; exports = named (s_at 2 13) ∷ []; itself = None; imports = named (n_at 2 20) ∷ [] }

-- an operation, at the column of its operator
abbrev pub operation : InfixOp → ℕ → ℕ → (left right : CoreExpr) → CoreExpr
operation o line column left right = expr.Infix o (place line column) left right

-- a number, at its column
abbrev pub number : ℤ → ℕ → ℕ → CoreExpr
number k line column = expr.Number k (place line column)

-- `0 <= N and N <= 1000`
abbrev pub in_bounds : CoreExpr
in_bounds =
    operation op.And 3 16
    (operation op.LessOrEqual 3 11 (number (pos 0) 3 9) (expr.Name (n_at 3 14)))
    (operation op.LessOrEqual 3 22 (expr.Name (n_at 3 20)) (number (pos 1000) 3 25))

-- `S =` twice this name, whose S stands at this line and column
abbrev pub is_twice : CoreName → ℕ → ℕ → CoreExpr
is_twice name line column = operation op.Equal line (column + 2) (expr.Name (s_at line column)) (operation op.Multiply line (column + 6) (number (pos 2) line (column + 4)) (expr.Name name))

-- `S = 2 * N`, and `S = 2 * I`
abbrev pub s_is_twice_n : CoreExpr
s_is_twice_n = is_twice (n_at 4 18) 4 10

abbrev pub s_is_twice_i : CoreExpr
s_is_twice_i = is_twice (i_at 10 26) 10 18

-- `S := 0`
abbrev pub set_zero : CoreStmt
set_zero = stmt.Assignment (target_to (s_at 7 4)) (number (pos 0) 7 9)

-- `S + 2`
abbrev pub two_more : CoreExpr
two_more = operation op.Add 9 14 (expr.Name (s_at 9 12)) (number (pos 2) 9 16)

-- `S := S + 2`
abbrev pub add_two : CoreStmt
add_two = stmt.Assignment (target_to (s_at 9 7)) two_more

-- `assert S = 2 * I`
abbrev pub asserting : CoreStmt
asserting = stmt.Assertion assertion.Assert (place 10 11) s_is_twice_i

-- `1 .. N`
abbrev pub one_to_n : CoreRange
one_to_n = record { low = number (pos 1) 8 27; high = expr.Name (n_at 8 32) }

-- `for I in Integer range 1 .. N`
abbrev pub count : CoreCount
count = record {
  place = place 8 4;
  name = word (codes "I") 8 8;
  parameter = i;
  again = false;
  word = place 8 10;
  is_reverse = false;
  type_name = named (integer_at 8 13);
  bounds = Some one_to_n;
}

-- `end loop`
abbrev pub closing : Closing
closing = record { end = place 11 4; word = place 11 8 }

-- the loop
abbrev pub counting : CoreStmt
counting = stmt.Loop (scheme.For count) (place 8 34) (add_two ∷ asserting ∷ []) closing

-- `Double`, where it is declared
abbrev pub double_declared : Defining
double_declared = record { name = word (codes "Double") 1 11; entity = entity.Subprogram inc_id; again = false }

-- the procedure
abbrev pub double : Sub
double = record {
  place = place 1 1;
  name = double_declared;
  formal_part = Some (record { place = place 1 18; params = n_formal ∷ s_formal ∷ [] });
  derives = Some (record { place = place 2 5; items = relation ∷ [] });
  pre = Some (record { place = place 3 5; condition = in_bounds });
  post = Some (record { place = place 4 5; condition = s_is_twice_n });
  declarations = [];
  statements = set_zero ∷ counting ∷ [];
  end = place 12 1;
  end_name = Some (word (codes "Double") 12 5);
  vars = n ∷ s ∷ i ∷ [];
  formal_count = 2;
  local_count = 0;
}

abbrev pub variable : List ℕ → VarKind → Var
variable text kind = record { name = text; kind = kind; type_id = INTEGER.id }

-- its program
abbrev pub double_program : Program
double_program = record increment { vars = variable (codes "N") (Formal In) ∷ variable (codes "S") (Formal Out) ∷ variable (codes "I") LoopParameter ∷ []; subs = double ∷ [] }

-- its body as a command, and that of the loop
abbrev pub turn : Command
turn = Then (Set (target_to (s_at 9 7)) two_more) (Then (Assertion assertion.Assert (place 10 11) s_is_twice_i) Skip)

abbrev pub double_command : Command
double_command = Then (Set (target_to (s_at 7 4)) (number (pos 0) 7 9)) (Then (Repeat (Counted count) turn) Skip)

-- ---- its conditions

-- the values of its variables now
abbrev pub n_now : Term
n_now = now_term double_program n

abbrev pub s_now : Term
s_now = now_term double_program s

abbrev pub i_now : Term
i_now = now_term double_program i

-- `left <= right`, and the like
abbrev pub compared : TermOp → (left right : Term) → Term
compared o left right = term.Infix o left right

-- `left = 2 * right`
abbrev pub equals_twice : (left right : Term) → Term
equals_twice left right = compared sign.Equal left (term.Infix sign.Multiply (term.Number (pos 2)) right)

-- the term lies in `Integer`
abbrev pub in_integer : Term → List Term
in_integer t = at_least_first t ∷ at_most_last t ∷ []

-- the precondition, part by part
abbrev pub required : List Term
required = compared sign.LessOrEqual (term.Number (pos 0)) n_now ∷ compared sign.LessOrEqual n_now (term.Number (pos 1000)) ∷ []

-- where there is a value between 1 and N, they lie in `Integer`
abbrev pub bounds_fit : Term
bounds_fit =
    compared sign.Implies (compared sign.LessOrEqual (term.Number (pos 1)) n_now)
    (compared sign.And (at_least_first (term.Number (pos 1))) (at_most_last n_now))

-- the postcondition at the end of the path that takes no turn
abbrev pub post_without_turn : Condition
post_without_turn = record {
  name = codes "Double.6";
  kind = kind.Post;
  place = place 4 5;
  hyps = in_integer n_now ++ required ++ in_integer (term.Number (pos 0)) ++ bounds_fit ∷ compared sign.Greater (term.Number (pos 1)) n_now ∷ [];
  goals = equals_twice (term.Number (pos 0)) n_now ∷ [];
}

-- and at the end of the path from the `assert` out of the loop
abbrev pub post_after_turn : Condition
post_after_turn = record {
  name = codes "Double.10";
  kind = kind.Post;
  place = place 4 5;
  hyps =
      in_integer n_now
      ++ in_integer s_now
      ++ in_integer i_now
      ++ (compared sign.GreaterOrEqual i_now (term.Number (pos 1)) ∷ compared sign.LessOrEqual i_now n_now ∷ [])
      ++ required
      ++ equals_twice s_now i_now
      ∷ compared sign.Equal i_now n_now
      ∷ [];
  goals = equals_twice s_now n_now ∷ [];
}
