-- Variants of the procedures `Inc` and `Flag`, in each of which one part is another, and values for their variables.
use Rattle.std.specs.Prelude.{ℕ, ℤ, pos, false, List, [], ◌∷◌, ◌++◌, Option, Some, None, codes}
use Rattle.spx_tree.specs.declared.expression.InfixOp.TheVariants as op
use Rattle.spx_tree.specs.declared.expression.PrefixOp.TheVariants.{Minus}
use Rattle.spx_tree.specs.declared.subprogram.WrittenMode.TheVariants as written
use Rattle.spx_core.specs.declared.entity.TheConstants.{INTEGER, NATURAL}
use Rattle.spx_core.specs.declared.entity.Entity.{Entity}
use Rattle.spx_core.specs.declared.entity.Entity.TheVariants as entity
use Rattle.spx_core.specs.declared.entity.Mode.TheVariants.{Out, InOut}
use Rattle.spx_core.specs.declared.entity.VarKind.TheVariants.{Formal, Local}
use Rattle.spx_core.specs.declared.expression.CoreExpr.{CoreExpr}
use Rattle.spx_core.specs.declared.expression.CoreExpr.TheVariants as expr
use Rattle.spx_core.specs.declared.name.CoreName.{CoreName}
use Rattle.spx_core.specs.declared.name.Reference.{Reference}
use Rattle.spx_core.specs.declared.program.Program.{Program}
use Rattle.spx_core.specs.declared.statement.CoreDecl.TheVariants.{Variables}
use Rattle.spx_core.specs.declared.statement.CoreStmt.{CoreStmt}
use Rattle.spx_core.specs.declared.statement.CoreStmt.TheVariants as stmt
use Rattle.spx_core.specs.declared.subprogram.Sub.{Sub}
use Rattle.spx_term.specs.declared.value.Value.{Value}
use Rattle.spx_term.specs.declared.value.Value.TheVariants as value
use Rattle.spx_examples.specs.Branches.{arm}
use Rattle.spx_examples.specs.Increment.{place, word, x, x_at, x_declared, integer_at, successor, formal, increment}
use Rattle.spx_examples.specs.Names.{target_to}
use Rattle.spx_examples.specs.Refused.{inc_without_pre}
use Rattle.spx_examples.specs.Flag.{y, formal_of, named, flag, flag_program}
use Rattle.spx_examples.specs.Flag as flags

-- what a variable with this number holds
abbrev pub number : ℤ → Option Value
number n = Some (value.Number n)

-- ---- a local
--
--     procedure Inc (X : in out Integer)
--     --# derives X from X;
--     is
--        Y : Integer;
--     begin
--        STATEMENTS
--     end Inc;

-- what `Y` denotes
abbrev pub local_y : Entity
local_y = entity.Variable y (record { kind = Local; subtype = INTEGER })

-- `Y`, at its line and column
abbrev pub local_y_at : ℕ → ℕ → CoreName
local_y_at line column = record { name = word (codes "Y") line column; entity = Some local_y }

-- the procedure with these statements
abbrev pub local_sub : List CoreStmt → Sub
local_sub statements = record inc_without_pre {
  declarations = Variables (record { name = word (codes "Y") 4 4; entity = local_y; again = false } ∷ []) (named (integer_at 4 8)) None ∷ [];
  statements = statements;
  vars = x ∷ y ∷ [];
  local_count = 1;
}

-- its program
abbrev pub local_program : List CoreStmt → Program
local_program statements = record increment { vars = increment.vars ++ record { name = codes "Y"; kind = Local; type_id = INTEGER.id } ∷ []; subs = local_sub statements ∷ [] }

-- `null`
abbrev pub only_null : List CoreStmt
only_null = stmt.Null (place 6 4) ∷ []

-- `X := value`
abbrev pub giving : CoreExpr → List CoreStmt
giving value = stmt.Assignment (target_to (x_at 6 4)) value ∷ []

-- `Y`
abbrev pub the_local : CoreExpr
the_local = expr.Name (local_y_at 6 9)

-- `- X`
abbrev pub negated : CoreExpr
negated = expr.Prefix Minus (place 6 9) (expr.Name (x_at 6 11))

-- `2147483648`
abbrev pub past_last : CoreExpr
past_last = expr.Number (pos 2147483648) (place 6 9)

-- `Y + (X + 1)`
abbrev pub local_and_sum : CoreExpr
local_and_sum = expr.Infix op.Add (place 6 11) (expr.Name (local_y_at 6 9)) (expr.Parenthesized (place 6 13) (successor 6 14))

-- `(X + 1) + Y`
abbrev pub sum_and_local : CoreExpr
sum_and_local = expr.Infix op.Add (place 6 17) (expr.Parenthesized (place 6 9) (successor 6 10)) (expr.Name (local_y_at 6 19))

-- `X := X + 1; X := X + 1`
abbrev pub twice : List CoreStmt
twice = stmt.Assignment (target_to (x_at 6 4)) (successor 6 9) ∷ stmt.Assignment (target_to (x_at 6 16)) (successor 6 21) ∷ []

-- `Y > X`
abbrev pub local_above : CoreExpr
local_above = expr.Infix op.Greater (place 6 9) (expr.Name (local_y_at 6 7)) (expr.Name (x_at 6 11))

-- `if Y > X then null; end if`
abbrev pub testing : List CoreStmt
testing = stmt.If (arm (place 6 4) local_above (stmt.Null (place 6 18) ∷ []) ∷ []) None (record { end = place 6 24; word = place 6 28 }) ∷ []

-- ---- an `out` formal, derived from nothing
--
--     procedure Inc (X : out Integer)
--     --# derives X from ;
--
--     is
--     begin
--        STATEMENTS
--     end Inc;

-- what `X` denotes
abbrev pub out_x : Entity
out_x = formal_of x Out

-- `X`, at its line and column
abbrev pub out_x_at : ℕ → ℕ → CoreName
out_x_at line column = record { name = word (codes "X") line column; entity = Some out_x }

-- the procedure with these statements
abbrev pub out_sub : List CoreStmt → Sub
out_sub statements = record inc_without_pre {
  formal_part = Some (record { place = place 1 15; params = record formal { names = record x_declared { entity = out_x } ∷ []; mode = written.Out; type_name = named (integer_at 1 24) } ∷ [] });
  derives = Some (record { place = place 2 5; items = record { null = None; exports = named (out_x_at 2 13) ∷ []; itself = None; imports = [] } ∷ [] });
  statements = statements;
}

-- its program
abbrev pub out_program : List CoreStmt → Program
out_program statements = record increment { vars = record { name = codes "X"; kind = Formal Out; type_id = INTEGER.id } ∷ []; subs = out_sub statements ∷ [] }

-- `X := X`
abbrev pub itself : List CoreStmt
itself = stmt.Assignment (target_to (out_x_at 6 4)) (expr.Name (out_x_at 6 9)) ∷ []

-- ---- no dependency relation, so that X is no export

-- the procedure
abbrev pub inc_without_derives : Sub
inc_without_derives = record inc_without_pre { derives = None }

-- its program
abbrev pub increment_without_derives : Program
increment_without_derives = record increment { subs = inc_without_derives ∷ [] }

-- ---- X of the subtype `Natural`
--
--     procedure Inc (X : in out Natural)
--     --# derives X from X;
--
--     is
--     begin
--        X := - X;
--     end Inc;

-- what `X` denotes
abbrev pub natural_x : Entity
natural_x = entity.Variable x (record { kind = Formal InOut; subtype = NATURAL })

-- `X`, at its line and column
abbrev pub natural_x_at : ℕ → ℕ → CoreName
natural_x_at line column = record { name = word (codes "X") line column; entity = Some natural_x }

-- `Natural`
abbrev pub natural_named : Reference
natural_named = named (record { name = word (codes "Natural") 1 27; entity = Some (entity.TypeName NATURAL) })

-- `- X`
abbrev pub natural_negated : CoreExpr
natural_negated = expr.Prefix Minus (place 6 9) (expr.Name (natural_x_at 6 11))

-- the procedure
abbrev pub natural_sub : Sub
natural_sub = record inc_without_pre {
  formal_part = Some (record { place = place 1 15; params = record formal { names = record x_declared { entity = natural_x } ∷ []; type_name = natural_named } ∷ [] });
  derives = Some (record { place = place 2 5; items = record { null = None; exports = named (natural_x_at 2 13) ∷ []; itself = None; imports = named (natural_x_at 2 20) ∷ [] } ∷ [] });
  statements = stmt.Assignment (target_to (natural_x_at 6 4)) natural_negated ∷ [];
}

-- its program
abbrev pub natural_program : Program
natural_program = record increment { vars = record { name = codes "X"; kind = Formal InOut; type_id = NATURAL.id } ∷ []; subs = natural_sub ∷ [] }

-- ---- `Flag` with the precondition `X > 0`
--
--     procedure Flag (X : in Integer; Y : out Integer)
--     --# derives Y from X;
--     --# pre X > 0;
--     is begin
--        if X > 0 then
--           Y := 1;
--        end if;
--     end Flag;

-- `X > 0`
abbrev pub wanted : CoreExpr
wanted = expr.Infix op.Greater (place 3 11) (expr.Name (flags.x_at 3 9)) (expr.Number (pos 0) (place 3 13))

-- the procedure
abbrev pub flag_with_pre : Sub
flag_with_pre = record flag { pre = Some (record { place = place 3 5; condition = wanted }) }

-- its program
abbrev pub flag_with_pre_program : Program
flag_with_pre_program = record flag_program { subs = flag_with_pre ∷ [] }
