-- A procedure that sets its export on one arm only, resolved:
--
--     procedure Flag (X : in Integer; Y : out Integer)
--     --# derives Y from X;
--     is
--     begin
--        if X > 0 then
--           Y := 1;
--        end if;
--     end Flag;
use Rattle.std.specs.Prelude.{ℕ, pos, false, [], ◌∷◌, Some, None, codes}
use Rattle.spx_tree.specs.declared.expression.InfixOp.TheVariants as op
use Rattle.spx_tree.specs.declared.statement.Closing.{Closing}
use Rattle.spx_tree.specs.declared.subprogram.WrittenMode.TheVariants as written
use Rattle.spx_core.specs.declared.entity.TheConstants.{INTEGER}
use Rattle.spx_core.specs.declared.entity.Entity.{Entity}
use Rattle.spx_core.specs.declared.entity.Entity.TheVariants as entity
use Rattle.spx_core.specs.declared.entity.Mode.{Mode}
use Rattle.spx_core.specs.declared.entity.Mode.TheVariants.{In, Out}
use Rattle.spx_core.specs.declared.entity.VarId.{VarId}
use Rattle.spx_core.specs.declared.entity.VarKind.TheVariants.{Formal}
use Rattle.spx_core.specs.declared.expression.CoreExpr.{CoreExpr}
use Rattle.spx_core.specs.declared.expression.CoreExpr.TheVariants as expr
use Rattle.spx_core.specs.declared.name.CoreName.{CoreName}
use Rattle.spx_core.specs.declared.name.Defining.{Defining}
use Rattle.spx_core.specs.declared.name.Reference.{Reference}
use Rattle.spx_core.specs.declared.program.Program.{Program}
use Rattle.spx_core.specs.declared.statement.CoreStmt.{CoreStmt}
use Rattle.spx_core.specs.declared.statement.CoreStmt.TheVariants as stmt
use Rattle.spx_core.specs.declared.dependency.CoreDerivesItem.{CoreDerivesItem}
use Rattle.spx_core.specs.declared.subprogram.CoreParam.{CoreParam}
use Rattle.spx_core.specs.declared.subprogram.Sub.{Sub}
use Rattle.spx_core.specs.Effects.{Effect, nothing, assign, next, choose}
use Rattle.spx_examples.specs.Branches.{arm}
use Rattle.spx_examples.specs.Increment.{place, word, x, integer_at, inc_id, increment}
use Rattle.spx_examples.specs.Names.{reference_to, target_to}

-- its second variable
abbrev pub y : VarId
y = record { 0 = 1 }

-- a formal of this mode
abbrev pub formal_of : VarId → Mode → Entity
formal_of v mode = entity.Variable v (record { kind = Formal mode; subtype = INTEGER })

-- `X`, at its line and column
abbrev pub x_at : ℕ → ℕ → CoreName
x_at line column = record { name = word (codes "X") line column; entity = Some (formal_of x In) }

-- `Y`, at its line and column
abbrev pub y_at : ℕ → ℕ → CoreName
y_at line column = record { name = word (codes "Y") line column; entity = Some (formal_of y Out) }

-- a name where a variable is needed
abbrev pub named : CoreName → Reference
named name = reference_to name

-- `X : in Integer`
abbrev pub x_formal : CoreParam
x_formal = record { names = record { name = word (codes "X") 1 17; entity = formal_of x In; again = false } ∷ []; mode = written.In (place 1 21); type_name = named (integer_at 1 24) }

-- `Y : out Integer`
abbrev pub y_formal : CoreParam
y_formal = record { names = record { name = word (codes "Y") 1 33; entity = formal_of y Out; again = false } ∷ []; mode = written.Out; type_name = named (integer_at 1 41) }

-- `Y from X`
abbrev pub relation : CoreDerivesItem
relation = record { null = None; exports = named (y_at 2 13) ∷ []; itself = None; imports = named (x_at 2 20) ∷ [] }

-- `X > 0`
abbrev pub positive : CoreExpr
positive = expr.Infix op.Greater (place 5 9) (expr.Name (x_at 5 7)) (expr.Number (pos 0) (place 5 11))

-- `1`
abbrev pub one : CoreExpr
one = expr.Number (pos 1) (place 6 12)

-- `Y := 1`
abbrev pub setting : CoreStmt
setting = stmt.Assignment (target_to (y_at 6 7)) one

-- `end if`
abbrev pub closing : Closing
closing = record { end = place 7 4; word = place 7 8 }

-- `if X > 0 then Y := 1; end if`
abbrev pub branch : CoreStmt
branch = stmt.If (arm (place 5 4) positive (setting ∷ []) ∷ []) None closing

-- `Flag`, where it is declared
abbrev pub flag_declared : Defining
flag_declared = record { name = word (codes "Flag") 1 11; entity = entity.Subprogram inc_id; again = false }

-- the procedure
abbrev pub flag : Sub
flag = record {
  place = place 1 1;
  name = flag_declared;
  formal_part = Some (record { place = place 1 16; params = x_formal ∷ y_formal ∷ [] });
  derives = Some (record { place = place 2 5; items = relation ∷ [] });
  pre = None;
  post = None;
  declarations = [];
  statements = branch ∷ [];
  end = place 8 1;
  end_name = Some (word (codes "Flag") 8 5);
  vars = x ∷ y ∷ [];
  formal_count = 2;
  local_count = 0;
}

-- the program of the one procedure
abbrev pub flag_program : Program
flag_program = record increment {
  vars = record { name = codes "X"; kind = Formal In; type_id = INTEGER.id } ∷ record { name = codes "Y"; kind = Formal Out; type_id = INTEGER.id } ∷ [];
  subs = flag ∷ [];
}

-- it reads X to choose an arm, and one of its arms sets Y
abbrev pub flag_effect : Effect
flag_effect = next (choose ((place 5 7, x) ∷ []) (next (assign (Some y) [] (place 6 7)) nothing) nothing (place 5 4)) nothing
