-- Variants of the procedure `Flag`, resolved. Each has parts that are not those of
--
--     procedure Flag (X : in     Integer; Y :    out Integer)
--     --# derives Y from X;
--
--     is begin
--        if X > 0 then
--           Y := 1;
--        end if;
--     end Flag;
--
-- A precondition stands in line 3. Where the formals have other modes, the body is `null`.
use Rattle.std.specs.Prelude.{ℕ, ◌+◌, pos, false, List, [], ◌∷◌, ◌++◌, Some, None, codes}
use Rattle.spx_tree.specs.declared.expression.InfixOp.TheVariants as op
use Rattle.spx_tree.specs.declared.subprogram.WrittenMode.{WrittenMode}
use Rattle.spx_tree.specs.declared.subprogram.WrittenMode.TheVariants as written
use Rattle.spx_core.specs.declared.entity.TheConstants.{INTEGER}
use Rattle.spx_core.specs.declared.entity.VarId.{VarId}
use Rattle.spx_core.specs.declared.entity.Mode.{Mode}
use Rattle.spx_core.specs.declared.entity.Mode.TheVariants.{In, Out, InOut}
use Rattle.spx_core.specs.declared.entity.VarKind.TheVariants.{Formal, Local}
use Rattle.spx_core.specs.declared.entity.Entity.{Entity}
use Rattle.spx_core.specs.declared.entity.Entity.TheVariants as entity
use Rattle.spx_core.specs.declared.expression.CoreExpr.{CoreExpr}
use Rattle.spx_core.specs.declared.expression.CoreExpr.TheVariants as expr
use Rattle.spx_core.specs.declared.name.CoreName.{CoreName}
use Rattle.spx_core.specs.declared.name.Reference.{Reference}
use Rattle.spx_core.specs.declared.program.Program.{Program}
use Rattle.spx_core.specs.declared.statement.CoreDecl.TheVariants.{Variables}
use Rattle.spx_core.specs.declared.statement.CoreStmt.{CoreStmt}
use Rattle.spx_core.specs.declared.statement.CoreStmt.TheVariants as stmt
use Rattle.spx_core.specs.declared.dependency.CoreDerivesItem.{CoreDerivesItem}
use Rattle.spx_core.specs.declared.subprogram.CoreParam.{CoreParam}
use Rattle.spx_core.specs.declared.subprogram.CorePredicate.{CorePredicate}
use Rattle.spx_core.specs.declared.subprogram.Sub.{Sub}
use Rattle.spx_examples.specs.Branches.{arm}
use Rattle.spx_examples.specs.Increment.{place, word, x, integer_at}
use Rattle.spx_examples.specs.Names.{target_to}
use Rattle.spx_examples.specs.Operators.{true_at}
use Rattle.spx_examples.specs.Flag.{y, formal_of, x_at, named, one, closing, flag, flag_program}

-- the program of one procedure
abbrev pub only : Sub → Program
only sub = record flag_program { subs = sub ∷ [] }

-- ---- annotations

-- `X` and `Y` in line 2, formals of these modes
abbrev pub x_of : Mode → ℕ → Reference
x_of mode column = named (record { name = word (codes "X") 2 column; entity = Some (formal_of x mode) })

abbrev pub y_of : Mode → ℕ → Reference
y_of mode column = named (record { name = word (codes "Y") 2 column; entity = Some (formal_of y mode) })

-- exports `from` imports
abbrev pub item : (exports imports : List Reference) → CoreDerivesItem
item exports imports = record { null = None; exports = exports; itself = None; imports = imports }

-- exports `from *`, which stands at this column, and imports
abbrev pub starred : (exports : List Reference) → ℕ → (imports : List Reference) → CoreDerivesItem
starred exports column imports = record (item exports imports) { itself = Some (place 2 column) }

-- `Flag`, which derives these items
abbrev pub with_items : List CoreDerivesItem → Sub
with_items items = record flag { derives = Some (record { place = place 2 5; items = items }) }

-- the precondition that this name is positive
abbrev pub pre_on : CoreName → CorePredicate
pre_on name = record { place = place 3 5; condition = expr.Infix op.Greater (place 3 11) (expr.Name name) (expr.Number (pos 0) (place 3 13)) }

-- a procedure with this precondition
abbrev pub requiring : Sub → CoreName → Sub
requiring sub name = record sub { pre = Some (pre_on name) }

-- a procedure with the precondition `True`
abbrev pub requiring_true : Sub → Sub
requiring_true sub = record sub { pre = Some (record { place = place 3 5; condition = expr.Name (true_at 3 9) }) }

-- ---- statements

-- `X := 1`, in line 6
abbrev pub setting_x : CoreStmt
setting_x = stmt.Assignment (target_to (x_at 6 7)) one

-- `if` this, `then X := 1; end if`
abbrev pub branch_of : CoreExpr → CoreStmt
branch_of condition = stmt.If (arm (place 5 4) condition (setting_x ∷ []) ∷ []) None closing

-- a procedure with this branch
abbrev pub setting_x_if : Sub → CoreExpr → Sub
setting_x_if sub condition = record sub { statements = branch_of condition ∷ [] }

-- `0 > 1`
abbrev pub never : CoreExpr
never = expr.Infix op.Greater (place 5 9) (expr.Number (pos 0) (place 5 7)) (expr.Number (pos 1) (place 5 11))

-- a procedure that does nothing
abbrev pub idle : Sub → Sub
idle sub = record sub { statements = stmt.Null (place 5 4) ∷ [] }

-- ---- formals of other modes

-- a mode as it is written, at its column
abbrev pub written_as : Mode → ℕ → WrittenMode
written_as In column = written.In (place 1 column)
written_as Out column = written.Out
written_as InOut column = written.InOut (place 1 column)

-- a parameter, at the column of its name
abbrev pub param : List ℕ → VarId → Mode → ℕ → CoreParam
param text v mode column = record {
  names = record { name = word text 1 column; entity = formal_of v mode; again = false } ∷ [];
  mode = written_as mode (column + 4);
  type_name = named (integer_at 1 (column + 11));
}

-- `Flag` with X and Y of these modes, which derives these items and does nothing
abbrev pub with_modes : (m n : Mode) → List CoreDerivesItem → Program
with_modes m n items = record flag_program {
  vars = record { name = codes "X"; kind = Formal m; type_id = INTEGER.id } ∷ record { name = codes "Y"; kind = Formal n; type_id = INTEGER.id } ∷ [];
  subs = record (idle (with_items items)) { formal_part = Some (record { place = place 1 16; params = param (codes "X") x m 17 ∷ param (codes "Y") y n 37 ∷ [] }) } ∷ [];
}

-- `Flag` without formals and without `derives`, which does nothing
abbrev pub bare : Program
bare = record flag_program { vars = []; subs = record (idle flag) { formal_part = None; derives = None; vars = []; formal_count = 0; local_count = 0 } ∷ [] }

-- ---- a local

-- its variable
abbrev pub z : VarId
z = record { 0 = 2 }

-- what it denotes
abbrev pub z_entity : Entity
z_entity = entity.Variable z (record { kind = Local; subtype = INTEGER })

-- `Z` in line 2
abbrev pub z_of : ℕ → Reference
z_of column = named (record { name = word (codes "Z") 2 column; entity = Some z_entity })

-- `Flag` with `Z : Integer;` after `is`, which derives these items
abbrev pub with_local_z : List CoreDerivesItem → Program
with_local_z items = record flag_program {
  vars = flag_program.vars ++ record { name = codes "Z"; kind = Local; type_id = INTEGER.id } ∷ [];
  subs = record (with_items items) {
    declarations = Variables (record { name = word (codes "Z") 4 4; entity = z_entity; again = false } ∷ []) (named (integer_at 4 8)) None ∷ [];
    vars = x ∷ y ∷ z ∷ [];
    local_count = 1;
  } ∷ [];
}
