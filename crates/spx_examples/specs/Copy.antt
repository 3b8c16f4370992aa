-- A procedure that reads what its dependency relation does not name, resolved:
--
--     procedure Copy (X : in Integer; Y : out Integer; Z : in Integer)
--     --# derives Y from X;
--     is
--     begin
--        Y := Z;
--     end Copy;
use Rattle.std.specs.Prelude.{ℕ, false, [], ◌∷◌, ◌++◌, Some, codes}
use Rattle.spx_tree.specs.declared.subprogram.WrittenMode.TheVariants as written
use Rattle.spx_core.specs.declared.entity.TheConstants.{INTEGER}
use Rattle.spx_core.specs.declared.entity.Mode.TheVariants.{In}
use Rattle.spx_core.specs.declared.entity.VarId.{VarId}
use Rattle.spx_core.specs.declared.entity.VarKind.TheVariants.{Formal}
use Rattle.spx_core.specs.declared.expression.CoreExpr.TheVariants as expr
use Rattle.spx_core.specs.declared.name.CoreName.{CoreName}
use Rattle.spx_core.specs.declared.program.Program.{Program}
use Rattle.spx_core.specs.declared.statement.CoreStmt.{CoreStmt}
use Rattle.spx_core.specs.declared.statement.CoreStmt.TheVariants as stmt
use Rattle.spx_core.specs.declared.subprogram.CoreParam.{CoreParam}
use Rattle.spx_core.specs.declared.subprogram.Sub.{Sub}
use Rattle.spx_examples.specs.Increment.{place, word, x, integer_at}
use Rattle.spx_examples.specs.Flag.{y, formal_of, y_at, named, x_formal, y_formal, flag_declared, flag, flag_program}
use Rattle.spx_examples.specs.Names.{target_to}

-- its third variable
abbrev pub z : VarId
z = record { 0 = 2 }

-- `Z`, at its line and column
abbrev pub z_at : ℕ → ℕ → CoreName
z_at line column = record { name = word (codes "Z") line column; entity = Some (formal_of z In) }

-- `Z : in Integer`
abbrev pub z_formal : CoreParam
z_formal = record { names = record { name = word (codes "Z") 1 50; entity = formal_of z In; again = false } ∷ []; mode = written.In (place 1 54); type_name = named (integer_at 1 57) }

-- `Y := Z`
abbrev pub copying : CoreStmt
copying = stmt.Assignment (target_to (y_at 5 4)) (expr.Name (z_at 5 9))

-- the procedure
abbrev pub copy : Sub
copy = record flag {
  name = record flag_declared { name = word (codes "Copy") 1 11 };
  formal_part = Some (record { place = place 1 16; params = x_formal ∷ y_formal ∷ z_formal ∷ [] });
  statements = copying ∷ [];
  end = place 6 1;
  end_name = Some (word (codes "Copy") 6 5);
  vars = x ∷ y ∷ z ∷ [];
  formal_count = 3;
  local_count = 0;
}

-- its program
abbrev pub copy_program : Program
copy_program = record flag_program { vars = flag_program.vars ++ record { name = codes "Z"; kind = Formal In; type_id = INTEGER.id } ∷ []; subs = copy ∷ [] }
