-- Variants of the procedures `Inc` and `Flag`, on each of which one thing is found about flow, or nothing.
use Rattle.std.specs.Prelude.{ℕ, pos, false, List, [], ◌∷◌, Some, None, codes}
use Rattle.spx_tree.specs.declared.expression.InfixOp.TheVariants as op
use Rattle.spx_tree.specs.declared.subprogram.WrittenMode.TheVariants as written
use Rattle.spx_tree.specs.declared.statement.Closing.{Closing}
use Rattle.spx_core.specs.declared.entity.TheConstants.{INTEGER}
use Rattle.spx_core.specs.declared.entity.Entity.{Entity}
use Rattle.spx_core.specs.declared.entity.Entity.TheVariants as entity
use Rattle.spx_core.specs.declared.entity.Mode.TheVariants.{Out, InOut}
use Rattle.spx_core.specs.declared.entity.VarId.{VarId}
use Rattle.spx_core.specs.declared.entity.VarKind.{VarKind}
use Rattle.spx_core.specs.declared.entity.VarKind.TheVariants.{Formal, Initialized, Local}
use Rattle.spx_core.specs.declared.expression.CoreExpr.{CoreExpr}
use Rattle.spx_core.specs.declared.expression.CoreExpr.TheVariants.{Name, Number, Infix}
use Rattle.spx_core.specs.declared.name.CoreName.{CoreName}
use Rattle.spx_core.specs.declared.name.Reference.{Reference}
use Rattle.spx_core.specs.declared.program.Program.{Program}
use Rattle.spx_core.specs.declared.statement.CoreDecl.TheVariants.{Variables}
use Rattle.spx_core.specs.declared.statement.CoreStmt.{CoreStmt}
use Rattle.spx_core.specs.declared.statement.CoreStmt.TheVariants as stmt
use Rattle.spx_core.specs.declared.dependency.CoreDerives.{CoreDerives}
use Rattle.spx_core.specs.declared.dependency.CoreDerivesItem.{CoreDerivesItem}
use Rattle.spx_core.specs.declared.subprogram.CoreParam.{CoreParam}
use Rattle.spx_core.specs.declared.subprogram.Sub.{Sub}
use Rattle.spx_core.specs.Dependency.{Pair}
use Rattle.spx_examples.specs.Branches.{arm}
use Rattle.spx_examples.specs.Increment.{place, word, x, x_at, x_named, integer_at, x_declared, formal, step, inc, increment}
use Rattle.spx_examples.specs.Flag.{y, formal_of, y_at, named, y_formal, positive, setting, closing, flag, flag_program}
use Rattle.spx_examples.specs.Names.{target_to}
use Rattle.spx_examples.specs.Variants.{out_x_at}
use Rattle.spx_examples.specs.Flag as in_flag

-- ---- parts

-- `target := value`
abbrev pub gives : CoreName → CoreExpr → CoreStmt
gives target value = stmt.Assignment (target_to target) value

-- `exports from imports`
abbrev pub derived : List Reference → List Reference → CoreDerivesItem
derived exports imports = record { null = None; exports = exports; itself = None; imports = imports }

-- an annotation of these items
abbrev pub annotated : List CoreDerivesItem → CoreDerives
annotated items = record { place = place 2 5; items = items }

-- the program of a procedure whose variables X and Y have these kinds
abbrev pub program_of : VarKind → VarKind → Sub → Program
program_of x_kind y_kind sub = record increment {
  vars = record { name = codes "X"; kind = x_kind; type_id = INTEGER.id } ∷ record { name = codes "Y"; kind = y_kind; type_id = INTEGER.id } ∷ [];
  subs = sub ∷ [];
}

-- from the first to the second
abbrev pub pair : VarId → VarId → Pair
pair from to = record { to = Some to; from = Some from }

-- from nothing
abbrev pub from_nothing : VarId → Pair
from_nothing to = record { to = Some to; from = None }

-- ---- X and a formal Y
--
--     procedure Inc (X : in out Integer; Y : out Integer)
--     --# derives ..;
--     --# pre X < Integer'Last;
--     is
--     begin
--        X := X + 1;
--        Y := ..;
--     end Inc;

-- `Y : out Integer`
abbrev pub second_formal : CoreParam
second_formal = record y_formal { names = record { name = word (codes "Y") 1 36; entity = formal_of y Out; again = false } ∷ []; type_name = named (integer_at 1 44) }

-- the item `X, Y from X, Y`
abbrev pub all_from_all : CoreDerivesItem
all_from_all = derived (x_named 2 13 ∷ named (y_at 2 16) ∷ []) (x_named 2 23 ∷ named (y_at 2 26) ∷ [])

-- the procedure with this annotation and this value for Y
abbrev pub inc_and : List CoreDerivesItem → CoreExpr → Sub
inc_and items value = record inc {
  formal_part = Some (record { place = place 1 15; params = formal ∷ second_formal ∷ [] });
  derives = Some (annotated items);
  statements = step ∷ gives (y_at 7 4) value ∷ [];
  end = place 8 1;
  end_name = Some (word (codes "Inc") 8 5);
  vars = x ∷ y ∷ [];
  formal_count = 2;
  local_count = 0;
}

-- `X, Y from X`
abbrev pub both_from_x : List CoreDerivesItem
both_from_x = derived (x_named 2 13 ∷ named (y_at 2 16) ∷ []) (x_named 2 23 ∷ []) ∷ []

-- `X from X & Y from ;`
abbrev pub only_x_from_x : List CoreDerivesItem
only_x_from_x = derived (x_named 2 13 ∷ []) (x_named 2 20 ∷ []) ∷ derived (named (y_at 2 24) ∷ []) [] ∷ []

-- `X from * & Y from X`, where `*` stands for X
abbrev pub one_by_star : List CoreDerivesItem
one_by_star = record { null = None; exports = x_named 2 13 ∷ []; itself = Some (place 2 20); imports = [] } ∷ derived (named (y_at 2 24) ∷ []) (x_named 2 31 ∷ []) ∷ []

-- `Y := X`, where both are derived from X
abbrev pub declared : Sub
declared = inc_and both_from_x (Name (x_at 7 9))

-- the same flows, declared by two items
abbrev pub by_star : Sub
by_star = inc_and one_by_star (Name (x_at 7 9))

-- `Y := X`, where Y is declared to be derived from nothing
abbrev pub undeclared : Sub
undeclared = inc_and only_x_from_x (Name (x_at 7 9))

-- `Y := 1`, where Y is declared to be derived from X
abbrev pub overdeclared : Sub
overdeclared = inc_and both_from_x (Number (pos 1) (place 7 9))

-- the program of such a procedure
abbrev pub with_formal : Sub → Program
with_formal = program_of (Formal InOut) (Formal Out)

-- ---- X and a local Y
--
--     procedure Inc (X : in out Integer)
--     --# derives X from X;
--     is
--        Y : Integer;
--     begin
--        X := X + 1;
--        Y := X;
--     end Inc;

-- `Y`, at its line and column
abbrev pub local_y_at : ℕ → ℕ → CoreName
local_y_at line column = record { name = word (codes "Y") line column; entity = Some (entity.Variable y (record { kind = Local; subtype = INTEGER })) }

-- the procedure
abbrev pub inc_with_local : Sub
inc_with_local = record inc {
  pre = None;
  declarations = Variables (record { name = word (codes "Y") 4 4; entity = entity.Variable y (record { kind = Local; subtype = INTEGER }); again = false } ∷ []) (named (integer_at 4 8)) None ∷ [];
  statements = step ∷ gives (local_y_at 7 4) (Name (x_at 7 9)) ∷ [];
  end = place 8 1;
  end_name = Some (word (codes "Inc") 8 5);
  vars = x ∷ y ∷ [];
  local_count = 1;
}

-- `X > 0`, at this line
abbrev pub positive_at : ℕ → CoreExpr
positive_at line = Infix op.Greater (place line 9) (Name (x_at line 7)) (Number (pos 0) (place line 11))

-- the procedure with another body:
--
--        if X > 0 then
--           Y := 1;
--        end if;
--        X := Y;
abbrev pub reads_after_arm : Sub
reads_after_arm =
    let arms = arm (place 6 4) (positive_at 6) (gives (local_y_at 7 7) (Number (pos 1) (place 7 12)) ∷ []) ∷ [] in
    record inc_with_local {
      statements = stmt.If arms None (record { end = place 8 4; word = place 8 8 }) ∷ gives (x_at 9 4) (Name (local_y_at 9 9)) ∷ [];
      end = place 10 1;
      end_name = Some (word (codes "Inc") 10 5);
    }

-- the program of such a procedure
abbrev pub with_local : Sub → Program
with_local = program_of (Formal InOut) Local

-- ---- an export X that is given the local
--
--     procedure Inc (X : out Integer)
--     --# derives X from ;
--     is
--        Y : Integer;
--     begin
--        X := Y;
--     end Inc;

-- the procedure
abbrev pub gives_unset : Sub
gives_unset = record inc_with_local {
  formal_part = Some (record { place = place 1 15; params = record { names = record x_declared { entity = formal_of x Out } ∷ []; mode = written.Out; type_name = named (integer_at 1 24) } ∷ [] });
  derives = Some (annotated (derived (named (out_x_at 2 13) ∷ []) [] ∷ []));
  statements = gives (out_x_at 6 4) (Name (local_y_at 6 9)) ∷ [];
  end = place 7 1;
  end_name = Some (word (codes "Inc") 7 5);
}

-- the same after `Y := 1`
abbrev pub gives_set : Sub
gives_set = record gives_unset {
  statements = gives (local_y_at 6 4) (Number (pos 1) (place 6 9)) ∷ gives (out_x_at 7 4) (Name (local_y_at 7 9)) ∷ [];
  end = place 8 1;
  end_name = Some (word (codes "Inc") 8 5);
}

-- the program of such a procedure
abbrev pub out_with_local : Sub → Program
out_with_local = program_of (Formal Out) Local

-- the one whose local is declared with 7
abbrev pub seven_y : Entity
seven_y = entity.Variable y (record { kind = Initialized (pos 7); subtype = INTEGER })

abbrev pub seven_y_at : ℕ → ℕ → CoreName
seven_y_at line column = record { name = word (codes "Y") line column; entity = Some seven_y }

abbrev pub gives_seven : Sub
gives_seven = record gives_unset {
  declarations = Variables (record { name = word (codes "Y") 4 4; entity = seven_y; again = false } ∷ []) (named (integer_at 4 8)) (Some (Number (pos 7) (place 4 19))) ∷ [];
  statements = gives (out_x_at 6 4) (Name (seven_y_at 6 9)) ∷ [];
}

-- and its program
abbrev pub seven_program : Program
seven_program = program_of (Formal Out) (Initialized (pos 7)) gives_seven

-- ---- `Flag` with other bodies

-- `Flag`, whose word `end` is at this line
abbrev pub flag_with : List CoreStmt → ℕ → Sub
flag_with statements line = record flag { statements = statements; end = place line 1; end_name = Some (word (codes "Flag") line 5) }

--        Y := 1;
--        Y := X;
abbrev pub overwrites : Sub
overwrites = flag_with (gives (y_at 5 4) (Number (pos 1) (place 5 9)) ∷ gives (y_at 6 4) (Name (in_flag.x_at 6 9)) ∷ []) 7

--        if X > 0 then
--           null;
--        end if;
--        Y := X;
abbrev pub decides_nothing : Sub
decides_nothing = flag_with (stmt.If (arm (place 5 4) positive (stmt.Null (place 6 7) ∷ []) ∷ []) None closing ∷ gives (y_at 8 4) (Name (in_flag.x_at 8 9)) ∷ []) 9

--        if X > 0 then
--           Y := 1;
--        else
--           Y := 0;
--        end if;
abbrev pub sets_in_both : Sub
sets_in_both =
    let otherwise = gives (y_at 8 7) (Number (pos 0) (place 8 12)) in
    let closing : Closing = record { end = place 9 4; word = place 9 8 } in
    flag_with (stmt.If (arm (place 5 4) positive (setting ∷ []) ∷ []) (Some (otherwise ∷ [])) closing ∷ []) 10

-- the program of such a procedure
abbrev pub as_flag : Sub → Program
as_flag sub = record flag_program { subs = sub ∷ [] }
