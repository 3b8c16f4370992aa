-- A local that is declared with a value has a type without parts.
use Rattle.std.proofs.Common.{◌≡◌, ℤ, true, false, Option, Some, None, ap, ◌∙◌}
use Rattle.std.specs.Prelude.{option_and_then, option_map, slice_get}
use Rattle.spx_core.specs.declared.entity.Object.{Object}
use Rattle.spx_core.specs.declared.entity.Subtype.{Subtype}
use Rattle.spx_core.specs.declared.entity.VarId.{VarId}
use Rattle.spx_core.specs.declared.entity.VarKind.{VarKind}
use Rattle.spx_core.specs.declared.entity.VarKind.TheVariants.{Formal, Local, Initialized, LoopParameter}
use Rattle.spx_core.specs.declared.program.Program.{Program}
use Rattle.spx_core.specs.declared.program.TypeRow.{TypeRow}
use Rattle.spx_core.specs.declared.program.Var.{Var}
use Rattle.spx_core.specs.declared.subprogram.Sub.{Sub}
use Rattle.spx_core.specs.Formals.{initial_in, initial_of, is_local}
use Rattle.spx_core.specs.Scopes.{Scoped, StartsInType, object_declared, object_in}
use Rattle.spx_core.specs.Types.{has_parts}
use Rattle.spx_meaning.specs.Stores.{declared, type_of}
use Rattle.spx_meaning.proofs.Callers.Types.{type_is}

pub initialized : (kind : VarKind) (n : ℤ) → initial_in kind ≡ Some n → kind ≡ Initialized n
initialized (Formal mode) n is = absurd (cc)
initialized Local n is = absurd (cc)
initialized (Initialized m) n is = ap Initialized (let e : m ≡ n = cc in e)
initialized LoopParameter n is = absurd (cc)

-- a variable with an initial value is declared with it
pub declared_initial : (p : Program) (x : VarId) (object : Object) (n : ℤ) → object_declared p x ≡ Some object → initial_of x p ≡ Some n → object.kind ≡ Initialized n
declared_initial p x object n is initial = by_var (declared p x) is initial
  where
    by_row : (kind : VarKind) (o : Option TypeRow) → option_map (λ (row : TypeRow). record { kind = kind; subtype = row.subtype }) o ≡ Some object → initial_in kind ≡ Some n → object.kind ≡ Initialized n
    by_row kind (Some row) is initial = (let e : object.kind ≡ kind = cc in e) ∙ initialized kind n initial
    by_row kind None is initial = absurd (cc)

    by_var : (o : Option Var) → option_and_then (object_in p) o ≡ Some object → option_and_then (λ (var : Var). initial_in var.kind) o ≡ Some n → object.kind ≡ Initialized n
    by_var (Some var) is initial = by_row var.kind (slice_get p.types var.type_id.0) is initial
    by_var None is initial = absurd (cc)

pub starts_plain : (p : Program) (sub : Sub) → Scoped p sub → StartsInType p sub → (x : VarId) (n : ℤ) → is_local x sub ≡ true → initial_of x p ≡ Some n → has_parts (type_of p x).base.class ≡ false
starts_plain p sub scoped initial x n local is =
    let row = scoped.local_types x local in
    let object = row.0 in
    ap (λ (of : Subtype). has_parts of.base.class) (type_is p x object row.1) ∙ (initial x object n local row.1 (declared_initial p x object n row.1 is)).0
