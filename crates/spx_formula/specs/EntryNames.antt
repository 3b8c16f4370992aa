-- What names stand for, and names of values on entry.
use Rattle.std.specs.Prelude.{◌≡◌, Bool, true, not, ◌&&◌, if◌then◌else◌, Option, Some, None}
use Rattle.std.specs.List.{list_all}
use Rattle.spx_core.specs.declared.entity.VarId.{VarId}
use Rattle.spx_core.specs.declared.expression.CoreExpr.{CoreExpr}
use Rattle.spx_core.specs.declared.program.Program.{Program}
use Rattle.spx_core.specs.declared.subprogram.Sub.{Sub}
use Rattle.spx_core.specs.Dependency.{exports, imports}
use Rattle.spx_core.specs.Effects.{Read, reads_of}
use Rattle.spx_core.specs.Mirror.VarSets.{holds}
use Rattle.spx_term.specs.declared.term.Name.{Name}
use Rattle.spx_term.specs.declared.term.Term.{Term}
use Rattle.spx_term.specs.declared.term.Term.TheVariants.{Variable}
use Rattle.spx_formula.specs.Terms.{entry, now, term_with}
use Rattle.spx_formula.specs.declared.entered.Entered.{Entered}
use Rattle.spx_formula.specs.declared.entered.Entered.TheVariants.{Present, OnEntry, AtEntry}
use Rattle.spx_formula.specs.declared.entered.Interface.{Interface}

-- the imports and exports of a subprogram
pub record IsInterfaceOf (sub : Sub) (interface : Interface) : Type 0 where
  pub imports : (v : VarId) → holds interface.imports v ≡ imports v sub
  pub exports : (v : VarId) → holds interface.exports v ≡ exports v sub

-- an import that is no export has one value all along
abbrev pub stays : Interface → VarId → Bool
stays interface v = holds interface.imports v && not (holds interface.exports v)

-- so has what denotes no variable
abbrev pub stays_if : Interface → Option VarId → Bool
stays_if interface None = true
stays_if interface (Some v) = stays interface v

-- all that an expression reads has one value all along
abbrev pub is_fixed_by : Interface → CoreExpr → Bool
is_fixed_by interface e = list_all (λ (r : Read). stays interface r.1) (reads_of e)

-- an import that is no export has its entry value always
abbrev pub entry_name : Interface → Program → VarId → Name
entry_name interface p v = if holds interface.imports v && not (holds interface.exports v) then now p v else entry p v

-- the name of the value that a variable stands for
abbrev pub present_name : Program → Entered → VarId → Name
present_name p Present v = now p v
present_name p (OnEntry interface) v = now p v
present_name p (AtEntry interface) v = entry_name interface.now p v

-- `X` then stands for what `X~` stands for here
abbrev pub at_tilde : Entered → Entered
at_tilde Present = Present
at_tilde (OnEntry interface) = AtEntry interface
at_tilde (AtEntry interface) = AtEntry interface

-- its term
abbrev pub present_term : Program → Entered → VarId → Term
present_term p entered v = Variable (present_name p entered v)

abbrev pub entered_term : Program → Entered → VarId → Term
entered_term p entered = present_term p (at_tilde entered)

-- the term of an expression, where names stand for these
abbrev pub meant : Program → Entered → CoreExpr → Term
meant p entered e = term_with (present_term p entered) (entered_term p entered) e
