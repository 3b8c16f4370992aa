-- What is found of the flow of a body, as lists.
use Rattle.std.specs.Prelude.{◌↔◌, List, [], Contains}
use Rattle.spx_text.specs.declared.place.Place.{Place}
use Rattle.spx_core.specs.declared.entity.VarId.{VarId}
use Rattle.spx_core.specs.declared.program.Program.{Program}
use Rattle.spx_core.specs.declared.subprogram.Sub.{Sub}
use Rattle.spx_core.specs.Effects.{Read}
use Rattle.spx_core.specs.FlowRules.{Missing, Unused, Ineffective, MayBeUnset}

-- the pairs of F1 and of F2, from the first variable to the second; the places of F3; and the places and variables of F4
pub record Found : Type 0 where
  pub missing : List (VarId × VarId)
  pub unused : List (VarId × VarId)
  pub ineffective : List Place
  pub unset : List Read

abbrev pub nothing_found : Found
nothing_found = record { missing = []; unused = []; ineffective = []; unset = [] }

-- this is found of the body, and nothing else
pub record Finds (p : Program) (sub : Sub) (found : Found) : Type 0 where
  pub missing : (u v : VarId) → Missing sub u v ↔ Contains found.missing (u, v)
  pub unused : (u v : VarId) → Unused sub u v ↔ Contains found.unused (u, v)
  pub ineffective : (at : Place) → Ineffective p sub at ↔ Contains found.ineffective at
  pub unset : (at : Place) (v : VarId) → MayBeUnset p sub at v ↔ Contains found.unset (at, v)
