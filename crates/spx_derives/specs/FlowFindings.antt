-- What a declared dependency relation and a body disagree on.
use Rattle.std.specs.Prelude.{◌≢◌, ◌↔◌, List, Contains}
use Rattle.std.specs.List.{AllPairs}
use Rattle.spx_text.specs.declared.place.Place.{Place}
use Rattle.spx_core.specs.declared.entity.VarId.{VarId}
use Rattle.spx_core.specs.declared.program.Program.{Program}
use Rattle.spx_core.specs.declared.subprogram.Sub.{Sub}
use Rattle.spx_core.specs.FlowRules.{Missing, Unused, Ineffective, MayBeUnset}
use Rattle.spx_derives.specs.declared.finding.FlowFinding.{FlowFinding}
use Rattle.spx_derives.specs.declared.finding.FlowFinding.TheVariants as finding
use Rattle.spx_derives.specs.Places.{export_place}

-- the finding holds of the subprogram
pub data Finds (p : Program) (sub : Sub) : FlowFinding → Type 0 where
  missing : {x y : VarId} → Missing sub x y → Finds p sub (finding.Missing (export_place sub y) x y)
  unused : {x y : VarId} → Unused sub x y → Finds p sub (finding.Unused (export_place sub y) x y)
  ineffective : {place : Place} → Ineffective p sub place → Finds p sub (finding.Ineffective place)
  unset : {place : Place} {v : VarId} → MayBeUnset p sub place v → Finds p sub (finding.UnsetRead place v)

-- these are the findings of the subprogram, each once
pub record AreFindingsOf (p : Program) (sub : Sub) (found : List FlowFinding) : Type 0 where
  pub once : AllPairs (λ a b. a ≢ b) found
  pub exact : (f : FlowFinding) → Contains found f ↔ Finds p sub f
