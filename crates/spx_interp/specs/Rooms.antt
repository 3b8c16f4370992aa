-- Stores that have a place for each variable that is set.
use Rattle.std.specs.Prelude.{◌<◌, ⊤, ℕ, List, All, IfSome}
use Rattle.spx_core.specs.declared.entity.VarId.{VarId}
use Rattle.spx_core.specs.declared.statement.CoreArm.{CoreArm, out-CoreArm}
use Rattle.spx_core.specs.declared.statement.CoreAlternative.{CoreAlternative, out-CoreAlternative}
use Rattle.spx_core.specs.Commands.{commands, Command, Skip, Set, Then, Choose, Select, Assertion, Repeat, Leave, Head, Tested, Counted, Endless, Alternatives, Last, When}
use Rattle.spx_core.specs.Uses.{variable_of}

abbrev pub HeadHasRoom : ℕ → Head → Type 0
HeadHasRoom size (Tested place condition) = ⊤
HeadHasRoom size (Counted c) = c.parameter.0 < size
HeadHasRoom size Endless = ⊤

-- a store of this size has a place for each variable that the command sets
abbrev mutual
  pub HasRoom : ℕ → Command → Type 0
  HasRoom size Skip = ⊤
  HasRoom size (Set target e) = IfSome (variable_of target.root.entity) (λ (v : VarId). v.0 < size)
  HasRoom size (Then a b) = HasRoom size a × HasRoom size b
  HasRoom size (Choose place condition a b) = HasRoom size a × HasRoom size b
  HasRoom size (Select place selector alternatives) = AllHaveRoom size alternatives
  HasRoom size (Assertion kind place condition) = ⊤
  HasRoom size (Repeat head body) = HeadHasRoom size head × HasRoom size body
  HasRoom size (Leave place) = ⊤

  pub AllHaveRoom : ℕ → Alternatives → Type 0
  AllHaveRoom size (Last choices a) = HasRoom size a
  AllHaveRoom size (When choices a rest) = HasRoom size a × AllHaveRoom size rest

-- and for each of these variables
abbrev pub VarsHaveRoom : ℕ → List VarId → Type 0
VarsHaveRoom size vars = All (λ (v : VarId). v.0 < size) vars

-- and for what each arm sets, or each alternative
abbrev pub ArmsHaveRoom : ℕ → List CoreArm → Type 0
ArmsHaveRoom size arms = All (λ (arm : CoreArm). HasRoom size (commands (out-CoreArm arm).body)) arms

abbrev pub AlternativesHaveRoom : ℕ → List CoreAlternative → Type 0
AlternativesHaveRoom size alternatives = All (λ (a : CoreAlternative). HasRoom size (commands (out-CoreAlternative a).body)) alternatives

-- a loop that does not count
abbrev pub IsTested : Head → Type 0
IsTested (Tested place condition) = ⊤
IsTested (Counted c) = ⊥
IsTested Endless = ⊤
