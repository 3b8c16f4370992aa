-- The arms of an `if`, whatever stands after them.
use Rattle.std.specs.Prelude.{◌≡◌, ⊤, List, map}
use Rattle.spx_core.specs.declared.statement.CoreArm.{CoreArm}
use Rattle.spx_core.specs.Commands.{Command, arm_before, arms_before}
use Rattle.spx_core.specs.Judged.{Judged, ◌>>=◌}

-- this is what a judgement finds in the arms: what stands after them is judged where they break no rule
abbrev pub FoundInArms : (Command → Judged ⊤) → List CoreArm → Judged ⊤ → Type 0
FoundInArms judge arms found = (otherwise : Command) → judge (arms_before otherwise (map arm_before arms)) ≡ (found >>= λ _. judge otherwise)
