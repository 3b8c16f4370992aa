-- The arms of an `if`, before the statements after `else`.
use Rattle.std.specs.Prelude.{◌≡◌, List, map}
use Rattle.spx_core.specs.declared.statement.Around.{Around}
use Rattle.spx_core.specs.declared.statement.CoreArm.{CoreArm}
use Rattle.spx_core.specs.Commands.{Command, arm_before, arms_before}
use Rattle.spx_core.specs.Judged.{Judged, ◌>>=◌}
use Rattle.spx_core.specs.Obeyed.{obeyed_command}

-- this is what is found in the arms: where they break no rule, what stands after them is looked at in what was found
abbrev pub FoundInArms : Around → List CoreArm → Command → Judged Around → Type 0
FoundInArms here arms otherwise found = obeyed_command here (arms_before otherwise (map arm_before arms)) ≡ (found >>= λ after. obeyed_command after otherwise)
