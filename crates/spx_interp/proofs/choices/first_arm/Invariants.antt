use Rattle.std.proofs.Common.{◌≡◌, drop, map}
use Rattle.spx_core.specs.Commands.{Command, arm_before, arms_before}
use Rattle.spx_interp.specs.Results.{frame_of, ran}
use Rattle.spx_interp.proofs.choices.first_arm.Given as goal

-- no condition before this one is true
abbrev pub invariant-loop-k : goal.invariant-loop-k
invariant-loop-k l =
    (otherwise : Command) → ran (frame_of l.body) l.turns l.store (arms_before otherwise (map arm_before l.arms)) ≡ ran (frame_of l.body) l.turns l.store (arms_before otherwise (map arm_before (drop l.k l.arms)))
