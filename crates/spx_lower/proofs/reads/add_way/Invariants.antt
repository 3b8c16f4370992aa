use Rattle.std.proofs.Common.{◌≡◌, ◌++◌, take}
use Rattle.std.specs.List.{flat_map}
use Rattle.spx_lower.specs.Meaning.{reads_in_step}
use Rattle.spx_lower.proofs.reads.add_way.Given as goal

abbrev pub invariant-loop-step : goal.invariant-loop-step
invariant-loop-step l = l.found ≡ l.initial.found ++ flat_map reads_in_step (take l.step-index l.way)
