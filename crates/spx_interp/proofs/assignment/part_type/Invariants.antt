use Rattle.std.proofs.Common.{◌≡◌, drop}
use Rattle.spx_core.specs.declared.entity.TheConstants.{UNIVERSAL}
use Rattle.spx_core.specs.Judged.{part_type}
use Rattle.spx_interp.proofs.assignment.part_type.Given as goal

abbrev pub invariant-loop-step : goal.invariant-loop-step
invariant-loop-step l = part_type UNIVERSAL l.way ≡ part_type l.subtype (drop l.step-index l.way)
