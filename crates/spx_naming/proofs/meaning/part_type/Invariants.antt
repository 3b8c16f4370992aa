use Rattle.std.proofs.Common.{◌≡◌, drop}
use Rattle.spx_core.specs.Judged.{part_type}
use Rattle.spx_naming.proofs.meaning.part_type.Given as goal

abbrev pub invariant-loop-step : goal.invariant-loop-step
invariant-loop-step l = part_type l.of (drop l.step-index l.way) ≡ part_type l.fn.subtype l.way
