use Rattle.std.proofs.Common.{◌≡◌, drop}
use Rattle.spx_core.specs.Judged as rules
use Rattle.spx_types.proofs.targets.judged_way.Given as goal

abbrev pub invariant-loop-step : goal.invariant-loop-step
invariant-loop-step l = rules.judged_way l.place l.initial.part l.way ≡ rules.judged_way l.place l.part (drop l.step-index l.way)
