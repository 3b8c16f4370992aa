use Rattle.std.proofs.Common.{◌≡◌, [], drop}
use Rattle.spx_core.specs.NamedParts.{along}
use Rattle.spx_naming.specs.Found.{way_along}
use Rattle.spx_naming.proofs.targets.way_along.Given as goal

abbrev pub invariant-loop-at : goal.invariant-loop-at
invariant-loop-at l = way_along l.types l.way (along l.types l.of (drop l.at l.steps) l.parts) ≡ way_along l.types [] (along l.types l.initial.of l.steps l.initial.parts)
