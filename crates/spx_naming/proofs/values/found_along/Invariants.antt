use Rattle.std.proofs.Common.{◌≡◌, drop}
use Rattle.spx_core.specs.NamedParts.{along}
use Rattle.spx_naming.specs.Found.{found_along}
use Rattle.spx_naming.proofs.values.found_along.Given as goal

abbrev pub invariant-loop-at : goal.invariant-loop-at
invariant-loop-at l =
    found_along l.scene l.object (along l.scene.types l.of (drop l.at l.steps) l.parts)
    ≡ found_along l.scene l.initial.object (along l.scene.types l.initial.of (drop l.fn.first l.steps) l.initial.parts)
