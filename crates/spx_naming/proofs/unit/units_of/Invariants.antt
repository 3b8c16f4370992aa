use Rattle.std.proofs.Common.{◌≡◌, map, take}
use Rattle.spx_core.specs.declared.program.CoreUnit.TheVariants.{Subprogram}
use Rattle.spx_naming.proofs.unit.units_of.Given as goal

abbrev pub invariant-loop-id : goal.invariant-loop-id
invariant-loop-id l = l.units ≡ map Subprogram (take l.id-index l.bodies)
