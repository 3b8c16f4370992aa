use Rattle.std.proofs.Common.{◌≡◌, drop}
use Rattle.spx_core.specs.Judged.{each}
use Rattle.spx_core.specs.Statements.{declared_once}
use Rattle.spx_typing.proofs.declaration.all_declared_once.Given as goal

abbrev pub invariant-loop-name : goal.invariant-loop-name
invariant-loop-name l = each declared_once l.names ≡ each declared_once (drop l.name-index l.names)
