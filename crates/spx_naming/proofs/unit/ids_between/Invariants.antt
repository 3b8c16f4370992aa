use Rattle.std.proofs.Common.{◌≡◌, ◌++◌, ◌-◌}
use Rattle.spx_naming.specs.Ids.{ids_from}
use Rattle.spx_naming.proofs.unit.ids_between.Given as goal

abbrev pub invariant-loop-position : goal.invariant-loop-position
invariant-loop-position l = l.ids ++ ids_from l.position (l.end - l.position) ≡ ids_from l.first (l.end - l.first)
