use Rattle.std.proofs.Common.{◌≡◌, drop}
use Rattle.spx_core.specs.Regions.{declared_in, hidden}
use Rattle.spx_scope.proofs.scope.hidden_by.Given as goal

abbrev pub invariant-loop-declared : goal.invariant-loop-declared
invariant-loop-declared l = declared_in (hidden l.names) l.name ≡ declared_in (hidden (drop l.declared-index l.names)) l.name
