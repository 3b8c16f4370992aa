use Rattle.std.proofs.Common.{◌≡◌, drop}
use Rattle.spx_core.specs.Judged.{each}
use Rattle.spx_core.specs.Obeyed.{obeyed_export}
use Rattle.spx_rules.proofs.modes.obey_exports.Given as goal

abbrev pub invariant-loop-name : goal.invariant-loop-name
invariant-loop-name l = each (obeyed_export l.tables l.starred) l.names ≡ each (obeyed_export l.tables l.starred) (drop l.name-index l.names)
