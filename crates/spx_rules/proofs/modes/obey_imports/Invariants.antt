use Rattle.std.proofs.Common.{◌≡◌, drop}
use Rattle.spx_core.specs.Judged.{each}
use Rattle.spx_core.specs.Obeyed.{obeyed_import}
use Rattle.spx_rules.proofs.modes.obey_imports.Given as goal

abbrev pub invariant-loop-name : goal.invariant-loop-name
invariant-loop-name l = each (obeyed_import l.tables) l.names ≡ each (obeyed_import l.tables) (drop l.name-index l.names)
