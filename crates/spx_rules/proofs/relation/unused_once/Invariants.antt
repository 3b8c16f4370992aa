use Rattle.std.proofs.Common.{◌≡◌, drop}
use Rattle.spx_core.specs.Obeyed.{names_once, unused_imports}
use Rattle.spx_core.specs.Mirror.VarSets.{holds}
use Rattle.spx_rules.specs.NamedOnce.{all_new}
use Rattle.spx_rules.proofs.relation.unused_once.Given as goal

abbrev pub invariant-loop-item : goal.invariant-loop-item
invariant-loop-item l = names_once (unused_imports l.items) ≡ all_new (holds l.seen) (unused_imports (drop l.item-index l.items))
