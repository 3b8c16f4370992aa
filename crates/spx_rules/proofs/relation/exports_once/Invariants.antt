use Rattle.std.proofs.Common.{◌≡◌, drop}
use Rattle.spx_core.specs.Obeyed.{exports_once}
use Rattle.spx_core.specs.Mirror.VarSets.{holds}
use Rattle.spx_rules.specs.NamedOnce.{all_new, exports_in}
use Rattle.spx_rules.proofs.relation.exports_once.Given as goal

abbrev pub invariant-loop-item : goal.invariant-loop-item
invariant-loop-item l = exports_once l.items ≡ all_new (holds l.seen) (exports_in (drop l.item-index l.items))
