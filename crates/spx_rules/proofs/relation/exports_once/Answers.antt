use Rattle.std.proofs.Common.{◌∙◌, ap, sym}
use Rattle.spx_core.specs.Mirror.VarSets.{holds}
use Rattle.spx_rules.specs.NamedOnce.{all_new, exports_in}
use Rattle.spx_rules.proofs.NamedOnceLaws.{exports_new}
use Rattle.spx_rules.proofs.relation.exports_once.Goals as goal

pub loop-item-init : goal.loop-item-init
loop-item-init c = exports_new c.args.items.now ∙ ap (λ set. all_new (holds set) (exports_in c.args.items.now)) (sym c.in_ok-seen.ensures)
