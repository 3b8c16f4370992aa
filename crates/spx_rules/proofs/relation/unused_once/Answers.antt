use Rattle.std.proofs.Common.{◌∙◌, ap, sym}
use Rattle.spx_core.specs.Mirror.VarSets.{holds}
use Rattle.spx_core.specs.Obeyed.{unused_imports}
use Rattle.spx_rules.specs.NamedOnce.{all_new}
use Rattle.spx_rules.proofs.NamedOnceLaws.{new_once}
use Rattle.spx_rules.proofs.relation.unused_once.Goals as goal

pub loop-item-init : goal.loop-item-init
loop-item-init c = sym (new_once (unused_imports c.args.items.now)) ∙ ap (λ set. all_new (holds set) (unused_imports c.args.items.now)) (sym c.in_ok-seen.ensures)
