use Rattle.std.proofs.Common.{◌+◌, ◌++◌, ◌∙◌, ap, drop, sym}
use Rattle.spx_core.specs.Mirror.VarSets.{holds}
use Rattle.spx_rules.specs.NamedOnce.{all_new}
use Rattle.spx_rules.proofs.NamedOnceLaws.{one_more}
use Rattle.spx_rules.proofs.Elements.{left_of}
use Rattle.spx_rules.proofs.named.insert_new.Goals as goal

pub loop-name-preserved : goal.loop-name-preserved
loop-name-preserved c rest =
    let names = c.args.names.now in
    let k = c.loop-name.name-index in
    let name = c.name-item.result in
    let old = holds c.loop-name.set in
    c.loop-name.invariant rest ∙ ap (λ left. all_new old (left ++ rest)) (left_of names k name c.loop-name-test.true c.name-item.is)
    ∙ one_more old (holds c.insert_named.new.set) name (drop (k + 1) names ++ rest) c.in_ok-insert_named.ensures (sym c.is_in.ensures ∙ c.if-is_in.false)
