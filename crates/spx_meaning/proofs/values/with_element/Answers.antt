use Rattle.std.proofs.Common.{FitsSigned, rules, ap, sym, ◌∙◌}
use Rattle.std.specs.Int.{w128}
use Rattle.std.proofs.lemmas.Int.{to_z-of_z}
use Rattle.spx_term.specs.declared.value.Value.TheVariants.{Elements}
use Rattle.spx_meaning.proofs.PartValues.{element_stays}
use Rattle.spx_meaning.proofs.values.with_element.Goals as goal

pub returns-in-None : goal.returns-in-None
returns-in-None c =
    let n = c.in-Elements.first in
    let fits : FitsSigned w128 n = search rules in
    let same = to_z-of_z w128 n fits in
    let misses = rw (c.len.ensures, to_z-of_z w128 c.args.index c.ranges.index, same) at c.in-None.ensures in
    ap (λ m. Elements m c.in-Elements.elements) same ∙ sym c.in-Elements.is ∙ sym (element_stays c.args.value c.args.part c.args.index n c.in-Elements.elements c.in-Elements.is misses)
