use Rattle.std.proofs.Common.{FitsSigned, List, get_or, rules, arith, ap, ◌∙◌}
use Rattle.std.specs.Int.{w128}
use Rattle.std.proofs.lemmas.Int.{to_z-of_z}
use Rattle.spx_term.specs.declared.value.Value.{Value}
use Rattle.spx_meaning.proofs.PartValues.{element_is, element_stays, no_element}
use Rattle.spx_meaning.proofs.values.element_of.Goals as goal

pub returns-in-Some-clause-there : goal.returns-in-Some-clause-there
returns-in-Some-clause-there c = λ other.
    let n = c.in-Elements.first in
    let fits : FitsSigned w128 n = search rules in
    let at = rw (to_z-of_z w128 c.args.index c.ranges.index, to_z-of_z w128 n fits) at c.in-Some.ensures in
    element_is c.args.value.now c.index-as_slice-place.result other c.args.index n c.in-Some.place c.in-Elements.elements c.in-Elements.is
    (omega (arith, at.0, c.len.ensures)) at.1 (c.index-as_slice-place.is ∙ ap (λ (xs : List Value). get_or xs c.in-Some.place c.index-as_slice-place.result) c.as_slice.ensures)

pub returns-in-None-clause-there : goal.returns-in-None-clause-there
returns-in-None-clause-there c = λ other.
    let n = c.in-Elements.first in
    let fits : FitsSigned w128 n = search rules in
    let misses = rw (c.len.ensures, to_z-of_z w128 c.args.index c.ranges.index, to_z-of_z w128 n fits) at c.in-None.ensures in
    no_element c.args.value.now other c.args.index n c.in-Elements.elements c.in-Elements.is misses

pub returns-in-None-clause-absent : goal.returns-in-None-clause-absent
returns-in-None-clause-absent c = λ part.
    let n = c.in-Elements.first in
    let fits : FitsSigned w128 n = search rules in
    let misses = rw (c.len.ensures, to_z-of_z w128 c.args.index c.ranges.index, to_z-of_z w128 n fits) at c.in-None.ensures in
    element_stays c.args.value.now part c.args.index n c.in-Elements.elements c.in-Elements.is misses
