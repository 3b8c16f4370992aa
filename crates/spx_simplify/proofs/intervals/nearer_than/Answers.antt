use Rattle.std.proofs.Common.{◌≡◌, Some, false, pos, ◌-ℤ◌, ◌+ℤ◌, ◌∙◌, ap, rules}
use Rattle.std.proofs.lemmas.Int.{to_z-of_z}
use Rattle.std.specs.Ordering.{int_eq}
use Rattle.spx_num.specs.Exact.{absolute}
use Rattle.spx_term.specs.declared.value.Literal.TheVariants as literal
use Rattle.spx_term.specs.Intervals.{up_to_magnitude}
use Rattle.spx_simplify.proofs.Widths.{minus_next, nearer_is, not_zero}
use Rattle.spx_simplify.proofs.intervals.nearer_than.Goals as goal

pub returns-else-value-eq0 : goal.returns-else-value-eq0
returns-else-value-eq0 c =
    let v = c.in-Some-Number.value in
    let m = c.minus_magnitude.result in
    let is : c.args.divisor ≡ Some (literal.Number v) = search rules in
    let other : int_eq v (pos 0) ≡ false = not_zero v c.if-value-eq0.false in
    let near : c.around_zero.result ≡ up_to_magnitude (pos 0 -ℤ (m +ℤ pos 1)) = search (rules, to_z-of_z) in
    let same : m ≡ pos 0 -ℤ absolute v = search (rules, to_z-of_z) in
    nearer_is c.args.divisor v c.around_zero.result is other (near ∙ ap up_to_magnitude (minus_next (absolute v) m same))
