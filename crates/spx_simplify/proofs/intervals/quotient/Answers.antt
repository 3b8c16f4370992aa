use Rattle.std.proofs.Common.{◌≡◌, ◌∙◌, pos, ◌-ℤ◌, ap, sym, rules}
use Rattle.std.proofs.lemmas.Int.{to_z-of_z}
use Rattle.spx_num.specs.Exact.{absolute}
use Rattle.spx_term.specs.Intervals.{lesser, quotients, up_to_magnitude}
use Rattle.spx_simplify.proofs.Widths.{minus_lesser}
use Rattle.spx_simplify.proofs.intervals.quotient.Goals as goal

pub returns : goal.returns
returns c =
    let low = c.in-Some.low in
    let high = c.in-Some-high.high in
    let e : c.least.result ≡ lesser (pos 0 -ℤ absolute low) (pos 0 -ℤ absolute high) = search (rules, to_z-of_z) in
    let f : c.around_zero.result ≡ up_to_magnitude (pos 0 -ℤ c.least.result) = search (rules, to_z-of_z) in
    f ∙ ap (λ m. up_to_magnitude (pos 0 -ℤ m)) e
    ∙ ap up_to_magnitude (minus_lesser (absolute low) (absolute high))
    ∙ sym (λ k. quotients (c.in-Some.is k) (c.in-Some-high.is k))
