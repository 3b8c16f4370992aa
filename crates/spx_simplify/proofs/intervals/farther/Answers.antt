use Rattle.std.proofs.Common.{◌≡◌, pos, ◌-ℤ◌, Some, FitsSigned, to_z, of_z, sym, ◌∙◌, rules}
use Rattle.std.proofs.lemmas.Int.{to_z-of_z}
use Rattle.std.specs.Int.{w128}
use Rattle.spx_term.specs.Intervals.{greater}
use Rattle.spx_simplify.proofs.Widths.{greater_fits, greater_wide}
use Rattle.spx_simplify.proofs.intervals.farther.Goals as goal

pub returns-in-Ok : goal.returns-in-Ok
returns-in-Ok c =
    let e : Some (to_z w128 (of_z w128 c.greatest.result)) ≡ Some (greater (pos 0 -ℤ c.args.low) c.args.high) = search (rules, to_z-of_z) in
    let w : FitsSigned w128 (pos 0 -ℤ c.args.low) = search (rules, to_z-of_z) in
    e ∙ sym (greater_fits (pos 0 -ℤ c.args.low) c.args.high w c.ranges.high)

pub returns-in-Err : goal.returns-in-Err
returns-in-Err c =
    let other : FitsSigned w128 (pos 0 -ℤ c.args.low) → ⊥ = search (rules, to_z-of_z) in
    sym (greater_wide c.args.low c.args.high c.ranges.low c.ranges.high other)
