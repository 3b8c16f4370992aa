use Rattle.std.proofs.Common.{◌≡◌, pos, ◌-ℤ◌, Some, to_z, of_z, rules}
use Rattle.std.proofs.lemmas.Int.{to_z-of_z}
use Rattle.std.specs.Int.{w128}
use Rattle.spx_num.specs.Widths.{fitting}
use Rattle.spx_simplify.proofs.Widths.{around}
use Rattle.spx_simplify.proofs.intervals.around_zero.Goals as goal

pub returns : goal.returns
returns c =
    let e : Some (to_z w128 (of_z w128 c.args.low)) ≡ Some c.args.low = search (rules, to_z-of_z) in
    let f : c.end.result ≡ fitting (pos 0 -ℤ c.args.low) = search (rules, to_z-of_z) in
    around c.args.low (record { low = Some (to_z w128 (of_z w128 c.args.low)); high = c.end.result }) c.ranges.low e f
