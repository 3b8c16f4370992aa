use Rattle.std.proofs.Common.{FitsSigned, Some, ap, rules, sym, ◌∙◌}
use Rattle.std.specs.Int.{w128}
use Rattle.spx_meaning.specs.Bits.{held}
use Rattle.spx_interp.proofs.BitLaws.{held_fitting}
use Rattle.spx_interp.proofs.operations.is_held.Goals as goal

pub returns-in-Number : goal.returns-in-Number
returns-in-Number c =
    let n = c.in-Number.number in
    let fits : FitsSigned w128 n = search rules in
    ap held c.in-Number.is ∙ held_fitting n fits ∙ ap Some (sym c.in-Number.is)
