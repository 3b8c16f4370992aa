use Rattle.std.proofs.Common.{arith, ◌*◌, ◌≤◌}
use Rattle.spx_rows.proofs.BitRows.{row_fits}
use Rattle.spx_rows.specs.Bits.{width}
use Rattle.spx_rows.proofs.relation.row_at.Goals as goal

pub overflow_mul-result : goal.overflow_mul-result
overflow_mul-result c =
    let h : c.args.u * c.width_of.result ≤ 65536 * c.width_of.result = grind arith in
    omega arith

pub returns-clause-within : goal.returns-clause-within
returns-clause-within c = rw c.width_of.ensures (row_fits c.args.size (width c.args.size) c.args.u c.requires.u)
