use Rattle.std.proofs.Common.{sym, refl}
use Rattle.spx_rows.proofs.BitRows.{filled}
use Rattle.spx_rows.proofs.SingleRows.{none_in_row, row_size}
use Rattle.spx_rows.proofs.row.Row.with_size.Goals as goal

pub returns : goal.returns
returns c = (sym (row_size c.args.size _ _ refl), none_in_row c.args.size _ (filled _ _ _ _ c.in_ok-resize.ensures.items c.new-words.ensures.items))
