use Rattle.std.proofs.Common.{sym, refl}
use Rattle.spx_rows.proofs.BitRows.{none_in_table, size_of, filled}
use Rattle.spx_rows.proofs.relation.Relation.with_size.Goals as goal

pub returns : goal.returns
returns c = (sym (size_of c.args.size _ _ refl), none_in_table c.args.size _ (filled _ _ _ _ c.in_ok-resize.ensures.items c.new-words.ensures.items))
