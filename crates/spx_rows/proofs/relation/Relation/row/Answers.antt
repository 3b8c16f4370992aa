use Rattle.spx_rows.proofs.SingleRows.{copied_row}
use Rattle.spx_rows.proofs.relation.Relation.row.Goals as goal

pub returns : goal.returns
returns c =
    copied_row c.self.inside.size c.args.self.now c.self.inside.words.items c.self.view_is c.args.u _ _ _ _ _ _ c.requires c.row_at-at.ensures.at c.width_of.ensures
    c.in_ok-extend_from_slice.ensures.items c.new-words.ensures.items c.deref.ensures.value c.from_words.ensures
