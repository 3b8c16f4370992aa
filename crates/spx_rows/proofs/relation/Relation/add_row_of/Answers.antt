use Rattle.spx_rows.proofs.BitRows.{add_row_at}
use Rattle.spx_rows.proofs.relation.Relation.add_row_of.Goals as goal

pub returns-clause-pairs : goal.returns-clause-pairs
returns-clause-pairs c =
    add_row_at c.self.inside.size c.args.self.now c.self.inside.words.items c.self.view_is _ _ _ _ c.args.to c.args.from _ _ _ c.other.view_is c.requires.size c.requires.to c.requires.from
    c.row_at-to.ensures.at c.row_at-from.ensures.at c.width_of.ensures c.add_words_of.ensures
