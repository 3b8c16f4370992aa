use Rattle.spx_rows.proofs.BitRows.{clear_at}
use Rattle.spx_rows.proofs.relation.Relation.clear_row.Goals as goal

pub returns-clause-pairs : goal.returns-clause-pairs
returns-clause-pairs c = clear_at c.self.inside.size c.args.self.now c.self.inside.words.items c.self.view_is _ c.args.to _ _ c.requires c.row_at-at.ensures.at c.width_of.ensures c.clear_words.ensures
