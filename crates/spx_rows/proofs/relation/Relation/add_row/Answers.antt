use Rattle.std.proofs.Common.{refl}
use Rattle.spx_rows.proofs.BitRows.{add_row_at, apart}
use Rattle.spx_rows.proofs.relation.Relation.add_row.Goals as goal

pub add_words-requires-clause-apart : goal.add_words-requires-clause-apart
add_words-requires-clause-apart c = apart c.self.inside.size c.args.to c.args.from _ _ _ c.row_at-to.ensures.at c.row_at-from.ensures.at c.width_of.ensures

pub returns-clause-pairs : goal.returns-clause-pairs
returns-clause-pairs c =
    add_row_at c.self.inside.size c.args.self.now c.self.inside.words.items c.self.view_is _ _ _ _ c.args.to c.args.from _ _ _ c.self.view_is refl c.requires.to c.requires.from
    c.row_at-to.ensures.at c.row_at-from.ensures.at c.width_of.ensures c.add_words.ensures
