use Rattle.spx_rows.proofs.SingleRows.{words_added}
use Rattle.spx_rows.proofs.row.Row.add_words.Goals as goal

pub returns-clause-numbers : goal.returns-clause-numbers
returns-clause-numbers c =
    words_added c.self.inside.size c.args.self.now c.self.inside.words.items _ c.args.words.now.items c.args.from _ c.self.view_is c.width_of.ensures c.add_words_of.ensures
