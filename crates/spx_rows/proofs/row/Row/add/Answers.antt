use Rattle.spx_rows.proofs.SingleRows.{add_at}
use Rattle.spx_rows.proofs.row.Row.add.Goals as goal

pub returns-clause-numbers : goal.returns-clause-numbers
returns-clause-numbers c = add_at c.self.inside.size c.args.self.now c.self.inside.words.items c.self.view_is c.args.w _ c.requires c.self.invariant.0 c.index.ensures
