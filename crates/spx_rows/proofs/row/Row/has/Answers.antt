use Rattle.spx_rows.proofs.SingleRows.{has_at}
use Rattle.spx_rows.proofs.row.Row.has.Goals as goal

pub returns : goal.returns
returns c = has_at c.self.inside.size c.args.self.now c.self.inside.words.items c.self.view_is c.args.w _ c.requires c.self.invariant.0 c.index.ensures
