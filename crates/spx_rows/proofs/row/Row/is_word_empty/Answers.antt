use Rattle.std.proofs.lemmas.Bool.{eqb-true}
use Rattle.spx_rows.proofs.SingleRows.{none_at}
use Rattle.spx_rows.proofs.row.Row.is_word_empty.Goals as goal

pub returns : goal.returns
returns c = λ empty. none_at c.self.inside.size c.args.self.now c.self.inside.words.items c.self.view_is c.args.at _ c.requires c.self.invariant.0 c.index.ensures (eqb-true _ _ empty)
