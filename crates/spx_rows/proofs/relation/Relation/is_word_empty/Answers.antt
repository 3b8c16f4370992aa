use Rattle.std.proofs.lemmas.Bool.{eqb-true}
use Rattle.spx_rows.proofs.BitRows.{none_at}
use Rattle.spx_rows.proofs.relation.Relation.is_word_empty.Goals as goal

pub returns : goal.returns
returns c = λ empty w at h. none_at c.self.inside.size c.args.self.now c.self.inside.words.items c.self.view_is c.args.u c.args.at _ _ c.requires.u c.requires.at c.self.invariant.0 c.row_at.ensures.at c.index.ensures
    w at h (eqb-true _ _ empty)
