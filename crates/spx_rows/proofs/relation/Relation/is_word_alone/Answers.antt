use Rattle.std.proofs.lemmas.Bool.{eqb-true}
use Rattle.spx_rows.proofs.BitRows.{alone_at}
use Rattle.spx_rows.proofs.relation.Relation.is_word_alone.Goals as goal

pub returns-then-at-u : goal.returns-then-at-u
returns-then-at-u c = λ own w at h. alone_at c.self.inside.size c.args.self.now c.self.inside.words.items c.self.view_is c.args.u c.args.at _ _ c.requires.u c.requires.at c.self.invariant.0 c.row_at.ensures.at c.index.ensures
    w at h c.if-at-u.true (eqb-true _ _ own)
