use Rattle.spx_rows.proofs.BitRows.{add_at}
use Rattle.spx_rows.proofs.relation.Relation.add.Goals as goal

pub returns-clause-pairs : goal.returns-clause-pairs
returns-clause-pairs c =
    add_at c.self.inside.size c.args.self.now c.self.inside.words.items c.self.view_is c.args.u c.args.w _ _ c.requires.u c.requires.w c.self.invariant.0 c.row_at.ensures.at c.index.ensures
