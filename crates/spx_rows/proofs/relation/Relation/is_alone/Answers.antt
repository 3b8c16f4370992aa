use Rattle.std.proofs.Common.{arith}
use Rattle.spx_rows.proofs.BitRows.{word_within}
use Rattle.spx_rows.proofs.relation.Relation.is_alone.Goals as goal

pub returns : goal.returns
returns c = λ _ w h. let lt = word_within c.self.inside.size c.args.self.now c.self.inside.words.items c.self.view_is c.args.u w h in
    c.loop-at.invariant w (omega (arith, lt, c.width_of-at-end.ensures, c.loop-at-test.false)) h
