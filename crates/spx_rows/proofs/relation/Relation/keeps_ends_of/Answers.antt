use Rattle.std.proofs.Common.{arith}
use Rattle.spx_rows.proofs.BitRows.{number_within}
use Rattle.spx_rows.proofs.relation.Relation.keeps_ends_of.Goals as goal

pub returns : goal.returns
returns c = λ _ a b h. let lt = number_within c.first.inside.size c.args.first.now c.first.inside.words.items c.first.view_is a b h in
    c.loop-v.invariant b (omega (arith, lt, c.loop-v-test.false))
