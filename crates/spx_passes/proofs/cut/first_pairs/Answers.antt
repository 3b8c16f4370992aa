use Rattle.std.proofs.Common.{◌≡◌, arith, subst}
use Rattle.spx_passes.proofs.CutLaws.{RowsCut, rows_more, rows_none}
use Rattle.spx_passes.proofs.cut.first_pairs.Goals as goal

pub loop-a-init : goal.loop-a-init
loop-a-init c = (c.in_ok-cut.ensures.0, rows_none c.args.count c.args.rows c.in_ok-cut.cut c.in_ok-cut.ensures.1)

pub loop-a-preserved : goal.loop-a-preserved
loop-a-preserved c = (c.add_first.ensures.size, rows_more c.loop-a.a c.args.count c.args.rows c.loop-a.cut c.add_first.new.cut c.loop-a.invariant.1 c.add_first.ensures.pairs)

pub returns : goal.returns
returns c =
    let past = c.loop-a-test.false in
    let last : c.loop-a.a ≡ c.args.count = omega arith in
    let cut = subst (λ n. RowsCut n c.args.count c.args.rows c.loop-a.cut) last c.loop-a.invariant.1 in
    (c.loop-a.invariant.0, λ a b less_a less_b. (λ h. let k = (cut a b).0 h in k.2, λ h. (cut a b).1 (less_a, less_b, h)))
