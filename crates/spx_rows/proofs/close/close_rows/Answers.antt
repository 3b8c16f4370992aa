use Rattle.std.proofs.Common.{◌≡◌, ◌∙◌, length, refl, arith, subst}
use Rattle.spx_rows.proofs.Closure.{Closing, closing_start, closing_more, closed}
use Rattle.spx_rows.proofs.close.close_rows.Goals as goal

pub loop-k-init : goal.loop-k-init
loop-k-init g c = record { same = refl; closing = closing_start c.args.rows.now.relation.now; cost = omega arith }

pub loop-k-preserved : goal.loop-k-preserved
loop-k-preserved g c = record {
  same = c.close_through.ensures.same_reference ∙ c.add_itself.ensures.same_reference ∙ c.loop-k.invariant.same;
  closing = closing_more c.args.rows.now.relation.now c.loop-k.rows.relation.now c.add_itself.new.self.relation.now c.close_through.new.rows.relation.now c.loop-k.k c.loop-k.invariant.closing c.add_itself.ensures.pairs c.close_through.ensures.through c.add_itself.ensures.size;
  cost = let s = c.loop-k.invariant.closing.size in omega arith;
}

pub returns-clause-pairs : goal.returns-clause-pairs
returns-clause-pairs g c =
    let at_end : c.loop-k.k ≡ length c.args.rows.now.relation.now = let s = c.loop-k.invariant.closing.size in omega arith in
    closed c.args.rows.now.relation.now c.loop-k.rows.relation.now (subst (Closing c.args.rows.now.relation.now c.loop-k.rows.relation.now) at_end c.loop-k.invariant.closing)
