use Rattle.std.proofs.Common.{◌≡◌, arith, ◌∙◌, subst}
use Rattle.spx_passes.proofs.RowLaws.{Moved, moved_more, moved_none}
use Rattle.spx_passes.proofs.rows.moved.Goals as goal

pub add_row_of-requires-clause-to : goal.add_row_of-requires-clause-to
add_row_of-requires-clause-to c = let size = c.loop-k.invariant.0 in let less = c.loop-k-test.true in let from = c.requires.from in omega (arith, size, less, from)

pub add_row_of-requires-clause-from : goal.add_row_of-requires-clause-from
add_row_of-requires-clause-from c = let size = c.loop-k.invariant.0 in let less = c.loop-k-test.true in let to = c.requires.to in omega (arith, size, less, to)

pub loop-k-init : goal.loop-k-init
loop-k-init c = (c.in_ok-moved.ensures.0 ∙ c.size.ensures.size, moved_none c.args.from c.args.to c.args.rows.now c.in_ok-moved.moved c.in_ok-moved.ensures.1)

pub loop-k-preserved : goal.loop-k-preserved
loop-k-preserved c =
    (c.add_row_of.ensures.size ∙ c.loop-k.invariant.0, moved_more c.args.from c.args.to c.loop-k.k c.args.rows.now c.loop-k.moved c.add_row_of.new.self c.loop-k.invariant.1 c.add_row_of.ensures.pairs)

pub returns : goal.returns
returns c =
    let less = c.loop-k-test.false in
    let last : c.loop-k.k ≡ c.args.count = omega arith in
    (c.loop-k.invariant.0, subst (λ n. Moved c.args.from c.args.to n c.args.rows.now c.loop-k.moved) last c.loop-k.invariant.1)
