use Rattle.std.proofs.Common.{◌∙◌, arith, refl}
use Rattle.spx_passes.proofs.PointLaws.{vars_fit}
use Rattle.spx_passes.proofs.RowLaws.{replace_more, replace_none}
use Rattle.spx_passes.proofs.rows.replace.Goals as goal

pub clear_row-requires : goal.clear_row-requires
clear_row-requires c =
    let less = c.loop-k-test.true in
    let count = c.len-k-end.ensures in
    let fit = vars_fit c.args.frame.now in
    let size = c.requires.size in
    let same = c.loop-k.invariant.0 in
    omega (arith, less, count, fit, size, same)

pub add_row_of-requires-clause-to : goal.add_row_of-requires-clause-to
add_row_of-requires-clause-to c =
    let less = c.loop-k-test.true in
    let count = c.len-k-end.ensures in
    let fit = vars_fit c.args.frame.now in
    let size = c.requires.size in
    let same = c.loop-k.invariant.0 in
    let clear = c.clear_row.ensures.size in
    omega (arith, less, count, fit, size, same, clear)

pub add_row_of-requires-clause-from : goal.add_row_of-requires-clause-from
add_row_of-requires-clause-from c =
    let less = c.loop-k-test.true in
    let count = c.len-k-end.ensures in
    let fit = vars_fit c.args.frame.now in
    let size = c.requires.size in
    let same = c.loop-k.invariant.0 in
    let clear = c.clear_row.ensures.size in
    omega (arith, less, count, fit, size, same, clear)

pub loop-k-init : goal.loop-k-init
loop-k-init c = (refl, replace_none c.args.rows.now c.args.head.now)

pub loop-k-preserved : goal.loop-k-preserved
loop-k-preserved c =
    (c.add_row_of.ensures.size ∙ c.clear_row.ensures.size ∙ c.loop-k.invariant.0, replace_more c.loop-k.k c.args.rows.now c.args.head.now c.loop-k.rows c.clear_row.new.self c.add_row_of.new.self c.loop-k.invariant.1 c.clear_row.ensures.pairs c.add_row_of.ensures.pairs)
