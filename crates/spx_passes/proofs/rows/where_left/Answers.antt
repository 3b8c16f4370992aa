use Rattle.std.proofs.Common.{arith}
use Rattle.spx_passes.proofs.RowLaws.{takes_left}
use Rattle.spx_passes.proofs.PointLaws.{size_with}
use Rattle.spx_passes.proofs.rows.where_left.Goals as goal

pub moved-requires-clause-from : goal.moved-requires-clause-from
moved-requires-clause-from c = let wide = size_with c.args.frame.now c.requires.exits in let size = c.requires.size in let count = c.len-count.ensures in omega (arith, wide, size, count)

pub moved-requires-clause-to : goal.moved-requires-clause-to
moved-requires-clause-to c = let wide = size_with c.args.frame.now c.requires.exits in let size = c.requires.size in let count = c.len-count.ensures in omega (arith, wide, size, count)

pub returns-clause-pairs : goal.returns-clause-pairs
returns-clause-pairs c = takes_left c.args.frame.now c.requires.once c.args.rows.now c.in_ok-left.left c.requires.exits (rw c.len-count.ensures at c.in_ok-left.ensures.1)
