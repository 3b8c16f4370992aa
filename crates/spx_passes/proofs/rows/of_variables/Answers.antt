use Rattle.std.proofs.Common.{arith}
use Rattle.spx_passes.proofs.RowLaws.{takes_variables}
use Rattle.spx_passes.proofs.PointLaws.{vars_fit}
use Rattle.spx_passes.proofs.rows.of_variables.Goals as goal

pub moved-requires-clause-from : goal.moved-requires-clause-from
moved-requires-clause-from c = let fit = vars_fit c.args.frame.now in let size = c.requires.size in let count = c.len.ensures in omega (arith, fit, size, count)

pub moved-requires-clause-to : goal.moved-requires-clause-to
moved-requires-clause-to c = let fit = vars_fit c.args.frame.now in let size = c.requires.size in let count = c.len.ensures in omega (arith, fit, size, count)

pub returns-clause-pairs : goal.returns-clause-pairs
returns-clause-pairs c = takes_variables c.args.frame.now c.requires.once c.args.rows.now c.in_ok-kept.kept (rw c.len.ensures at c.in_ok-kept.ensures.1)
