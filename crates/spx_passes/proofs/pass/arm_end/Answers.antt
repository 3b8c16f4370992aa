use Rattle.std.proofs.Common.{refl}
use Rattle.spx_passes.proofs.RowLaws.{takes_itself}
use Rattle.spx_passes.proofs.pass.arm_end.Goals as goal

pub returns-else-is_exit-clause-ends : goal.returns-else-is_exit-clause-ends
returns-else-is_exit-clause-ends c = rw (c.in-Forward.is, c.if-is_exit.false) (refl, takes_itself c.args.frame.now c.requires.once c.args.rows)
