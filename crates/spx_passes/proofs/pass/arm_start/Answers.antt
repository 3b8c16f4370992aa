use Rattle.spx_passes.proofs.RowLaws.{takes_copy}
use Rattle.spx_passes.proofs.pass.arm_start.Goals as goal

pub returns-in_ok-start-in-Backward-2-clause-begins : goal.returns-in_ok-start-in-Backward-2-clause-begins
returns-in_ok-start-in-Backward-2-clause-begins c =
    let start = c.in_ok-start-in-Backward-2 in
    rw (c.in-Backward.is, c.if-is_exit.false) (start.ensures.0, takes_copy c.args.frame.now c.requires.once c.args.rows.now start.start start.ensures.1)
