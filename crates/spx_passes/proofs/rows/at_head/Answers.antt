use Rattle.spx_passes.proofs.RowLaws.{takes_head, takes_nothing}
use Rattle.spx_passes.proofs.rows.at_head.Goals as goal

pub returns-in_ok-kept-clause-pairs : goal.returns-in_ok-kept-clause-pairs
returns-in_ok-kept-clause-pairs c = takes_head c.args.frame.now c.args.stays c.args.rows.now c.in_ok-kept.kept c.if-stays.true c.in_ok-kept.ensures.pairs

pub returns-in_ok-none-clause-pairs : goal.returns-in_ok-none-clause-pairs
returns-in_ok-none-clause-pairs c = takes_nothing c.args.frame.now c.args.stays c.args.rows.now c.in_ok-none.none c.if-stays.false c.in_ok-none.ensures.1
