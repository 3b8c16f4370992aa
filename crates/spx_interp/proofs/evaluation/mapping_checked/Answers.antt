use Rattle.spx_interp.proofs.MappingLaws.{unbounded}
use Rattle.spx_interp.proofs.evaluation.mapping_checked.Goals as goal

pub returns-in-None : goal.returns-in-None
returns-in-None c = unbounded c.args.function.now c.in-Ok.mapping c.args.place c.args.operand c.in-Ok.ensures c.in-None.is
