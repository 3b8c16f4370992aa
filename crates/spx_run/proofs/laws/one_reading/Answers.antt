use Rattle.spx_run.proofs.InputLaws.{one_reading}
use Rattle.spx_run.proofs.laws.one_reading.Goals as goal

pub returns : goal.returns
returns c = one_reading c.one_spelling.ensures c.one_least.ensures.one c.one_stop.ensures.unspelled c.one_least.ensures.stopped
