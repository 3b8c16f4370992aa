use Rattle.spx_run.proofs.InputLaws.{some_reading}
use Rattle.spx_run.proofs.laws.some_reading.Goals as goal

pub returns : goal.returns
returns c = some_reading c.one_spelling.ensures c.one_least.ensures.one c.one_stop.ensures.unspelled c.one_least.ensures.stopped c.some_spelling.ensures c.some_least.ensures
