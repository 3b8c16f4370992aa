use Rattle.spx_num.proofs.Powers.{power-suc}
use Rattle.spx_num.proofs.laws.power_laws.Goals as goal

pub returns-clause-more : goal.returns-clause-more
returns-clause-more c = power-suc
