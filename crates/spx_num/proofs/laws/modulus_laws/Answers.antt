use Rattle.spx_num.proofs.Divisions.{whole}
use Rattle.spx_num.proofs.laws.modulus_laws.Goals as goal

pub returns-clause-whole : goal.returns-clause-whole
returns-clause-whole c = whole
