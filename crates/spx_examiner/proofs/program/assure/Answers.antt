use Rattle.std.proofs.Common.{sym, subst}
use Rattle.spx_examiner.specs.Outcome.{IsAssured}
use Rattle.spx_examiner.proofs.program.assure.Goals as goal

pub returns-in-Examined : goal.returns-in-Examined
returns-in-Examined c = subst IsAssured (sym c.in-Examined.is) c.rely_on.ensures
