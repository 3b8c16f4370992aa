use Rattle.spx_examiner.proofs.Fates.{only_program}
use Rattle.spx_examiner.proofs.laws.one_program_is_spelled.Goals as goal

pub returns : goal.returns
returns c = only_program c.laws_below.ensures
