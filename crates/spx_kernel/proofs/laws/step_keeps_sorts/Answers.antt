use Rattle.spx_kernel.proofs.SortSteps.{steps_keep}
use Rattle.spx_kernel.proofs.laws.step_keeps_sorts.Goals as goal

pub returns : goal.returns
returns c = steps_keep
