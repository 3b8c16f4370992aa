use Rattle.spx_examples.proofs.NextLaws.{clean}
use Rattle.spx_examples.proofs.branch_laws.next_is_clean.Goals as goal

pub returns : goal.returns
returns c = clean c.resolution.ensures.visible
