use Rattle.spx_paths.proofs.CheckSteps.{adds_term}
use Rattle.spx_paths.proofs.draft.Draft.code_id.Goals as goal

pub returns : goal.returns
returns c = adds_term c.requires c.in_ok-id.ensures
