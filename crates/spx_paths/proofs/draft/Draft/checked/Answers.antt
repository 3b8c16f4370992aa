use Rattle.spx_paths.proofs.CheckSteps.{evaluates, ready_whole}
use Rattle.spx_paths.proofs.draft.Draft.checked.Goals as goal

pub checked_id-requires-clause-whole : goal.checked_id-requires-clause-whole
checked_id-requires-clause-whole c = ready_whole c.requires

pub returns : goal.returns
returns c = evaluates c.requires c.in_ok-id.ensures.keeps c.in_ok-id.ensures.within c.in_ok-id.ensures.makes
