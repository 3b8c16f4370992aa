use Rattle.spx_examples.proofs.BadRuns.{local_starts, reads_unset, local_fails}
use Rattle.spx_examples.proofs.bad_laws.a_read_of_an_unset_local_can_be_bad.Goals as goal

pub returns-clause-start : goal.returns-clause-start
returns-clause-start c = local_starts

pub returns-clause-bad : goal.returns-clause-bad
returns-clause-bad c = reads_unset

pub returns-clause-fails : goal.returns-clause-fails
returns-clause-fails c = local_fails
