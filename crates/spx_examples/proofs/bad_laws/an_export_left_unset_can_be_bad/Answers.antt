use Rattle.spx_examples.proofs.BadRuns.{out_starts, out_fails}
use Rattle.spx_examples.proofs.Variants.{out_is_left_unset}
use Rattle.spx_examples.proofs.bad_laws.an_export_left_unset_can_be_bad.Goals as goal

pub returns-clause-start : goal.returns-clause-start
returns-clause-start c = out_starts

pub returns-clause-bad : goal.returns-clause-bad
returns-clause-bad c = out_is_left_unset

pub returns-clause-fails : goal.returns-clause-fails
returns-clause-fails c = out_fails
