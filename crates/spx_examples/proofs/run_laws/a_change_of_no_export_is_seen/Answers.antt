use Rattle.spx_examples.proofs.TwoRuns.{changes, not_kept, change_fails}
use Rattle.spx_examples.proofs.run_laws.a_change_of_no_export_is_seen.Goals as goal

pub returns-clause-changed : goal.returns-clause-changed
returns-clause-changed c = changes

pub returns-clause-not_kept : goal.returns-clause-not_kept
returns-clause-not_kept c = not_kept

pub returns-clause-fails : goal.returns-clause-fails
returns-clause-fails c = change_fails
