use Rattle.spx_examples.proofs.BadRuns.{not_negative, not_bad, check_starts, negative, check_fails}
use Rattle.spx_examples.proofs.bad_laws.a_negative_value_can_be_bad.Goals as goal

pub returns-clause-ended : goal.returns-clause-ended
returns-clause-ended c = not_negative

pub returns-clause-from_others : goal.returns-clause-from_others
returns-clause-from_others c = not_bad

pub returns-clause-start : goal.returns-clause-start
returns-clause-start c = check_starts

pub returns-clause-bad : goal.returns-clause-bad
returns-clause-bad c = negative

pub returns-clause-fails : goal.returns-clause-fails
returns-clause-fails c = check_fails
