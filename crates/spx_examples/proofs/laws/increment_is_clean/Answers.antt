use Rattle.spx_examples.proofs.IncrementRuns.{increments}
use Rattle.spx_examples.proofs.IncrementLaws.{clean}
use Rattle.spx_examples.proofs.IncrementConditions.{conditions_are}
use Rattle.spx_examples.proofs.laws.increment_is_clean.Goals as goal

pub returns-clause-conditions : goal.returns-clause-conditions
returns-clause-conditions c = conditions_are

pub returns-clause-clean : goal.returns-clause-clean
returns-clause-clean c = clean c.resolution.ensures.visible

pub returns-clause-run : goal.returns-clause-run
returns-clause-run c = increments
