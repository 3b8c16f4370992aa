use Rattle.spx_examples.proofs.BadRuns.{division_starts, divides, division_fails}
use Rattle.spx_examples.proofs.bad_laws.a_division_can_be_bad.Goals as goal

pub returns-clause-start : goal.returns-clause-start
returns-clause-start c = division_starts

pub returns-clause-bad : goal.returns-clause-bad
returns-clause-bad c = divides

pub returns-clause-fails : goal.returns-clause-fails
returns-clause-fails c = division_fails
