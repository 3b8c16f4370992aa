use Rattle.spx_examples.proofs.BadRuns.{natural_starts, natural_fails}
use Rattle.spx_examples.proofs.Variants.{leaves_natural}
use Rattle.spx_examples.proofs.bad_laws.a_value_outside_its_type_can_be_bad.Goals as goal

pub returns-clause-start : goal.returns-clause-start
returns-clause-start c = natural_starts

pub returns-clause-bad : goal.returns-clause-bad
returns-clause-bad c = leaves_natural

pub returns-clause-fails : goal.returns-clause-fails
returns-clause-fails c = natural_fails
