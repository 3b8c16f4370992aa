use Rattle.std.proofs.Common.{◌≡◌, subst}
use Rattle.spx_core.specs.declared.program.Program.{Program}
use Rattle.spx_core.specs.Erased.{Visible, erased}
use Rattle.spx_examples.specs.Increment.{inc_units}
use Rattle.spx_examples.proofs.IncrementNames.{increment_is_resolved}
use Rattle.spx_examples.proofs.IncrementRules.{typed}
use Rattle.spx_examples.proofs.IncrementText as text
use Rattle.spx_examples.proofs.text_laws.increment_is_read.Goals as goal

pub returns-clause-spelled : goal.returns-clause-spelled
returns-clause-spelled c = text.spelled

pub returns-clause-grammatical : goal.returns-clause-grammatical
returns-clause-grammatical c = text.grammatical

pub returns-clause-no_fewer_levels : goal.returns-clause-no_fewer_levels
returns-clause-no_fewer_levels c = text.no_fewer_levels

pub returns-clause-as_written : goal.returns-clause-as_written
returns-clause-as_written c = text.as_written

pub returns-clause-made : goal.returns-clause-made
returns-clause-made c = subst (λ (p : Program). erased p ≡ inc_units) increment_is_resolved (c.resolution.ensures.keeps_units inc_units)

pub returns-clause-visible : goal.returns-clause-visible
returns-clause-visible c = subst Visible increment_is_resolved (c.resolution.ensures.visible inc_units)

pub returns-clause-typed : goal.returns-clause-typed
returns-clause-typed c = typed
