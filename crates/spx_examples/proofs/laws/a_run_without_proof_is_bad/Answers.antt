use Rattle.std.proofs.Common.{None, subst}
use Rattle.spx_core.specs.Erased.{Visible}
use Rattle.spx_examples.specs.Refused.{units_without_pre}
use Rattle.spx_examples.proofs.IncrementNames.{without_pre_is_resolved}
use Rattle.spx_examples.proofs.IncrementFlows.{flows}
use Rattle.spx_examples.proofs.Refused.{typed, obeys, starts, overflows}
use Rattle.spx_examples.proofs.laws.a_run_without_proof_is_bad.Goals as goal

pub returns-clause-visible : goal.returns-clause-visible
returns-clause-visible c = subst Visible without_pre_is_resolved (c.resolution.ensures.visible units_without_pre)

pub returns-clause-typed : goal.returns-clause-typed
returns-clause-typed c = typed

pub returns-clause-obeys : goal.returns-clause-obeys
returns-clause-obeys c = obeys

pub returns-clause-flows : goal.returns-clause-flows
returns-clause-flows c = flows None

pub returns-clause-start : goal.returns-clause-start
returns-clause-start c = starts

pub returns-clause-bad : goal.returns-clause-bad
returns-clause-bad c = overflows
