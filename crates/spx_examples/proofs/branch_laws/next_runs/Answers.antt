use Rattle.spx_examples.proofs.NextRuns.{steps, stays, stays_last}
use Rattle.spx_examples.proofs.branch_laws.next_runs.Goals as goal

pub returns-clause-through_arm : goal.returns-clause-through_arm
returns-clause-through_arm c = steps

pub returns-clause-past_arm : goal.returns-clause-past_arm
returns-clause-past_arm c = stays

pub returns-clause-from_last : goal.returns-clause-from_last
returns-clause-from_last c = stays_last
