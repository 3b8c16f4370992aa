use Rattle.spx_examples.proofs.NextConditions.{paths_are, conditions_are}
use Rattle.spx_examples.proofs.branch_laws.next_has_two_paths.Goals as goal

pub returns-clause-paths : goal.returns-clause-paths
returns-clause-paths c = paths_are

pub returns-clause-conditions : goal.returns-clause-conditions
returns-clause-conditions c = conditions_are
