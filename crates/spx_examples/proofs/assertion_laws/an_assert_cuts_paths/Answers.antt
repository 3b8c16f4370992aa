use Rattle.spx_examples.proofs.AssertionCuts.{two_trees, three_paths, conditions_are}
use Rattle.spx_examples.proofs.assertion_laws.an_assert_cuts_paths.Goals as goal

pub returns-clause-trees : goal.returns-clause-trees
returns-clause-trees c = two_trees

pub returns-clause-paths : goal.returns-clause-paths
returns-clause-paths c = three_paths

pub returns-clause-conditions : goal.returns-clause-conditions
returns-clause-conditions c = conditions_are
