use Rattle.std.proofs.Common.{pos}
use Rattle.spx_examples.proofs.Sequents.{sorted, hypothesis_holds, goal_fails, converse_not_valid}
use Rattle.spx_examples.proofs.sequent_laws.a_converse_is_not_valid.Goals as goal

pub returns-clause-sorted : goal.returns-clause-sorted
returns-clause-sorted c = sorted (pos 0) (pos 1)

pub returns-clause-hypothesis : goal.returns-clause-hypothesis
returns-clause-hypothesis c = hypothesis_holds

pub returns-clause-goal : goal.returns-clause-goal
returns-clause-goal c = goal_fails

pub returns-clause-not_valid : goal.returns-clause-not_valid
returns-clause-not_valid c = converse_not_valid
