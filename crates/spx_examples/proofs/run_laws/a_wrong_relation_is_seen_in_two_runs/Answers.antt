use Rattle.spx_examples.proofs.TwoRuns.{copies_1, copies_2, not_derived, copy_fails}
use Rattle.spx_examples.proofs.run_laws.a_wrong_relation_is_seen_in_two_runs.Goals as goal

pub returns-clause-from_1 : goal.returns-clause-from_1
returns-clause-from_1 c = copies_1

pub returns-clause-from_2 : goal.returns-clause-from_2
returns-clause-from_2 c = copies_2

pub returns-clause-not_derived : goal.returns-clause-not_derived
returns-clause-not_derived c = not_derived

pub returns-clause-fails : goal.returns-clause-fails
returns-clause-fails c = copy_fails
