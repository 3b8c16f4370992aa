use Rattle.spx_examples.proofs.Weakened.{formal_changes, local_changes, formals_kept, formal_not_kept, local_not_kept, reach_fails}
use Rattle.spx_examples.proofs.weakening_laws.not_only_formals_are_kept.Goals as goal

pub returns-clause-changes_y : goal.returns-clause-changes_y
returns-clause-changes_y c = formal_changes

pub returns-clause-changes_z : goal.returns-clause-changes_z
returns-clause-changes_z c = local_changes

pub returns-clause-formals : goal.returns-clause-formals
returns-clause-formals c = formals_kept

pub returns-clause-not_y : goal.returns-clause-not_y
returns-clause-not_y c = formal_not_kept

pub returns-clause-not_z : goal.returns-clause-not_z
returns-clause-not_z c = local_not_kept

pub returns-clause-fails : goal.returns-clause-fails
returns-clause-fails c = reach_fails
