use Rattle.spx_examples.proofs.Flag.{typed, obeys, effect_is, may_be_unset, sets_y, leaves_y}
use Rattle.spx_examples.proofs.branch_laws.one_arm_is_not_enough.Goals as goal

pub returns-clause-typed : goal.returns-clause-typed
returns-clause-typed c = typed

pub returns-clause-obeys : goal.returns-clause-obeys
returns-clause-obeys c = obeys

pub returns-clause-body : goal.returns-clause-body
returns-clause-body c = effect_is

pub returns-clause-may_be_unset : goal.returns-clause-may_be_unset
returns-clause-may_be_unset c = may_be_unset

pub returns-clause-through_arm : goal.returns-clause-through_arm
returns-clause-through_arm c = sets_y

pub returns-clause-past_arm : goal.returns-clause-past_arm
returns-clause-past_arm c = leaves_y
