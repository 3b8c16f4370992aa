use Rattle.std.proofs.Common.{refl, ap}
use Rattle.spx_core.specs.Judged.{breach_in}
use Rattle.spx_core.specs.Obeyed.{first_rule_breach}
use Rattle.spx_examples.specs.Flag.{positive}
use Rattle.spx_examples.specs.VariableRules.{never}
use Rattle.spx_examples.proofs.Flag.{obeys as obeys_flag}
use Rattle.spx_examples.proofs.IncrementRules.{obeys as obeys_increment}
use Rattle.spx_examples.proofs.VariableBreaches.{breach_is, branch_is}
use Rattle.spx_examples.proofs.variable_rule_laws.an_assigned_formal_of_mode_in_breaks_u2.Goals as goal

pub returns-clause-broken : goal.returns-clause-broken
returns-clause-broken c = breach_is _ _ _ _ refl (branch_is positive)

pub returns-clause-never_run : goal.returns-clause-never_run
returns-clause-never_run c = breach_is _ _ _ _ refl (branch_is never)

pub returns-clause-mode_out : goal.returns-clause-mode_out
unfolding first_rule_breach
returns-clause-mode_out c = ap breach_in obeys_flag

pub returns-clause-mode_in_out : goal.returns-clause-mode_in_out
unfolding first_rule_breach
returns-clause-mode_in_out c = ap breach_in obeys_increment
