use Rattle.std.proofs.Common.{refl}
use Rattle.spx_examples.proofs.Flag.{flag_command}
use Rattle.spx_examples.proofs.VariableBreaches.{breach_promising}
use Rattle.spx_examples.proofs.assertion_laws.a_postcondition_on_a_local_breaks_u11.Goals as goal

pub returns-clause-local : goal.returns-clause-local
returns-clause-local c = breach_promising _ _ _ _ _ refl refl flag_command

pub returns-clause-import : goal.returns-clause-import
returns-clause-import c = breach_promising _ _ _ _ _ refl refl flag_command

pub returns-clause-export : goal.returns-clause-export
returns-clause-export c = breach_promising _ _ _ _ _ refl refl flag_command
