use Rattle.spx_examples.proofs.ExitText.{spelled, grammatical, as_written, made, command_is}
use Rattle.spx_examples.proofs.exit_laws.an_exit_is_read.Goals as goal

pub returns-clause-spelled : goal.returns-clause-spelled
returns-clause-spelled c = spelled

pub returns-clause-grammatical : goal.returns-clause-grammatical
returns-clause-grammatical c = grammatical

pub returns-clause-as_written : goal.returns-clause-as_written
returns-clause-as_written c = as_written

pub returns-clause-made : goal.returns-clause-made
returns-clause-made c = made

pub returns-clause-command : goal.returns-clause-command
returns-clause-command c = command_is
