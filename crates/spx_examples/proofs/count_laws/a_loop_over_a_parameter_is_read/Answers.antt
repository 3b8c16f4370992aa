use Rattle.spx_examples.proofs.Doubling.{commands_are}
use Rattle.spx_examples.proofs.DoublingText.{as_written, grammatical, made, spelled}
use Rattle.spx_examples.proofs.count_laws.a_loop_over_a_parameter_is_read.Goals as goal

pub returns-clause-spelled : goal.returns-clause-spelled
returns-clause-spelled c = spelled

pub returns-clause-grammatical : goal.returns-clause-grammatical
returns-clause-grammatical c = grammatical

pub returns-clause-as_written : goal.returns-clause-as_written
returns-clause-as_written c = as_written

pub returns-clause-made : goal.returns-clause-made
returns-clause-made c = made

pub returns-clause-command : goal.returns-clause-command
returns-clause-command c = commands_are
