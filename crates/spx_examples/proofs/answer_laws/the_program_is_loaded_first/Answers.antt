use Rattle.spx_examples.proofs.Answers.{not_first}
use Rattle.spx_examples.proofs.answer_laws.the_program_is_loaded_first.Goals as goal

pub returns-clause-all : goal.returns-clause-all
returns-clause-all c = not_first
