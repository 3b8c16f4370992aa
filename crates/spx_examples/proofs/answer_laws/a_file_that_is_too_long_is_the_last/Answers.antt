use Rattle.spx_examples.proofs.Answers.{not_loaded}
use Rattle.spx_examples.proofs.answer_laws.a_file_that_is_too_long_is_the_last.Goals as goal

pub returns-clause-loaded : goal.returns-clause-loaded
returns-clause-loaded c = not_loaded
