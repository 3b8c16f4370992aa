use Rattle.spx_examples.proofs.Answers.{not_asked_later, not_asked_other}
use Rattle.spx_examples.proofs.answer_laws.what_was_asked_for_comes_first.Goals as goal

pub returns-clause-later : goal.returns-clause-later
returns-clause-later c = not_asked_later

pub returns-clause-other : goal.returns-clause-other
returns-clause-other c = not_asked_other
