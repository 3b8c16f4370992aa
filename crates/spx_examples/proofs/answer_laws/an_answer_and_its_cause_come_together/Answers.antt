use Rattle.spx_examples.proofs.Answers.{without_answer, without_cause}
use Rattle.spx_examples.proofs.answer_laws.an_answer_and_its_cause_come_together.Goals as goal

pub returns-clause-without_cause : goal.returns-clause-without_cause
returns-clause-without_cause c = without_cause

pub returns-clause-without_answer : goal.returns-clause-without_answer
returns-clause-without_answer c = without_answer
