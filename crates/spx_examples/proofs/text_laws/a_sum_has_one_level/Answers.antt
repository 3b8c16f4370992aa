use Rattle.spx_examples.proofs.TooDeep.{sum_spelled, sum_answer, sum_too_deep}
use Rattle.spx_examples.proofs.text_laws.a_sum_has_one_level.Goals as goal

pub returns-clause-spelled : goal.returns-clause-spelled
returns-clause-spelled c = sum_spelled

pub returns-clause-read : goal.returns-clause-read
returns-clause-read c = sum_answer

pub returns-clause-too_deep : goal.returns-clause-too_deep
returns-clause-too_deep c = sum_too_deep
