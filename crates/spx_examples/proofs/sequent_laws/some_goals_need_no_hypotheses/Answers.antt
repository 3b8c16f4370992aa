use Rattle.spx_examples.proofs.Sequents.{itself_valid, next_valid}
use Rattle.spx_examples.proofs.SequentsPlain.{itself_plain}
use Rattle.spx_examples.proofs.sequent_laws.some_goals_need_no_hypotheses.Goals as goal

pub returns-clause-plain : goal.returns-clause-plain
returns-clause-plain c = itself_plain

pub returns-clause-valid : goal.returns-clause-valid
returns-clause-valid c = itself_valid

pub returns-clause-no_bound : goal.returns-clause-no_bound
returns-clause-no_bound c = next_valid
