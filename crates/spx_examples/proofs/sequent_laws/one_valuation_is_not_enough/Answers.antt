use Rattle.spx_examples.proofs.Sequents.{at_zero_holds, at_six_fails, five_not_valid}
use Rattle.spx_examples.proofs.sequent_laws.one_valuation_is_not_enough.Goals as goal

pub returns-clause-holds : goal.returns-clause-holds
returns-clause-holds c = at_zero_holds

pub returns-clause-fails : goal.returns-clause-fails
returns-clause-fails c = at_six_fails

pub returns-clause-not_valid : goal.returns-clause-not_valid
returns-clause-not_valid c = five_not_valid
