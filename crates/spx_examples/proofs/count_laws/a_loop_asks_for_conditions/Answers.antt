use Rattle.spx_examples.proofs.Doubling.{ten, without_turn, after_turn}
use Rattle.spx_examples.proofs.count_laws.a_loop_asks_for_conditions.Goals as goal

pub returns-clause-ten : goal.returns-clause-ten
returns-clause-ten c = ten

pub returns-clause-without_turn : goal.returns-clause-without_turn
returns-clause-without_turn c = without_turn

pub returns-clause-after_turn : goal.returns-clause-after_turn
returns-clause-after_turn c = after_turn
