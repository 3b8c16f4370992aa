use Rattle.spx_examples.proofs.IncrementFlows.{effect_is, x_comes, mark_arrives, one_way}
use Rattle.spx_examples.proofs.laws.increment_flows.Goals as goal

pub returns-clause-body : goal.returns-clause-body
returns-clause-body c = effect_is

pub returns-clause-x_comes : goal.returns-clause-x_comes
returns-clause-x_comes c = x_comes

pub returns-clause-mark_arrives : goal.returns-clause-mark_arrives
returns-clause-mark_arrives c = mark_arrives

pub returns-clause-one_way : goal.returns-clause-one_way
returns-clause-one_way c = one_way
