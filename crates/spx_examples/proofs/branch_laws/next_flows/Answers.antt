use Rattle.spx_examples.proofs.NextFlows.{effect_is, mark_arrives, two_ways}
use Rattle.spx_examples.proofs.branch_laws.next_flows.Goals as goal

pub returns-clause-body : goal.returns-clause-body
returns-clause-body c = effect_is

pub returns-clause-mark_arrives : goal.returns-clause-mark_arrives
returns-clause-mark_arrives c = mark_arrives

pub returns-clause-two_ways : goal.returns-clause-two_ways
returns-clause-two_ways c = two_ways
