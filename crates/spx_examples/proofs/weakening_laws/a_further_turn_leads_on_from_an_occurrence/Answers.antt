use Rattle.spx_examples.proofs.Weakened.{leads_once, leads_by_turns, leads_without_end, parameter_leads_once, leads_by_count}
use Rattle.spx_examples.proofs.weakening_laws.a_further_turn_leads_on_from_an_occurrence.Goals as goal

pub returns-clause-once : goal.returns-clause-once
returns-clause-once c = leads_once

pub returns-clause-by_turns : goal.returns-clause-by_turns
returns-clause-by_turns c = leads_by_turns

pub returns-clause-without_end : goal.returns-clause-without_end
returns-clause-without_end c = leads_without_end

pub returns-clause-counted_once : goal.returns-clause-counted_once
returns-clause-counted_once c = parameter_leads_once

pub returns-clause-by_count : goal.returns-clause-by_count
returns-clause-by_count c = leads_by_count
