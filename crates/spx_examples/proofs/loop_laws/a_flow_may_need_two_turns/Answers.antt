use Rattle.spx_examples.proofs.LoopFlows.{one_turn, two_turns, mark_arrives}
use Rattle.spx_examples.proofs.loop_laws.a_flow_may_need_two_turns.Goals as goal

pub returns-clause-one : goal.returns-clause-one
returns-clause-one c = one_turn

pub returns-clause-two : goal.returns-clause-two
returns-clause-two c = two_turns

pub returns-clause-marked : goal.returns-clause-marked
returns-clause-marked c = mark_arrives
