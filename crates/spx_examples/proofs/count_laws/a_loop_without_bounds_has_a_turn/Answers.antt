use Rattle.spx_examples.proofs.CountedFlows.{past_bounds, not_past, read_in, unset_after}
use Rattle.spx_examples.proofs.count_laws.a_loop_without_bounds_has_a_turn.Goals as goal

pub returns-clause-with_bounds : goal.returns-clause-with_bounds
returns-clause-with_bounds c = past_bounds

pub returns-clause-without : goal.returns-clause-without
returns-clause-without c = not_past

pub returns-clause-inside : goal.returns-clause-inside
returns-clause-inside c = read_in

pub returns-clause-after : goal.returns-clause-after
returns-clause-after c = unset_after
