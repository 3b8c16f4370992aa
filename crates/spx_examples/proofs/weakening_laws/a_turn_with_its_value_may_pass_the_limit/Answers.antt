use Rattle.spx_examples.proofs.Weakened.{turn_of_2_passes, turn_of_1_keeps, only_turn_keeps, no_turn_keeps, bad_bounds_keep, whole_type_turn_passes, whole_type_turn_keeps}
use Rattle.spx_examples.proofs.weakening_laws.a_turn_with_its_value_may_pass_the_limit.Goals as goal

pub returns-clause-passes : goal.returns-clause-passes
returns-clause-passes c = turn_of_2_passes

pub returns-clause-first : goal.returns-clause-first
returns-clause-first c = turn_of_1_keeps

pub returns-clause-one : goal.returns-clause-one
returns-clause-one c = only_turn_keeps

pub returns-clause-none : goal.returns-clause-none
returns-clause-none c = no_turn_keeps

pub returns-clause-bad : goal.returns-clause-bad
returns-clause-bad c = bad_bounds_keep

pub returns-clause-whole : goal.returns-clause-whole
returns-clause-whole c = whole_type_turn_passes

pub returns-clause-whole_first : goal.returns-clause-whole_first
returns-clause-whole_first c = whole_type_turn_keeps
