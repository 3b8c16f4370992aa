use Rattle.spx_examples.proofs.Assertions.{positive_after, positive_before, check_changes_nothing, next_after, kept_after}
use Rattle.spx_examples.proofs.assertion_laws.a_check_is_met_where_it_stands.Goals as goal

pub returns-clause-after : goal.returns-clause-after
returns-clause-after c = positive_after

pub returns-clause-before : goal.returns-clause-before
returns-clause-before c = positive_before

pub returns-clause-changes_nothing : goal.returns-clause-changes_nothing
returns-clause-changes_nothing c = check_changes_nothing

pub returns-clause-next_of_entry : goal.returns-clause-next_of_entry
returns-clause-next_of_entry c = next_after

pub returns-clause-entry : goal.returns-clause-entry
returns-clause-entry c = kept_after
