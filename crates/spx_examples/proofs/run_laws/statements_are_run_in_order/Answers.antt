use Rattle.spx_examples.proofs.Locals.{both_add, second_overflows, first_overflows}
use Rattle.spx_examples.proofs.run_laws.statements_are_run_in_order.Goals as goal

pub returns-clause-both : goal.returns-clause-both
returns-clause-both c = both_add

pub returns-clause-second : goal.returns-clause-second
returns-clause-second c = second_overflows

pub returns-clause-first : goal.returns-clause-first
returns-clause-first c = first_overflows
