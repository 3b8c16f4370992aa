use Rattle.std.proofs.Common.{true, false}
use Rattle.spx_core.specs.Judged.{expr_step}
use Rattle.spx_core.proofs.Callers.Expressions.{fold-Entry}
use Rattle.spx_examples.specs.Assertions.{constant_at}
use Rattle.spx_examples.specs.Increment.{x_at}
use Rattle.spx_examples.proofs.assertion_laws.an_entry_value_is_of_the_type_of_its_variable.Goals as goal

pub returns-clause-allowed : goal.returns-clause-allowed
returns-clause-allowed c = fold-Entry expr_step (x_at 3 10) true

pub returns-clause-not_allowed : goal.returns-clause-not_allowed
returns-clause-not_allowed c = fold-Entry expr_step (x_at 3 10) false

pub returns-clause-constant : goal.returns-clause-constant
returns-clause-constant c allowed n = fold-Entry expr_step (constant_at n) allowed
