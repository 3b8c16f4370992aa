use Rattle.spx_examples.proofs.Locals.{local_before_sum, sum_before_local}
use Rattle.spx_examples.proofs.run_laws.the_left_operand_is_met_first.Goals as goal

pub returns-clause-unset : goal.returns-clause-unset
returns-clause-unset c = local_before_sum

pub returns-clause-overflow : goal.returns-clause-overflow
returns-clause-overflow c = sum_before_local
