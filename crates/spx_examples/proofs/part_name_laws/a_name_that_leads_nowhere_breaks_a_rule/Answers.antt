use Rattle.std.proofs.Common.{refl}
use Rattle.spx_core.specs.Judged.{expr_step}
use Rattle.spx_core.proofs.Callers.Expressions.{fold-Faulty}
use Rattle.spx_examples.proofs.part_name_laws.a_name_that_leads_nowhere_breaks_a_rule.Goals as goal

pub returns-clause-no_field : goal.returns-clause-no_field
returns-clause-no_field c = fold-Faulty expr_step _

pub returns-clause-two : goal.returns-clause-two
returns-clause-two c i k = fold-Faulty expr_step _

pub returns-clause-of_number : goal.returns-clause-of_number
returns-clause-of_number c = fold-Faulty expr_step _

pub returns-clause-of_element : goal.returns-clause-of_element
returns-clause-of_element c i = fold-Faulty expr_step _

pub returns-clause-undeclared : goal.returns-clause-undeclared
returns-clause-undeclared c = fold-Faulty expr_step _

pub returns-clause-target : goal.returns-clause-target
returns-clause-target c = refl
