use Rattle.std.proofs.Common.{refl, ap, ◌∙◌}
use denote.Hole.Carrier.{hidden}
use Rattle.spx_tree.specs.declared.expression.Expr.TheBlock.{hidden-the_row-Expr-0, hidden-the_row-Expr-1}
use Rattle.spx_core.specs.Judged.{breach_in}
use Rattle.spx_core.specs.Regions.{standard}
use Rattle.spx_core.specs.Statements.{first_name_breach, judged_program}
use Rattle.spx_examples.proofs.NameBreaches.{breach_of_if}
use Rattle.spx_examples.proofs.NextNames.{next_is_resolved}
use Rattle.spx_examples.proofs.NextRules.{typed}
use Rattle.spx_examples.proofs.name_rule_laws.a_number_as_a_condition_breaks_n10.Goals as goal

pub returns-clause-number : goal.returns-clause-number
unfolding standard hidden-the_row-Expr-0 hidden-the_row-Expr-1 hidden
returns-clause-number c = breach_of_if _ _ _ _ _ _ refl

pub returns-clause-comparison : goal.returns-clause-comparison
unfolding first_name_breach
returns-clause-comparison c = ap (λ p. breach_in (judged_program p)) next_is_resolved ∙ ap breach_in typed
