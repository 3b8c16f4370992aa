use Rattle.std.specs.Prelude.{Some, None}
use denote.Hole.Carrier.{out, fold, shown, hidden}
use denote.Hole.Rolled.{depth}
use Rattle.spx_term.specs.declared.term.Term.{out-Term}
use Rattle.spx_term.specs.declared.term.Term.TheBlock.{the_depth, shown-the_row-Term-0, hidden-the_row-Term-0}
use Rattle.spx_term.specs.Equality.{same_name, same_term, same_by}
use Rattle.spx_term.specs.Substitution.{raised}
use Rattle.spx_kernel.specs.Rewriting.{change, rewritten}
use Rattle.spx_kernel.specs.Steps.{step}
use Rattle.spx_examples.specs.LinearExamples.{integer_i, at_most}
use Rattle.spx_examples.specs.StepExamples.{bound_j, all_to_n}
use Rattle.spx_examples.proofs.StepFolds.{term_folds, scoped_forms}
use Rattle.spx_examples.proofs.StepRewriting.{rewrite_by, raised_below_n}
use Rattle.spx_examples.proofs.step_laws.rewrite_goes_under_quantifiers.Goals as goal

pub returns-clause-name : goal.returns-clause-name
unfolding same_name same_term same_by raised change rewritten out-Term out the_depth depth fold shown-the_row-Term-0 shown hidden-the_row-Term-0 hidden
returns-clause-name c = rewrite_by _ _ _ (Some (all_to_n (at_most (bound_j 1) integer_i))) (simp scoped_forms) (simp scoped_forms) (simp term_folds)

pub returns-clause-outer_variable : goal.returns-clause-outer_variable
unfolding same_name same_term same_by change rewritten out-Term out the_depth depth fold shown-the_row-Term-0 shown hidden-the_row-Term-0 hidden
returns-clause-outer_variable c = rewrite_by _ _ _ None (simp scoped_forms) (simp scoped_forms) (simp (term_folds, raised_below_n))

pub returns-clause-variable_of_a_quantifier : goal.returns-clause-variable_of_a_quantifier
unfolding step same_name same_by out-Term out shown-the_row-Term-0 shown hidden-the_row-Term-0 hidden
returns-clause-variable_of_a_quantifier c = simp scoped_forms
