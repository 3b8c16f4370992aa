use denote.Hole.Carrier.{out, fold, shown, hidden}
use denote.Hole.Rolled.{depth}
use Rattle.spx_term.specs.declared.term.Term.{out-Term}
use Rattle.spx_term.specs.declared.term.Term.TheBlock.{the_depth, shown-the_row-Term-0, hidden-the_row-Term-0}
use Rattle.spx_term.specs.Equality.{same_name, same_term, same_by}
use Rattle.spx_term.specs.Substitution.{raised}
use Rattle.spx_kernel.specs.Rewriting.{change, rewritten}
use Rattle.spx_kernel.specs.Steps.{step}
use Rattle.spx_examples.proofs.StepFolds.{term_folds, scoped_forms}
use Rattle.spx_examples.proofs.step_laws.rewrite_puts_the_right_side_for_the_left.Goals as goal

pub returns : goal.returns
unfolding step same_name same_term same_by raised change rewritten out-Term out the_depth depth fold shown-the_row-Term-0 shown hidden-the_row-Term-0 hidden
returns c = record {
  goal = simp (term_folds, scoped_forms);
  hypothesis = simp (term_folds, scoped_forms);
  right_to_left = simp (term_folds, scoped_forms);
  not_in_hypothesis = simp (term_folds, scoped_forms);
  no_equation = simp scoped_forms;
  past_the_end = simp scoped_forms;
}
