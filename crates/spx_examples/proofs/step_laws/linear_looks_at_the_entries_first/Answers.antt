use Rattle.std.proofs.Common.{refl}
use denote.Hole.Carrier.{out, fold, shown, hidden}
use denote.Hole.Rolled.{depth}
use Rattle.spx_term.specs.declared.term.Term.{out-Term}
use Rattle.spx_term.specs.declared.term.Term.TheBlock.{the_depth, shown-the_row-Term-0, hidden-the_row-Term-0}
use Rattle.spx_num.specs.Widths.{fits}
use Rattle.spx_term.specs.Equality.{same_term, same_by}
use Rattle.spx_term.specs.Folding.{simplified, before_literal, after_literal, of_itself}
use Rattle.spx_term.specs.Negation.{form_of as form_seen, opposite}
use Rattle.spx_linear.specs.Forms.{with_part, joined, scaled_part, scaled}
use Rattle.spx_linear.specs.Linear.{is_comparison, form_of, linear_form}
use Rattle.spx_linear.specs.Refutation.{with_multiple, is_never, refutation}
use Rattle.spx_kernel.specs.Certificates.{opposite_of, is_equation, certified}
use Rattle.spx_kernel.specs.Steps.{step}
use Rattle.spx_examples.proofs.StepFolds.{term_folds}
use Rattle.spx_examples.proofs.step_laws.linear_looks_at_the_entries_first.Goals as goal

pub returns : goal.returns
unfolding step certified opposite_of is_equation opposite form_seen simplified before_literal after_literal of_itself is_comparison linear_form form_of refutation is_never with_multiple joined scaled with_part scaled_part fits same_term same_by out-Term out the_depth depth fold shown-the_row-Term-0 shown hidden-the_row-Term-0 hidden
returns c = record {
  negative = simp term_folds;
  past_the_end = refl;
  equation_as_goal = simp term_folds;
  truth = simp term_folds;
  too_wide = simp term_folds;
  negative_first = simp term_folds;
}
