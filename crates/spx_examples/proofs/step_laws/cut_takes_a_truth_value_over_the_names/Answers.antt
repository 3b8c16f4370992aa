use Rattle.std.proofs.Common.{refl}
use denote.Hole.Carrier.{out, fold, shown, hidden}
use denote.Hole.Rolled.{depth}
use Rattle.spx_term.specs.declared.term.Term.{out-Term}
use Rattle.spx_term.specs.declared.term.Term.TheBlock.{the_depth, shown-the_row-Term-0, hidden-the_row-Term-0}
use Rattle.spx_term.specs.Equality.{same_name, same_sort, same_by}
use Rattle.spx_kernel.specs.Names.{names_of, is_over, is_boolean}
use Rattle.spx_kernel.specs.Steps.{step}
use Rattle.spx_examples.proofs.StepFolds.{term_folds, scoped_forms}
use Rattle.spx_examples.proofs.step_laws.cut_takes_a_truth_value_over_the_names.Goals as goal

pub returns : goal.returns
unfolding step same_name same_sort same_by names_of is_over is_boolean out-Term out the_depth depth fold shown-the_row-Term-0 shown hidden-the_row-Term-0 hidden
returns c = record {
  names = simp (term_folds, scoped_forms);
  no_names = simp (term_folds, scoped_forms);
  quantifier = simp (term_folds, scoped_forms);
  another_name = simp (term_folds, scoped_forms);
  variable_of_a_quantifier = simp (term_folds, scoped_forms);
  integer = refl;
}
