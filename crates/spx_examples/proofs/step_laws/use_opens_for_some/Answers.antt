use Rattle.std.proofs.Common.{refl}
use denote.Hole.Carrier.{out, fold, shown, hidden}
use denote.Hole.Rolled.{depth}
use Rattle.spx_term.specs.declared.term.Term.{out-Term}
use Rattle.spx_term.specs.declared.term.Term.TheBlock.{the_depth, shown-the_row-Term-0, hidden-the_row-Term-0}
use Rattle.spx_term.specs.Equality.{same_name, same_by}
use Rattle.spx_kernel.specs.Names.{greatest, new_name}
use Rattle.spx_term.specs.Substitution.{raised}
use Rattle.spx_kernel.specs.Steps.{step}
use Rattle.spx_examples.proofs.StepFolds.{term_folds, scoped_forms, opened_forms}
use Rattle.spx_examples.proofs.step_laws.use_opens_for_some.Goals as goal

pub returns : goal.returns
unfolding step same_name same_by greatest new_name raised out-Term out the_depth depth fold shown-the_row-Term-0 shown hidden-the_row-Term-0 hidden
returns c = record {
  first = simp (term_folds, scoped_forms, opened_forms);
  third = simp (term_folds, scoped_forms, opened_forms);
  all = refl;
}
