use denote.Hole.Carrier.{out, fold, shown, hidden}
use denote.Hole.Rolled.{depth}
use Rattle.spx_term.specs.declared.term.Term.{out-Term}
use Rattle.spx_term.specs.declared.term.Term.TheBlock.{the_depth, shown-the_row-Term-0, hidden-the_row-Term-0}
use Rattle.spx_term.specs.Equality.{same_name, same_by}
use Rattle.spx_kernel.specs.Divisions.{division}
use Rattle.spx_kernel.specs.Names.{names_of, is_over}
use Rattle.spx_kernel.specs.Steps.{step}
use Rattle.spx_examples.proofs.StepFolds.{term_folds, scoped_forms}
use Rattle.spx_examples.proofs.step_laws.div_says_what_a_division_gives.Goals as goal

pub returns : goal.returns
unfolding step same_name same_by division names_of is_over out-Term out the_depth depth fold shown-the_row-Term-0 shown hidden-the_row-Term-0 hidden
returns c = record {
  quotient = simp (term_folds, scoped_forms);
  remainder = simp (term_folds, scoped_forms);
  modulus = simp (term_folds, scoped_forms);
  total = simp (term_folds, scoped_forms);
}
