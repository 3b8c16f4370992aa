use Rattle.std.proofs.Common.{refl}
use denote.Hole.Carrier.{out, shown, hidden}
use Rattle.spx_term.specs.declared.term.Term.{out-Term}
use Rattle.spx_term.specs.declared.term.Term.TheBlock.{shown-the_row-Term-0, hidden-the_row-Term-0}
use Rattle.spx_term.specs.Negation.{form_of}
use Rattle.spx_kernel.specs.Steps.{step}
use Rattle.spx_examples.proofs.step_laws.cases_takes_a_hypothesis_in_two.Goals as goal

pub returns : goal.returns
unfolding step form_of out-Term out shown-the_row-Term-0 shown hidden-the_row-Term-0 hidden
returns c = record {
  disjunction = refl;
  integers = refl;
  truths = refl;
  conjunction = refl;
  past_the_end = refl;
}
