use Rattle.std.proofs.Common.{refl}
use denote.Hole.Carrier.{out, shown, hidden}
use Rattle.spx_term.specs.declared.term.Term.{out-Term}
use Rattle.spx_term.specs.declared.term.Term.TheBlock.{shown-the_row-Term-0, hidden-the_row-Term-0}
use Rattle.spx_kernel.specs.Steps.{step}
use Rattle.spx_examples.proofs.step_laws.use_takes_what_a_hypothesis_says.Goals as goal

pub returns : goal.returns
unfolding step out-Term out shown-the_row-Term-0 shown hidden-the_row-Term-0 hidden
returns c = record {
  conjunction = refl;
  implication = refl;
  equivalence = refl;
  negative = refl;
  disjunction = refl;
  past_the_end = refl;
}
