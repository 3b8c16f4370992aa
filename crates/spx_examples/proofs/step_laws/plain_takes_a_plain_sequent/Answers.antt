use denote.Hole.Carrier.{out, hidden, fold, shown}
use denote.Hole.Rolled.{depth}
use Rattle.spx_term.specs.declared.term.Term.{out-Term}
use Rattle.spx_term.specs.declared.term.Term.TheBlock.{the_depth, shown-the_row-Term-0, hidden-the_row-Term-0}
use Rattle.spx_term.specs.Equality.{same_term, same_by}
use Rattle.spx_term.specs.Folding.{simplified, before_literal, of_itself}
use Rattle.spx_term.specs.Intervals.{allowed, bounds, bounded, interval, is_typed, mirrored}
use Rattle.spx_term.specs.Plain.{closes, is_plain, joined, settled}
use Rattle.spx_kernel.specs.Steps.{step}
use Rattle.spx_examples.proofs.StepFolds.{term_folds}
use Rattle.spx_examples.proofs.step_laws.plain_takes_a_plain_sequent.Goals as goal

pub returns : goal.returns
unfolding step closes allowed simplified before_literal of_itself is_plain joined settled interval bounded bounds is_typed mirrored same_term same_by out-Term out the_depth depth fold shown-the_row-Term-0 shown hidden-the_row-Term-0 hidden
returns c = record {
  bound = simp term_folds;
  closer_bound = simp term_folds;
}
