use Rattle.std.proofs.Common.{refl}
use denote.Hole.Carrier.{out, hidden, fold, shown}
use denote.Hole.Rolled.{depth}
use Rattle.spx_term.specs.declared.term.Term.{out-Term}
use Rattle.spx_term.specs.declared.term.Term.TheBlock.{the_depth, shown-the_row-Term-0, hidden-the_row-Term-0}
use Rattle.spx_term.specs.Equality.{same_term, same_by}
use Rattle.spx_term.specs.Folding.{folded, simplified, before_literal, of_itself}
use Rattle.spx_term.specs.Intervals.{allowed, bounds, bounded, interval, is_typed, mirrored}
use Rattle.spx_term.specs.Plain.{closes, is_plain, joined, settled}
use Rattle.spx_kernel.specs.Steps.{step}
use Rattle.spx_examples.proofs.StepFolds.{term_folds}
use Rattle.spx_examples.proofs.step_laws.hyp_takes_a_hypothesis_by_its_number.Goals as goal

pub returns : goal.returns
unfolding step closes allowed simplified before_literal of_itself is_plain joined settled interval bounded bounds is_typed mirrored same_term same_by out-Term out the_depth depth fold shown-the_row-Term-0 shown hidden-the_row-Term-0 hidden
returns c = record {
  second = simp term_folds;
  folded = simp term_folds;
  another = simp term_folds;
  zero = refl;
  below = refl;
  past_the_end = refl;
}
