use Rattle.std.proofs.Common.{pos, negsuc, [], ◌∷◌, refl}
use denote.Hole.Carrier.{out, fold, shown, hidden}
use denote.Hole.Rolled.{depth}
use Rattle.spx_num.specs.Widths.{fits}
use Rattle.spx_term.specs.declared.term.Term.{out-Term}
use Rattle.spx_term.specs.declared.term.Term.TheBlock.{the_depth, shown-the_row-Term-0, hidden-the_row-Term-0}
use Rattle.spx_term.specs.Equality.{same_term, same_by}
use Rattle.spx_term.specs.Negation as negation
use Rattle.spx_term.specs.Intervals.{allowed, bounds, bounded, interval, mirrored, structural}
use Rattle.spx_term.specs.Plain.{is_plain, joined as plain_joined, settled}
use Rattle.spx_linear.specs.Forms.{with_part, joined, scaled_part, scaled}
use Rattle.spx_linear.specs.Linear.{is_comparison, form_of, linear_form}
use Rattle.spx_linear.specs.Refutation.{with_multiple, is_never, refutation}
use Rattle.spx_kernel.specs.Certificates.{opposite_of, is_equation, certified}
use Rattle.spx_kernel.specs.Steps.{step}
use Rattle.spx_examples.proofs.ScriptFolding.{none_stay, and_stays, linear_is, plain_is, stay, before_sum_stays}
use Rattle.spx_examples.proofs.script_laws.a_sum_in_range_is_proved.Goals as goal

pub returns : goal.returns
unfolding step certified opposite_of is_equation negation.opposite negation.form_of allowed bounds bounded interval mirrored structural is_plain plain_joined settled refutation is_never with_multiple is_comparison linear_form form_of joined scaled with_part scaled_part fits same_term same_by out-Term out the_depth depth fold shown-the_row-Term-0 shown hidden-the_row-Term-0 hidden
returns c = record {
  split = refl;
  first = plain_is before_sum_stays stay.sum_from_first;
  last = linear_is (pos 1) (negsuc 0 ∷ pos 2 ∷ pos 2 ∷ []) stay.sum_to_last (and_stays stay.s_doubled (and_stays stay.i_to_n (and_stays stay.n_small none_stay)));
  negative = linear_is (pos 1) (negsuc 0 ∷ pos 2 ∷ negsuc 1 ∷ []) stay.sum_to_last (and_stays stay.s_doubled (and_stays stay.i_to_n (and_stays stay.n_natural none_stay)));
}
