use Rattle.std.proofs.Common.{pos, negsuc, [], ◌∷◌, refl}
use denote.Hole.Carrier.{out, fold, shown, hidden}
use denote.Hole.Rolled.{depth}
use Rattle.spx_num.specs.Widths.{fits}
use Rattle.spx_term.specs.declared.term.Term.{out-Term}
use Rattle.spx_term.specs.declared.term.Term.TheBlock.{the_depth, shown-the_row-Term-0, hidden-the_row-Term-0}
use Rattle.spx_term.specs.Equality.{same_term, same_by}
use Rattle.spx_term.specs.Negation as negation
use Rattle.spx_linear.specs.Forms.{with_part, joined, scaled_part, scaled}
use Rattle.spx_linear.specs.Linear.{is_comparison, form_of, linear_form}
use Rattle.spx_linear.specs.Refutation.{with_multiple, is_never, refutation}
use Rattle.spx_kernel.specs.Certificates.{opposite_of, is_equation, certified}
use Rattle.spx_kernel.specs.Steps.{step}
use Rattle.spx_examples.proofs.ScriptFolding.{none_stay, and_stays, linear_is, stay}
use Rattle.spx_examples.proofs.script_laws.the_next_turn_is_proved.Goals as goal

pub returns : goal.returns
unfolding step certified opposite_of is_equation negation.opposite negation.form_of refutation is_never with_multiple is_comparison linear_form form_of joined scaled with_part scaled_part fits same_term same_by out-Term out the_depth depth fold shown-the_row-Term-0 shown hidden-the_row-Term-0 hidden
returns c = record {
  split = refl;
  at_most = linear_is (pos 1) (negsuc 0 ∷ []) stay.sum_at_most (and_stays stay.s_doubled none_stay);
  at_least = linear_is (pos 1) (pos 1 ∷ []) stay.sum_at_least (and_stays stay.s_doubled none_stay);
}
