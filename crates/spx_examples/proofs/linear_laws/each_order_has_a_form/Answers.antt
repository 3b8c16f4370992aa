use Rattle.std.proofs.Common.{refl}
use denote.Hole.Carrier.{out, hidden}
use Rattle.spx_num.specs.Widths.{fits}
use Rattle.spx_term.specs.declared.term.Term.{out-Term}
use Rattle.spx_term.specs.declared.term.Term.TheBlock.{hidden-the_row-Term-0}
use Rattle.spx_term.specs.Equality.{same_term, same_by}
use Rattle.spx_linear.specs.Forms.{with_part, joined, scaled_part, scaled}
use Rattle.spx_linear.specs.Linear.{form_of, linear_form}
use Rattle.spx_examples.proofs.linear_laws.each_order_has_a_form.Goals as goal

pub returns : goal.returns
unfolding linear_form form_of joined scaled with_part scaled_part fits same_term same_by out-Term out hidden-the_row-Term-0 hidden
returns c = record {
  equal = refl;
  less = refl;
  at_most = refl;
  greater = refl;
  at_least = refl;
  unequal = refl;
}
