use Rattle.std.proofs.Common.{refl}
use denote.Hole.Carrier.{out, hidden}
use Rattle.spx_num.specs.Widths.{fits}
use Rattle.spx_term.specs.declared.term.Term.{out-Term}
use Rattle.spx_term.specs.declared.term.Term.TheBlock.{hidden-the_row-Term-0}
use Rattle.spx_term.specs.Equality.{same_term, same_by}
use Rattle.spx_linear.specs.Forms.{with_part, joined, scaled_part, scaled}
use Rattle.spx_linear.specs.Refutation.{with_multiple, is_never, refutation}
use Rattle.spx_examples.proofs.linear_laws.a_certificate_that_leaves_a_name_refutes_nothing.Goals as goal

pub returns : goal.returns
unfolding refutation is_never with_multiple joined scaled with_part scaled_part fits same_term same_by out-Term out hidden-the_row-Term-0 hidden
returns c = refl
