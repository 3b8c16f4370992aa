use Rattle.std.proofs.Common.{refl}
use denote.Hole.Carrier.{out, hidden}
use Rattle.spx_term.specs.declared.term.Term.{out-Term}
use Rattle.spx_term.specs.declared.term.Term.TheBlock.{hidden-the_row-Term-0}
use Rattle.spx_term.specs.Negation.{form_of}
use Rattle.spx_linear.specs.Linear.{is_comparison}
use Rattle.spx_examples.proofs.linear_laws.what_is_no_comparison.Goals as goal

pub returns : goal.returns
unfolding is_comparison form_of out-Term out hidden-the_row-Term-0 hidden
returns c = record {
  unequal = refl;
  name = refl;
  truths = refl;
  integers = refl;
}
