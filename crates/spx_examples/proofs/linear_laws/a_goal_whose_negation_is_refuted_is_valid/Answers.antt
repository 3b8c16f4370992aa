use Rattle.spx_term.specs.Negation.{opposite}
use Rattle.spx_term.proofs.NegationLaws.{negated-Infix}
use Rattle.spx_examples.proofs.LinearMeaning.{fits_where_they_hold}
use Rattle.spx_examples.proofs.linear_laws.a_goal_whose_negation_is_refuted_is_valid.Goals as goal

pub returns : goal.returns
unfolding opposite
returns c = record {
  negation = negated-Infix _ _ _;
  valid = fits_where_they_hold;
}
