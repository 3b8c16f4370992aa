use Rattle.spx_examples.proofs.Weakened.{one_bound}
use Rattle.spx_examples.proofs.weakening_laws.one_bound_is_as_much_as_two.Goals as goal

pub returns : goal.returns
returns c = one_bound c.calls_are_settled.ensures
