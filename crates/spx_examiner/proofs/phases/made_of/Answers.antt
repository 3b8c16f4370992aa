use Rattle.std.proofs.Common.{subst}
use Rattle.spx_examiner.specs.Outcome.{IsFirstBreach}
use Rattle.spx_examiner.proofs.phases.made_of.Goals as goal

pub returns-clause-broken : goal.returns-clause-broken
returns-clause-broken c = λ breach is. subst (λ units. IsFirstBreach units breach) c.as_slice.ensures (c.obeyed.ensures.broken breach is)
