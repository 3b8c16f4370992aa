use Rattle.spx_examples.proofs.Weakened.{alternative_passes, next_alternative_keeps, others_pass}
use Rattle.spx_examples.proofs.weakening_laws.an_alternative_may_pass_the_limit.Goals as goal

pub returns-clause-passes : goal.returns-clause-passes
returns-clause-passes c = alternative_passes

pub returns-clause-keeps : goal.returns-clause-keeps
returns-clause-keeps c = next_alternative_keeps

pub returns-clause-others : goal.returns-clause-others
returns-clause-others c = others_pass
