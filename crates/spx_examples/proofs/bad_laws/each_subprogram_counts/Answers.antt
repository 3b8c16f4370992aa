use Rattle.spx_examples.proofs.BadRuns.{last_fails, first_fails}
use Rattle.spx_examples.proofs.bad_laws.each_subprogram_counts.Goals as goal

pub returns-clause-last : goal.returns-clause-last
returns-clause-last c = last_fails

pub returns-clause-first : goal.returns-clause-first
returns-clause-first c = first_fails
