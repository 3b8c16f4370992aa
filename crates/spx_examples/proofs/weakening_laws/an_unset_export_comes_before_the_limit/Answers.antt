use Rattle.spx_examples.proofs.Weakened.{unset_keeps, unset_is_bad, unset_is_large}
use Rattle.spx_examples.proofs.weakening_laws.an_unset_export_comes_before_the_limit.Goals as goal

pub returns-clause-keeps : goal.returns-clause-keeps
returns-clause-keeps c = unset_keeps

pub returns-clause-fails : goal.returns-clause-fails
returns-clause-fails c = unset_is_bad

pub returns-clause-large : goal.returns-clause-large
returns-clause-large c = unset_is_large
