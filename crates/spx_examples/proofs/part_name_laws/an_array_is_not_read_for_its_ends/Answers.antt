use Rattle.std.proofs.Common.{[]}
use Rattle.spx_core.specs.Reads.{names_step}
use Rattle.spx_core.proofs.Callers.Expressions.{fold-ArrayAttribute}
use Rattle.spx_meaning.specs.Evaluation.{eval-ArrayAttribute}
use Rattle.spx_formula.specs.Terms.{now_term, term_with-ArrayAttribute}
use Rattle.spx_paths.specs.Checks.{checks-ArrayAttribute}
use Rattle.spx_examples.proofs.part_name_laws.an_array_is_not_read_for_its_ends.Goals as goal

pub returns-clause-value : goal.returns-clause-value
returns-clause-value c f n s prefix = eval-ArrayAttribute f n s prefix _ _

pub returns-clause-reads : goal.returns-clause-reads
returns-clause-reads c prefix = fold-ArrayAttribute names_step prefix _ _

pub returns-clause-term : goal.returns-clause-term
returns-clause-term c p entered prefix = term_with-ArrayAttribute (now_term p) entered prefix _ _

pub returns-clause-check : goal.returns-clause-check
returns-clause-check c p entered prefix rest = checks-ArrayAttribute p entered [] prefix _ _ rest
