use Rattle.spx_term.proofs.TableLaws.{tables_have_types}
use Rattle.spx_term.proofs.laws.tables_have_types.Goals as goal

pub returns : goal.returns
returns c = tables_have_types
