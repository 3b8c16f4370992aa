use Rattle.std.proofs.Common.{refl}
use denote.Hole.Carrier.{hidden}
use Rattle.spx_core.specs.declared.expression.CoreExpr.TheBlock.{hidden-the_row-CoreExpr-0}
use Rattle.spx_examples.proofs.Computing.{judged_is}
use Rattle.spx_examples.proofs.part_name_laws.an_array_has_the_ends_of_its_index.Goals as goal

pub returns-clause-object : goal.returns-clause-object
returns-clause-object c = refl

pub returns-clause-in_declaration : goal.returns-clause-in_declaration
returns-clause-in_declaration c = refl

pub returns-clause-of_type : goal.returns-clause-of_type
returns-clause-of_type c = refl

pub returns-clause-no_end : goal.returns-clause-no_end
returns-clause-no_end c = refl

pub returns-clause-first : goal.returns-clause-first
unfolding hidden-the_row-CoreExpr-0 hidden
returns-clause-first c = judged_is _

pub returns-clause-last : goal.returns-clause-last
unfolding hidden-the_row-CoreExpr-0 hidden
returns-clause-last c = judged_is _

pub returns-clause-not_static : goal.returns-clause-not_static
unfolding hidden-the_row-CoreExpr-0 hidden
returns-clause-not_static c = judged_is _
