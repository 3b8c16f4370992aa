use Rattle.std.proofs.Common.{true, false}
use Rattle.spx_tree.specs.declared.expression.InfixOp.TheVariants as op
use Rattle.spx_term.specs.Meaning.{value_of_op}
use Rattle.spx_examples.proofs.Operators.{meant_truths}
use Rattle.spx_examples.proofs.assertion_laws.implications_have_tables_in_annotations.Goals as goal

pub returns-clause-implies : goal.returns-clause-implies
unfolding value_of_op
returns-clause-implies c f p q = meant_truths f op.Implies p q

pub returns-clause-equivalent : goal.returns-clause-equivalent
unfolding value_of_op
returns-clause-equivalent c f true true = meant_truths f op.Equivalent true true
returns-clause-equivalent c f true false = meant_truths f op.Equivalent true false
returns-clause-equivalent c f false true = meant_truths f op.Equivalent false true
returns-clause-equivalent c f false false = meant_truths f op.Equivalent false false
