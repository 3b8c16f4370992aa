use Rattle.spx_num.specs.Widths.{fits}
use Rattle.spx_tree.specs.declared.expression.InfixOp.TheVariants as op
use Rattle.spx_examples.specs.Assertions.{false_at}
use Rattle.spx_examples.specs.Operators.{true_at}
use Rattle.spx_examples.proofs.Operators.{judged_of_literals}
use Rattle.spx_examples.proofs.assertion_laws.implications_of_literals_are_static.Goals as goal

pub returns-clause-true_false : goal.returns-clause-true_false
unfolding fits
returns-clause-true_false c = judged_of_literals op.Implies (true_at 1 1) (false_at 12)

pub returns-clause-false_false : goal.returns-clause-false_false
unfolding fits
returns-clause-false_false c = judged_of_literals op.Implies (false_at 1) (false_at 12)

pub returns-clause-true_true : goal.returns-clause-true_true
unfolding fits
returns-clause-true_true c = judged_of_literals op.Implies (true_at 1 1) (true_at 1 12)

pub returns-clause-not_same : goal.returns-clause-not_same
unfolding fits
returns-clause-not_same c = judged_of_literals op.Equivalent (false_at 1) (true_at 1 12)

pub returns-clause-same : goal.returns-clause-same
unfolding fits
returns-clause-same c = judged_of_literals op.Equivalent (false_at 1) (false_at 12)
