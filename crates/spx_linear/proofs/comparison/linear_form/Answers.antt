use Rattle.spx_linear.proofs.TermForms.{only_infix}
use Rattle.spx_linear.proofs.comparison.linear_form.Goals as goal

pub unreachable-requires-in_default : goal.unreachable-requires-in_default
unreachable-requires-in_default c = let is = only_infix c.args.term.now c.in_default.not-Infix in absurd (cc)
