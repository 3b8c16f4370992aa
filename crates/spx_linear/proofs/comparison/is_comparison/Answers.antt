use Rattle.std.proofs.Common.{sym}
use Rattle.spx_linear.proofs.TermForms.{only_infix}
use Rattle.spx_linear.proofs.comparison.is_comparison.Goals as goal

pub returns-in_default : goal.returns-in_default
returns-in_default c = sym (only_infix c.args.term.now c.in_default.not-Infix)
