use Rattle.std.proofs.Common.{subst, sym}
use Rattle.spx_core.specs.Mirror.VarSets.{holds}
use Rattle.spx_passes.specs.Points.{Places, reached}
use Rattle.spx_passes.proofs.rows.reached.Goals as goal

pub returns-in_ok-only-clause-exact : goal.returns-in_ok-only-clause-exact
returns-in_ok-only-clause-exact c =
    subst (λ l. Places c.args.frame.now c.in_ok-only.only.items (reached l (λ v. holds c.args.targets.now.keys v))) (sym c.if-is_exit.true) c.in_ok-only.ensures.exact

pub returns-in_ok-to-clause-exact : goal.returns-in_ok-to-clause-exact
returns-in_ok-to-clause-exact c =
    subst (λ l. Places c.args.frame.now c.in_ok-to.to.items (reached l (λ v. holds c.args.targets.now.keys v))) (sym c.if-is_exit.false) c.in_ok-to.ensures.exact
