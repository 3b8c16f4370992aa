use Rattle.std.proofs.Common.{sym, ◌∙◌}
use Rattle.spx_core.specs.Commands.{commands}
use Rattle.spx_rules.proofs.ExitRules.{before_arms, before_else, elsewhere}
use Rattle.spx_rules.proofs.modes.arm_in.Goals as goal
use Rattle.spx_rules.proofs.modes.arm_in.Goals.{else-is_loop-via-then-is_loop+then-is_empty+else-is_empty-2, else-is_loop-via-then-is_loop+else-is_empty, else-is_loop-via-else-is_loop}

pub returns-else-is_loop : goal.returns-else-is_loop
returns-else-is_loop c =
    let here = c.args.around in
    let arms = c.args.arms.now in
    let otherwise = c.args.otherwise.now in
    elim c.else-is_loop.branch [
      | else-is_loop-via-then-is_loop+then-is_empty+else-is_empty-2 w ↦ sym (before_else here arms otherwise (sym w.is_empty-then-is_empty.ensures ∙ w.if-is_empty-2.false))
      | else-is_loop-via-then-is_loop+else-is_empty w ↦ sym (before_arms here arms (commands otherwise) (sym w.is_empty.ensures ∙ w.if-is_empty.false))
      | else-is_loop-via-else-is_loop w ↦ sym (elsewhere here _ (sym c.is_loop.ensures ∙ w.if-is_loop.false))
    ]
