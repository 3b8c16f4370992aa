use Rattle.std.proofs.Common.{◌≡◌, drop, map}
use Rattle.spx_core.specs.Commands.{arm_before, arms_before, commands}
use Rattle.spx_core.specs.Obeyed.{obeyed_alternatives, obeyed_command}
use Rattle.spx_typing.specs.Choices.{alternatives_in}
use Rattle.spx_rules.proofs.modes.+obey_stmt.Given as goal

abbrev pub invariant-obey_stmts-loop-at : goal.invariant-obey_stmts-loop-at
invariant-obey_stmts-loop-at l = obeyed_command l.around (commands l.stmts) ≡ obeyed_command l.around (commands (drop l.at l.stmts))

abbrev pub invariant-obey_arms-loop-at : goal.invariant-obey_arms-loop-at
invariant-obey_arms-loop-at l =
    obeyed_command l.fn.around (arms_before (commands l.otherwise) (map arm_before l.arms)) ≡ obeyed_command l.here (arms_before (commands l.otherwise) (map arm_before (drop l.at l.arms)))

abbrev pub invariant-obey_alternatives-loop-alternative : goal.invariant-obey_alternatives-loop-alternative
invariant-obey_alternatives-loop-alternative l = obeyed_alternatives (alternatives_in l.alternatives) ≡ obeyed_alternatives (alternatives_in (drop l.alternative-index l.alternatives))
