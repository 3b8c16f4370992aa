use Rattle.std.proofs.Common.{◌≡◌, drop, map}
use Rattle.spx_core.specs.Commands.{Command, arm_before, arms_before, commands}
use Rattle.spx_core.specs.Statements.{judged_alternatives, judged_command}
use Rattle.spx_typing.specs.Choices.{alternatives_in}
use Rattle.spx_typing.proofs.statement.+judge_stmt.Given as goal

abbrev pub invariant-judge_stmts-loop-stmt : goal.invariant-judge_stmts-loop-stmt
invariant-judge_stmts-loop-stmt l = judged_command (commands l.stmts) ≡ judged_command (commands (drop l.stmt-index l.stmts))

abbrev pub invariant-judge_arms-loop-arm : goal.invariant-judge_arms-loop-arm
invariant-judge_arms-loop-arm l =
    (otherwise : Command) → judged_command (arms_before otherwise (map arm_before l.arms)) ≡ judged_command (arms_before otherwise (map arm_before (drop l.arm-index l.arms)))

abbrev pub invariant-judge_alternatives-loop-alternative : goal.invariant-judge_alternatives-loop-alternative
invariant-judge_alternatives-loop-alternative l = judged_alternatives l.of (alternatives_in l.alternatives) ≡ judged_alternatives l.of (alternatives_in (drop l.alternative-index l.alternatives))
