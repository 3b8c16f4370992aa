use Rattle.std.proofs.Common.{◌≡◌, false, take}
use Rattle.spx_core.specs.Commands.{commands, has_own_cut}
use Rattle.spx_formula.proofs.cut.own_cut.Given as goal

abbrev pub invariant-loop-i : goal.invariant-loop-i
invariant-loop-i l = has_own_cut (commands (take l.i l.stmts)) ≡ false
