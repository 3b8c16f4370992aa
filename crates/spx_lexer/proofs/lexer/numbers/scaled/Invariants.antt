use Rattle.std.proofs.Common.{◌≡◌, ◌*◌, ◌≤◌, ◌^◌}
use Rattle.spx_lexer.proofs.lexer.numbers.scaled.Given as goal

abbrev pub invariant-loop-i : goal.invariant-loop-i
invariant-loop-i l = (l.product ≡ l.value * l.base ^ l.i) × (l.product ≤ 2 ^ 127)
