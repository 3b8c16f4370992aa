use Rattle.std.proofs.Common.{◌≡◌, ◌+◌, ◌-◌, ◌≤◌, length}
use Rattle.spx_lexer.specs.Pieces.{numeral_rest_len}
use Rattle.spx_lexer.proofs.lexer.numbers.numeral_rest_len.Given as goal

abbrev pub invariant-loop-rest : goal.invariant-loop-rest
invariant-loop-rest l = (length l.bytes - length l.rest + numeral_rest_len l.base l.rest ≡ numeral_rest_len l.base l.bytes) × (length l.rest ≤ length l.bytes)

abbrev pub decreases-loop-rest : goal.decreases-loop-rest
decreases-loop-rest l = length l.rest
