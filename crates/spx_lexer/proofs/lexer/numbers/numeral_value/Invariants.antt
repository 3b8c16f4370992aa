use Rattle.std.proofs.Common.{◌≡◌, ◌≤◌, ◌^◌, length}
use Rattle.std.specs.List.{filter}
use Rattle.std.specs.Str.Parse.{digits_value_after}
use Rattle.spx_tree.specs.Numbers.{is_no_underscore, numeral_value}
use Rattle.spx_lexer.proofs.lexer.numbers.numeral_value.Given as goal

abbrev pub invariant-loop-rest : goal.invariant-loop-rest
invariant-loop-rest l = (digits_value_after l.base l.value (filter is_no_underscore l.rest) ≡ numeral_value l.base l.numeral) × (l.value ≤ 2 ^ 127)

abbrev pub decreases-loop-rest : goal.decreases-loop-rest
decreases-loop-rest l = length l.rest
