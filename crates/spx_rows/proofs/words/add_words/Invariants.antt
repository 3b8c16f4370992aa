use Rattle.std.proofs.Common.{◌+◌, bit_or, get_or}
use Rattle.spx_rows.specs.Bits.{Changed}
use Rattle.spx_rows.proofs.words.add_words.Given as goal

abbrev pub invariant-loop-j : goal.invariant-loop-j
invariant-loop-j l = Changed l.fn.words.items l.words.items l.to l.j (λ j old. bit_or old (get_or l.fn.words.items (l.from + j) 0))
