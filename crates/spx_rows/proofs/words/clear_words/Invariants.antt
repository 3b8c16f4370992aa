use Rattle.spx_rows.specs.Bits.{Changed}
use Rattle.spx_rows.proofs.words.clear_words.Given as goal

abbrev pub invariant-loop-j : goal.invariant-loop-j
invariant-loop-j l = Changed l.fn.words.items l.words.items l.to l.j (λ j old. 0)
