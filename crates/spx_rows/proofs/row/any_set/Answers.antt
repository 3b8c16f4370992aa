use Rattle.std.proofs.Common.{arith, w64, ⊎_elim}
use Rattle.std.proofs.lemmas.Bool.{cases_lt, ltb-true, lt-ltb}
use Rattle.std.proofs.lemmas.Nat.Bits.{bit_at-trailing_zeros}
use Rattle.spx_rows.proofs.row.any_set.Goals as goal

pub returns-then-word-ne0 : goal.returns-then-word-ne0
returns-then-word-ne0 c =
    let low = bit_at-trailing_zeros w64 c.args.word (omega arith) c.ranges.word.fits in (
      λ h. (_, low.0, ltb-true _ _ h, low.1),
      λ (i, _, lt, is). lt-ltb _ _ (⊎_elim (λ less. let z = low.2 i less in absurd (omega arith)) (λ le. omega arith) (cases_lt i _)),
    )
