-- A write after another.
use Rattle.std.proofs.Common.{◌≡◌, ℕ, ◌+◌, List, ◌++◌, take, drop, Option, Some, None, refl, ap, ◌∙◌, sym, append_assoc}
use Rattle.std.proofs.Math.Seq.{take-add}
use Rattle.spx_text.specs.Writes.{after}

pub after-more : (before : Option (List ℕ)) (bytes : List ℕ) (n m : ℕ) → after (after before (take n bytes)) (take m (drop n bytes)) ≡ after before (take (n + m) bytes)
after-more None bytes n m = refl
after-more (Some taken) bytes n m =
    ap (λ (l : List ℕ). Some l) (append_assoc taken (take n bytes) (take m (drop n bytes)) ∙ ap (λ (l : List ℕ). taken ++ l) (sym (take-add n m bytes)))
