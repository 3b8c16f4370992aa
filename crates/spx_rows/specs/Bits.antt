-- Rows of bits in a list of words.
use Rattle.std.specs.Prelude.{◌≡◌, ℕ, ◌+◌, ◌/◌, ◌%◌, ◌<◌, ◌≤◌, ◌⊎◌, Bool, List, length, get_or, nat_eq}
use Rattle.std.specs.Int.{bit_at}

-- how many words a row of n bits takes
abbrev pub width : ℕ → ℕ
width n = (n + 63) / 64

-- bit w of the row that begins at a word
abbrev pub bit : List ℕ → ℕ → ℕ → Bool
bit words start w = nat_eq (bit_at (get_or words (start + w / 64) 0) (w % 64)) 1

-- `count` words from `to` on have become f of their number, from 0 on, and of what they were; the others have stayed
pub record Changed (old new : List ℕ) (to count : ℕ) (f : ℕ → ℕ → ℕ) : Type 0 where
  pub size : length new ≡ length old
  pub done : (k j : ℕ) → k ≡ to + j → j < count → get_or new k 0 ≡ f j (get_or old k 0)
  pub kept : (k : ℕ) → (k < to) ⊎ (to + count ≤ k) → get_or new k 0 ≡ get_or old k 0
