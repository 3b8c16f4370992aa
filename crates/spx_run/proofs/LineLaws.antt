-- The first line of a text, and the lines after it.
use Rattle.std.proofs.Common.{◌≡◌, ℕ, suc, ◌+◌, ◌<◌, ◌≤◌, Bool, true, false, not, cond, eqb, List, [], ◌∷◌, length, take, drop, refl, sym, ap, subst, add-one, arith}
use Rattle.std.specs.Prelude.{◌==◌, nat_lt, Some, None}
use Rattle.std.specs.List.{position}
use Rattle.std.proofs.lemmas.Bool.{ltb-false}
use Rattle.std.proofs.lemmas.List.Sums.{prefix_len-le-length}
use Rattle.spx_run.specs.Lines.{lines_of, with_byte}
use Rattle.spx_run.specs.Mirror.{line_len}

BeginsWithLine : List ℕ → ℕ → Type 0
BeginsWithLine bytes n = lines_of bytes ≡ take n bytes ∷ lines_of (drop (suc n) bytes)

-- a byte that ends no line makes the first line longer
longer : (b : ℕ) (bytes : List ℕ) (n m : ℕ) → m ≡ suc n → lines_of bytes ≡ take n bytes ∷ lines_of (drop (suc n) bytes) → with_byte b (lines_of bytes) ≡ take m (b ∷ bytes) ∷ lines_of (drop (suc m) (b ∷ bytes))
longer b bytes n m is first = subst (λ (k : ℕ). with_byte b (lines_of bytes) ≡ take k (b ∷ bytes) ∷ lines_of (drop (suc k) (b ∷ bytes))) (sym is) (ap (with_byte b) first)

one_more : (n : ℕ) → 1 + n ≡ suc n
one_more n = omega arith

begins : (b : ℕ) (bytes : List ℕ) → lines_of (b ∷ bytes) ≡ take (line_len (b ∷ bytes)) (b ∷ bytes) ∷ lines_of (drop (suc (line_len (b ∷ bytes))) (b ∷ bytes))
begins b [] =
    elim (eqb b 10) as (λ t. cond t ([] ∷ []) (with_byte b []) ≡ take (cond (not t) (1 + 0) 0) (b ∷ []) ∷ lines_of (drop (suc (cond (not t) (1 + 0) 0)) (b ∷ []))) [ true ↦ refl | false ↦ refl ]
begins b (c ∷ bytes) =
    elim (eqb b 10) as (λ t. cond t ([] ∷ lines_of (c ∷ bytes)) (with_byte b (lines_of (c ∷ bytes))) ≡ take (cond (not t) (1 + line_len (c ∷ bytes)) 0) (b ∷ c ∷ bytes) ∷ lines_of (drop (suc (cond (not t) (1 + line_len (c ∷ bytes)) 0)) (b ∷ c ∷ bytes))) [
      | true ↦ refl
      | false ↦ longer b (c ∷ bytes) (line_len (c ∷ bytes)) (1 + line_len (c ∷ bytes)) (one_more (line_len (c ∷ bytes))) (begins c bytes)
    ]

-- the lines of a text that is not empty: what comes before the first LF, and the lines of what comes after it
pub first_line : (bytes : List ℕ) → 0 < length bytes → lines_of bytes ≡ take (line_len bytes) bytes ∷ lines_of (drop (line_len bytes + 1) bytes)
first_line [] some = absurd (omega arith)
first_line (b ∷ bytes) some = rw add-one (begins b bytes)

-- ---- the end of the first line

found_by : (n len : ℕ) (less : Bool) → Some len ≡ cond less (Some n) None → len ≡ n
found_by n len true is = cc
found_by n len false is = absurd cc

-- the position of the first LF is the length of the first line
pub len_at : (bytes : List ℕ) (len : ℕ) → Some len ≡ position (λ b. b == 10) bytes → len ≡ line_len bytes
len_at bytes len is = found_by (line_len bytes) len (nat_lt (line_len bytes) (length bytes)) is

nowhere_by : (n size : ℕ) (less : Bool) → nat_lt n size ≡ less → None ≡ cond less (Some n) None → size ≤ n
nowhere_by n size true test is = absurd cc
nowhere_by n size false test is = ltb-false n size test

-- where there is no LF, all is the first line
pub len_of_all : (bytes : List ℕ) → None ≡ position (λ b. b == 10) bytes → length bytes ≡ line_len bytes
len_of_all bytes is =
    let most = prefix_len-le-length (λ b. not (b == 10)) bytes in
    let least = nowhere_by (line_len bytes) (length bytes) (nat_lt (line_len bytes) (length bytes)) refl is in
    omega arith
