-- A single row of bits as a row of truth values.
use Rattle.std.proofs.Common.{◌≡◌, ℕ, ◌+◌, ◌-◌, ◌*◌, ◌/◌, ◌%◌, ◌^◌, ◌<◌, ◌≤◌, ◌⊎◌, ◌↔◌, inl, inr, Bool, List, [], ◌++◌, IsTrue, length, get_or, set, take, drop, bit_or, bit_and, sym, ◌∙◌, ap, subst, ⊎_elim, arith, nat_eq}
use Rattle.std.specs.Int.{bit_at}
use Rattle.std.proofs.lemmas.Bool.{cases_lt, eqb-true, eq-eqb}
use Rattle.std.proofs.lemmas.List.{get_or_default, get_or-take, get_or-drop}
use Rattle.std.proofs.lemmas.List.FromFn.{length-map-range_with_len}
use Rattle.std.proofs.lemmas.Nat.Bits.{bit_at_and, bit_at-lt, shr_and_one}
use Rattle.spx_rows.specs.Relations.{Matrix, row_of, table, Has, Holds}
use Rattle.spx_rows.specs.Bits.{Changed, width, bit}
use Rattle.spx_rows.proofs.BitRows.{bits, has_row, holds_table, size_of, is_set, in_row, with_bit, bit_more, bit_or_at, none_set, unset_in_zero}

pub row_size : (n : ℕ) (f : ℕ → Bool) (row : List Bool) → row_of n f ≡ row → n ≡ length row
row_size n f row e = sym (length-map-range_with_len f 0 n) ∙ ap length e

pub none_in_row : (n : ℕ) (words : List ℕ) → ((k : ℕ) → get_or words k 0 ≡ 0) → (w : ℕ) → Has (row_of n (bit words 0)) w → ⊥
none_in_row n words none w h = none_set words none 0 w ((has_row n (bit words 0) w).0 h).1

-- a bit of the only row
set_first : (words : List ℕ) (b : ℕ) → IsTrue (bit words 0 b) ↔ (bit_at (get_or words (b / 64) 0) (b % 64) ≡ 1)
set_first words b =
    let e : 0 + b / 64 ≡ b / 64 = omega arith in
    subst (λ k. IsTrue (bit words 0 b) ↔ (bit_at (get_or words k 0) (b % 64) ≡ 1)) e (is_set words 0 b)

added : (n : ℕ) (words : List ℕ) (w : ℕ) → w < n → length words ≡ width n →
    (b : ℕ) → Has (row_of n (bit (with_bit words (w / 64) (w % 64)) 0)) b ↔ (Has (row_of n (bit words 0)) b ⊎ (w ≡ b))
added n words w wn len b =
    let inside : w / 64 < length words = let p = in_row n w wn in omega arith in
    let m = bit_more words (w / 64) (w % 64) (b / 64) (b % 64) inside (omega arith) (omega arith) in
    let now = with_bit words (w / 64) (w % 64) in (
      λ h. let p = (has_row n (bit now 0) b).0 h in ⊎_elim
          (λ q. inl ((has_row n (bit words 0) b).1 (p.0, (set_first words b).1 q)))
          (λ q. inr (omega (arith, q.0, q.1)))
          (m.0 ((set_first now b).0 p.1)),
      λ h. ⊎_elim
          (λ q. let p = (has_row n (bit words 0) b).0 q in (has_row n (bit now 0) b).1 (p.0, (set_first now b).1 (m.1 (inl ((set_first words b).0 p.1)))))
          (λ is. (has_row n (bit now 0) b).1 (subst (λ x. x < n) is wn, (set_first now b).1 (m.1 (inr (ap (λ x. x / 64) (sym is), ap (λ x. x % 64) (sym is))))))
          h,
    )

-- the same where the code has its own name for the row
module _ (n : ℕ) (row : List Bool) (words : List ℕ) (is : row_of n (bit words 0) ≡ row) where
  below : (w : ℕ) → w < length row → w < n
  below w lt = subst (λ k. w < k) (sym (row_size n (bit words 0) row is)) lt

  here : (w x : ℕ) → w < length row → length words ≡ width n → x ≡ get_or words (w / 64) x → x ≡ get_or words (w / 64) 0
  here w x wm len r = let p = in_row n w (below w wm) in r ∙ get_or_default words (w / 64) x 0 (omega arith)

  pub has_at : (w x : ℕ) → w < length row → length words ≡ width n → x ≡ get_or words (w / 64) x → IsTrue (nat_eq (bit_and (x / 2 ^ (w % 64)) 1) 1) ↔ Has row w
  has_at w x wm len r =
      let same : bit_and (x / 2 ^ (w % 64)) 1 ≡ bit_at (get_or words (w / 64) 0) (w % 64) = shr_and_one x (w % 64) ∙ ap (λ y. bit_at y (w % 64)) (here w x wm len r) in
      subst (λ t. IsTrue (nat_eq (bit_and (x / 2 ^ (w % 64)) 1) 1) ↔ Has t w) is (
        λ h. (has_row n (bit words 0) w).1 (below w wm, (set_first words w).1 (sym same ∙ eqb-true _ _ h)),
        λ h. eq-eqb _ _ (same ∙ (set_first words w).0 ((has_row n (bit words 0) w).0 h).1),
      )

  -- none of the numbers of a word that is 0 is there
  pub none_at : (k x : ℕ) → k < width (length row) → length words ≡ width n → x ≡ get_or words k x → x ≡ 0 → (w : ℕ) → w / 64 ≡ k → Has row w → ⊥
  none_at k x lt len r empty w at h =
      let inside : k < length words = subst (λ s. k < s) (ap width (sym (row_size n (bit words 0) row is)) ∙ sym len) lt in
      let p = (has_row n (bit words 0) w).0 (subst (λ t. Has t w) (sym is) h) in
      unset_in_zero (get_or words (w / 64) 0) (w % 64) (ap (λ j. get_or words j 0) at ∙ sym (r ∙ get_or_default words k x 0 inside) ∙ empty) ((set_first words w).0 p.1)

  pub add_at : (w x : ℕ) → w < length row → length words ≡ width n → x ≡ get_or words (w / 64) x →
      (b : ℕ) → Has (row_of n (bit (set words (w / 64) (bit_or x (1 * 2 ^ (w % 64) % 2 ^ 64))) 0)) b ↔ (Has row b ⊎ (w ≡ b))
  add_at w x wm len r = rw (here w x wm len r, ← is) (added n words w (below w wm) len)

-- a row to which words are added
words_gained : (n from : ℕ) (old new words : List ℕ) → Changed old new 0 (width n) (λ j x. bit_or x (get_or words (from + j) 0)) →
    (b : ℕ) → Has (row_of n (bit new 0)) b ↔ (Has (row_of n (bit old 0)) b ⊎ ((b < n) × IsTrue (bit words from b)))
words_gained n from old new words c b =
    let e = bit_or_at (get_or old (b / 64) 0) (get_or words (from + b / 64) 0) (b % 64) in (
      λ h. let p = (has_row n (bit new 0) b).0 h in ⊎_elim
          (λ q. inl ((has_row n (bit old 0) b).1 (p.0, (set_first old b).1 q)))
          (λ q. inr (p.0, (is_set words from b).1 q))
          (e.0 (ap (λ x. bit_at x (b % 64)) (sym (here p.0)) ∙ (set_first new b).0 p.1)),
      λ h. ⊎_elim
          (λ q. let p = (has_row n (bit old 0) b).0 q in gained p.0 (e.1 (inl ((set_first old b).0 p.1))))
          (λ p. gained p.0 (e.1 (inr ((is_set words from b).0 p.1))))
          h,
    )
  where
    here : b < n → get_or new (b / 64) 0 ≡ bit_or (get_or old (b / 64) 0) (get_or words (from + b / 64) 0)
    here lt = c.done (b / 64) (b / 64) (omega arith) (in_row n b lt)

    gained : b < n → bit_at (bit_or (get_or old (b / 64) 0) (get_or words (from + b / 64) 0)) (b % 64) ≡ 1 → Has (row_of n (bit new 0)) b
    gained lt h = (has_row n (bit new 0) b).1 (lt, (set_first new b).1 (ap (λ x. bit_at x (b % 64)) (here lt) ∙ h))

pub words_added : (n : ℕ) (row : List Bool) (old new words : List ℕ) (from count : ℕ) → row_of n (bit old 0) ≡ row → count ≡ width n → Changed old new 0 count (λ j x. bit_or x (get_or words (from + j) 0)) →
    (b : ℕ) → Has (row_of n (bit new 0)) b ↔ (Has row b ⊎ ((b < length row) × IsTrue (bit words from b)))
words_added n row old new words from count is wide c b =
    rw (← row_size n (bit old 0) row is, ← is) (words_gained n from old new words (rw wide at c) b)

-- a bit of a row of a relation
pub row_bits : (n : ℕ) (m : Matrix) (words : List ℕ) → table n (bits n words) ≡ m → (u at w : ℕ) → u < length m → at ≡ u * width n → ((w < length m) × IsTrue (bit words at w)) ↔ Holds m u w
row_bits n m words is u at w um e =
    let size = size_of n (bits n words) m is in
    let un : u < n = subst (λ k. u < k) (sym size) um in
    rw (e, ← size, ← is) (λ h. (holds_table n (bits n words) u w).1 (un, h.0, h.1), λ h. let p = (holds_table n (bits n words) u w).0 h in (p.1, p.2))

-- what is copied from a row of a relation
pub copied : (n u row count : ℕ) (words new : List ℕ) → u < n → row ≡ u * width n → count ≡ width n → ((j : ℕ) → j < count → get_or new j 0 ≡ get_or words (row + j) 0) →
    (w : ℕ) → Has (row_of n (bit new 0)) w ↔ Holds (table n (bits n words)) u w
copied n u row count words new un at wide same w = (
  λ h. let p = (has_row n (bit new 0) w).0 h in (holds_table n (bits n words) u w).1 (un, p.0, (is_set words (u * width n) w).1 (sym (here p.0) ∙ (set_first new w).0 p.1)),
  λ h. let p = (holds_table n (bits n words) u w).0 h in (has_row n (bit new 0) w).1 (p.1, (set_first new w).1 (here p.1 ∙ (is_set words (u * width n) w).0 p.2)),
)
  where
    here : w < n → bit_at (get_or new (w / 64) 0) (w % 64) ≡ bit_at (get_or words (u * width n + w / 64) 0) (w % 64)
    here lt = ap (λ x. bit_at x (w % 64)) (same (w / 64) (let p = in_row n w lt in omega arith) ∙ ap (λ k. get_or words (k + w / 64) 0) at)

-- the words that are copied
slice_at : (new old ws words : List ℕ) (row count : ℕ) → new ≡ old ++ take (row + count - row) (drop row ws) → old ≡ [] → ws ≡ words → (j : ℕ) → j < count → get_or new j 0 ≡ get_or words (row + j) 0
slice_at new old ws words row count e none same j lt =
    ap (λ l. get_or l j 0) (e ∙ ap (λ l. l ++ take (row + count - row) (drop row ws)) none) ∙ get_or-take (row + count - row) (drop row ws) j 0 (omega arith) ∙ get_or-drop row ws j 0 ∙ ap (λ l. get_or l (row + j) 0) same

pub copied_row : (n : ℕ) (m : Matrix) (words : List ℕ) → table n (bits n words) ≡ m → (u row count : ℕ) (r : List Bool) (new old ws : List ℕ) → u < length m → row ≡ u * width n → count ≡ width n →
    new ≡ old ++ take (row + count - row) (drop row ws) → old ≡ [] → ws ≡ words → r ≡ row_of n (bit new 0) → (length r ≡ length m) × ((w : ℕ) → Has r w ↔ Holds m u w)
copied_row n m words is u row count r new old ws um at wide e none same made =
    let size = size_of n (bits n words) m is in (
      sym (row_size n (bit new 0) r (sym made)) ∙ size,
      λ w. rw (made, ← is) (copied n u row count words new (subst (λ k. u < k) (sym size) um) at wide (slice_at new old ws words row count e none same) w),
    )

-- a bit of a conjunction
bit_and_at : (x y i : ℕ) → (bit_at (bit_and x y) i ≡ 1) ↔ ((bit_at x i ≡ 1) × (bit_at y i ≡ 1))
bit_and_at x y i = let e = bit_at_and x y i in let a = bit_at-lt x i in let b = bit_at-lt y i in
    (λ h. (omega arith, omega arith), λ h. omega (arith, h.0, h.1))

-- two rows have no number in common in their first k words
abbrev pub Apart : (a b : List Bool) → ℕ → Type 0
Apart a b k = (w : ℕ) → w / 64 < k → Has a w → Has b w → ⊥

-- one of the bits of two words, in place k of n bits, is in both
abbrev pub Shared : (n k x y : ℕ) → Type 0
Shared n k x y = (i : ℕ) × (i < 64) × (i < n - k * 64) × (bit_at (bit_and x y) i ≡ 1)

abbrev first_row : ℕ → List ℕ → List Bool
first_row n words = row_of n (bit words 0)

shared_in : (n : ℕ) (a b : List ℕ) (k : ℕ) → Shared n k (get_or a k 0) (get_or b k 0) → (w : ℕ) × Has (first_row n a) w × Has (first_row n b) w
shared_in n a b k (i, il, lt, h) =
    let both = (bit_and_at (get_or a k 0) (get_or b k 0) i).0 h in (
      k * 64 + i,
      (has_row n (bit a 0) (k * 64 + i)).1 (omega arith, (set_first a (k * 64 + i)).1 (put a both.0)),
      (has_row n (bit b 0) (k * 64 + i)).1 (omega arith, (set_first b (k * 64 + i)).1 (put b both.1)),
    )
  where
    put : (words : List ℕ) → bit_at (get_or words k 0) i ≡ 1 → bit_at (get_or words ((k * 64 + i) / 64) 0) ((k * 64 + i) % 64) ≡ 1
    put words e = let d : (k * 64 + i) / 64 ≡ k = omega arith in let m : (k * 64 + i) % 64 ≡ i = omega arith in rw (d, m) e

apart_more : (n : ℕ) (a b : List ℕ) (k : ℕ) → (Shared n k (get_or a k 0) (get_or b k 0) → ⊥) → Apart (first_row n a) (first_row n b) k → Apart (first_row n a) (first_row n b) (k + 1)
apart_more n a b k none before w lt p q = ⊎_elim
    (λ less. before w less p q)
    (λ past. let pa = (has_row n (bit a 0) w).0 p in let pb = (has_row n (bit b 0) w).0 q in let is : w / 64 ≡ k = omega arith in
    none (
      w % 64,
      omega arith,
      omega (arith, pa.0),
      (bit_and_at (get_or a k 0) (get_or b k 0) (w % 64)).1 (
        ap (λ j. bit_at (get_or a j 0) (w % 64)) (sym is) ∙ (set_first a w).0 pa.1,
        ap (λ j. bit_at (get_or b j 0) (w % 64)) (sym is) ∙ (set_first b w).0 pb.1,
      ),
    ))
    (cases_lt (w / 64) k)

-- the same where the code has its own names for the rows and the words
module _ (n m : ℕ) (a b : List Bool) (xs ys : List ℕ) (is : row_of n (bit xs 0) ≡ a) (js : row_of m (bit ys 0) ≡ b) (same : length a ≡ length b) (lx : length xs ≡ width n) (ly : length ys ≡ width m) where
  sizes : m ≡ n
  sizes = row_size m (bit ys 0) b js ∙ sym same ∙ sym (row_size n (bit xs 0) a is)

  second : first_row n ys ≡ b
  second = subst (λ k. first_row k ys ≡ b) sizes js

  words : (k x y : ℕ) → k < length xs → x ≡ get_or xs k x → y ≡ get_or ys k y → (x ≡ get_or xs k 0) × (y ≡ get_or ys k 0)
  words k x y lt ex ey = (ex ∙ get_or_default xs k x 0 lt, ey ∙ get_or_default ys k y 0 (subst (λ s. k < s) (lx ∙ ap width (sym sizes) ∙ sym ly) lt))

  pub meets_at : (k x y : ℕ) → k < length xs → x ≡ get_or xs k x → y ≡ get_or ys k y → Shared n k x y → (w : ℕ) × Has a w × Has b w
  meets_at k x y lt ex ey s = let e = words k x y lt ex ey in rw (← is, ← second) (shared_in n xs ys k (rw (e.0, e.1) at s))

  pub apart_at : (k x y : ℕ) → k < length xs → x ≡ get_or xs k x → y ≡ get_or ys k y → (Shared n k x y → ⊥) → Apart a b k → Apart a b (k + 1)
  apart_at k x y lt ex ey none before =
      let e = words k x y lt ex ey in rw (← is, ← second) (apart_more n xs ys k (rw (e.0, e.1) at none) (rw (← is, ← second) at before))

  pub apart_all : (k : ℕ) → length xs ≤ k → Apart a b k → (w : ℕ) × Has a w × Has b w → ⊥
  apart_all k all g (w, p, q) =
      let lt = ((has_row n (bit xs 0) w).0 (rw is p)).0 in let r = in_row n w lt in g w (omega arith) p q
