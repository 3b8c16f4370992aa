-- Rows of bits as rows of truth values.
use Rattle.std.proofs.Common.{◌≡◌, ◌≢◌, ℕ, zero, suc, replicate, take, ◌++◌, w64, get_or-set_same, get_or-set_other, ◌+◌, ◌*◌, ◌/◌, ◌%◌, ◌^◌, ◌<◌, ◌≤◌, ◌⊎◌, ◌↔◌, inl, inr, Bool, false, List, [], IsTrue, length, get_or, set, bit_or, bit_and, refl, sym, ◌∙◌, ap, subst, ⊎_elim, arith, nat_eq, true≢false}
use Rattle.std.specs.Int.{bit_at}
use Rattle.std.specs.Int.Bits.{or_zero_l}
use Rattle.std.proofs.lemmas.Bool.{cases_lt, cases_eq, eqb-true, eq-eqb}
use Rattle.std.proofs.lemmas.List.{get_or_past, get_or_default}
use Rattle.std.proofs.lemmas.List.FromFn.{length-map-range_with_len, get_or-map-range_with_len}
use Rattle.std.proofs.lemmas.Nat.{div-mul-add, mod-mul-add}
use Rattle.std.proofs.lemmas.Nat.Bits.{bit_at_or, bit_at-lt, bit_at-zero, bit_at_set_same, bit_at_set_other, shr_and_one}
use Rattle.std.proofs.lemmas.Grind.{common_steps}
use Rattle.spx_rows.specs.Relations.{Matrix, row_of, table, Has, Holds, Gains}
use Rattle.spx_rows.specs.Bits.{Changed, width, bit}

-- the bits of rows, one row after another
abbrev pub bits : ℕ → List ℕ → ℕ → ℕ → Bool
bits n words u = bit words (u * width n)

pub size_of : (n : ℕ) (f : ℕ → ℕ → Bool) (m : Matrix) → table n f ≡ m → n ≡ length m
size_of n f m e = sym (length-map-range_with_len (λ u. row_of n (f u)) 0 n) ∙ ap length e

-- a row lies within the rows
pub row_fits : (n w u : ℕ) → u < n → u * w + w ≤ n * w
row_fits n w u lt = let h : (u + 1) * w ≤ n * w = grind arith in omega (arith, h)

-- rows of one width do not overlap
pub apart : (n t s row from w : ℕ) → row ≡ t * width n → from ≡ s * width n → w ≡ width n → from < row → from + w ≤ row
apart n t s row from w e g f lt = ⊎_elim
    (λ less. let h = row_fits t (width n) s less in omega arith)
    (λ le. let h : t * width n ≤ s * width n = grind arith in absurd (omega arith))
    (cases_lt s t)

-- a loop has changed one word more
pub changed_more : (old now : List ℕ) (to j x : ℕ) (f : ℕ → ℕ → ℕ) → Changed old now to j f → to + j < length old → x ≡ f j (get_or old (to + j) 0) → Changed old (set now (to + j) x) to (j + 1) f
changed_more old now to j x f c lt e = record {
  size = grind (arith, common_steps, c.size);
  done = λ k i at less. ⊎_elim
      (λ below. grind (arith, common_steps, c.done k i at below))
      (λ past. let is : i ≡ j = omega arith in let here : k ≡ to + j = omega arith in
      let new : get_or (set now (to + j) x) k 0 ≡ x = grind (arith, common_steps, c.size) in cc)
      (cases_lt i j);
  kept = λ k out. grind (arith, common_steps, c.kept k);
}

-- what a row has
pub has_row : (n : ℕ) (f : ℕ → Bool) (w : ℕ) → Has (row_of n f) w ↔ ((w < n) × IsTrue (f w))
has_row n f w = ⊎_elim
    (λ lt. let e : get_or (row_of n f) w false ≡ f w = get_or-map-range_with_len f 0 n w w false lt (omega arith) in (λ h. (lt, sym e ∙ h), λ h. e ∙ h.1))
    (λ past. let e : get_or (row_of n f) w false ≡ false = get_or_past (row_of n f) w false (omega (arith, length-map-range_with_len f 0 n)) in
    (λ h. absurd (true≢false (sym h ∙ e)), λ h. absurd (omega (arith, h.0, past))))
    (cases_lt w n)

-- what a table has
pub holds_table : (n : ℕ) (f : ℕ → ℕ → Bool) (u w : ℕ) → Holds (table n f) u w ↔ ((u < n) × (w < n) × IsTrue (f u w))
holds_table n f u w = ⊎_elim
    (λ lt. let e : get_or (table n f) u [] ≡ row_of n (f u) = get_or-map-range_with_len (λ v. row_of n (f v)) 0 n u u [] lt (omega arith) in
    let r = has_row n (f u) w in (λ h. let p = r.0 (subst (λ row. Has row w) e h) in (lt, p.0, p.1), λ h. subst (λ row. Has row w) (sym e) (r.1 (h.1, h.2))))
    (λ past. let e : get_or (table n f) u [] ≡ [] = get_or_past (table n f) u [] (omega (arith, length-map-range_with_len (λ v. row_of n (f v)) 0 n)) in
    (λ h. absurd (true≢false (sym h ∙ ap (λ row. get_or row w false) e)), λ h. absurd (omega (arith, h.0, past))))
    (cases_lt u n)

gains_table : (n : ℕ) (f g : ℕ → ℕ → Bool) (R : ℕ → ℕ → Type 0) → ((a b : ℕ) → a < n → b < n → IsTrue (g a b) ↔ (IsTrue (f a b) ⊎ R a b)) →
    ((a b : ℕ) → R a b → (a < n) × (b < n)) → Gains (table n f) (table n g) R
gains_table n f g R same within a b = (
  λ h. let p = (holds_table n g a b).0 h in ⊎_elim (λ q. inl ((holds_table n f a b).1 (p.0, p.1, q))) (λ q. inr q) ((same a b p.0 p.1).0 p.2),
  λ h. ⊎_elim
      (λ q. let p = (holds_table n f a b).0 q in (holds_table n g a b).1 (p.0, p.1, (same a b p.0 p.1).1 (inl p.2)))
      (λ r. let p = within a b r in (holds_table n g a b).1 (p.0, p.1, (same a b p.0 p.1).1 (inr r)))
      h,
)

-- a bit of a disjunction
pub bit_or_at : (x y i : ℕ) → (bit_at (bit_or x y) i ≡ 1) ↔ ((bit_at x i ≡ 1) ⊎ (bit_at y i ≡ 1))
bit_or_at x y i = let e = bit_at_or x y i in let a = bit_at-lt x i in let b = bit_at-lt y i in
    (λ h. ⊎_elim (λ p. inl p) (λ p. inr (let q : bit_at x i ≢ 1 = p in omega arith)) (cases_eq (bit_at x i) 1), λ h. ⊎_elim (λ p. omega arith) (λ p. omega arith) h)

abbrev word : ℕ → List ℕ → ℕ → ℕ → ℕ
word n words a b = get_or words (a * width n + b / 64) 0

pub is_set : (words : List ℕ) (start b : ℕ) → IsTrue (bit words start b) ↔ (bit_at (get_or words (start + b / 64) 0) (b % 64) ≡ 1)
is_set words start b = (eqb-true _ _, eq-eqb _ _)

set_in : (n : ℕ) (words : List ℕ) (a b : ℕ) → IsTrue (bits n words a b) ↔ (bit_at (word n words a b) (b % 64) ≡ 1)
set_in n words a b = is_set words (a * width n) b

pub in_row : (n b : ℕ) → b < n → b / 64 < width n
in_row n b lt = omega arith

-- what a change of row t leaves
row_changed : (n : ℕ) (old new : List ℕ) (t : ℕ) (f : ℕ → ℕ → ℕ) → Changed old new (t * width n) (width n) f → (a b : ℕ) → b < n →
    ((t ≡ a) × (word n new a b ≡ f (b / 64) (word n old a b))) ⊎ ((t ≢ a) × (word n new a b ≡ word n old a b))
row_changed n old new t f c a b bn =
    let inside = in_row n b bn in ⊎_elim
    (λ is. inl (is, c.done (a * width n + b / 64) (b / 64) (ap (λ x. x * width n + b / 64) (sym is)) inside))
    (λ ne. inr (
      ne,
      c.kept (a * width n + b / 64) (⊎_elim
          (λ lt. let h = row_fits t (width n) a lt in inl (omega arith))
          (λ le. let less : t < a = let q : t ≢ a = ne in omega arith in let h = row_fits a (width n) t less in inr (omega arith))
          (cases_lt a t)),
    ))
    (cases_eq t a)

row_added : (n : ℕ) (old new other : List ℕ) (t s : ℕ) → t < n → s < n → Changed old new (t * width n) (width n) (λ j x. bit_or x (get_or other (s * width n + j) 0)) →
    Gains (table n (bits n old)) (table n (bits n new)) (λ a b. (t ≡ a) × Holds (table n (bits n other)) s b)
row_added n old new other t s tn sn c = gains_table n (bits n old) (bits n new) _
    (λ a b an bn. ⊎_elim
    (λ is. let e = bit_or_at (word n old a b) (word n other s b) (b % 64) in (
      λ h. ⊎_elim (λ p. inl ((set_in n old a b).1 p)) (λ p. inr (is.0, (holds_table n (bits n other) s b).1 (sn, bn, (set_in n other s b).1 p)))
          (e.0 (ap (λ x. bit_at x (b % 64)) (sym is.1) ∙ (set_in n new a b).0 h)),
      λ h. (set_in n new a b).1 (ap (λ x. bit_at x (b % 64)) is.1 ∙ e.1 (⊎_elim (λ p. inl ((set_in n old a b).0 p)) (λ p. inr ((set_in n other s b).0 ((holds_table n (bits n other) s b).0 p.1).2)) h)),
    ))
    (λ ne. let e = ap (λ x. bit_at x (b % 64)) ne.1 in (
      λ h. inl ((set_in n old a b).1 (sym e ∙ (set_in n new a b).0 h)),
      λ h. ⊎_elim (λ p. (set_in n new a b).1 (e ∙ (set_in n old a b).0 p)) (λ p. absurd (ne.0 p.0)) h,
    ))
    (row_changed n old new t _ c a b bn))
    (λ a b r. (subst (λ x. x < n) r.0 tn, ((holds_table n (bits n other) s b).0 r.1).1))

row_cleared : (n : ℕ) (old new : List ℕ) (t : ℕ) → t < n → Changed old new (t * width n) (width n) (λ j x. 0) →
    (a b : ℕ) → Holds (table n (bits n new)) a b ↔ ((t ≢ a) × Holds (table n (bits n old)) a b)
row_cleared n old new t tn c a b = (
  λ h. let p = (holds_table n (bits n new) a b).0 h in ⊎_elim
      (λ is. absurd (let z = bit_at-zero (b % 64) in let q : bit_at 0 (b % 64) ≡ 1 = ap (λ x. bit_at x (b % 64)) (sym is.1) ∙ (set_in n new a b).0 p.2 in omega arith))
      (λ ne. (ne.0, (holds_table n (bits n old) a b).1 (p.0, p.1, (set_in n old a b).1 (ap (λ x. bit_at x (b % 64)) (sym ne.1) ∙ (set_in n new a b).0 p.2))))
      (row_changed n old new t _ c a b p.1),
  λ h. let p = (holds_table n (bits n old) a b).0 h.1 in ⊎_elim
      (λ is. absurd (h.0 is.0))
      (λ ne. (holds_table n (bits n new) a b).1 (p.0, p.1, (set_in n new a b).1 (ap (λ x. bit_at x (b % 64)) ne.1 ∙ (set_in n old a b).0 p.2)))
      (row_changed n old new t _ c a b p.1),
)

-- a word with one bit more
abbrev pub with_bit : List ℕ → ℕ → ℕ → List ℕ
with_bit words at i = set words at (bit_or (get_or words at 0) (1 * 2 ^ i % 2 ^ 64))

pub bit_more : (words : List ℕ) (at i k j : ℕ) → at < length words → i < 64 → j < 64 →
    (bit_at (get_or (with_bit words at i) k 0) j ≡ 1) ↔ ((bit_at (get_or words k 0) j ≡ 1) ⊎ ((k ≡ at) × (j ≡ i)))
bit_more words at i k j inside il jl = ⊎_elim
    (λ is. let new : get_or (with_bit words at i) k 0 ≡ bit_or (get_or words at 0) one = ap (λ k. get_or (with_bit words at i) k 0) is ∙ get_or-set_same words at _ 0 inside in ⊎_elim
    (λ same. (λ h. inr (is, same), λ h. ap (λ x. bit_at x j) new ∙ ap (bit_at (bit_or (get_or words at 0) one)) same ∙ bit_at_set_same w64 (get_or words at 0) i il))
    (λ ne. let e : bit_at (get_or (with_bit words at i) k 0) j ≡ bit_at (get_or words k 0) j =
    ap (λ x. bit_at x j) new ∙ bit_at_set_other w64 (get_or words at 0) i il j ne ∙ ap (λ k. bit_at (get_or words k 0) j) (sym is) in
    (λ h. inl (sym e ∙ h), λ h. ⊎_elim (λ p. e ∙ p) (λ p. absurd (ne p.1)) h))
    (cases_eq j i))
    (λ ne. let e : bit_at (get_or (with_bit words at i) k 0) j ≡ bit_at (get_or words k 0) j = ap (λ x. bit_at x j) (get_or-set_other words at k _ 0 ne) in
    (λ h. inl (sym e ∙ h), λ h. ⊎_elim (λ p. e ∙ p) (λ p. absurd (ne p.0)) h))
    (cases_eq k at)
  where
    one : ℕ
    one = 1 * 2 ^ i % 2 ^ 64

same_place : (w a p u q : ℕ) → p < w → q < w → a * w + p ≡ u * w + q → (a ≡ u) × (p ≡ q)
same_place w a p u q pw qw e = (sym (div-mul-add a w p pw) ∙ ap (λ x. x / w) e ∙ div-mul-add u w q qw, sym (mod-mul-add a w p pw) ∙ ap (λ x. x % w) e ∙ mod-mul-add u w q qw)

bit_added : (n : ℕ) (words : List ℕ) (u w : ℕ) → u < n → w < n → length words ≡ n * width n →
    Gains (table n (bits n words)) (table n (bits n (with_bit words (u * width n + w / 64) (w % 64)))) (λ a b. (u ≡ a) × (w ≡ b))
bit_added n words u w un wn len = gains_table n _ _ _
    (λ a b an bn.
    let m = bit_more words (u * width n + w / 64) (w % 64) (a * width n + b / 64) (b % 64) inside (omega arith) (omega arith) in (
      λ h. ⊎_elim
          (λ p. inl ((set_in n words a b).1 p))
          (λ p. let place = same_place (width n) a (b / 64) u (w / 64) (in_row n b bn) (in_row n w wn) p.0 in inr (sym place.0, omega (arith, place.1, p.1)))
          (m.0 ((set_in n _ a b).0 h)),
      λ h. (set_in n _ a b).1 (m.1 (⊎_elim (λ p. inl ((set_in n words a b).0 p)) (λ r. inr (cc (r.0, r.1), ap (λ x. x % 64) (sym r.1))) h)),
    ))
    (λ a b r. (subst (λ x. x < n) r.0 un, subst (λ x. x < n) r.1 wn))
  where
    inside : u * width n + w / 64 < length words
    inside = let p = in_row n w wn in let q = row_fits n (width n) u un in omega arith

-- no bit is set in a word that is 0
pub unset_in_zero : (x i : ℕ) → x ≡ 0 → bit_at x i ≡ 1 → ⊥
unset_in_zero x i empty h = let z = bit_at-zero i in let q : bit_at 0 i ≡ 1 = ap (λ y. bit_at y i) (sym empty) ∙ h in omega arith

-- a word with one bit has no other
pub only_bit : (x i j : ℕ) → i < 64 → x ≡ 1 * 2 ^ i % 2 ^ 64 → bit_at x j ≡ 1 → j ≡ i
only_bit x i j il e h = ⊎_elim
    (λ is. is)
    (λ ne. absurd (let z = bit_at-zero j in
    let q : bit_at 0 j ≡ 1 = sym (bit_at_set_other w64 0 i il j ne) ∙ ap (λ y. bit_at y j) (or_zero_l (1 * 2 ^ i % 2 ^ 64) ∙ sym e) ∙ h in omega arith))
    (cases_eq j i)

-- no bit is set in zeros
pub none_set : (words : List ℕ) → ((k : ℕ) → get_or words k 0 ≡ 0) → (start b : ℕ) → IsTrue (bit words start b) → ⊥
none_set words none start b h = unset_in_zero _ (b % 64) (none (start + b / 64)) ((is_set words start b).0 h)

get_or-zeros : (n k : ℕ) → let z : ℕ = 0 in get_or (replicate n z) k z ≡ z
get_or-zeros zero k = refl
get_or-zeros (suc n) zero = refl
get_or-zeros (suc n) (suc k) = get_or-zeros n k

-- what fills up an empty vector
pub filled : (new old : List ℕ) (n m : ℕ) → let z : ℕ = 0 in new ≡ take n old ++ replicate m z → old ≡ [] → (k : ℕ) → get_or new k z ≡ z
filled new old n m e f k = ap (λ l. get_or l k 0) (e ∙ ap (λ l. take n l ++ replicate m 0) f ∙ ap (λ l. l ++ replicate m 0) (none n)) ∙ get_or-zeros m k
  where
    none : (n : ℕ) → take {A = ℕ} n [] ≡ []
    none zero = refl
    none (suc n) = refl

pub none_in_table : (n : ℕ) (words : List ℕ) → ((k : ℕ) → get_or words k 0 ≡ 0) → (a b : ℕ) → Holds (table n (bits n words)) a b → ⊥
none_in_table n words none a b h = none_set words none (a * width n) b ((holds_table n (bits n words) a b).0 h).2

-- the same where the code has its own names for the rows
module _ (n : ℕ) (m : Matrix) (words : List ℕ) (is : table n (bits n words) ≡ m) where
  below : (u : ℕ) → u < length m → u < n
  below u lt = subst (λ k. u < k) (sym (size_of n (bits n words) m is)) lt

  here : (u w row x : ℕ) → u < length m → w < length m → length words ≡ n * width n → row ≡ u * width n → x ≡ get_or words (row + w / 64) x → x ≡ word n words u w
  here u w row x um wm len e r =
      let p = in_row n w (below w wm) in let q = row_fits n (width n) u (below u um) in
      r ∙ get_or_default words (row + w / 64) x 0 (omega arith) ∙ ap (λ k. get_or words (k + w / 64) 0) e

  pub has_at : (u w row x : ℕ) → u < length m → w < length m → length words ≡ n * width n → row ≡ u * width n → x ≡ get_or words (row + w / 64) x → IsTrue (nat_eq (bit_and (x / 2 ^ (w % 64)) 1) 1) ↔ Holds m u w
  has_at u w row x um wm len e r =
      let same : bit_and (x / 2 ^ (w % 64)) 1 ≡ bit_at (word n words u w) (w % 64) = shr_and_one x (w % 64) ∙ ap (λ y. bit_at y (w % 64)) (here u w row x um wm len e r) in
      subst (λ t. IsTrue (nat_eq (bit_and (x / 2 ^ (w % 64)) 1) 1) ↔ Holds t u w) is (
        λ h. (holds_table n (bits n words) u w).1 (below u um, below w wm, (set_in n words u w).1 (sym same ∙ eqb-true _ _ h)),
        λ h. eq-eqb _ _ (same ∙ (set_in n words u w).0 ((holds_table n (bits n words) u w).0 h).2),
      )

  -- a number that is there is below the size, and its bit lies in one of the words of the row
  pub number_within : (u w : ℕ) → Holds m u w → w < n
  number_within u w h = ((holds_table n (bits n words) u w).0 (subst (λ t. Holds t u w) (sym is) h)).1

  pub word_within : (u w : ℕ) → Holds m u w → w / 64 < width n
  word_within u w h = in_row n w (number_within u w h)

  -- a word of a row
  module _ (u k row x : ℕ) (um : u < length m) (lt : k < width (length m)) (len : length words ≡ n * width n) (e : row ≡ u * width n) (r : x ≡ get_or words (row + k) x) (w : ℕ) (at : w / 64 ≡ k) (h : Holds m u w) where
    -- a number that is there has its bit in it
    bit_there : bit_at x (w % 64) ≡ 1
    bit_there =
        let kn : k < width n = subst (λ s. k < width s) (sym (size_of n (bits n words) m is)) lt in
        let q = row_fits n (width n) u (below u um) in
        let p = (holds_table n (bits n words) u w).0 (subst (λ t. Holds t u w) (sym is) h) in
        let there : word n words u w ≡ get_or words (row + k) 0 = cc (at, e) in
        ap (λ y. bit_at y (w % 64)) (r ∙ get_or_default words (row + k) x 0 (omega arith) ∙ sym there) ∙ (set_in n words u w).0 p.2

    -- none is there where it is 0
    pub none_at : x ≡ 0 → ⊥
    none_at empty = unset_in_zero x (w % 64) empty bit_there

    -- no other than u is there where it has the bit of u only
    pub alone_at : k ≡ u / 64 → x ≡ 1 * 2 ^ (u % 64) % 2 ^ 64 → u ≡ w
    alone_at own only = let same = only_bit x (u % 64) (w % 64) (omega arith) only bit_there in omega (arith, at, own, same)

  pub add_at : (u w row x : ℕ) → u < length m → w < length m → length words ≡ n * width n → row ≡ u * width n → x ≡ get_or words (row + w / 64) x →
      Gains m (table n (bits n (set words (row + w / 64) (bit_or x (1 * 2 ^ (w % 64) % 2 ^ 64))))) (λ a b. (u ≡ a) × (w ≡ b))
  add_at u w row x um wm len e r = rw (here u w row x um wm len e r, e, ← is) (bit_added n words u w (below u um) (below w wm) len)

  pub clear_at : (new : List ℕ) (t row w : ℕ) → t < length m → row ≡ t * width n → w ≡ width n → Changed words new row w (λ j x. 0) →
      (a b : ℕ) → Holds (table n (bits n new)) a b ↔ ((t ≢ a) × Holds m a b)
  clear_at new t row w tm e f c = rw (← is) (row_cleared n words new t (below t tm) (rw (e, f) at c))

  pub add_row_at : (k : ℕ) (o : Matrix) (other new : List ℕ) (t s row from w : ℕ) → table k (bits k other) ≡ o → length o ≡ length m → t < length m → s < length m →
      row ≡ t * width n → from ≡ s * width n → w ≡ width n → Changed words new row w (λ j x. bit_or x (get_or other (from + j) 0)) →
      Gains m (table n (bits n new)) (λ a b. (t ≡ a) × Holds o s b)
  add_row_at k o other new t s row from w p q tm sm e g f c =
      let kn : k ≡ n = size_of k (bits k other) o p ∙ q ∙ sym (size_of n (bits n words) m is) in
      let p' : table n (bits n other) ≡ o = subst (λ k. table k (bits k other) ≡ o) kn p in
      rw (← is, ← p') (row_added n words new other t s (below t tm) (below s sm) (rw (e, g, f) at c))
