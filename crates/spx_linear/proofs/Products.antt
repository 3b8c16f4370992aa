-- Products of whole numbers.
use Rattle.std.proofs.Common.{◌≡◌, ℕ, zero, suc, ℤ, pos, negsuc, ◌+ℤ◌, ◌-ℤ◌, ◌*ℤ◌, ◌≤ℤ◌, sym, ap, ap₂, ◌∙◌, arith}
use Rattle.std.proofs.Math.IntN.{zero-*ℤ, *ℤ_comm, suc_ℤ-*ℤ, pred_ℤ-*ℤ, +ℤ-suc_ℤ, +ℤ-pred_ℤ}
use Rattle.std.proofs.lemmas.Int.{ints}

regrouped : (a b c s t : ℤ) → s ≡ a +ℤ b → t ≡ b +ℤ c → s +ℤ c ≡ a +ℤ t
regrouped a b c s t p q = omega (arith, ints)

regrouped_less : (a b c s t : ℤ) → s ≡ a +ℤ b → t ≡ b -ℤ c → s -ℤ c ≡ a +ℤ t
regrouped_less a b c s t p q = omega (arith, ints)

no_more : (a s z : ℤ) → s ≡ a → z ≡ pos 0 → s ≡ a +ℤ z
no_more a s z p q = omega (arith, ints)

plus_none : (a : ℤ) → (a +ℤ pos 0) ≡ a
plus_none a = omega (arith, ints)

sum_none_times : (m k : ℤ) → ((m +ℤ pos 0) *ℤ k) ≡ ((m *ℤ k) +ℤ (pos 0 *ℤ k))
sum_none_times m k = no_more (m *ℤ k) ((m +ℤ pos 0) *ℤ k) (pos 0 *ℤ k) (ap (λ x. x *ℤ k) (plus_none m)) (zero-*ℤ k)

pub sum_times : (m n k : ℤ) → ((m +ℤ n) *ℤ k) ≡ ((m *ℤ k) +ℤ (n *ℤ k))
sum_times m (pos zero) k = sum_none_times m k
sum_times m (pos (suc n)) k =
    ap (λ x. x *ℤ k) (+ℤ-suc_ℤ m (pos n)) ∙ suc_ℤ-*ℤ (m +ℤ pos n) k
    ∙ regrouped (m *ℤ k) (pos n *ℤ k) k ((m +ℤ pos n) *ℤ k) (pos (suc n) *ℤ k) (sum_times m (pos n) k) (suc_ℤ-*ℤ (pos n) k)
sum_times m (negsuc zero) k =
    ap (λ x. x *ℤ k) (+ℤ-pred_ℤ m (pos 0)) ∙ pred_ℤ-*ℤ (m +ℤ pos 0) k
    ∙ regrouped_less (m *ℤ k) (pos 0 *ℤ k) k ((m +ℤ pos 0) *ℤ k) (negsuc 0 *ℤ k) (sum_none_times m k) (pred_ℤ-*ℤ (pos 0) k)
sum_times m (negsuc (suc n)) k =
    ap (λ x. x *ℤ k) (+ℤ-pred_ℤ m (negsuc n)) ∙ pred_ℤ-*ℤ (m +ℤ negsuc n) k
    ∙ regrouped_less (m *ℤ k) (negsuc n *ℤ k) k ((m +ℤ negsuc n) *ℤ k) (negsuc (suc n) *ℤ k) (sum_times m (negsuc n) k) (pred_ℤ-*ℤ (negsuc n) k)

pub times_sum : (k m n : ℤ) → (k *ℤ (m +ℤ n)) ≡ ((k *ℤ m) +ℤ (k *ℤ n))
times_sum k m n = *ℤ_comm k (m +ℤ n) ∙ sum_times m n k ∙ ap₂ ◌+ℤ◌ (*ℤ_comm m k) (*ℤ_comm n k)

from_sum : (a b d : ℤ) → a ≡ d +ℤ b → d ≡ a -ℤ b
from_sum a b d h = omega (arith, ints)

back : (m n : ℤ) → ((m -ℤ n) +ℤ n) ≡ m
back m n = omega (arith, ints)

pub difference_times : (m n k : ℤ) → ((m -ℤ n) *ℤ k) ≡ ((m *ℤ k) -ℤ (n *ℤ k))
difference_times m n k = from_sum (m *ℤ k) (n *ℤ k) ((m -ℤ n) *ℤ k) (ap (λ x. x *ℤ k) (sym (back m n)) ∙ sum_times (m -ℤ n) n k)

none_times_times : (m k : ℤ) → ((pos 0 *ℤ m) *ℤ k) ≡ (pos 0 *ℤ (m *ℤ k))
none_times_times m k = ap (λ x. x *ℤ k) (zero-*ℤ m) ∙ zero-*ℤ k ∙ sym (zero-*ℤ (m *ℤ k))

pub times_times : (n m k : ℤ) → ((n *ℤ m) *ℤ k) ≡ (n *ℤ (m *ℤ k))
times_times (pos zero) m k = none_times_times m k
times_times (pos (suc n)) m k =
    ap (λ x. x *ℤ k) (suc_ℤ-*ℤ (pos n) m) ∙ sum_times (pos n *ℤ m) m k ∙ ap (λ x. x +ℤ (m *ℤ k)) (times_times (pos n) m k) ∙ sym (suc_ℤ-*ℤ (pos n) (m *ℤ k))
times_times (negsuc zero) m k =
    ap (λ x. x *ℤ k) (pred_ℤ-*ℤ (pos 0) m) ∙ difference_times (pos 0 *ℤ m) m k ∙ ap (λ x. x -ℤ (m *ℤ k)) (none_times_times m k) ∙ sym (pred_ℤ-*ℤ (pos 0) (m *ℤ k))
times_times (negsuc (suc n)) m k =
    ap (λ x. x *ℤ k) (pred_ℤ-*ℤ (negsuc n) m) ∙ difference_times (negsuc n *ℤ m) m k ∙ ap (λ x. x -ℤ (m *ℤ k)) (times_times (negsuc n) m k) ∙ sym (pred_ℤ-*ℤ (negsuc n) (m *ℤ k))

added_up : (a b c : ℤ) → c ≡ a +ℤ b → pos 0 ≤ℤ a → pos 0 ≤ℤ b → pos 0 ≤ℤ c
added_up a b c e p q = omega (arith, ints)

zero_is : (z : ℤ) → z ≡ pos 0 → pos 0 ≤ℤ z
zero_is z e = omega (arith, ints)

none_below : (n : ℕ) → (P : Type 0) → pos 0 ≤ℤ negsuc n → P
none_below n P h = absurd (omega (arith, ints))

pub product_natural : (n b : ℤ) → pos 0 ≤ℤ n → pos 0 ≤ℤ b → pos 0 ≤ℤ (n *ℤ b)
product_natural (pos zero) b p q = zero_is (pos 0 *ℤ b) (zero-*ℤ b)
product_natural (pos (suc n)) b p q = added_up (pos n *ℤ b) b (pos (suc n) *ℤ b) (suc_ℤ-*ℤ (pos n) b) (product_natural (pos n) b (omega (arith, ints)) q) q
product_natural (negsuc n) b p q = none_below n _ p
