-- Numbers that may need more than 128 bits.
use Rattle.std.proofs.Common.{◌≡◌, ℕ, zero, suc, ◌*◌, ℤ, pos, negsuc, neg_ℤ, ◌+ℤ◌, ◌-ℤ◌, ◌*ℤ◌, Bool, true, false, cond, Option, Some, None, FitsSigned, refl, sym, ap, ◌∙◌, int_lt, nat_lt, of_z, arith, true≢false}
use Rattle.std.proofs.lemmas.Int.{ints}
use Rattle.std.proofs.lemmas.Bool.Decides.{nat_tests, Decides-int_eq}
use Rattle.std.proofs.Math.IntN.{+ℤ_idl}
use Rattle.std.specs.Int.{w128}
use Rattle.spx_num.specs.Widths.{fits, fitting, fits-Decides}
use Rattle.spx_term.specs.declared.interval.Interval.{Interval}
use Rattle.spx_term.specs.declared.value.Literal.{Literal}
use Rattle.spx_term.specs.declared.value.Literal.TheVariants as literal
use Rattle.std.specs.Ordering.{int_eq}
use Rattle.spx_num.specs.Exact.{absolute}
use Rattle.spx_term.specs.Intervals.{unbounded, nearer_than, lesser, greater, products, product_of, up_to_magnitude}
use Rattle.spx_simplify.specs.declared.products.Wide.{Wide}
use Rattle.spx_simplify.specs.declared.products.Wide.TheVariants.{Below, Within, Above}
use Rattle.spx_simplify.specs.Wide.{wide, least, greatest, end_at}

-- ---- which of two numbers is less
between : (j k limit : ℕ) → nat_lt j limit ≡ true → nat_lt k limit ≡ false → nat_lt j k ≡ true
between j k limit e f = grind (arith, nat_tests)

not_negative : (n : ℕ) → int_lt (pos n) (pos 0) ≡ false
not_negative n = grind (arith, ints)

next_below : (k limit : ℕ) → nat_lt (suc k) limit ≡ true → nat_lt k limit ≡ true
next_below k limit e = grind (arith, nat_tests)

low_first : (x y : ℤ) → fits y ≡ true → fits x ≡ false → int_lt x (pos 0) ≡ true → int_lt x y ≡ true
unfolding fits
low_first (pos k) y e f g = absurd (true≢false (sym g ∙ not_negative k))
low_first (negsuc k) (pos j) e f g = refl
low_first (negsuc k) (negsuc j) e f g = between j k _ e f

high_last : (x y : ℤ) → fits x ≡ true → fits y ≡ false → int_lt y (pos 0) ≡ false → int_lt x y ≡ true
unfolding fits
high_last x (negsuc k) e f g = absurd (true≢false g)
high_last (negsuc j) (pos k) e f g = refl
high_last (pos j) (pos k) e f g = between j k _ e f

across : (x y : ℤ) → int_lt x (pos 0) ≡ true → int_lt y (pos 0) ≡ false → int_lt x y ≡ true
across x y e f = grind (arith, ints)

not_both : (x y : ℤ) → int_lt x y ≡ true → int_lt y x ≡ false
not_both x y e = grind (arith, ints)

abbrev wide_by : Bool → Bool → ℤ → Wide
wide_by f n z = cond f (Within z) (cond n Below Above)

either : (b : Bool) (w : Wide) → cond b w w ≡ w
either true w = refl
either false w = refl

inside : (b : Bool) (m n : ℤ) → wide (cond b n m) ≡ cond b (wide n) (wide m)
inside true m n = refl
inside false m n = refl

pub wide_lesser : (m n : ℤ) → wide (lesser m n) ≡ least (wide m) (wide n)
wide_lesser m n = inside (int_lt n m) m n ∙ by (fits m) (int_lt m (pos 0)) (fits n) (int_lt n (pos 0)) refl refl refl refl
  where
    by : (f a g b : Bool) → fits m ≡ f → int_lt m (pos 0) ≡ a → fits n ≡ g → int_lt n (pos 0) ≡ b → cond (int_lt n m) (wide_by g b n) (wide_by f a m) ≡ least (wide_by f a m) (wide_by g b n)
    by true a true b d e h i = refl
    by true a false true d e h i = ap (λ x. cond x Below (Within m)) (low_first n m d h i)
    by true a false false d e h i = ap (λ x. cond x Above (Within m)) (not_both m n (high_last m n d h i))
    by false true true b d e h i = ap (λ x. cond x (Within n) Below) (not_both m n (low_first m n h d e))
    by false false true b d e h i = ap (λ x. cond x (Within n) Above) (high_last n m h d e)
    by false true false true d e h i = either (int_lt n m) Below
    by false true false false d e h i = ap (λ x. cond x Above Below) (not_both m n (across m n e i))
    by false false false true d e h i = ap (λ x. cond x Below Above) (across n m i e)
    by false false false false d e h i = either (int_lt n m) Above

pub wide_greater : (m n : ℤ) → wide (greater m n) ≡ greatest (wide m) (wide n)
wide_greater m n = inside (int_lt m n) m n ∙ by (fits m) (int_lt m (pos 0)) (fits n) (int_lt n (pos 0)) refl refl refl refl
  where
    by : (f a g b : Bool) → fits m ≡ f → int_lt m (pos 0) ≡ a → fits n ≡ g → int_lt n (pos 0) ≡ b → cond (int_lt m n) (wide_by g b n) (wide_by f a m) ≡ greatest (wide_by f a m) (wide_by g b n)
    by true a true b d e h i = refl
    by true a false true d e h i = ap (λ x. cond x Below (Within m)) (not_both n m (low_first n m d h i))
    by true a false false d e h i = ap (λ x. cond x Above (Within m)) (high_last m n d h i)
    by false true true b d e h i = ap (λ x. cond x (Within n) Below) (low_first m n h d e)
    by false false true b d e h i = ap (λ x. cond x (Within n) Above) (not_both n m (high_last n m h d e))
    by false true false true d e h i = either (int_lt m n) Below
    by false true false false d e h i = ap (λ x. cond x Above Below) (across m n e i)
    by false false false true d e h i = ap (λ x. cond x Below Above) (not_both n m (across n m i e))
    by false false false false d e h i = either (int_lt m n) Above

pub wide_fitting : (z : ℤ) → end_at (wide z) ≡ fitting z
wide_fitting z = by (fits z) (int_lt z (pos 0))
  where
    by : (f a : Bool) → end_at (wide_by f a z) ≡ cond f (Some z) None
    by true a = refl
    by false true = refl
    by false false = refl

pub wide_within : (z : ℤ) → FitsSigned w128 z → wide z ≡ Within z
wide_within z w = ap (λ f. wide_by f (int_lt z (pos 0)) z) ((fits-Decides z).1 w)

not_true : (b : Bool) → (b ≡ true → ⊥) → b ≡ false
not_true true f = absurd (f refl)
not_true false f = refl

pub not_fits : (z : ℤ) → (FitsSigned w128 z → ⊥) → fits z ≡ false
not_fits z f = not_true (fits z) (λ e. f ((fits-Decides z).0 e))

-- ---- products
opposite_side : (n : ℕ) → fits (neg_ℤ (pos n)) ≡ false → wide (neg_ℤ (pos n)) ≡ Below
unfolding fits
opposite_side zero e = absurd (true≢false e)
opposite_side (suc n) e = ap (λ f. wide_by f true (negsuc n)) e

same_side : (n : ℕ) → fits (pos n) ≡ false → wide (pos n) ≡ Above
same_side n e = (λ i. wide_by (e i) (not_negative n i) (pos n))

pub wide_times : (a b : ℤ) → fits (a *ℤ b) ≡ false → wide (a *ℤ b) ≡ cond (int_lt a (pos 0)) (cond (int_lt b (pos 0)) Above Below) (cond (int_lt b (pos 0)) Below Above)
wide_times (pos a) (pos b) e = same_side (a * b) e ∙ (λ i. cond (sym (not_negative a) i) (cond (sym (not_negative b) i) Above Below) (cond (sym (not_negative b) i) Below Above))
wide_times (pos a) (negsuc b) e = opposite_side (a * suc b) e ∙ (λ i. cond (sym (not_negative a) i) Above Below)
wide_times (negsuc a) (pos b) e = opposite_side (suc a * b) e ∙ (λ i. cond (sym (not_negative b) i) Above Below)
wide_times (negsuc a) (negsuc b) e = same_side (suc a * suc b) e

pub product_is : (i j r : Interval) (a b c d : ℤ) (p q s t : Wide) → i.low ≡ Some a → i.high ≡ Some b → j.low ≡ Some c → j.high ≡ Some d
    → p ≡ wide (a *ℤ c) → q ≡ wide (a *ℤ d) → s ≡ wide (b *ℤ c) → t ≡ wide (b *ℤ d)
    → r.low ≡ end_at (least (least p q) (least s t)) → r.high ≡ end_at (greatest (greatest p q) (greatest s t)) → r ≡ product_of i j
product_is i j r a b c d p q s t ea eb ec ed ep eq es et low high = (λ k. record { low = lows k; high = highs k }) ∙ sym (λ k. products (ea k) (eb k) (ec k) (ed k))
  where
    lows : r.low ≡ fitting (lesser (lesser (a *ℤ c) (a *ℤ d)) (lesser (b *ℤ c) (b *ℤ d)))
    lows =
        low ∙ (λ k. end_at (least (least (ep k) (eq k)) (least (es k) (et k))))
        ∙ (λ k. end_at (least (sym (wide_lesser (a *ℤ c) (a *ℤ d)) k) (sym (wide_lesser (b *ℤ c) (b *ℤ d)) k)))
        ∙ ap end_at (sym (wide_lesser (lesser (a *ℤ c) (a *ℤ d)) (lesser (b *ℤ c) (b *ℤ d))))
        ∙ wide_fitting (lesser (lesser (a *ℤ c) (a *ℤ d)) (lesser (b *ℤ c) (b *ℤ d)))

    highs : r.high ≡ fitting (greater (greater (a *ℤ c) (a *ℤ d)) (greater (b *ℤ c) (b *ℤ d)))
    highs =
        high ∙ (λ k. end_at (greatest (greatest (ep k) (eq k)) (greatest (es k) (et k))))
        ∙ (λ k. end_at (greatest (sym (wide_greater (a *ℤ c) (a *ℤ d)) k) (sym (wide_greater (b *ℤ c) (b *ℤ d)) k)))
        ∙ ap end_at (sym (wide_greater (greater (a *ℤ c) (a *ℤ d)) (greater (b *ℤ c) (b *ℤ d))))
        ∙ wide_fitting (greater (greater (a *ℤ c) (a *ℤ d)) (greater (b *ℤ c) (b *ℤ d)))

-- ---- distances from 0
pub fitting_within : (z : ℤ) → FitsSigned w128 z → fitting z ≡ Some z
fitting_within z w = ap (λ f. cond f (Some z) None) ((fits-Decides z).1 w)

pub minus_twice : (z : ℤ) → pos 0 -ℤ (pos 0 -ℤ z) ≡ z
minus_twice z = grind (arith, ints)

pub around : (low : ℤ) (i : Interval) → FitsSigned w128 low → i.low ≡ Some low → i.high ≡ fitting (pos 0 -ℤ low) → i ≡ up_to_magnitude (pos 0 -ℤ low)
around low i w e f = λ k. record { low = (e ∙ sym (fitting_within low w) ∙ ap fitting (sym (minus_twice low))) k; high = f k }

pub minus_lesser : (x y : ℤ) → pos 0 -ℤ lesser (pos 0 -ℤ x) (pos 0 -ℤ y) ≡ greater x y
minus_lesser x y = grind (arith, ints)

pub minus_next : (x m : ℤ) → m ≡ pos 0 -ℤ x → pos 0 -ℤ (m +ℤ pos 1) ≡ x -ℤ pos 1
minus_next x m e = grind (arith, ints)

pub greater_fits : (m n : ℤ) → FitsSigned w128 m → FitsSigned w128 n → fitting (greater m n) ≡ Some (greater m n)
greater_fits m n v w = by (int_lt m n)
  where
    by : (b : Bool) → fitting (cond b n m) ≡ Some (cond b n m)
    by true = fitting_within n w
    by false = fitting_within m v

neg_side : (low : ℤ) → fits low ≡ true → fits (neg_ℤ low) ≡ false → int_lt (neg_ℤ low) (pos 0) ≡ false
unfolding fits
neg_side (pos zero) e f = not_negative 0
neg_side (pos (suc k)) e f = absurd (true≢false (sym (next_below k _ e) ∙ f))
neg_side (negsuc k) e f = not_negative (suc k)

minus_side : (low : ℤ) → fits low ≡ true → fits (pos 0 -ℤ low) ≡ false → int_lt (pos 0 -ℤ low) (pos 0) ≡ false
minus_side low e f = ap (λ z. int_lt z (pos 0)) (+ℤ_idl (neg_ℤ low)) ∙ neg_side low e (ap fits (sym (+ℤ_idl (neg_ℤ low))) ∙ f)

pub greater_wide : (low high : ℤ) → FitsSigned w128 low → FitsSigned w128 high → (FitsSigned w128 (pos 0 -ℤ low) → ⊥) → fitting (greater (pos 0 -ℤ low) high) ≡ None
greater_wide low high v w other =
    let z = pos 0 -ℤ low in
    let none = not_fits z other in
    let less = high_last high z ((fits-Decides high).1 w) none (minus_side low ((fits-Decides low).1 v) none) in
    ap (λ b. fitting (cond b high z)) (not_both high z less) ∙ ap (λ b. cond b (Some z) None) none

pub nearer_is : (divisor : Option Literal) (v : ℤ) (i : Interval) → divisor ≡ Some (literal.Number v) → int_eq v (pos 0) ≡ false → i ≡ up_to_magnitude (absolute v -ℤ pos 1) → i ≡ nearer_than divisor
nearer_is divisor v i d e f = f ∙ ap (λ b. cond b unbounded (up_to_magnitude (absolute v -ℤ pos 1))) (sym e) ∙ sym (ap nearer_than d)

pub not_zero : (v : ℤ) → (of_z w128 v ≡ 0 → ⊥) → int_eq v (pos 0) ≡ false
not_zero v other = not_true (int_eq v (pos 0)) (λ e. other (ap (of_z w128) ((Decides-int_eq v (pos 0)).0 e)))
