-- What division says of its results holds.
use Rattle.std.proofs.Common.{◌≡◌, ◌≢◌, ℕ, ◌<◌, Bool, true, false, not, ◌&&◌, ◌||◌, ℤ, pos, ◌+ℤ◌, ◌-ℤ◌, ◌*ℤ◌, ◌≤ℤ◌, ◌<ℤ◌, unsigned_abs, int_lt, int_le, Option, Some, [], ◌∷◌, refl, sym, ap, ap₂, ◌∙◌, subst, arith, if◌then◌else◌}
use Rattle.std.specs.List.{AllByRecursion}
use Rattle.std.specs.Ordering.{int_eq}
use Rattle.std.proofs.lemmas.Int.{ints, quot-rem}
use Rattle.std.proofs.lemmas.Bool.Decides.{Decides-int_eq}
use Rattle.std.proofs.Math.IntN.{*ℤ_comm}
use Rattle.spx_term.specs.declared.condition.Sequent.{Sequent}
use Rattle.spx_term.specs.declared.term.Sort.{Sort}
use Rattle.spx_term.specs.declared.term.Sort.TheVariants.{Integer}
use Rattle.spx_term.specs.declared.term.TermOp.{TermOp}
use Rattle.spx_term.specs.declared.term.TermOp.TheVariants as op
use Rattle.spx_term.specs.declared.term.TermPrefix.TheVariants as sign
use Rattle.spx_term.specs.declared.term.Term.{Term, Term-F, out-Term, roll-Term, roll-out-Term}
use Rattle.spx_term.specs.declared.term.Term.TheVariants.{Prefix, Infix, rolls-Infix}
use Rattle.spx_term.specs.declared.value.Value.{Value}
use Rattle.spx_term.specs.declared.value.Value.TheVariants as value
use Rattle.spx_term.specs.Sorts.{integers, sort_of_op, sort_step, sort_of}
use Rattle.spx_term.specs.Values.{Types}
use Rattle.spx_term.specs.Meaning.{as_number, value_of_op, value_of_prefix, Valuation, value_of, Holds, HasSort, IsNumber, Respects}
use Rattle.spx_term.proofs.Terms.{fold-Infix, value-Number, value-Prefix, value-Infix}
use Rattle.spx_term.proofs.FoldingLaws.{two_sorts, sorted_value}
use Rattle.spx_kernel.specs.Divisions.{zero_term, division_facts, divides, division_in, division}
use Rattle.spx_kernel.specs.Sequents.{with_hyps, with_goal, Leads}
use Rattle.spx_kernel.specs.Steps.{div_by, SomeSort}
use Rattle.spx_kernel.proofs.StepLaws.{truth_is, not_of, leads_refused, leads_ok, valid, goal_of, goal_with}
use Rattle.spx_num.specs.Exact.{absolute, modulus, or_zero, quotient, remainder}
use Rattle.spx_term.specs.Intervals.{lesser, greater}
use Rattle.spx_term.proofs.NumberBounds.{absolute_is, rest_between, not_zero, rest_near, in_modulus}
use Rattle.spx_num.proofs.Divisions.{modulus_of_none, modulus_of_alike, modulus_of_unlike}

-- where the divisor is not 0, the results are those of division
divided : (f : ℤ → ℤ → ℤ) (m n : ℤ) → int_eq n (pos 0) ≡ false → or_zero f m n ≡ f m n
divided f m n h = by_test (int_eq n (pos 0)) h where
  by_test : (b : Bool) → b ≡ false → (if b then pos 0 else f m n) ≡ f m n
  by_test true h = absurd (cc)
  by_test false h = refl

-- `a = ((b * (a / b)) + (a rem b))`
pub whole : (m n : ℤ) → int_eq n (pos 0) ≡ false → ((n *ℤ or_zero quotient m n) +ℤ or_zero remainder m n) ≡ m
whole m n h =
    ap₂ (λ q r. (n *ℤ q) +ℤ r) (divided quotient m n h) (divided remainder m n h)
    ∙ ap (λ p. p +ℤ remainder m n) (*ℤ_comm n (quotient m n)) ∙ quot-rem m n

-- `(abs (a rem b)) < (abs b)`
pub near : (m n : ℤ) → int_eq n (pos 0) ≡ false → int_lt (absolute (or_zero remainder m n)) (absolute n) ≡ true
near m n h =
    let e : unsigned_abs (or_zero remainder m n) < unsigned_abs n = rest_near m n (not_zero n h) in
    ap₂ int_lt (absolute_is (or_zero remainder m n)) (absolute_is n) ∙ below (unsigned_abs (or_zero remainder m n)) (unsigned_abs n) e
  where
    below : (a b : ℕ) → a < b → int_lt (pos a) (pos b) ≡ true
    below a b h = grind (arith, ints)

-- `(a >= 0) -> ((a rem b) >= 0)` and `(a <= 0) -> ((a rem b) <= 0)`
pub not_below : (m n : ℤ) → pos 0 ≤ℤ m → pos 0 ≤ℤ or_zero remainder m n
not_below m n h = from (or_zero remainder m n) (rest_between m n).0 where
  from : (r : ℤ) → lesser (pos 0) m ≤ℤ r → pos 0 ≤ℤ r
  from r p = grind (arith, ints)

pub not_above : (m n : ℤ) → m ≤ℤ pos 0 → or_zero remainder m n ≤ℤ pos 0
not_above m n h = from (or_zero remainder m n) (rest_between m n).1 where
  from : (r : ℤ) → r ≤ℤ greater (pos 0) m → r ≤ℤ pos 0
  from r p = grind (arith, ints)

-- `(b > 0) -> (((a mod b) >= 0) and ((a mod b) < b))` and its mirror
pub above_none : (m n : ℤ) → pos 0 <ℤ n → (pos 0 ≤ℤ or_zero modulus m n) × (or_zero modulus m n <ℤ n)
above_none m n h = from (or_zero modulus m n) (in_modulus m n).0 (in_modulus m n).1 where
  from : (r : ℤ) → lesser (pos 0) (n +ℤ pos 1) ≤ℤ r → r ≤ℤ greater (pos 0) (n -ℤ pos 1) → (pos 0 ≤ℤ r) × (r <ℤ n)
  from r p q = (grind (arith, ints), grind (arith, ints))

pub below_none : (m n : ℤ) → n <ℤ pos 0 → (or_zero modulus m n ≤ℤ pos 0) × (n <ℤ or_zero modulus m n)
below_none m n h = from (or_zero modulus m n) (in_modulus m n).0 (in_modulus m n).1 where
  from : (r : ℤ) → lesser (pos 0) (n +ℤ pos 1) ≤ℤ r → r ≤ℤ greater (pos 0) (n -ℤ pos 1) → (r ≤ℤ pos 0) × (n <ℤ r)
  from r p q = (grind (arith, ints), grind (arith, ints))

-- `((a mod b) = (a rem b)) or ((a mod b) = ((a rem b) + b))`
or_first : (p q : Bool) → p ≡ true → (p || q) ≡ true
or_first p q h = ap (λ b. b || q) h

or_second : (p q : Bool) → q ≡ true → (p || q) ≡ true
or_second true q h = refl
or_second false q h = h

pub either_rest : (m n : ℤ) → int_eq n (pos 0) ≡ false → (int_eq (or_zero modulus m n) (or_zero remainder m n) || int_eq (or_zero modulus m n) (or_zero remainder m n +ℤ n)) ≡ true
either_rest m n h =
    ap₂ (λ k r. int_eq k r || int_eq k (r +ℤ n)) (divided modulus m n h) (divided remainder m n h)
    ∙ by_rest (int_eq (remainder m n) (pos 0)) (int_lt (remainder m n) (pos 0)) (int_lt n (pos 0)) refl refl refl
  where
    not_none : n ≢ pos 0
    not_none e = let t : int_eq n (pos 0) ≡ true = (Decides-int_eq n (pos 0)).1 e in absurd (cc)

    has_rest : int_eq (remainder m n) (pos 0) ≡ false → remainder m n ≢ pos 0
    has_rest p e = let t : int_eq (remainder m n) (pos 0) ≡ true = (Decides-int_eq (remainder m n) (pos 0)).1 e in absurd (cc)

    both_ways : true ≡ false → ⊥
    both_ways h = absurd (cc)

    by_rest : (none below signs : Bool) → int_eq (remainder m n) (pos 0) ≡ none → int_lt (remainder m n) (pos 0) ≡ below → int_lt n (pos 0) ≡ signs
        → (int_eq (modulus m n) (remainder m n) || int_eq (modulus m n) (remainder m n +ℤ n)) ≡ true
    by_rest true below signs p q w = or_first _ _ ((Decides-int_eq (modulus m n) (remainder m n)).1 (sym (modulus_of_none m n (remainder m n) refl ((Decides-int_eq (remainder m n) (pos 0)).0 p))))
    by_rest false true true p q w = or_first _ _ ((Decides-int_eq (modulus m n) (remainder m n)).1 (sym (modulus_of_alike m n (remainder m n) refl not_none (q ∙ sym w))))
    by_rest false false false p q w = or_first _ _ ((Decides-int_eq (modulus m n) (remainder m n)).1 (sym (modulus_of_alike m n (remainder m n) refl not_none (q ∙ sym w))))
    by_rest false true false p q w = or_second _ _ ((Decides-int_eq (modulus m n) (remainder m n +ℤ n)).1 (sym (modulus_of_unlike m n (remainder m n) refl not_none (has_rest p) (λ e. both_ways (sym q ∙ e ∙ w)))))
    by_rest false false true p q w = or_second _ _ ((Decides-int_eq (modulus m n) (remainder m n +ℤ n)).1 (sym (modulus_of_unlike m n (remainder m n) refl not_none (has_rest p) (λ e. both_ways (sym (sym q ∙ e ∙ w))))))

-- ---- the same of values

truth : (b : Bool) → b ≡ true → value.Truth b ≡ value.Truth true
truth b h = ap value.Truth h

implies_true : (a b : Bool) → (a ≡ true → b ≡ true) → (not a || b) ≡ true
implies_true true b f = f refl
implies_true false b f = refl

number_of : (x : Value) → IsNumber x → x ≡ value.Number (as_number x)
number_of (value.Number n) h = refl
number_of _ h = absurd h

le_true : (a b : ℤ) → a ≤ℤ b → int_le a b ≡ true
le_true a b h = grind (arith, ints)

lt_true : (a b : ℤ) → a <ℤ b → int_lt a b ≡ true
lt_true a b h = grind (arith, ints)

true_le : (a b : ℤ) → int_le a b ≡ true → a ≤ℤ b
true_le a b h = grind (arith, ints)

true_lt : (a b : ℤ) → int_lt a b ≡ true → a <ℤ b
true_lt a b h = grind (arith, ints)

module _ (types : Types) (v : Valuation) (a b : Term) (number : IsNumber (value_of types v a)) (not_none : int_eq (as_number (value_of types v b)) (pos 0) ≡ false) where
  abbrev x : Value
  x = value_of types v a

  abbrev y : Value
  y = value_of types v b

  abbrev m : ℤ
  m = as_number (value_of types v a)

  abbrev n : ℤ
  n = as_number (value_of types v b)

  op_is : (o : TermOp) (c d : Term) (z w : Value) → value_of types v c ≡ z → value_of types v d ≡ w → value_of types v (Infix o c d) ≡ value_of_op o z w
  op_is o c d z w p q = value-Infix types v o c d ∙ ap₂ (value_of_op o) p q

  abs_is : (c : Term) (z : Value) → value_of types v c ≡ z → value_of types v (Prefix sign.Abs c) ≡ value_of_prefix sign.Abs z
  abs_is c z p = value-Prefix types v sign.Abs c ∙ ap (value_of_prefix sign.Abs) p

  q_is : value_of types v (Infix op.Divide a b) ≡ value.Number (or_zero quotient m n)
  unfolding value_of_op
  q_is = value-Infix types v op.Divide a b

  r_is : value_of types v (Infix op.Rem a b) ≡ value.Number (or_zero remainder m n)
  unfolding value_of_op
  r_is = value-Infix types v op.Rem a b

  k_is : value_of types v (Infix op.Mod a b) ≡ value.Number (or_zero modulus m n)
  unfolding value_of_op
  k_is = value-Infix types v op.Mod a b

  z_is : value_of types v zero_term ≡ value.Number (pos 0)
  z_is = value-Number types v (pos 0)

  facts_hold : AllByRecursion (λ h. Holds types h v) (division_facts a b)
  unfolding value_of_op value_of_prefix
  facts_hold = (
    op_is op.Equal a (Infix op.Add (Infix op.Multiply b (Infix op.Divide a b)) (Infix op.Rem a b)) (value.Number m) (value.Number ((n *ℤ or_zero quotient m n) +ℤ or_zero remainder m n)) (number_of x number)
        (op_is op.Add (Infix op.Multiply b (Infix op.Divide a b)) (Infix op.Rem a b) (value.Number (n *ℤ or_zero quotient m n)) (value.Number (or_zero remainder m n)) (op_is op.Multiply b (Infix op.Divide a b) y (value.Number (or_zero quotient m n)) refl q_is) r_is)
        ∙ truth _ ((Decides-int_eq m ((n *ℤ or_zero quotient m n) +ℤ or_zero remainder m n)).1 (sym (whole m n not_none))),
    (
      op_is op.Less (Prefix sign.Abs (Infix op.Rem a b)) (Prefix sign.Abs b) (value.Number (absolute (or_zero remainder m n))) (value.Number (absolute n)) (abs_is (Infix op.Rem a b) (value.Number (or_zero remainder m n)) r_is) (abs_is b y refl)
          ∙ truth _ (near m n not_none),
      (
        op_is op.Implies (Infix op.GreaterOrEqual a zero_term) (Infix op.GreaterOrEqual (Infix op.Rem a b) zero_term) (value.Truth (int_le (pos 0) m)) (value.Truth (int_le (pos 0) (or_zero remainder m n)))
            (op_is op.GreaterOrEqual a zero_term x (value.Number (pos 0)) refl z_is) (op_is op.GreaterOrEqual (Infix op.Rem a b) zero_term (value.Number (or_zero remainder m n)) (value.Number (pos 0)) r_is z_is)
            ∙ truth _ (implies_true (int_le (pos 0) m) (int_le (pos 0) (or_zero remainder m n)) (λ h. le_true (pos 0) (or_zero remainder m n) (not_below m n (true_le (pos 0) m h)))),
        (
          op_is op.Implies (Infix op.LessOrEqual a zero_term) (Infix op.LessOrEqual (Infix op.Rem a b) zero_term) (value.Truth (int_le m (pos 0))) (value.Truth (int_le (or_zero remainder m n) (pos 0)))
              (op_is op.LessOrEqual a zero_term x (value.Number (pos 0)) refl z_is) (op_is op.LessOrEqual (Infix op.Rem a b) zero_term (value.Number (or_zero remainder m n)) (value.Number (pos 0)) r_is z_is)
              ∙ truth _ (implies_true (int_le m (pos 0)) (int_le (or_zero remainder m n) (pos 0)) (λ h. le_true (or_zero remainder m n) (pos 0) (not_above m n (true_le m (pos 0) h)))),
          (
            op_is op.Implies (Infix op.Greater b zero_term) (Infix op.And (Infix op.GreaterOrEqual (Infix op.Mod a b) zero_term) (Infix op.Less (Infix op.Mod a b) b)) (value.Truth (int_lt (pos 0) n)) (value.Truth (int_le (pos 0) (or_zero modulus m n) && int_lt (or_zero modulus m n) n))
                (op_is op.Greater b zero_term y (value.Number (pos 0)) refl z_is)
                (op_is op.And (Infix op.GreaterOrEqual (Infix op.Mod a b) zero_term) (Infix op.Less (Infix op.Mod a b) b) (value.Truth (int_le (pos 0) (or_zero modulus m n))) (value.Truth (int_lt (or_zero modulus m n) n))
                (op_is op.GreaterOrEqual (Infix op.Mod a b) zero_term (value.Number (or_zero modulus m n)) (value.Number (pos 0)) k_is z_is) (op_is op.Less (Infix op.Mod a b) b (value.Number (or_zero modulus m n)) y k_is refl))
                ∙ truth _ (implies_true (int_lt (pos 0) n) (int_le (pos 0) (or_zero modulus m n) && int_lt (or_zero modulus m n) n)
                (λ h. let p = above_none m n (true_lt (pos 0) n h) in ap₂ (λ c d. c && d) (le_true (pos 0) (or_zero modulus m n) p.0) (lt_true (or_zero modulus m n) n p.1))),
            (
              op_is op.Implies (Infix op.Less b zero_term) (Infix op.And (Infix op.LessOrEqual (Infix op.Mod a b) zero_term) (Infix op.Greater (Infix op.Mod a b) b)) (value.Truth (int_lt n (pos 0))) (value.Truth (int_le (or_zero modulus m n) (pos 0) && int_lt n (or_zero modulus m n)))
                  (op_is op.Less b zero_term y (value.Number (pos 0)) refl z_is)
                  (op_is op.And (Infix op.LessOrEqual (Infix op.Mod a b) zero_term) (Infix op.Greater (Infix op.Mod a b) b) (value.Truth (int_le (or_zero modulus m n) (pos 0))) (value.Truth (int_lt n (or_zero modulus m n)))
                  (op_is op.LessOrEqual (Infix op.Mod a b) zero_term (value.Number (or_zero modulus m n)) (value.Number (pos 0)) k_is z_is) (op_is op.Greater (Infix op.Mod a b) b (value.Number (or_zero modulus m n)) y k_is refl))
                  ∙ truth _ (implies_true (int_lt n (pos 0)) (int_le (or_zero modulus m n) (pos 0) && int_lt n (or_zero modulus m n))
                  (λ h. let p = below_none m n (true_lt n (pos 0) h) in ap₂ (λ c d. c && d) (le_true (or_zero modulus m n) (pos 0) p.0) (lt_true n (or_zero modulus m n) p.1))),
              (
                op_is op.Or (Infix op.Equal (Infix op.Mod a b) (Infix op.Rem a b)) (Infix op.Equal (Infix op.Mod a b) (Infix op.Add (Infix op.Rem a b) b)) (value.Truth (int_eq (or_zero modulus m n) (or_zero remainder m n))) (value.Truth (int_eq (or_zero modulus m n) (or_zero remainder m n +ℤ n)))
                    (op_is op.Equal (Infix op.Mod a b) (Infix op.Rem a b) (value.Number (or_zero modulus m n)) (value.Number (or_zero remainder m n)) k_is r_is)
                    (op_is op.Equal (Infix op.Mod a b) (Infix op.Add (Infix op.Rem a b) b) (value.Number (or_zero modulus m n)) (value.Number (or_zero remainder m n +ℤ n)) k_is (op_is op.Add (Infix op.Rem a b) b (value.Number (or_zero remainder m n)) y r_is refl))
                    ∙ truth _ (either_rest m n not_none),
                tt,
              ),
            ),
          ),
        ),
      ),
    ),
  )

-- ---- the step

pub from_integers : (r p q s : Sort) → integers r p q ≡ Some s → (p ≡ Integer) × (q ≡ Integer)
from_integers r Integer Integer s h = (refl, refl)
from_integers r _ _ s h = absurd (cc)

not_none_is : (y : Value) → IsNumber y → value_of_op op.NotEqual y (value.Number (pos 0)) ≡ value.Truth true → int_eq (as_number y) (pos 0) ≡ false
unfolding value_of_op
not_none_is (value.Number n) number h = not_of (int_eq n (pos 0)) (truth_is (not (int_eq n (pos 0))) true h)
not_none_is _ number h = absurd number

module _ (types : Types) (s : Sequent) where
  operands_lead : (a b : Term) → ((v : Valuation) → Respects types v → IsNumber (value_of types v a) × IsNumber (value_of types v b)) → Leads types s (div_by s (Some (record { dividend = a; divisor = b })))
  operands_lead a b numbers =
      leads_ok types s (with_goal (Infix op.NotEqual b zero_term) s ∷ with_hyps (division_facts a b) s ∷ [])
      (λ all. valid types s (λ v r f.
      let both = numbers v r in
      let goal = goal_of types s (with_goal (Infix op.NotEqual b zero_term) s) all.0 v r f in
      let not_none = not_none_is (value_of types v b) both.1 (ap (value_of_op op.NotEqual (value_of types v b)) (sym (value-Number types v (pos 0))) ∙ sym (value-Infix types v op.NotEqual b zero_term) ∙ goal) in
      goal_with types s (division_facts a b) s.goal all.1.0 v r f (facts_hold types v a b both.0 not_none)))

  both_numbers : (o : TermOp) → sort_of_op o ≡ integers Integer → (a b : Term) (m : Sort) → sort_of types (Infix o a b) ≡ Some m → (v : Valuation) → Respects types v → IsNumber (value_of types v a) × IsNumber (value_of types v b)
  both_numbers o same a b m sorted v r =
      let sorts = two_sorts (sort_of_op o) (sort_of types a) (sort_of types b) m (sym (fold-Infix (sort_step types) o a b) ∙ sorted) in
      let integer = from_integers Integer sorts.first sorts.second m (ap (λ (f : Sort → Sort → Option Sort). f sorts.first sorts.second) (sym same) ∙ sorts.gives) in (
        subst (λ k. HasSort types k (value_of types v a)) integer.0 (sorted_value types v r a sorts.first sorts.first_is),
        subst (λ k. HasSort types k (value_of types v b)) integer.1 (sorted_value types v r b sorts.second sorts.second_is),
      )

  infix_leads : (o : TermOp) (a b : Term) (m : Sort) → sort_of types (Infix o a b) ≡ Some m → Leads types s (div_by s (divides o a b))
  unfolding sort_of_op
  infix_leads op.Divide a b m h = operands_lead a b (both_numbers op.Divide refl a b m h)
  infix_leads op.Rem a b m h = operands_lead a b (both_numbers op.Rem refl a b m h)
  infix_leads op.Mod a b m h = operands_lead a b (both_numbers op.Mod refl a b m h)
  infix_leads _ a b m h = leads_refused types s

  layer_leads : (m : Sort) (layer : Term-F Term) → sort_of types (roll-Term layer) ≡ Some m → Leads types s (div_by s (division_in layer))
  layer_leads m (Term-F.Infix o a b) h = infix_leads o a b m (ap (sort_of types) (sym (rolls-Infix o a b)) ∙ h)
  layer_leads m _ h = leads_refused types s

  -- `div`
  pub division_leads : (t : Term) → SomeSort types t → Leads types s (div_by s (division t))
  unfolding division
  division_leads t some = layer_leads some.0 (out-Term t) (ap (sort_of types) (roll-out-Term t) ∙ some.1)
