-- Which sequents are valid, and which values refute the others.
use Rattle.std.proofs.Common.{◌≡◌, ◌↔◌, ℕ, ℤ, pos, ◌+ℤ◌, ◌≤ℤ◌, Bool, true, false, not, ◌||◌, [], ◌∷◌, refl, sym, ap, ap₂, subst, ◌∙◌, arith, int_lt, int_le}
use Rattle.std.specs.Prelude.{All}
use Rattle.std.proofs.lemmas.Bool.Decides.{Decides-int_eq}
use Rattle.std.proofs.lemmas.Int.{ints}
use Rattle.std.proofs.lemmas.List.Elements.{All-cons, All-nil, All-head, All-tail}
use Rattle.spx_term.specs.declared.term.Name.{Name}
use Rattle.spx_term.specs.declared.term.Sort.{Sort}
use Rattle.spx_term.specs.declared.term.Sort.TheVariants.{Integer, Boolean, Composite}
use Rattle.spx_term.specs.declared.term.Symbol.TheVariants as symbol
use Rattle.spx_term.specs.declared.term.TermOp.TheVariants as sign
use Rattle.spx_term.specs.declared.term.TermPrefix.TheVariants.{Not}
use Rattle.spx_term.specs.declared.term.Term.{Term}
use Rattle.spx_term.specs.declared.term.Term.TheVariants as term
use Rattle.spx_term.specs.declared.value.Value.{Value}
use Rattle.spx_term.specs.declared.value.Value.TheVariants as value
use Rattle.spx_term.specs.declared.value.Shape.{Shape-F}
use Rattle.spx_term.specs.declared.value.Shape.TheVariants as shape
use Rattle.spx_term.specs.Values.{is_truth}
use Rattle.spx_term.proofs.ValueLaws.{is_in-layer}
use Rattle.spx_term.specs.Meaning.{as_number, as_truth, value_of_op, value_of_prefix, value_of, Valuation, HasSort, Holds, Respects, Valid}
use Rattle.spx_term.proofs.Terms.{value-Infix, value-Number, value-Prefix, value-Variable}
use Rattle.spx_examples.specs.Types.{no_composites}
use Rattle.spx_examples.specs.Increment.{entry_x, next_x}
use Rattle.spx_examples.specs.Sequents.{entry_y, entry_z, entry_b, entry_c, at_most, x_at_most, in_order, in_both_cases, in_both_orders, contradictory, below_next, of_sort, for_x, where_x_is}

truth_is : (a b : Bool) → value.Truth a ≡ value.Truth b → a ≡ b
truth_is a b h = cc

-- ---- what holds under a valuation

module _ (v : Valuation) where
  abbrev number : Term → ℤ
  number t = as_number (value_of no_composites v t)

  abbrev truth : Term → Bool
  truth t = as_truth (value_of no_composites v t)

  at_most_is : (a b : Term) → value_of no_composites v (at_most a b) ≡ value.Truth (int_le (number a) (number b))
  unfolding value_of_op
  at_most_is a b = value-Infix no_composites v sign.LessOrEqual a b

  -- `a <= b` holds where the number of a is at most that of b
  at_most_holds : (a b : Term) → Holds no_composites (at_most a b) v ↔ (number a ≤ℤ number b)
  at_most_holds a b = (
    λ h. let e : int_le (number a) (number b) ≡ true = truth_is _ _ (sym (at_most_is a b) ∙ h) in grind (arith, ints),
    λ h. at_most_is a b ∙ ap value.Truth (let e : int_le (number a) (number b) ≡ true = grind (arith, ints) in e),
  )

  number_is : (n : ℤ) → number (term.Number n) ≡ n
  number_is n = ap as_number (value-Number no_composites v n)

  -- the first and the second of two hypotheses
  known_first : (a b : Term) → All (λ hyp. Holds no_composites hyp v) (a ∷ b ∷ []) → Holds no_composites a v
  known_first a b h = All-head (λ hyp. Holds no_composites hyp v) a (b ∷ []) h

  known_second : (a b : Term) → All (λ hyp. Holds no_composites hyp v) (a ∷ b ∷ []) → Holds no_composites b v
  known_second a b h = All-head (λ hyp. Holds no_composites hyp v) b [] (All-tail (λ hyp. Holds no_composites hyp v) a (b ∷ []) h)

-- ---- valid sequents

pub bound_valid : Valid no_composites (x_at_most (pos 5) ∷ []) (x_at_most (pos 10))
bound_valid v respects known =
    let five = (at_most_holds v entry_x (term.Number (pos 5))).0 (All-head (λ hyp. Holds no_composites hyp v) _ [] known) in
    let e = number_is v (pos 5) in
    let f = number_is v (pos 10) in
    (at_most_holds v entry_x (term.Number (pos 10))).1 (grind (arith, ints))

pub chain_valid : Valid no_composites in_order (at_most entry_x entry_z)
chain_valid v respects known =
    let first = (at_most_holds v entry_x entry_y).0 (known_first v _ _ known) in
    let second = (at_most_holds v entry_y entry_z).0 (known_second v _ _ known) in
    (at_most_holds v entry_x entry_z).1 (omega (arith, ints))

-- by cases of B
by_cases : (b c : Bool) → (not b || c) ≡ true → (not (not b) || c) ≡ true → c ≡ true
by_cases true c p q = p
by_cases false c p q = q

truth_holds : (x : Value) → as_truth x ≡ true → x ≡ value.Truth true
truth_holds (value.Truth b) h = ap value.Truth h
truth_holds _ h = absurd (cc)

pub cases_valid : Valid no_composites in_both_cases entry_c
unfolding value_of_op value_of_prefix
cases_valid v respects known =
    let b = truth v entry_b in
    let c = truth v entry_c in
    let not_b = term.Prefix Not entry_b in
    let first = truth_is (not b || c) true (sym (value-Infix no_composites v sign.Implies entry_b entry_c) ∙ known_first v _ _ known) in
    let negation = ap (λ x. value.Truth (not (as_truth x) || c)) (value-Prefix no_composites v Not entry_b) in
    let second = truth_is (not (not b) || c) true (sym negation ∙ sym (value-Infix no_composites v sign.Implies not_b entry_c) ∙ known_second v _ _ known) in
    truth_holds (value_of no_composites v entry_c) (by_cases b c first second)

integer_is : (x : Value) → HasSort no_composites Integer x → x ≡ value.Number (as_number x)
integer_is (value.Number n) h = refl
integer_is _ h = absurd h

-- the name of an integer has a number as its value
entry_number : (v : Valuation) → Respects no_composites v → (name : Name) → name.sort ≡ Integer → value_of no_composites v (term.Variable name) ≡ value.Number (number v (term.Variable name))
entry_number v respects name is = let e = value-Variable no_composites v name in integer_is (value_of no_composites v (term.Variable name)) (subst (HasSort no_composites Integer) (sym e) (subst (λ s. HasSort no_composites s (v name)) is (respects name)))

pub orders_valid : Valid no_composites in_both_orders (term.Infix sign.Equal entry_x entry_y)
unfolding value_of_op
orders_valid v respects known =
    let m = number v entry_x in
    let n = number v entry_y in
    let below = (at_most_holds v entry_x entry_y).0 (known_first v _ _ known) in
    let above = (at_most_holds v entry_y entry_x).0 (known_second v _ _ known) in
    let same : m ≡ n = omega (arith, ints) in
    value-Infix no_composites v sign.Equal entry_x entry_y
    ∙ ap₂ (value_of_op sign.Equal) (entry_number v respects (record { symbol = symbol.Entry 0; sort = Integer }) refl) (entry_number v respects (record { symbol = symbol.Entry 1; sort = Integer }) refl)
    ∙ ap value.Truth ((Decides-int_eq m n).1 same)

pub itself_valid : Valid no_composites [] (at_most entry_x entry_x)
itself_valid v respects known = (at_most_holds v entry_x entry_x).1 (omega (arith, ints))

pub next_valid : Valid no_composites [] below_next
unfolding value_of_op
next_valid v respects known =
    let m = number v entry_x in
    let sum = ap as_number (value-Infix no_composites v sign.Add entry_x (term.Number (pos 1))) ∙ ap (λ n. m +ℤ n) (number_is v (pos 1)) in
    value-Infix no_composites v sign.Less entry_x next_x
    ∙ ap (λ n. value.Truth (int_lt m n)) sum
    ∙ ap value.Truth (let e : int_lt m (m +ℤ pos 1) ≡ true = grind (arith, ints) in e)

pub all_valid : (goal : Term) → Valid no_composites contradictory goal
unfolding value_of_op
all_valid goal v respects known =
    let m = number v entry_x in
    let most = (at_most_holds v entry_x (term.Number (pos 0))).0 (known_first v _ _ known) in
    let at_zero = number_is v (pos 0) in
    let at_one = number_is v (pos 1) in
    let least : int_le (number v (term.Number (pos 1))) m ≡ true = truth_is _ _ (sym (value-Infix no_composites v sign.GreaterOrEqual entry_x (term.Number (pos 1))) ∙ known_second v _ _ known) in
    absurd (grind (arith, ints))

-- ---- values that refute

-- where no type is composite, false stands for the values of one
pub false_is_composite : (id : ℕ) → HasSort no_composites (Composite id) (value.Truth false)
false_is_composite id = is_in-layer false shape.Boolean Shape-F.Boolean shape.outs-Boolean (value.Truth false) ∙ ap is_truth (value.outs-Truth false)

-- where X is m and each other number n
module _ (m n : ℤ) where
  abbrev here : Valuation
  here = where_x_is m n

  of_its_sort : (s : Sort) (k : ℤ) → HasSort no_composites s (of_sort s k)
  of_its_sort Integer k = tt
  of_its_sort Boolean k = tt
  of_its_sort (Composite id) k = false_is_composite id

  pub sorted : Respects no_composites here
  sorted name = of_its_sort name.sort (for_x m n name.symbol)

  x_is : number here entry_x ≡ m
  x_is = ap as_number (value-Variable no_composites here (record { symbol = symbol.Entry 0; sort = Integer }))

  y_is : number here entry_y ≡ n
  y_is = ap as_number (value-Variable no_composites here (record { symbol = symbol.Entry 1; sort = Integer }))

  -- whether a comparison of terms with these numbers holds
  compared : (a b : Term) (k l : ℤ) (holds : Bool) → number here a ≡ k → number here b ≡ l → int_le k l ≡ holds → value_of no_composites here (at_most a b) ≡ value.Truth holds
  compared a b k l holds p q r = at_most_is here a b ∙ ap₂ (λ i j. value.Truth (int_le i j)) p q ∙ ap value.Truth r

false_fails : (v : Valuation) (t : Term) → value_of no_composites v t ≡ value.Truth false → ¬ Holds no_composites t v
false_fails v t fails h = absurd (let e : value.Truth false ≡ value.Truth true = sym fails ∙ h in cc)

pub hypothesis_holds : Holds no_composites (at_most entry_x entry_y) (where_x_is (pos 0) (pos 1))
hypothesis_holds = compared (pos 0) (pos 1) entry_x entry_y (pos 0) (pos 1) true (x_is (pos 0) (pos 1)) (y_is (pos 0) (pos 1)) refl

pub goal_fails : ¬ Holds no_composites (at_most entry_y entry_x) (where_x_is (pos 0) (pos 1))
goal_fails = false_fails _ _ (compared (pos 0) (pos 1) entry_y entry_x (pos 1) (pos 0) false (y_is (pos 0) (pos 1)) (x_is (pos 0) (pos 1)) refl)

pub converse_not_valid : ¬ Valid no_composites (at_most entry_x entry_y ∷ []) (at_most entry_y entry_x)
converse_not_valid valid =
    let v = where_x_is (pos 0) (pos 1) in
    goal_fails (valid v (sorted (pos 0) (pos 1)) (All-cons (λ hyp. Holds no_composites hyp v) _ [] hypothesis_holds (All-nil (λ hyp. Holds no_composites hyp v))))

pub at_zero_holds : Holds no_composites (x_at_most (pos 5)) (where_x_is (pos 0) (pos 0))
at_zero_holds = compared (pos 0) (pos 0) entry_x (term.Number (pos 5)) (pos 0) (pos 5) true (x_is (pos 0) (pos 0)) (number_is (where_x_is (pos 0) (pos 0)) (pos 5)) refl

pub at_six_fails : ¬ Holds no_composites (x_at_most (pos 5)) (where_x_is (pos 6) (pos 0))
at_six_fails = false_fails _ _ (compared (pos 6) (pos 0) entry_x (term.Number (pos 5)) (pos 6) (pos 5) false (x_is (pos 6) (pos 0)) (number_is (where_x_is (pos 6) (pos 0)) (pos 5)) refl)

pub five_not_valid : ¬ Valid no_composites [] (x_at_most (pos 5))
five_not_valid valid = at_six_fails (valid (where_x_is (pos 6) (pos 0)) (sorted (pos 6) (pos 0)) (All-nil (λ hyp. Holds no_composites hyp (where_x_is (pos 6) (pos 0)))))
