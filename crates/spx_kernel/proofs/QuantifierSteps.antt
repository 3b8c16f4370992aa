-- The steps on quantifiers lead from valid sequents to a valid one.
use Rattle.std.proofs.Common.{◌≡◌, ℕ, zero, suc, ◌<◌, max, ◌==◌, Bool, true, false, ◌&&◌, ◌||◌, ℤ, pos, negsuc, ◌+ℤ◌, ◌-ℤ◌, ◌≤ℤ◌, ◌<ℤ◌, int_le, Option, Some, Ok, List, [], ◌∷◌, ◌++◌, slice_get, refl, sym, ap, ap₂, ◌∙◌, subst, arith, if◌then◌else◌}
use Rattle.std.specs.List.{AllByRecursion}
use Rattle.std.proofs.lemmas.Bool.{and_parts, eqb-true}
use Rattle.std.proofs.lemmas.Int.{ints}
use Rattle.spx_term.specs.declared.condition.Sequent.{Sequent}
use Rattle.spx_term.specs.declared.term.BoundVariable.{BoundVariable}
use Rattle.spx_term.specs.declared.term.Name.{Name}
use Rattle.spx_term.specs.declared.term.Quantifier.{Quantifier}
use Rattle.spx_term.specs.declared.term.Quantifier.TheVariants as quantifier
use Rattle.spx_term.specs.declared.term.TermOp.TheVariants as op
use Rattle.spx_term.specs.declared.term.TernaryOp.TheVariants as ternary
use Rattle.spx_term.specs.declared.term.Term.{Term}
use Rattle.spx_term.specs.declared.term.Term.TheVariants.{Variable, Infix, Ternary}
use Rattle.spx_term.specs.declared.value.Value.{Value}
use Rattle.spx_term.specs.declared.value.Value.TheVariants as value
use Rattle.spx_term.specs.Equality.{same_name}
use Rattle.spx_term.specs.Values.{Types, natural, count}
use Rattle.spx_term.specs.Meaning.{as_number, as_truth, value_of_op, each_of, one_of, quantified, Valuation, bound, with_value_at, value_of, Holds, HasSort, IsNumber, Respects}
use Rattle.spx_term.specs.Substitution.{is_free}
use Rattle.spx_term.proofs.Equality.{same_name-Decides}
use Rattle.spx_term.proofs.Terms.{fold-Ternary, value-Variable, value-Infix, value-Ternary}
use Rattle.spx_term.proofs.GoalLaws.{and_holds}
use Rattle.spx_term.proofs.ConjunctLaws.{all_append}
use Rattle.spx_kernel.specs.Names.{greatest_step, greatest, greatest_in, new, new_name}
use Rattle.spx_kernel.specs.Quantifiers.{scoped_step, is_scoped, stands_alone, opened}
use Rattle.spx_kernel.specs.Sequents.{with_hyp, with_hyps, with_goal, hyp_at, Leads}
use Rattle.spx_kernel.specs.Steps.{from_to, in_range, intro_all, use_some, inst_all, give_some}
use Rattle.spx_kernel.proofs.StepLaws.{is_true, truth_is, no_truth, leads_refused, leads_ok, leads_if, valid, goal_of, goal_with, hyp_has}
use Rattle.spx_kernel.proofs.QuantifierLaws.{at_scope, differ, here, swapped, unchanged, opened_value, alone_variable}

-- ---- all and some of the numbers

each_from : (test : ℤ → Bool) (n : ℕ) (low : ℤ) → ((m : ℤ) → low ≤ℤ m → m <ℤ (low +ℤ pos n) → test m ≡ true) → each_of low n test ≡ true
each_from test zero low f = refl
each_from test (suc n) low f =
    ap₂ (λ a b. a && b) (f low (omega (arith, ints)) (omega (arith, ints)))
    (each_from test n (low +ℤ pos 1) (λ m p q. f m (omega (arith, ints)) (omega (arith, ints))))

each_at : (test : ℤ → Bool) (n : ℕ) (low m : ℤ) → each_of low n test ≡ true → low ≤ℤ m → m <ℤ (low +ℤ pos n) → test m ≡ true
each_at test zero low m h p q = absurd (omega (arith, ints))
each_at test (suc n) low m h p q = by_test (int_le m low) refl (each_at test n (low +ℤ pos 1) m (and_parts (test low) (each_of (low +ℤ pos 1) n test) h).1) where
  by_test : (b : Bool) → int_le m low ≡ b → ((low +ℤ pos 1) ≤ℤ m → m <ℤ ((low +ℤ pos 1) +ℤ pos n) → test m ≡ true) → test m ≡ true
  by_test true is later = let e : low ≡ m = grind (arith, ints) in subst (λ k. test k ≡ true) e (and_parts (test low) (each_of (low +ℤ pos 1) n test) h).0
  by_test false is later = later (grind (arith, ints)) (omega (arith, ints))

record Found (test : ℤ → Bool) (low : ℤ) (n : ℕ) : Type 0 where
  number : ℤ
  above : low ≤ℤ number
  below : number <ℤ (low +ℤ pos n)
  passes : test number ≡ true

one_at : (test : ℤ → Bool) (n : ℕ) (low : ℤ) → one_of low n test ≡ true → Found test low n
one_at test zero low h = no_truth (Found test low zero) h
one_at test (suc n) low h = by_test (test low) refl h (one_at test n (low +ℤ pos 1)) where
  by_test : (b : Bool) → test low ≡ b → (b || one_of (low +ℤ pos 1) n test) ≡ true → (one_of (low +ℤ pos 1) n test ≡ true → Found test (low +ℤ pos 1) n) → Found test low (suc n)
  by_test true is h later = record { number = low; above = omega (arith, ints); below = omega (arith, ints); passes = is }
  by_test false is h later =
      let f = later h in
      let p = f.above in
      let q = f.below in
      record { number = f.number; above = omega (arith, ints); below = omega (arith, ints); passes = f.passes }

one_from : (test : ℤ → Bool) (n : ℕ) (low m : ℤ) → low ≤ℤ m → m <ℤ (low +ℤ pos n) → test m ≡ true → one_of low n test ≡ true
one_from test zero low m p q h = absurd (omega (arith, ints))
one_from test (suc n) low m p q h = by_test (int_le m low) refl (one_from test n (low +ℤ pos 1) m) where
  or_second : (b : Bool) → (b || true) ≡ true
  or_second true = refl
  or_second false = refl

  by_test : (b : Bool) → int_le m low ≡ b → ((low +ℤ pos 1) ≤ℤ m → m <ℤ ((low +ℤ pos 1) +ℤ pos n) → test m ≡ true → one_of (low +ℤ pos 1) n test ≡ true) → (test low || one_of (low +ℤ pos 1) n test) ≡ true
  by_test true is later = let e : m ≡ low = grind (arith, ints) in ap (λ b. b || one_of (low +ℤ pos 1) n test) (subst (λ k. test k ≡ true) e h)
  by_test false is later = ap (λ b. test low || b) (later (grind (arith, ints)) (omega (arith, ints)) h) ∙ or_second (test low)

-- how many numbers there are
in_count : (low high m z : ℤ) → z ≡ ((high -ℤ low) +ℤ pos 1) → low ≤ℤ m → m ≤ℤ high → m <ℤ (low +ℤ pos (natural z))
in_count low high m (pos n) is p q = omega (arith, ints)
in_count low high m (negsuc n) is p q = absurd (omega (arith, ints))

from_count : (low high m z : ℤ) → z ≡ ((high -ℤ low) +ℤ pos 1) → low ≤ℤ m → m <ℤ (low +ℤ pos (natural z)) → m ≤ℤ high
from_count low high m (pos n) is p q = omega (arith, ints)
from_count low high m (negsuc n) is p q = absurd (omega (arith, ints))

all_at : (test : ℤ → Bool) (low high m : ℤ) → quantified quantifier.All low high test ≡ true → low ≤ℤ m → m ≤ℤ high → test m ≡ true
all_at test low high m h p q = each_at test (count low high) low m h p (in_count low high m ((high -ℤ low) +ℤ pos 1) refl p q)

all_from : (test : ℤ → Bool) (low high : ℤ) → ((m : ℤ) → low ≤ℤ m → m ≤ℤ high → test m ≡ true) → quantified quantifier.All low high test ≡ true
all_from test low high f = each_from test (count low high) low (λ m p q. f m p (from_count low high m ((high -ℤ low) +ℤ pos 1) refl p q))

some_from : (test : ℤ → Bool) (low high m : ℤ) → low ≤ℤ m → m ≤ℤ high → test m ≡ true → quantified quantifier.Some low high test ≡ true
some_from test low high m p q h = one_from test (count low high) low m p (in_count low high m ((high -ℤ low) +ℤ pos 1) refl p q) h

-- ---- ranges

at_least : (x y : Value) → value_of_op op.GreaterOrEqual x y ≡ value.Truth true → as_number y ≤ℤ as_number x
unfolding value_of_op
at_least x y h = let is : int_le (as_number y) (as_number x) ≡ true = truth_is (int_le (as_number y) (as_number x)) true h in grind (arith, ints)

at_most : (x y : Value) → value_of_op op.LessOrEqual x y ≡ value.Truth true → as_number x ≤ℤ as_number y
unfolding value_of_op
at_most x y h = let is : int_le (as_number x) (as_number y) ≡ true = truth_is (int_le (as_number x) (as_number y)) true h in grind (arith, ints)

is_at_least : (x y : Value) → as_number y ≤ℤ as_number x → value_of_op op.GreaterOrEqual x y ≡ value.Truth true
unfolding value_of_op
is_at_least x y h = ap value.Truth (grind (arith, ints))

is_at_most : (x y : Value) → as_number x ≤ℤ as_number y → value_of_op op.LessOrEqual x y ≡ value.Truth true
unfolding value_of_op
is_at_most x y h = ap value.Truth (grind (arith, ints))

number_is : (x : Value) → IsNumber x → x ≡ value.Number (as_number x)
number_is (value.Number n) h = refl
number_is _ h = absurd h

-- ---- a quantifier that stands alone

pub record Parts (d : BoundVariable) (low high body : Term) : Type 0 where
  pub depth : d.depth ≡ 1
  pub low_scoped : stands_alone low ≡ true
  pub high_scoped : stands_alone high ≡ true
  pub body_scoped : is_scoped (d ∷ []) body ≡ true

pub scoped_parts : (q : Quantifier) (d : BoundVariable) (low high body : Term) → stands_alone (Ternary (ternary.Quantified q d) low high body) ≡ true → Parts d low high body
unfolding is_scoped
scoped_parts q d low high body h =
    let all = sym (at_scope [] _ _ (fold-Ternary scoped_step (ternary.Quantified q d) low high body)) ∙ h in
    let depth = and_parts (d.depth == 1) (stands_alone low && (stands_alone high && is_scoped (d ∷ []) body)) all in
    let x = and_parts (stands_alone low) (stands_alone high && is_scoped (d ∷ []) body) depth.1 in
    let y = and_parts (stands_alone high) (is_scoped (d ∷ []) body) x.1 in
    record { depth = eqb-true d.depth 1 depth.0; low_scoped = x.0; high_scoped = y.0; body_scoped = y.1 }

module _ (types : Types) (q : Quantifier) (d : BoundVariable) (low high body : Term) (parts : Parts d low high body) where
  whole : Term
  whole = Ternary (ternary.Quantified q d) low high body

  abbrev passes : Valuation → ℤ → Bool
  passes v m = as_truth (value_of types (with_value_at v (bound d) (value.Number m)) body)

  quantified_is : (v : Valuation) → value_of types v (Ternary (ternary.Quantified q d) low high body) ≡ value.Truth (quantified q (as_number (value_of types v low)) (as_number (value_of types v high)) (passes v))
  quantified_is v = value-Ternary types v (ternary.Quantified q d) low high body

  -- the body at a term that is a number
  opened_holds : (t : Term) → stands_alone t ≡ true → (v : Valuation) → IsNumber (value_of types v t) → passes v (as_number (value_of types v t)) ≡ true → Holds types (opened t body) v
  opened_holds t scoped v number h =
      opened_value types t scoped d body parts.depth parts.body_scoped v
      ∙ ap (λ z. value_of types (with_value_at v (bound d) z) body) (number_is (value_of types v t) number)
      ∙ is_true (value_of types (with_value_at v (bound d) (value.Number (as_number (value_of types v t)))) body) h

  holds_opened : (t : Term) → stands_alone t ≡ true → (v : Valuation) → IsNumber (value_of types v t) → Holds types (opened t body) v → passes v (as_number (value_of types v t)) ≡ true
  holds_opened t scoped v number h =
      ap as_truth (ap (λ z. value_of types (with_value_at v (bound d) z) body) (sym (number_is (value_of types v t) number)) ∙ sym (opened_value types t scoped d body parts.depth parts.body_scoped v) ∙ h)

pub record Between (types : Types) (v : Valuation) (t low high : Term) : Type 0 where
  pub above : as_number (value_of types v low) ≤ℤ as_number (value_of types v t)
  pub below : as_number (value_of types v t) ≤ℤ as_number (value_of types v high)

pub between : (types : Types) (v : Valuation) (t low high : Term) → Holds types (in_range t low high) v → Between types v t low high
between types v t low high h =
    let both = and_holds (value_of types v (Infix op.GreaterOrEqual t low)) (value_of types v (Infix op.LessOrEqual t high)) (sym (value-Infix types v op.And (Infix op.GreaterOrEqual t low) (Infix op.LessOrEqual t high)) ∙ h) in
    record {
      above = at_least (value_of types v t) (value_of types v low) (sym (value-Infix types v op.GreaterOrEqual t low) ∙ both.0);
      below = at_most (value_of types v t) (value_of types v high) (sym (value-Infix types v op.LessOrEqual t high) ∙ both.1);
    }

module _ (types : Types) (s : Sequent) where
  -- `inst`
  pub inst_all_leads : (q : Quantifier) (d : BoundVariable) (number : ℤ) (t low high body : Term) → stands_alone t ≡ true → ((v : Valuation) → Respects types v → IsNumber (value_of types v t))
      → hyp_at s number ≡ Some (Ternary (ternary.Quantified q d) low high body) → Leads types s (inst_all q s t (Ternary (ternary.Quantified q d) low high body) low high body)
  inst_all_leads quantifier.All d number t low high body scoped numeric found =
      let h = Ternary (ternary.Quantified quantifier.All d) low high body in
      leads_if types s (stands_alone h) (Ok (with_goal (in_range t low high) s ∷ with_hyp (opened t body) s ∷ []))
      (λ alone. leads_ok types s (with_goal (in_range t low high) s ∷ with_hyp (opened t body) s ∷ [])
      (λ all. valid types s (λ v r f.
      let parts = scoped_parts quantifier.All d low high body alone in
      let range = between types v t low high (goal_of types s (with_goal (in_range t low high) s) all.0 v r f) in
      let holds = hyp_has types s (λ h. Holds types h v) number h found f in
      let each = truth_is (quantified quantifier.All (as_number (value_of types v low)) (as_number (value_of types v high)) (passes types quantifier.All d low high body parts v)) true (sym (quantified_is types quantifier.All d low high body parts v) ∙ holds) in
      goal_with types s (opened t body ∷ []) s.goal all.1.0 v r f (
        opened_holds types quantifier.All d low high body parts t scoped v (numeric v r)
            (all_at (passes types quantifier.All d low high body parts v) (as_number (value_of types v low)) (as_number (value_of types v high)) (as_number (value_of types v t)) each range.above range.below),
        tt,
      ))))
  inst_all_leads quantifier.Some d number t low high body scoped numeric found = leads_refused types s

  -- `give`
  pub give_some_leads : (q : Quantifier) (d : BoundVariable) (t low high body : Term) → stands_alone t ≡ true → ((v : Valuation) → Respects types v → IsNumber (value_of types v t))
      → Ternary (ternary.Quantified q d) low high body ≡ s.goal → Leads types s (give_some q s t low high body)
  give_some_leads quantifier.Some d t low high body scoped numeric is =
      leads_if types s (stands_alone s.goal) (Ok (with_goal (in_range t low high) s ∷ with_goal (opened t body) s ∷ []))
      (λ alone. leads_ok types s (with_goal (in_range t low high) s ∷ with_goal (opened t body) s ∷ [])
      (λ all. valid types s (λ v r f.
      let parts = scoped_parts quantifier.Some d low high body (ap stands_alone is ∙ alone) in
      let range = between types v t low high (goal_of types s (with_goal (in_range t low high) s) all.0 v r f) in
      ap (value_of types v) (sym is) ∙ quantified_is types quantifier.Some d low high body parts v
      ∙ ap value.Truth (some_from (passes types quantifier.Some d low high body parts v) (as_number (value_of types v low)) (as_number (value_of types v high)) (as_number (value_of types v t)) range.above range.below
      (holds_opened types quantifier.Some d low high body parts t scoped v (numeric v r) (goal_of types s (with_goal (opened t body) s) all.1.0 v r f))))))
  give_some_leads quantifier.All d t low high body scoped numeric is = leads_refused types s

  -- ---- new numbers

  abbrev next : ℕ
  next = suc (greatest_in (s.goal ∷ s.hyps))

  abbrev at_new : BoundVariable → Valuation → ℤ → Valuation
  at_new d v m = with_value_at v (new next d) (value.Number m)

  new_respects : (d : BoundVariable) (v : Valuation) (m : ℤ) → Respects types v → Respects types (at_new d v m)
  new_respects d v m r name = by_test (same_name (new next d) name) refl where
    by_test : (b : Bool) → same_name (new next d) name ≡ b → HasSort types name.sort (if b then value.Number m else v name)
    by_test true h = subst (λ (x : Name). HasSort types x.sort (value.Number m)) ((same_name-Decides (new next d) name).0 h) tt
    by_test false h = r name

  facts_kept : (d : BoundVariable) (v : Valuation) (m : ℤ) (ts : List Term) → greatest_in ts < next → AllByRecursion (λ h. Holds types h v) ts → AllByRecursion (λ h. Holds types h (at_new d v m)) ts
  facts_kept d v m [] h all = tt
  facts_kept d v m (t ∷ ts) h all = (unchanged types next d (value.Number m) t (omega arith) v ∙ all.0, facts_kept d v m ts (omega arith) all.1)

  new_value : (d : BoundVariable) (v : Valuation) (m : ℤ) → value_of types (at_new d v m) (Variable (new next d)) ≡ value.Number m
  new_value d v m = value-Variable types (at_new d v m) (new next d) ∙ here v (new next d) (value.Number m)

  not_new : (d c : BoundVariable) → same_name (new next d) (bound c) ≡ false
  not_new d c = differ (new next d) (bound c) (λ e. no_truth ⊥ (sym (ap (λ (name : Name). is_free name.symbol) e)))

  -- the body for a new number is the body at that number
  new_body : (d : BoundVariable) (body : Term) → d.depth ≡ 1 → is_scoped (d ∷ []) body ≡ true → greatest body < next → (v : Valuation) (m : ℤ) → value_of types (at_new d v m) (opened (Variable (new next d)) body) ≡ value_of types (with_value_at v (bound d) (value.Number m)) body
  new_body d body one scoped less v m =
      opened_value types (Variable (new next d)) (alone_variable (new next d) refl) d body one scoped (at_new d v m)
      ∙ ap (λ z. value_of types (with_value_at (at_new d v m) (bound d) z) body) (new_value d v m)
      ∙ ap (λ (u : Valuation). value_of types u body) (swapped v (new next d) (bound d) (value.Number m) (value.Number m) (not_new d d))
      ∙ unchanged types next d (value.Number m) body less (with_value_at v (bound d) (value.Number m))

  range_facts : (d : BoundVariable) (low high : Term) → greatest low < next → greatest high < next → (v : Valuation) (m : ℤ) → as_number (value_of types v low) ≤ℤ m → m ≤ℤ as_number (value_of types v high)
      → AllByRecursion (λ h. Holds types h (at_new d v m)) (from_to (Variable (new next d)) low high)
  range_facts d low high p q v m above below =
      let w = at_new d v m in
      let x = Variable (new next d) in (
        value-Infix types w op.GreaterOrEqual x low ∙ ap₂ (value_of_op op.GreaterOrEqual) (new_value d v m) (unchanged types next d (value.Number m) low p v) ∙ is_at_least (value.Number m) (value_of types v low) above,
        (value-Infix types w op.LessOrEqual x high ∙ ap₂ (value_of_op op.LessOrEqual) (new_value d v m) (unchanged types next d (value.Number m) high q v) ∙ is_at_most (value.Number m) (value_of types v high) below, tt),
      )

  greatest_parts : (q : Quantifier) (d : BoundVariable) (low high body : Term) → greatest (Ternary (ternary.Quantified q d) low high body) ≡ max (greatest low) (max (greatest high) (greatest body))
  unfolding greatest
  greatest_parts q d low high body = fold-Ternary greatest_step (ternary.Quantified q d) low high body

  -- `intro`
  pub intro_all_leads : (q : Quantifier) (d : BoundVariable) (low high body : Term) → Ternary (ternary.Quantified q d) low high body ≡ s.goal → Leads types s (intro_all q d s low high body)
  unfolding new_name
  intro_all_leads quantifier.All d low high body is =
      let x = Variable (new next d) in
      let left = with_goal (opened x body) (with_hyps (from_to x low high) s) in
      leads_if types s (stands_alone s.goal) (Ok (left ∷ []))
      (λ alone. leads_ok types s (left ∷ [])
      (λ all. valid types s (λ v r f.
      let parts = scoped_parts quantifier.All d low high body (ap stands_alone is ∙ alone) in
      let most : greatest s.goal ≡ max (greatest low) (max (greatest high) (greatest body)) = ap greatest (sym is) ∙ greatest_parts quantifier.All d low high body in
      ap (value_of types v) (sym is) ∙ quantified_is types quantifier.All d low high body parts v
      ∙ ap value.Truth (all_from (passes types quantifier.All d low high body parts v) (as_number (value_of types v low)) (as_number (value_of types v high))
      (λ m above below.
      ap as_truth (sym (new_body d body parts.depth parts.body_scoped (omega arith) v m)
      ∙ goal_with types s (from_to x low high) (opened x body) all.0 (at_new d v m) (new_respects d v m r) (facts_kept d v m s.hyps (omega arith) f) (range_facts d low high (omega arith) (omega arith) v m above below)))))))
  intro_all_leads quantifier.Some d low high body is = leads_refused types s

  some_number : (q : Quantifier) (d : BoundVariable) (low high body : Term) (parts : Parts d low high body) (v : Valuation) → q ≡ quantifier.Some → Holds types (Ternary (ternary.Quantified q d) low high body) v
      → Found (passes types q d low high body parts v) (as_number (value_of types v low)) (count (as_number (value_of types v low)) (as_number (value_of types v high)))
  some_number quantifier.Some d low high body parts v e holds =
      one_at (passes types quantifier.Some d low high body parts v) (count (as_number (value_of types v low)) (as_number (value_of types v high))) (as_number (value_of types v low))
      (truth_is (quantified quantifier.Some (as_number (value_of types v low)) (as_number (value_of types v high)) (passes types quantifier.Some d low high body parts v)) true (sym (quantified_is types quantifier.Some d low high body parts v) ∙ holds))
  some_number quantifier.All d low high body parts v e holds = absurd (cc)

  greatest_found : (ts : List Term) (n : ℕ) (t : Term) → slice_get ts n ≡ Some t → greatest t < suc (greatest_in ts)
  greatest_found [] n t h = absurd (cc)
  greatest_found (u ∷ us) zero t h = subst (λ (x : Term). greatest x < suc (greatest_in (u ∷ us))) (some_term u t h) (omega arith) where
    some_term : (u t : Term) → ◌≡◌ {A = Option Term} (Some u) (Some t) → u ≡ t
    some_term u t h = cc
  greatest_found (u ∷ us) (suc n) t h = let less = greatest_found us n t h in omega arith

  greatest_hyp : (number : ℤ) (t : Term) → hyp_at s number ≡ Some t → greatest t < next
  greatest_hyp (pos (suc n)) t h = let less = greatest_found s.hyps n t h in omega arith
  greatest_hyp (pos zero) t h = absurd (cc)
  greatest_hyp (negsuc n) t h = absurd (cc)

  -- `use` of `for some`
  pub use_some_leads : (q : Quantifier) (d : BoundVariable) (number : ℤ) (low high body : Term) → hyp_at s number ≡ Some (Ternary (ternary.Quantified q d) low high body)
      → Leads types s (use_some q d s (Ternary (ternary.Quantified q d) low high body) low high body)
  unfolding new_name
  use_some_leads quantifier.Some d number low high body found =
      let h = Ternary (ternary.Quantified quantifier.Some d) low high body in
      let x = Variable (new next d) in
      let left = with_hyp (opened x body) (with_hyps (from_to x low high) s) in
      leads_if types s (stands_alone h) (Ok (left ∷ []))
      (λ alone. leads_ok types s (left ∷ [])
      (λ all. valid types s (λ v r f.
      let parts = scoped_parts quantifier.Some d low high body alone in
      let less = greatest_hyp number h found in
      let most : greatest h ≡ max (greatest low) (max (greatest high) (greatest body)) = greatest_parts quantifier.Some d low high body in
      let some = some_number quantifier.Some d low high body parts v refl (hyp_has types s (λ h. Holds types h v) number h found f) in
      let m = some.number in
      let below = from_count (as_number (value_of types v low)) (as_number (value_of types v high)) m ((as_number (value_of types v high) -ℤ as_number (value_of types v low)) +ℤ pos 1) refl some.above some.below in
      let w = at_new d v m in
      let kept = facts_kept d v m s.hyps (omega arith) f in
      let ranges = range_facts d low high (omega arith) (omega arith) v m some.above below in
      let body_holds = new_body d body parts.depth parts.body_scoped (omega arith) v m ∙ is_true (value_of types (with_value_at v (bound d) (value.Number m)) body) some.passes in
      sym (unchanged types next d (value.Number m) s.goal (omega arith) v)
      ∙ goal_of types s left all.0 w (new_respects d v m r)
      (all_append (λ h. Holds types h w) (s.hyps ++ from_to x low high) (opened x body ∷ []) (all_append (λ h. Holds types h w) s.hyps (from_to x low high) kept ranges) (body_holds, tt)))))
  use_some_leads quantifier.All d number low high body found = leads_refused types s
