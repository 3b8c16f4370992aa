-- Each step leads from valid sequents to a valid one.
use Rattle.std.proofs.Common.{◌≡◌, ℕ, zero, suc, Bool, true, false, not, ◌||◌, ℤ, pos, negsuc, int_lt, int_le, Option, Some, None, Ok, List, [], ◌∷◌, slice_get, refl, sym, ap, ap₂, ◌∙◌, subst, arith}
use Rattle.std.specs.List.{AllByRecursion}
use Rattle.std.specs.Ordering.{int_eq}
use Rattle.std.proofs.lemmas.Int.{ints}
use Rattle.std.proofs.lemmas.Bool.Decides.{Decides-int_eq}
use Rattle.std.proofs.lemmas.List.Elements.{All-from_recursion, recursion_from_All}
use Rattle.spx_term.specs.declared.condition.Sequent.{Sequent}
use Rattle.spx_term.specs.declared.term.Sort.{Sort}
use Rattle.spx_term.specs.declared.term.Sort.TheVariants.{Integer, Boolean}
use Rattle.spx_term.specs.declared.term.TermOp.{TermOp}
use Rattle.spx_term.specs.declared.term.TermOp.TheVariants as op
use Rattle.spx_term.specs.declared.term.TermPrefix.{TermPrefix}
use Rattle.spx_term.specs.declared.term.TermPrefix.TheVariants as sign
use Rattle.spx_term.specs.declared.term.Term.{Term, Term-F, roll-Term}
use Rattle.spx_term.specs.declared.term.Term.TheVariants.{Truth, Prefix, Infix, rolls-Infix}
use Rattle.spx_term.specs.declared.value.Value.{Value}
use Rattle.spx_term.specs.declared.value.Value.TheVariants as value
use Rattle.spx_term.specs.Equality.{same_term}
use Rattle.spx_term.specs.Negation.{is_numeric}
use Rattle.spx_term.specs.Folding.{folded}
use Rattle.spx_term.specs.Plain.{closes, closes-Decides}
use Rattle.spx_term.specs.Sorts.{sort_of_op, sort_step, sort_of}
use Rattle.spx_term.specs.Values.{Types}
use Rattle.spx_term.specs.Meaning.{as_truth, same_truth, same_value, value_of_prefix, value_of_op, Valuation, value_of, Holds, HasSort, IsNumber, Respects}
use Rattle.spx_term.specs.contracts.value.Value as value_code
use Rattle.spx_term.proofs.Equality.{same_term-Decides, same_by-Decides}
use Rattle.spx_term.proofs.Terms.{fold-Infix, value-Truth, value-Prefix, value-Infix}
use Rattle.spx_term.proofs.GoalLaws.{and_holds, from_both}
use Rattle.spx_term.proofs.ConjunctLaws.{all_append}
use Rattle.spx_term.proofs.FoldingLaws.{two_sorts, sorted_value, keeps_value}
use Rattle.spx_term.proofs.PlainLaws.{plain_valid}
use Rattle.spx_linear.proofs.NumericLaws.{integral}
use Rattle.spx_kernel.specs.Sequents.{Answer, refused, with_hyp, with_hyps, with_goal, hyp_at, Sorted, IsValid, Leads}
use Rattle.spx_kernel.specs.Steps.{only_if, at, by_hyp, split_infix, split_in, intro_infix, intro_prefix, pick_infix, pick_in, cases_infix, cases_in, use_infix, use_prefix}

pub is_true : (x : Value) → as_truth x ≡ true → x ≡ value.Truth true
is_true (value.Truth b) h = ap value.Truth h
is_true _ h = absurd (cc)

pub truth_is : (a b : Bool) → value.Truth a ≡ value.Truth b → a ≡ b
truth_is a b h = cc

pub no_truth : (P : Type 0) → false ≡ true → P
no_truth P h = absurd (cc)

-- either a value is true, or it counts as false
pub either : (P : Type 0) (x : Value) → (x ≡ value.Truth true → P) → (as_truth x ≡ false → P) → P
either P x f g = by_truth (as_truth x) refl where
  by_truth : (b : Bool) → as_truth x ≡ b → P
  by_truth true h = f (is_true x h)
  by_truth false h = g h

-- ---- logical operations on truth values

or_of : (a b : Bool) → (a || b) ≡ true → (P : Type 0) → (a ≡ true → P) → (b ≡ true → P) → P
or_of true b h P f g = f refl
or_of false b h P f g = g h

implies_of : (a b : Bool) → (not a || b) ≡ true → a ≡ true → b ≡ true
implies_of true b h p = h
implies_of false b h p = no_truth (b ≡ true) p

both_ways : (a b : Bool) → (not a || b) ≡ true → (not b || a) ≡ true → same_truth a b ≡ true
both_ways true b p q = p
both_ways false true p q = q
both_ways false false p q = refl

forth : (a b : Bool) → same_truth a b ≡ true → (not a || b) ≡ true
forth true b h = h
forth false b h = refl

back : (a b : Bool) → same_truth a b ≡ true → (not b || a) ≡ true
back true true h = refl
back true false h = refl
back false true h = h
back false false h = refl

pub not_of : (b : Bool) → not b ≡ true → b ≡ false
not_of true h = no_truth (true ≡ false) h
not_of false h = refl

-- ---- what holds of operations

or_holds : (x y : Value) → value_of_op op.Or x y ≡ value.Truth true → (P : Type 0) → (x ≡ value.Truth true → P) → (y ≡ value.Truth true → P) → P
unfolding value_of_op
or_holds x y h P f g = or_of (as_truth x) (as_truth y) (truth_is (as_truth x || as_truth y) true h) P (λ a. f (is_true x a)) (λ b. g (is_true y b))

or_first : (x y : Value) → x ≡ value.Truth true → value_of_op op.Or x y ≡ value.Truth true
unfolding value_of_op
or_first x y h = ap (λ z. value.Truth (as_truth z || as_truth y)) h

or_second : (x y : Value) → y ≡ value.Truth true → value_of_op op.Or x y ≡ value.Truth true
unfolding value_of_op
or_second x y h = ap (λ z. value.Truth (as_truth x || as_truth z)) h ∙ ap value.Truth (or_true (as_truth x)) where
  or_true : (b : Bool) → (b || true) ≡ true
  or_true true = refl
  or_true false = refl

implies_holds : (x y : Value) → value_of_op op.Implies x y ≡ value.Truth true → x ≡ value.Truth true → y ≡ value.Truth true
unfolding value_of_op
implies_holds x y h p = is_true y (implies_of (as_truth x) (as_truth y) (truth_is (not (as_truth x) || as_truth y) true h) (ap as_truth p))

implies_from : (x y : Value) → (x ≡ value.Truth true → y ≡ value.Truth true) → value_of_op op.Implies x y ≡ value.Truth true
unfolding value_of_op
implies_from x y f =
    either (value_of_op op.Implies x y ≡ value.Truth true) x
    (λ p. ap value.Truth (ap₂ (λ a b. not a || b) (ap as_truth p) (ap as_truth (f p))))
    (λ p. ap (λ a. value.Truth (not a || as_truth y)) p)

equivalent_from : (x y : Value) → value_of_op op.Implies x y ≡ value.Truth true → value_of_op op.Implies y x ≡ value.Truth true → value_of_op op.Equivalent x y ≡ value.Truth true
unfolding value_of_op
equivalent_from x y p q = ap value.Truth (both_ways (as_truth x) (as_truth y) (truth_is (not (as_truth x) || as_truth y) true p) (truth_is (not (as_truth y) || as_truth x) true q))

equivalent_forth : (x y : Value) → value_of_op op.Equivalent x y ≡ value.Truth true → value_of_op op.Implies x y ≡ value.Truth true
unfolding value_of_op
equivalent_forth x y h = ap value.Truth (forth (as_truth x) (as_truth y) (truth_is (same_truth (as_truth x) (as_truth y)) true h))

equivalent_back : (x y : Value) → value_of_op op.Equivalent x y ≡ value.Truth true → value_of_op op.Implies y x ≡ value.Truth true
unfolding value_of_op
equivalent_back x y h = ap value.Truth (back (as_truth x) (as_truth y) (truth_is (same_truth (as_truth x) (as_truth y)) true h))

not_from : (x : Value) → (x ≡ value.Truth true → ⊥) → value_of_prefix sign.Not x ≡ value.Truth true
unfolding value_of_prefix
not_from x f = either (value_of_prefix sign.Not x ≡ value.Truth true) x (λ p. absurd (f p)) (λ p. ap (λ b. value.Truth (not b)) p)

not_holds : (x : Value) → value_of_prefix sign.Not x ≡ value.Truth true → x ≡ value.Truth true → ⊥
unfolding value_of_prefix
not_holds x h p = no_truth ⊥ (sym (ap (λ (z : Value). not (as_truth z)) p) ∙ truth_is (not (as_truth x)) true h)

-- ---- numbers

equal_from : (x y : Value) → IsNumber x → IsNumber y → value_of_op op.LessOrEqual x y ≡ value.Truth true → value_of_op op.GreaterOrEqual x y ≡ value.Truth true → value_of_op op.Equal x y ≡ value.Truth true
unfolding value_of_op
equal_from (value.Number m) (value.Number n) p q h k =
    let below : int_le m n ≡ true = truth_is (int_le m n) true h in
    let above : int_le n m ≡ true = truth_is (int_le n m) true k in
    ap value.Truth ((Decides-int_eq m n).1 (grind (arith, ints)))
equal_from (value.Number m) _ p q h k = absurd q
equal_from _ y p q h k = absurd p

apart : (x y : Value) → IsNumber x → IsNumber y → value_of_op op.NotEqual x y ≡ value.Truth true → (P : Type 0) → (value_of_op op.Less x y ≡ value.Truth true → P) → (value_of_op op.Greater x y ≡ value.Truth true → P) → P
unfolding value_of_op
apart (value.Number m) (value.Number n) p q h P f g = by_less (int_lt m n) (int_lt n m) refl refl where
  by_less : (a b : Bool) → int_lt m n ≡ a → int_lt n m ≡ b → P
  by_less true b is also = f (ap value.Truth is)
  by_less false true is also = g (ap value.Truth also)
  by_less false false is also =
      let e : m ≡ n = grind (arith, ints) in
      no_truth P (sym (ap not ((Decides-int_eq m n).1 e)) ∙ truth_is (not (int_eq m n)) true h)
apart (value.Number m) _ p q h P f g = absurd q
apart _ y p q h P f g = absurd p

number_sort : (types : Types) (x : Value) (s : Sort) → s ≡ Integer → HasSort types s x → IsNumber x
number_sort types x s e h = subst (λ s. HasSort types s x) e h

pub alike_sort : (o : TermOp) → sort_of_op o ≡ sort_of_op op.Equal → (m n s : Sort) → sort_of_op o m n ≡ Some s → m ≡ Integer → n ≡ Integer
unfolding sort_of_op
alike_sort o same m n s h e = equal_sort m n s (ap (λ (f : Sort → Sort → Option Sort). f m n) (sym same) ∙ h) e where
  equal_sort : (m n s : Sort) → sort_of_op op.Equal m n ≡ Some s → m ≡ Integer → n ≡ Integer
  equal_sort Integer Integer s h e = refl
  equal_sort Integer _ s h e = absurd (cc)
  equal_sort _ n s h e = absurd (cc)

pub not_equal_alike : sort_of_op op.NotEqual ≡ sort_of_op op.Equal
unfolding sort_of_op
not_equal_alike = refl

-- both operands of a comparison by `=` or `/=` are numbers, where the first one is seen to be
record Numbers (x y : Value) : Type 0 where
  first : IsNumber x
  second : IsNumber y

numbers : (types : Types) (v : Valuation) → Respects types v → (o : TermOp) → sort_of_op o ≡ sort_of_op op.Equal → (a b : Term) → sort_of types (Infix o a b) ≡ Some Boolean → is_numeric a ≡ true → Numbers (value_of types v a) (value_of types v b)
numbers types v respects o same a b sorted numeric =
    let sorts = two_sorts (sort_of_op o) (sort_of types a) (sort_of types b) Boolean (sym (fold-Infix (sort_step types) o a b) ∙ sorted) in
    let first = integral types a sorts.first numeric sorts.first_is in
    let second = alike_sort o same sorts.first sorts.second Boolean sorts.gives first in
    record {
      first = number_sort types (value_of types v a) sorts.first first (sorted_value types v respects a sorts.first sorts.first_is);
      second = number_sort types (value_of types v b) sorts.second second (sorted_value types v respects b sorts.second sorts.second_is);
    }

-- ---- steps

module _ (types : Types) (s : Sequent) where
  pub leads_refused : Leads types s refused
  leads_refused left h all = absurd (cc)

  ok_is : (xs ys : List Sequent) → ◌≡◌ {A = Answer} (Ok xs) (Ok ys) → xs ≡ ys
  ok_is xs ys h = cc

  pub leads_ok : (xs : List Sequent) → (AllByRecursion (IsValid types) xs → IsValid types s) → Leads types s (Ok xs)
  leads_ok xs f left h all = f (subst (AllByRecursion (IsValid types)) (sym (ok_is xs left h)) all)

  pub leads_if : (test : Bool) (answer : Answer) → (test ≡ true → Leads types s answer) → Leads types s (only_if test answer)
  leads_if true answer f = f refl
  leads_if false answer f = leads_refused

  pub leads_at : (o : Option Term) (f : Term → Answer) → ((t : Term) → o ≡ Some t → Leads types s (f t)) → Leads types s (at o f)
  leads_at (Some t) f g = g t refl
  leads_at None f g = leads_refused

  abbrev pub Facts : Valuation → Type 0
  Facts v = AllByRecursion (λ h. Holds types h v) s.hyps

  -- to be shown valid
  pub valid : ((v : Valuation) → Respects types v → Facts v → Holds types s.goal v) → IsValid types s
  valid f v respects all = f v respects (recursion_from_All (λ h. Holds types h v) s.hyps all)

  -- what a valid sequent gives
  pub goal_of : (t : Sequent) → IsValid types t → (v : Valuation) → Respects types v → AllByRecursion (λ h. Holds types h v) t.hyps → Holds types t.goal v
  goal_of t is v respects facts = is v respects (All-from_recursion (λ h. Holds types h v) t.hyps facts)

  pub goal_with : (ts : List Term) (g : Term) → IsValid types (with_goal g (with_hyps ts s)) → (v : Valuation) → Respects types v → Facts v → AllByRecursion (λ h. Holds types h v) ts → Holds types g v
  goal_with ts g is v respects facts more = goal_of (with_goal g (with_hyps ts s)) is v respects (all_append (λ h. Holds types h v) s.hyps ts facts more)

  found : (P : Term → Type 0) (ts : List Term) (n : ℕ) (t : Term) → slice_get ts n ≡ Some t → AllByRecursion P ts → P t
  found P [] n t h all = absurd (cc)
  found P (u ∷ us) zero t h all = subst P (some_term u t h) all.0 where
    some_term : (u t : Term) → ◌≡◌ {A = Option Term} (Some u) (Some t) → u ≡ t
    some_term u t h = cc
  found P (u ∷ us) (suc n) t h all = found P us n t h all.1

  pub hyp_has : (P : Term → Type 0) (n : ℤ) (t : Term) → hyp_at s n ≡ Some t → AllByRecursion P s.hyps → P t
  hyp_has P (pos (suc n)) t h all = found P s.hyps n t h all
  hyp_has P (pos zero) t h all = absurd (cc)
  hyp_has P (negsuc n) t h all = absurd (cc)

  module _ (sorted : Sorted types s) where
    pub by_hyp_leads : (n : ℤ) (h : Term) → hyp_at s n ≡ Some h → Leads types s (by_hyp s h)
    by_hyp_leads n h is =
        leads_if (same_term (folded h) (folded s.goal)) (Ok [])
        (λ same. leads_ok [] (λ all. valid (λ v respects facts.
        sym (keeps_value types v respects s.goal Boolean sorted.1)
        ∙ ap (value_of types v) (sym ((same_term-Decides (folded h) (folded s.goal)).0 same))
        ∙ keeps_value types v respects h Boolean (hyp_has (λ h. sort_of types h ≡ Some Boolean) n h is sorted.0)
        ∙ hyp_has (λ h. Holds types h v) n h is facts)))

    pub plain_leads : Leads types s (only_if (closes s.hyps s.goal) (Ok []))
    plain_leads =
        leads_if (closes s.hyps s.goal) (Ok [])
        (λ is. leads_ok [] (λ all. plain_valid types s.hyps s.goal (All-from_recursion (λ h. sort_of types h ≡ Some Boolean) s.hyps sorted.0) sorted.1 ((closes-Decides s.hyps s.goal).0 is)))

    -- a goal that is an operation
    infix_goal : (o : TermOp) (a b : Term) → Infix o a b ≡ s.goal → (v : Valuation) → value_of_op o (value_of types v a) (value_of types v b) ≡ value.Truth true → Holds types s.goal v
    infix_goal o a b is v h = ap (value_of types v) (sym is) ∙ value-Infix types v o a b ∙ h

    infix_holds : (o : TermOp) (a b : Term) (v : Valuation) → Holds types (Infix o a b) v → value_of_op o (value_of types v a) (value_of types v b) ≡ value.Truth true
    infix_holds o a b v h = sym (value-Infix types v o a b) ∙ h

    split_infix_leads : (o : TermOp) (a b : Term) → Infix o a b ≡ s.goal → Leads types s (split_infix o s a b)
    split_infix_leads op.And a b is =
        leads_ok (with_goal a s ∷ with_goal b s ∷ [])
        (λ all. valid (λ v r f. infix_goal op.And a b is v (from_both (value_of types v a) (value_of types v b) (goal_of (with_goal a s) all.0 v r f) (goal_of (with_goal b s) all.1.0 v r f))))
    split_infix_leads op.Equivalent a b is =
        leads_ok (with_goal (Infix op.Implies a b) s ∷ with_goal (Infix op.Implies b a) s ∷ [])
        (λ all. valid (λ v r f. infix_goal op.Equivalent a b is v
        (equivalent_from (value_of types v a) (value_of types v b) (infix_holds op.Implies a b v (goal_of (with_goal (Infix op.Implies a b) s) all.0 v r f)) (infix_holds op.Implies b a v (goal_of (with_goal (Infix op.Implies b a) s) all.1.0 v r f)))))
    split_infix_leads op.Equal a b is =
        leads_if (is_numeric a) (Ok (with_goal (Infix op.LessOrEqual a b) s ∷ with_goal (Infix op.GreaterOrEqual a b) s ∷ []))
        (λ numeric. leads_ok (with_goal (Infix op.LessOrEqual a b) s ∷ with_goal (Infix op.GreaterOrEqual a b) s ∷ [])
        (λ all. valid (λ v r f.
        let both = numbers types v r op.Equal refl a b (ap (sort_of types) is ∙ sorted.1) numeric in
        infix_goal op.Equal a b is v
        (equal_from (value_of types v a) (value_of types v b) both.first both.second
        (infix_holds op.LessOrEqual a b v (goal_of (with_goal (Infix op.LessOrEqual a b) s) all.0 v r f))
        (infix_holds op.GreaterOrEqual a b v (goal_of (with_goal (Infix op.GreaterOrEqual a b) s) all.1.0 v r f))))))
    split_infix_leads _ a b is = leads_refused

    pub split_leads : (layer : Term-F Term) → roll-Term layer ≡ s.goal → Leads types s (split_in s layer)
    split_leads (Term-F.Infix o a b) is = split_infix_leads o a b (sym (rolls-Infix o a b) ∙ is)
    split_leads _ is = leads_refused

    pub intro_infix_leads : (o : TermOp) (a b : Term) → Infix o a b ≡ s.goal → Leads types s (intro_infix o s a b)
    intro_infix_leads op.Implies a b is =
        leads_ok (with_goal b (with_hyp a s) ∷ [])
        (λ all. valid (λ v r f. infix_goal op.Implies a b is v (implies_from (value_of types v a) (value_of types v b) (λ h. goal_with (a ∷ []) b all.0 v r f (h, tt)))))
    intro_infix_leads _ a b is = leads_refused

    false_fails : (v : Valuation) → Holds types (Truth false) v → ⊥
    false_fails v h = no_truth ⊥ (ap as_truth (sym (value-Truth types v false) ∙ h))

    pub intro_prefix_leads : (o : TermPrefix) (a : Term) → Prefix o a ≡ s.goal → Leads types s (intro_prefix o s a)
    intro_prefix_leads sign.Not a is =
        leads_ok (with_goal (Truth false) (with_hyp a s) ∷ [])
        (λ all. valid (λ v r f. ap (value_of types v) (sym is) ∙ value-Prefix types v sign.Not a
        ∙ not_from (value_of types v a) (λ h. false_fails v (goal_with (a ∷ []) (Truth false) all.0 v r f (h, tt)))))
    intro_prefix_leads _ a is = leads_refused

    pick_infix_leads : (left : Bool) (o : TermOp) (a b : Term) → Infix o a b ≡ s.goal → Leads types s (pick_infix left o s a b)
    pick_infix_leads true op.Or a b is =
        leads_ok (with_goal a s ∷ []) (λ all. valid (λ v r f. infix_goal op.Or a b is v (or_first (value_of types v a) (value_of types v b) (goal_of (with_goal a s) all.0 v r f))))
    pick_infix_leads false op.Or a b is =
        leads_ok (with_goal b s ∷ []) (λ all. valid (λ v r f. infix_goal op.Or a b is v (or_second (value_of types v a) (value_of types v b) (goal_of (with_goal b s) all.0 v r f))))
    pick_infix_leads left _ a b is = leads_refused

    pub pick_leads : (left : Bool) (layer : Term-F Term) → roll-Term layer ≡ s.goal → Leads types s (pick_in left s layer)
    pick_leads left (Term-F.Infix o a b) is = pick_infix_leads left o a b (sym (rolls-Infix o a b) ∙ is)
    pick_leads left _ is = leads_refused

    -- a hypothesis with its number
    module _ (n : ℤ) (h : Term) (found_at : hyp_at s n ≡ Some h) where
      holds_here : (v : Valuation) → Facts v → Holds types h v
      holds_here v f = hyp_has (λ h. Holds types h v) n h found_at f

      infix_here : (o : TermOp) (a b : Term) → Infix o a b ≡ h → (v : Valuation) → Facts v → value_of_op o (value_of types v a) (value_of types v b) ≡ value.Truth true
      infix_here o a b is v f = infix_holds o a b v (ap (value_of types v) is ∙ holds_here v f)

      cases_infix_leads : (o : TermOp) (a b : Term) → Infix o a b ≡ h → Leads types s (cases_infix o s a b)
      cases_infix_leads op.Or a b is =
          leads_ok (with_hyp a s ∷ with_hyp b s ∷ [])
          (λ all. valid (λ v r f. or_holds (value_of types v a) (value_of types v b) (infix_here op.Or a b is v f) (Holds types s.goal v)
          (λ p. goal_with (a ∷ []) s.goal all.0 v r f (p, tt)) (λ p. goal_with (b ∷ []) s.goal all.1.0 v r f (p, tt))))
      cases_infix_leads op.NotEqual a b is =
          leads_if (is_numeric a) (Ok (with_hyp (Infix op.Less a b) s ∷ with_hyp (Infix op.Greater a b) s ∷ []))
          (λ numeric. leads_ok (with_hyp (Infix op.Less a b) s ∷ with_hyp (Infix op.Greater a b) s ∷ [])
          (λ all. valid (λ v r f.
          let both = numbers types v r op.NotEqual not_equal_alike a b (ap (sort_of types) is ∙ hyp_has (λ h. sort_of types h ≡ Some Boolean) n h found_at sorted.0) numeric in
          apart (value_of types v a) (value_of types v b) both.first both.second (infix_here op.NotEqual a b is v f) (Holds types s.goal v)
          (λ p. goal_with (Infix op.Less a b ∷ []) s.goal all.0 v r f (value-Infix types v op.Less a b ∙ p, tt))
          (λ p. goal_with (Infix op.Greater a b ∷ []) s.goal all.1.0 v r f (value-Infix types v op.Greater a b ∙ p, tt)))))
      cases_infix_leads _ a b is = leads_refused

      pub cases_leads : (layer : Term-F Term) → roll-Term layer ≡ h → Leads types s (cases_in s layer)
      cases_leads (Term-F.Infix o a b) is = cases_infix_leads o a b (sym (rolls-Infix o a b) ∙ is)
      cases_leads _ is = leads_refused

      pub use_infix_leads : (o : TermOp) (a b : Term) → Infix o a b ≡ h → Leads types s (use_infix o s a b)
      use_infix_leads op.And a b is =
          leads_ok (with_hyps (a ∷ b ∷ []) s ∷ [])
          (λ all. valid (λ v r f. let both = and_holds (value_of types v a) (value_of types v b) (infix_here op.And a b is v f) in goal_with (a ∷ b ∷ []) s.goal all.0 v r f (both.0, (both.1, tt))))
      use_infix_leads op.Implies a b is =
          leads_ok (with_goal a s ∷ with_hyp b s ∷ [])
          (λ all. valid (λ v r f. goal_with (b ∷ []) s.goal all.1.0 v r f (implies_holds (value_of types v a) (value_of types v b) (infix_here op.Implies a b is v f) (goal_of (with_goal a s) all.0 v r f), tt)))
      use_infix_leads op.Equivalent a b is =
          leads_ok (with_hyps (Infix op.Implies a b ∷ Infix op.Implies b a ∷ []) s ∷ [])
          (λ all. valid (λ v r f. let e = infix_here op.Equivalent a b is v f in
          goal_with (Infix op.Implies a b ∷ Infix op.Implies b a ∷ []) s.goal all.0 v r f
          (value-Infix types v op.Implies a b ∙ equivalent_forth (value_of types v a) (value_of types v b) e, (value-Infix types v op.Implies b a ∙ equivalent_back (value_of types v a) (value_of types v b) e, tt))))
      use_infix_leads _ a b is = leads_refused

      pub use_prefix_leads : (o : TermPrefix) (a : Term) → Prefix o a ≡ h → Leads types s (use_prefix o s a)
      use_prefix_leads sign.Not a is =
          leads_ok (with_goal a s ∷ [])
          (λ all. valid (λ v r f. absurd (not_holds (value_of types v a) (sym (value-Prefix types v sign.Not a) ∙ ap (value_of types v) is ∙ holds_here v f) (goal_of (with_goal a s) all.0 v r f))))
      use_prefix_leads _ a is = leads_refused

    -- a formula that is shown first
    pub cut_leads : (t : Term) (test : Bool) → Leads types s (only_if test (Ok (with_goal t s ∷ with_hyp t s ∷ [])))
    cut_leads t test =
        leads_if test (Ok (with_goal t s ∷ with_hyp t s ∷ []))
        (λ is. leads_ok (with_goal t s ∷ with_hyp t s ∷ []) (λ all. valid (λ v r f. goal_with (t ∷ []) s.goal all.1.0 v r f (goal_of (with_goal t s) all.0 v r f, tt))))

-- ---- equal values

same_truths : (a b : Bool) → same_truth a b ≡ true → a ≡ b
same_truths true true h = refl
same_truths true false h = no_truth _ h
same_truths false true h = no_truth _ h
same_truths false false h = refl

-- values that are equal by the test are equal
pub equal_value : (x y : Value) → value_of_op op.Equal x y ≡ value.Truth true → x ≡ y
unfolding value_of_op
equal_value x y h = same_is x y (truth_is (same_value x y) true h) where
  same_is : (x y : Value) → same_value x y ≡ true → x ≡ y
  same_is (value.Number m) (value.Number n) h = ap value.Number ((Decides-int_eq m n).0 h)
  same_is (value.Number m) (value.Truth b) h = no_truth _ h
  same_is (value.Truth a) (value.Number n) h = no_truth _ h
  same_is (value.Truth a) (value.Truth b) h = ap value.Truth (same_truths a b h)
  same_is x y h = (same_by-Decides value_code.the_row.coded x y).0 h
