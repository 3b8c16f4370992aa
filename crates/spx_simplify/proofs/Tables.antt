-- What tables say of terms.
use Rattle.std.proofs.Common.{◌≡◌, ℕ, ◌+◌, ◌<◌, ◌≤◌, Bool, true, false, ◌||◌, ◌&&◌, cond, List, [], ◌∷◌, ◌++◌, length, refl, sym, ap, ◌∙◌, subst, arith, Decides, eqb, zero, suc, append-nil, below_more, get_or-set_other, get_or-set_same, slice_set, true≢false, append_assoc, inl, inr, ◌⊎◌}
use Rattle.std.specs.List.{list_any}
use Rattle.std.proofs.lemmas.Bool.Decides.{Decides-eqb}
use Rattle.spx_term.specs.declared.term.TermOp.{TermOp}
use Rattle.spx_term.specs.declared.term.TermPrefix.{TermPrefix}
use Rattle.spx_term.specs.declared.term.Term.{Term, Term-F, out-Term}
use Rattle.spx_term.specs.declared.term.UnaryOp.{UnaryOp}
use Rattle.spx_term.specs.declared.term.UnaryOp.TheVariants as unary
use Rattle.spx_term.specs.declared.term.BinaryOp.{BinaryOp}
use Rattle.spx_term.specs.declared.term.Term.TheVariants.{Number, Truth, Variable, Blank, Prefix, Infix, Unary, Binary, Ternary, outs-Infix, outs-Unary}
use Rattle.spx_term.specs.declared.interval.Interval.{Interval}
use Rattle.spx_term.proofs.Equality.{same_term-Decides}
use Rattle.spx_term.specs.Equality.{same_term}
use Rattle.spx_term.specs.Folding.{literal_of}
use Rattle.spx_term.specs.Intervals.{unbounded, point, meet, mirrored, bounds_before, bounds, bounded, structural, structural_prefix, structural_unary, structural_binary, interval, interval-Number, interval-Truth, interval-Variable, interval-Blank, interval-Prefix, interval-Infix, interval-Unary, interval-Binary, interval-Ternary, is_said_in, reads_unary, reads_binary, is_typed, is_typed-Number, is_typed-Truth, is_typed-Variable, is_typed-Blank, is_typed-Prefix, is_typed-Infix, is_typed-Unary, is_typed-Binary, is_typed-Ternary}
use Rattle.spx_term.specs.Plain.{is_among}
use Rattle.spx_arena.specs.declared.terms.TermId.{TermId}
use Rattle.spx_arena.specs.declared.terms.Node.{Node}
use Rattle.spx_arena.specs.declared.terms.Node.TheVariants as node
use Rattle.spx_arena.specs.Sharing.{tree_at, tree_in, Distinct, Closed}
use Rattle.spx_simplify.specs.declared.known.Known.{Known}
use Rattle.spx_simplify.specs.declared.known.Made.{Made}
use Rattle.spx_simplify.specs.declared.known.Change.{Change}
use Rattle.spx_simplify.specs.Folds.{place_of}
use Rattle.spx_simplify.specs.Tables.{interval_at, test_at, made_at, Stands, IsMade, Ready, Gives, Sized, HasForm, HasParts, Knows, Leaves, Sets, set_to, Says, said_to, is_silent, Restores, Undoes, AreChanges, Assumed, LeadsBack}
use Rattle.spx_simplify.proofs.Folds.{same_ids}
use Rattle.spx_simplify.proofs.Meets.{meet_thrice, meet_unbounded, bounded_meet, bounded_more, infix_bounds, in_bounds, no_bounds, bound_elsewhere, in_said, infix_said, is_loud, no_said, none_bounded, quiet, or_true, or_false, any_more, among_more}
use Rattle.spx_simplify.proofs.Places.{ready_along, leaves_same, leaves_twice, more_count, more_at, more_last}

-- ---- the interval of a form by those of its parts
module _ (trees hyps : List Term) (k : Known) (knows : Knows trees hyps k) where
  pub given : (id : TermId) (x : Interval) → Gives k.made.items id x → x ≡ interval hyps (tree_at trees id)
  given id x g = sym g.value ∙ knows.intervals g.at g.before ∙ ap (λ (y : TermId). interval hyps (tree_at trees y)) g.term

  pub interval_of_prefix : (op : TermPrefix) (a : TermId) (i r : Interval) → Gives k.made.items a i → r ≡ structural_prefix op i → interval hyps (Prefix op (tree_at trees a)) ≡ bounded r hyps (Prefix op (tree_at trees a))
  interval_of_prefix op a i r g e =
      interval-Prefix hyps op (tree_at trees a) ∙ ap (λ j. bounded j hyps (Prefix op (tree_at trees a))) (ap (structural_prefix op) (sym (given a i g)) ∙ sym e)

  pub interval_of_infix : (op : TermOp) (a b : TermId) (i j r : Interval) → Gives k.made.items a i → Gives k.made.items b j → r ≡ structural op i j (literal_of (tree_at trees b)) → interval hyps (Infix op (tree_at trees a) (tree_at trees b)) ≡ bounded r hyps (Infix op (tree_at trees a) (tree_at trees b))
  interval_of_infix op a b i j r g h e =
      interval-Infix hyps op (tree_at trees a) (tree_at trees b)
      ∙ ap (λ x. bounded x hyps (Infix op (tree_at trees a) (tree_at trees b))) ((λ t. structural op (sym (given a i g) t) (sym (given b j h) t) (literal_of (tree_at trees b))) ∙ sym e)

-- ---- the interval of a component
pub interval_of_unary : (trees hyps : List Term) (op : UnaryOp) (a : TermId) (b : Bool) (r : Interval) → b ≡ is_typed hyps (tree_at trees a) → r ≡ structural_unary op b
    → interval hyps (Unary op (tree_at trees a)) ≡ bounded r hyps (Unary op (tree_at trees a))
interval_of_unary trees hyps op a b r typed e =
    interval-Unary hyps op (tree_at trees a) ∙ ap (λ j. bounded j hyps (Unary op (tree_at trees a))) (ap (structural_unary op) (sym typed) ∙ sym e)

pub interval_of_binary : (trees hyps : List Term) (op : BinaryOp) (a b : TermId) (c : Bool) (r : Interval) → c ≡ is_typed hyps (tree_at trees a) → r ≡ structural_binary op c
    → interval hyps (Binary op (tree_at trees a) (tree_at trees b)) ≡ bounded r hyps (Binary op (tree_at trees a) (tree_at trees b))
interval_of_binary trees hyps op a b c r typed e =
    interval-Binary hyps op (tree_at trees a) (tree_at trees b) ∙ ap (λ j. bounded j hyps (Binary op (tree_at trees a) (tree_at trees b))) (ap (structural_binary op) (sym typed) ∙ sym e)

-- ---- one interval more
pub knows_made : (trees hyps : List Term) (old new : Known) (id : TermId) (n : Node) (form x : Interval) → Knows trees hyps old → (IsMade old.made.items id → ⊥) → HasForm trees id n → Ready old.made.items (length old.made.items) n
    → new.facts ≡ old.facts → new.bounds ≡ old.bounds → new.said ≡ old.said → (items : new.made.items ≡ old.made.items ++ record { id = id; interval = x } ∷ []) → new.places ≡ slice_set old.places id.0 (length old.made.items)
    → interval hyps (tree_in trees n) ≡ bounded form hyps (tree_in trees n) → x ≡ meet form (interval_at old.bounds id.0) → Knows trees hyps new
knows_made trees hyps old new id n form x knows absent is ready facts bounds_same said_same items places forms value = record {
  facts = λ i w. ap (λ fs. test_at fs i) facts ∙ knows.facts i w;
  bounds = λ i w. ap (λ bs. interval_at bs i) bounds_same ∙ knows.bounds i w;
  said = λ i w. ap (λ bs. test_at bs i) said_same ∙ knows.said i w;
  intervals = λ j w. every j (omega (arith, count));
  parts = λ j w. forms_at j (omega (arith, count));
}
  where
    count : length new.made.items ≡ length old.made.items + 1
    count = more_count old new id x absent items places

    at : (j : ℕ) → j < length old.made.items → made_at new.made.items j ≡ made_at old.made.items j
    at = more_at old new id x absent items places

    last : made_at new.made.items (length old.made.items) ≡ record { id = id; interval = x }
    last = more_last old new id x absent items places

    here : x ≡ interval hyps (tree_at trees id)
    here =
        value ∙ ap (meet form) (knows.bounds id.0 is.within) ∙ sym (bounded_meet form hyps (tree_at trees id))
        ∙ ap (bounded form hyps) is.tree ∙ sym forms ∙ ap (interval hyps) (sym is.tree)

    every : (j : ℕ) → j < length old.made.items + 1 → (made_at new.made.items j).interval ≡ interval hyps (tree_at trees (made_at new.made.items j).id)
    every = below_more (λ j. (made_at new.made.items j).interval ≡ interval hyps (tree_at trees (made_at new.made.items j).id)) (length old.made.items)
        (λ j w. subst (λ (m : Made). m.interval ≡ interval hyps (tree_at trees m.id)) (sym (at j w)) (knows.intervals j w))
        (subst (λ (m : Made). m.interval ≡ interval hyps (tree_at trees m.id)) (sym last) here)

    forms_at : (j : ℕ) → j < length old.made.items + 1 → HasParts trees new.made.items j (made_at new.made.items j).id
    forms_at = below_more (λ j. HasParts trees new.made.items j (made_at new.made.items j).id) (length old.made.items)
        (λ j w.
        let p = knows.parts j w in
        subst (λ (m : Made). HasParts trees new.made.items j m.id) (sym (at j w))
        (record { node = p.node; tree = p.tree; ready = ready_along old.made.items new.made.items j (λ i v. at i (omega arith)) p.node p.ready }))
        (subst (λ (m : Made). HasParts trees new.made.items (length old.made.items) m.id) (sym last)
        (record { node = n; tree = is.tree; ready = ready_along old.made.items new.made.items (length old.made.items) at n ready }))

-- ---- intervals stay where bounds do
-- whether a hypothesis says that a term is in its type
abbrev is_said : List Term → Term → Bool
is_said hyps t = list_any (is_said_in t) hyps

module _ (trees old new : List Term) (made : List Made) (m : ℕ) (parts : (j : ℕ) → j < m → HasParts trees made j (made_at made j).id)
    (same : (j : ℕ) → j < m → bounded unbounded new (tree_at trees (made_at made j).id) ≡ bounded unbounded old (tree_at trees (made_at made j).id))
    (said : (j : ℕ) → j < m → is_said new (tree_at trees (made_at made j).id) ≡ is_said old (tree_at trees (made_at made j).id)) where
  -- a term keeps its interval, and stays in its type or not
  abbrev StaysAt : Term → Type 0
  StaysAt t = (interval new t ≡ interval old t) × (is_typed new t ≡ is_typed old t)

  abbrev Stays : ℕ → Type 0
  Stays j = StaysAt (tree_at trees (made_at made j).id)

  stay_by : (j : ℕ) → j < m → (t : Term) (p q : Interval) (b c : Bool) → tree_at trees (made_at made j).id ≡ t → interval new t ≡ bounded p new t → interval old t ≡ bounded q old t → p ≡ q
      → is_typed new t ≡ (is_said new t || b) → is_typed old t ≡ (is_said old t || c) → b ≡ c → Stays j
  stay_by j w t p q b c is e f g typed_new typed_old h = (
    ap (interval new) is ∙ e ∙ bounded_meet p new t ∙ ap (λ u. meet p (bounded unbounded new u)) (sym is)
        ∙ (λ k. meet (g k) (same j w k))
        ∙ ap (λ u. meet q (bounded unbounded old u)) is ∙ sym (bounded_meet q old t) ∙ sym f ∙ ap (interval old) (sym is),
    ap (is_typed new) is ∙ typed_new ∙ ap (λ u. is_said new u || b) (sym is) ∙ (λ k. said j w k || h k) ∙ ap (λ u. is_said old u || c) is ∙ sym typed_old ∙ ap (is_typed old) (sym is),
  )

  -- a term that reads no component
  alone : (j : ℕ) → j < m → (t : Term) (p q : Interval) → tree_at trees (made_at made j).id ≡ t → interval new t ≡ bounded p new t → interval old t ≡ bounded q old t → p ≡ q
      → is_typed new t ≡ is_said new t → is_typed old t ≡ is_said old t → Stays j
  alone j w t p q is e f g typed_new typed_old = stay_by j w t p q false false is e f g (typed_new ∙ sym (or_false (is_said new t))) (typed_old ∙ sym (or_false (is_said old t))) refl

  part_stays : (j : ℕ) (id : TermId) → ((i : ℕ) → i < j → Stays i) → Stands made j id → StaysAt (tree_at trees id)
  part_stays j id before s = subst (λ (x : TermId). StaysAt (tree_at trees x)) s.term (before s.at s.before)

  stay : (j : ℕ) → j < m → ((i : ℕ) → i < j → Stays i) → (n : Node) → tree_at trees (made_at made j).id ≡ tree_in trees n → Ready made j n → Stays j
  stay j w before (node.Number n) is r = alone j w (Number n) (point n) (point n) is (interval-Number new n) (interval-Number old n) refl (is_typed-Number new n) (is_typed-Number old n)
  stay j w before (node.Truth t) is r = alone j w (Truth t) unbounded unbounded is (interval-Truth new t) (interval-Truth old t) refl (is_typed-Truth new t) (is_typed-Truth old t)
  stay j w before (node.Variable x) is r = alone j w (Variable x) unbounded unbounded is (interval-Variable new x) (interval-Variable old x) refl (is_typed-Variable new x) (is_typed-Variable old x)
  stay j w before (node.Blank id) is r = alone j w (Blank id) unbounded unbounded is (interval-Blank new id) (interval-Blank old id) refl (is_typed-Blank new id) (is_typed-Blank old id)
  stay j w before (node.Prefix op a) is r =
      let t = tree_at trees a in
      alone j w (Prefix op t) (structural_prefix op (interval new t)) (structural_prefix op (interval old t)) is (interval-Prefix new op t) (interval-Prefix old op t) (ap (structural_prefix op) (part_stays j a before r).0)
      (is_typed-Prefix new op t) (is_typed-Prefix old op t)
  stay j w before (node.Infix op a c) is r =
      let t = tree_at trees a in
      let u = tree_at trees c in
      alone j w (Infix op t u) (structural op (interval new t) (interval new u) (literal_of u)) (structural op (interval old t) (interval old u) (literal_of u)) is (interval-Infix new op t u) (interval-Infix old op t u)
      (λ k. structural op ((part_stays j a before r.0).0 k) ((part_stays j c before r.1).0 k) (literal_of u))
      (is_typed-Infix new op t u) (is_typed-Infix old op t u)
  stay j w before (node.Unary op a) is r =
      let t = tree_at trees a in
      let typed = (part_stays j a before r).1 in
      stay_by j w (Unary op t) (structural_unary op (is_typed new t)) (structural_unary op (is_typed old t)) (reads_unary op && is_typed new t) (reads_unary op && is_typed old t) is (interval-Unary new op t) (interval-Unary old op t)
      (ap (structural_unary op) typed) (is_typed-Unary new op t) (is_typed-Unary old op t) (ap (λ b. reads_unary op && b) typed)
  stay j w before (node.Binary op a c) is r =
      let t = tree_at trees a in
      let u = tree_at trees c in
      let typed = (part_stays j a before r).1 in
      stay_by j w (Binary op t u) (structural_binary op (is_typed new t)) (structural_binary op (is_typed old t)) (reads_binary op && is_typed new t) (reads_binary op && is_typed old t) is (interval-Binary new op t u)
      (interval-Binary old op t u) (ap (structural_binary op) typed) (is_typed-Binary new op t u) (is_typed-Binary old op t u) (ap (λ b. reads_binary op && b) typed)
  stay j w before (node.Ternary op a c e) is r =
      let t = tree_at trees a in
      let u = tree_at trees c in
      let v = tree_at trees e in
      alone j w (Ternary op t u v) unbounded unbounded is (interval-Ternary new op t u v) (interval-Ternary old op t u v) refl (is_typed-Ternary new op t u v) (is_typed-Ternary old op t u v)

  all_stay : (n : ℕ) → n ≤ m → (j : ℕ) → j < n → Stays j
  all_stay zero le j w = absurd (omega arith)
  all_stay (suc n) more j w =
      let before = all_stay n (omega arith) in
      go (lt_or_same j n (omega arith)) before
    where
      lt_or_same : (j n : ℕ) → j < n + 1 → (j < n) ⊎ (j ≡ n)
      lt_or_same j n = below_more (λ k. (k < n) ⊎ (k ≡ n)) n (λ k w. inl w) (inr refl) j

      go : (j < n) ⊎ (j ≡ n) → ((i : ℕ) → i < n → Stays i) → Stays j
      go (inl v) before = before j v
      go (inr e) before =
          let here : j < m = omega arith in
          let f = parts j here in
          stay j here (λ i v. before i (omega arith)) f.node f.tree f.ready

  pub interval_stays : (j : ℕ) → j < m → interval new (tree_at trees (made_at made j).id) ≡ interval old (tree_at trees (made_at made j).id)
  interval_stays j w = (all_stay m (omega arith) j w).0

-- ---- other hypotheses, under which what is left of the intervals is as it was
pub knows_along : (trees before after : List Term) (old new : Known) → Sized (length trees) old → Knows trees before old → Leaves old new
    → ((i : ℕ) → i < length trees → test_at new.facts i ≡ is_among after (tree_at trees (place_of i)))
    → ((i : ℕ) → i < length trees → interval_at new.bounds i ≡ bounded unbounded after (tree_at trees (place_of i)))
    → ((i : ℕ) → i < length trees → test_at new.said i ≡ is_said after (tree_at trees (place_of i))) → Knows trees after new
knows_along trees before after old new sized knows leaves facts bounds_are said_are = record {
  facts = facts;
  bounds = bounds_are;
  said = said_are;
  intervals = λ j w.
      let v : j < length old.made.items = omega (arith, leaves.fewer) in
      subst (λ (x : Made). x.interval ≡ interval after (tree_at trees x.id)) (sym (leaves.same j w))
      (knows.intervals j v ∙ sym (interval_stays trees before after old.made.items (length new.made.items) parts same said j w));
  parts = λ j w.
      let v : j < length old.made.items = omega (arith, leaves.fewer) in
      let p = knows.parts j v in
      subst (λ (x : Made). HasParts trees new.made.items j x.id) (sym (leaves.same j w))
      (record { node = p.node; tree = p.tree; ready = ready_along old.made.items new.made.items j (λ i u. leaves.same i (omega arith)) p.node p.ready });
}
  where
    parts : (j : ℕ) → j < length new.made.items → HasParts trees old.made.items j (made_at old.made.items j).id
    parts j w = knows.parts j (omega (arith, leaves.fewer))

    same : (j : ℕ) → j < length new.made.items → bounded unbounded after (tree_at trees (made_at old.made.items j).id) ≡ bounded unbounded before (tree_at trees (made_at old.made.items j).id)
    same j w =
        let v : j < length old.made.items = omega (arith, leaves.fewer) in
        let id = (made_at old.made.items j).id in
        let u : id.0 < length trees = omega (arith, sized.placed.ids j v, sized.places) in
        sym (bounds_are id.0 u)
        ∙ subst (λ (x : Made). interval_at new.bounds x.id.0 ≡ interval_at old.bounds x.id.0) (leaves.same j w) (leaves.bounds j w)
        ∙ knows.bounds id.0 u

    said : (j : ℕ) → j < length new.made.items → is_said after (tree_at trees (made_at old.made.items j).id) ≡ is_said before (tree_at trees (made_at old.made.items j).id)
    said j w =
        let v : j < length old.made.items = omega (arith, leaves.fewer) in
        let id = (made_at old.made.items j).id in
        let u : id.0 < length trees = omega (arith, sized.placed.ids j v, sized.places) in
        sym (said_are id.0 u)
        ∙ subst (λ (x : Made). test_at new.said x.id.0 ≡ test_at old.said x.id.0) (leaves.same j w) (leaves.said j w)
        ∙ knows.said id.0 u

-- ---- one test is set
not_same : (b : Bool) → (b ≡ true → ⊥) → b ≡ false
not_same true n = absurd (n refl)
not_same false n = refl

same_either : (s t : Term) → same_term s t ≡ false → same_term t s ≡ false
same_either s t e = not_same (same_term t s) (λ f. true≢false (sym ((same_term-Decides s t).1 (sym ((same_term-Decides t s).0 f))) ∙ e))

test_set : (trees : List Term) (fs : List Bool) (fact : TermId) (v : Bool) (t : ℕ → Bool) → Distinct trees → fact.0 < length trees → length fs ≡ length trees → v ≡ t fact.0
    → ((i : ℕ) → i < length trees → same_term (tree_at trees fact) (tree_at trees (place_of i)) ≡ false → test_at fs i ≡ t i) → (i : ℕ) → i < length trees → test_at (slice_set fs fact.0 v) i ≡ t i
test_set trees fs fact v t d within sized is other i w = by (eqb fact.0 i) (Decides-eqb fact.0 i) (same_ids trees fact (place_of i) d within w)
  where
    by : (b : Bool) → Decides b (fact.0 ≡ i) → b ≡ same_term (tree_at trees fact) (tree_at trees (place_of i)) → test_at (slice_set fs fact.0 v) i ≡ t i
    by true e f =
        let here : fact.0 ≡ i = e.0 refl in
        let room : fact.0 < length fs = omega (arith, sized) in
        ap (test_at (slice_set fs fact.0 v)) (sym here) ∙ get_or-set_same fs fact.0 v false room ∙ is ∙ ap t here
    by false e f = get_or-set_other fs fact.0 i v false (λ g. true≢false (sym (e.1 (sym g)))) ∙ other i w (sym f)

-- ---- one fact more
module _ (trees hyps : List Term) (old new : Known) (fact : TermId) (d : Distinct trees) (within : fact.0 < length trees) (knows : Knows trees hyps old) (sized : Sized (length trees) old)
    (set : new.facts ≡ slice_set old.facts fact.0 true) (leaves : Leaves old new) where
  abbrev hyp : Term
  hyp = tree_at trees fact

  tests_more : (i : ℕ) → i < length trees → test_at new.facts i ≡ is_among (hyps ++ hyp ∷ []) (tree_at trees (place_of i))
  tests_more i w =
      ap (λ fs. test_at fs i) set
      ∙ test_set trees old.facts fact true (λ j. is_among (hyps ++ hyp ∷ []) (tree_at trees (place_of j))) d within sized.facts
      (sym (among_more hyp hyp hyps ∙ ap (λ b. is_among hyps hyp || b) ((same_term-Decides hyp hyp).1 refl) ∙ or_true (is_among hyps hyp)))
      (λ j v e.
      let t = tree_at trees (place_of j) in
      knows.facts j v ∙ sym (or_false (is_among hyps t)) ∙ ap (λ b. is_among hyps t || b) (sym (same_either hyp t e)) ∙ sym (among_more t hyp hyps))
      i w

  pub knows_more : ((i : ℕ) → i < length trees → interval_at new.bounds i ≡ meet (interval_at old.bounds i) (bounds (tree_at trees (place_of i)) hyp))
      → ((i : ℕ) → i < length trees → test_at new.said i ≡ (test_at old.said i || is_said_in (tree_at trees (place_of i)) hyp)) → Knows trees (hyps ++ hyp ∷ []) new
  knows_more lower_bounds more_said =
      knows_along trees hyps (hyps ++ hyp ∷ []) old new sized knows leaves tests_more
      (λ i w.
      let t = tree_at trees (place_of i) in
      lower_bounds i w ∙ ap (λ b. meet b (bounds t hyp)) (knows.bounds i w) ∙ sym (bounded_more hyps hyp t))
      (λ i w.
      let t = tree_at trees (place_of i) in
      more_said i w ∙ ap (λ b. b || is_said_in t hyp) (knows.said i w) ∙ sym (any_more (is_said_in t) hyp hyps))

  -- a fact that sets no bounds
  unbounded_still : ((t : Term) → bounds t hyp ≡ unbounded) → new.bounds ≡ old.bounds → (i : ℕ) → i < length trees → interval_at new.bounds i ≡ meet (interval_at old.bounds i) (bounds (tree_at trees (place_of i)) hyp)
  unbounded_still none bs i w =
      ap (λ b. interval_at b i) bs ∙ sym (meet_unbounded (interval_at old.bounds i)) ∙ ap (meet (interval_at old.bounds i)) (sym (none (tree_at trees (place_of i))))

  -- a fact that says of no term that it is in its type
  unsaid_still : ((t : Term) → is_said_in t hyp ≡ false) → new.said ≡ old.said → (i : ℕ) → i < length trees → test_at new.said i ≡ (test_at old.said i || is_said_in (tree_at trees (place_of i)) hyp)
  unsaid_still none bs i w =
      ap (λ b. test_at b i) bs ∙ sym (or_false (test_at old.said i)) ∙ ap (λ b. test_at old.said i || b) (sym (none (tree_at trees (place_of i))))

  pub knows_other : (n : Node) → new.bounds ≡ old.bounds → new.said ≡ old.said → tree_at trees fact ≡ tree_in trees n → is_silent n ≡ true → Knows trees (hyps ++ hyp ∷ []) new
  knows_other n bs sd tree silent =
      knows_more (unbounded_still (λ t. ap (bounds t) tree ∙ no_bounds t trees n silent) bs) (unsaid_still (λ t. ap (is_said_in t) tree ∙ no_said t trees n silent) sd)

pub knows_infix : (trees hyps : List Term) (old first second new : Known) (fact : TermId) (op : TermOp) (a b : TermId) → Distinct trees → fact.0 < length trees → Knows trees hyps old → Sized (length trees) old
    → first.facts ≡ slice_set old.facts fact.0 true → first.bounds ≡ old.bounds → first.said ≡ old.said → first.made.items ≡ old.made.items
    → Sets (length trees) first second (λ i. meet (interval_at first.bounds i) (bounds_before op (tree_at trees a) (tree_at trees b) (tree_at trees (place_of i))))
    → Sets (length trees) second new (λ i. meet (interval_at second.bounds i) (bounds_before (mirrored op) (tree_at trees b) (tree_at trees a) (tree_at trees (place_of i))))
    → tree_at trees fact ≡ Infix op (tree_at trees a) (tree_at trees b) → Knows trees (hyps ++ tree_at trees fact ∷ []) new
knows_infix trees hyps old first second new fact op a b d within knows sized set bs sd is p q tree =
    knows_more trees hyps old new fact d within knows sized (q.facts ∙ p.facts ∙ set) leaves
    (λ i w.
    let t = tree_at trees (place_of i) in
    let x = bounds_before op (tree_at trees a) (tree_at trees b) t in
    let y = bounds_before (mirrored op) (tree_at trees b) (tree_at trees a) t in
    q.bounds i w ∙ ap (λ z. meet z y) (p.bounds i w ∙ ap (λ z. meet (interval_at z i) x) bs) ∙ meet_thrice (interval_at old.bounds i) x y
    ∙ ap (meet (interval_at old.bounds i)) (sym (ap (bounds t) tree ∙ infix_bounds t (tree_at trees a) (tree_at trees b) op)))
    (unsaid_still trees hyps old new fact d within knows sized (q.facts ∙ p.facts ∙ set) leaves (λ t. ap (is_said_in t) tree ∙ infix_said t (tree_at trees a) (tree_at trees b) op) (q.said ∙ p.said ∙ sd))
  where
    leaves : Leaves old new
    leaves = leaves_twice (leaves_same old first bs sd is) (leaves_twice p.leaves q.leaves)

-- a term is in its type
pub knows_in : (trees hyps : List Term) (old first new : Known) (fact : TermId) (id : ℕ) (a : TermId) → Distinct trees → fact.0 < length trees → a.0 < length trees → Knows trees hyps old → Sized (length trees) old
    → first.facts ≡ slice_set old.facts fact.0 true → first.bounds ≡ old.bounds → first.said ≡ old.said → first.made.items ≡ old.made.items → Says (length trees) first new (said_to first.said a true)
    → tree_at trees fact ≡ Unary (unary.In id) (tree_at trees a) → Knows trees (hyps ++ tree_at trees fact ∷ []) new
knows_in trees hyps old first new fact id a d within within_a knows sized set bs sd is p tree =
    knows_more trees hyps old new fact d within knows sized (p.facts ∙ set) leaves
    (unbounded_still trees hyps old new fact d within knows sized (p.facts ∙ set) leaves (λ t. ap (bounds t) tree ∙ in_bounds t (tree_at trees a) id) (p.bounds ∙ bs))
    (λ i w.
    let t = tree_at trees (place_of i) in
    p.said i w ∙ ap (λ z. cond (eqb a.0 i) true (test_at z i)) sd ∙ either (eqb a.0 i) (test_at old.said i)
    ∙ ap (λ b. test_at old.said i || b) (same_ids trees a (place_of i) d within_a w ∙ sym (ap (is_said_in t) tree ∙ in_said t (tree_at trees a) id)))
  where
    leaves : Leaves old new
    leaves = leaves_twice (leaves_same old first bs sd is) p.leaves

    either : (x y : Bool) → cond x true y ≡ (y || x)
    either true y = sym (or_true y)
    either false y = sym (or_false y)

-- ---- one fact less
module _ (trees hyps : List Term) (old new : Known) (c : Change) (d : Distinct trees) (r : Restores trees hyps c) (knows : Knows trees (hyps ++ tree_at trees c.fact ∷ []) old) (sized : Sized (length trees) old)
    (set : new.facts ≡ slice_set old.facts c.fact.0 c.was) (leaves : Leaves old new) where
  abbrev gone : Term
  gone = tree_at trees c.fact

  tests_less : (i : ℕ) → i < length trees → test_at new.facts i ≡ is_among hyps (tree_at trees (place_of i))
  tests_less i w =
      ap (λ fs. test_at fs i) set
      ∙ test_set trees old.facts c.fact c.was (λ j. is_among hyps (tree_at trees (place_of j))) d r.within sized.facts r.was
      (λ j v e.
      let t = tree_at trees (place_of j) in
      knows.facts j v ∙ among_more t gone hyps ∙ ap (λ b. is_among hyps t || b) (same_either gone t e) ∙ or_false (is_among hyps t))
      i w

  pub knows_less : ((i : ℕ) → i < length trees → interval_at new.bounds i ≡ bounded unbounded hyps (tree_at trees (place_of i)))
      → ((i : ℕ) → i < length trees → test_at new.said i ≡ is_said hyps (tree_at trees (place_of i))) → Knows trees hyps new
  knows_less earlier said = knows_along trees (hyps ++ gone ∷ []) hyps old new sized knows leaves tests_less earlier said

  bounds_back : ((t : Term) → bounds t gone ≡ unbounded) → new.bounds ≡ old.bounds → (i : ℕ) → i < length trees → interval_at new.bounds i ≡ bounded unbounded hyps (tree_at trees (place_of i))
  bounds_back none bs i w =
      let t = tree_at trees (place_of i) in
      ap (λ b. interval_at b i) bs ∙ knows.bounds i w ∙ bounded_more hyps gone t ∙ ap (meet (bounded unbounded hyps t)) (none t) ∙ meet_unbounded (bounded unbounded hyps t)

  said_back : ((t : Term) → is_said_in t gone ≡ false) → new.said ≡ old.said → (i : ℕ) → i < length trees → test_at new.said i ≡ is_said hyps (tree_at trees (place_of i))
  said_back none bs i w =
      let t = tree_at trees (place_of i) in
      ap (λ b. test_at b i) bs ∙ knows.said i w ∙ any_more (is_said_in t) gone hyps ∙ ap (λ b. is_said hyps t || b) (none t) ∙ or_false (is_said hyps t)

  pub less_other : (n : Node) → new.bounds ≡ old.bounds → new.said ≡ old.said → tree_at trees c.fact ≡ tree_in trees n → is_silent n ≡ true → Knows trees hyps new
  less_other n bs sd tree silent = knows_less (bounds_back (λ t. ap (bounds t) tree ∙ no_bounds t trees n silent) bs) (said_back (λ t. ap (is_said_in t) tree ∙ no_said t trees n silent) sd)

pub less_infix : (trees hyps : List Term) (old first second new : Known) (c : Change) (op : TermOp) (a b : TermId) → Closed trees → Distinct trees → Restores trees hyps c → Knows trees (hyps ++ tree_at trees c.fact ∷ []) old → Sized (length trees) old
    → first.facts ≡ slice_set old.facts c.fact.0 c.was → first.bounds ≡ old.bounds → first.said ≡ old.said → first.made.items ≡ old.made.items
    → Sets (length trees) first second (set_to first.bounds a c.left) → Sets (length trees) second new (set_to second.bounds b c.right)
    → tree_at trees c.fact ≡ Infix op (tree_at trees a) (tree_at trees b) → (a.0 < c.fact.0) × (b.0 < c.fact.0) → Knows trees hyps new
less_infix trees hyps old first second new c op a b closed d r knows sized set bs sd is p q tree below =
    knows_less trees hyps old new c d r knows sized (q.facts ∙ p.facts ∙ set) leaves
    (λ i w. q.bounds i w ∙ ap (λ z. cond (eqb b.0 i) c.right z) (p.bounds i w ∙ ap (λ z. cond (eqb a.0 i) c.left (interval_at z i)) bs) ∙ at_place i w (eqb b.0 i) (eqb a.0 i) refl refl)
    (said_back trees hyps old new c d r knows sized (q.facts ∙ p.facts ∙ set) leaves (λ t. ap (is_said_in t) tree ∙ infix_said t (tree_at trees a) (tree_at trees b) op) (q.said ∙ p.said ∙ sd))
  where
    leaves : Leaves old new
    leaves = leaves_twice (leaves_same old first bs sd is) (leaves_twice p.leaves q.leaves)

    within_a : a.0 < length trees
    within_a = omega (arith, below.0, r.within)

    within_b : b.0 < length trees
    within_b = omega (arith, below.1, r.within)

    elsewhere : (o : TermOp) (x y : TermId) (i : ℕ) → i < length trees → x.0 < length trees → y.0 < length trees → eqb x.0 i ≡ false → bounds_before o (tree_at trees x) (tree_at trees y) (tree_at trees (place_of i)) ≡ unbounded
    elsewhere o x y i w v u e =
        let f = closed.form y u in
        ap (λ t. bounds_before o (tree_at trees x) t (tree_at trees (place_of i))) f.1.0
        ∙ bound_elsewhere o (tree_at trees x) (tree_at trees (place_of i)) trees f.0 (sym (same_ids trees x (place_of i) d v w) ∙ e)

    at_place : (i : ℕ) → i < length trees → (y x : Bool) → eqb b.0 i ≡ y → eqb a.0 i ≡ x → cond y c.right (cond x c.left (interval_at old.bounds i)) ≡ bounded unbounded hyps (tree_at trees (place_of i))
    at_place i w true x e f = r.right op (tree_at trees a) (tree_at trees b) tree ∙ ap (λ k. bounded unbounded hyps (tree_at trees (place_of k))) ((Decides-eqb b.0 i).0 e)
    at_place i w false true e f = r.left op (tree_at trees a) (tree_at trees b) tree ∙ ap (λ k. bounded unbounded hyps (tree_at trees (place_of k))) ((Decides-eqb a.0 i).0 f)
    at_place i w false false e f =
        let t = tree_at trees (place_of i) in
        knows.bounds i w ∙ bounded_more hyps (tree_at trees c.fact) t
        ∙ ap (meet (bounded unbounded hyps t))
        (ap (bounds t) tree ∙ infix_bounds t (tree_at trees a) (tree_at trees b) op
        ∙ (λ k. meet (elsewhere op a b i w within_a within_b f k) (elsewhere (mirrored op) b a i w within_b within_a e k)) ∙ meet_unbounded unbounded)
        ∙ meet_unbounded (bounded unbounded hyps t)

-- a term is in its type no more
pub less_in : (trees hyps : List Term) (old first new : Known) (c : Change) (id : ℕ) (a : TermId) → Distinct trees → Restores trees hyps c → Knows trees (hyps ++ tree_at trees c.fact ∷ []) old → Sized (length trees) old
    → first.facts ≡ slice_set old.facts c.fact.0 c.was → first.bounds ≡ old.bounds → first.said ≡ old.said → first.made.items ≡ old.made.items → Says (length trees) first new (said_to first.said a c.said)
    → tree_at trees c.fact ≡ Unary (unary.In id) (tree_at trees a) → a.0 < c.fact.0 → Knows trees hyps new
less_in trees hyps old first new c id a d r knows sized set bs sd is p tree below =
    knows_less trees hyps old new c d r knows sized (p.facts ∙ set) leaves
    (bounds_back trees hyps old new c d r knows sized (p.facts ∙ set) leaves (λ t. ap (bounds t) tree ∙ in_bounds t (tree_at trees a) id) (p.bounds ∙ bs))
    (λ i w. p.said i w ∙ ap (λ z. cond (eqb a.0 i) c.said (test_at z i)) sd ∙ at_place i w (eqb a.0 i) refl)
  where
    leaves : Leaves old new
    leaves = leaves_twice (leaves_same old first bs sd is) p.leaves

    within_a : a.0 < length trees
    within_a = omega (arith, below, r.within)

    at_place : (i : ℕ) → i < length trees → (x : Bool) → eqb a.0 i ≡ x → cond x c.said (test_at old.said i) ≡ is_said hyps (tree_at trees (place_of i))
    at_place i w true e = r.said id (tree_at trees a) tree ∙ ap (λ k. is_said hyps (tree_at trees (place_of k))) ((Decides-eqb a.0 i).0 e)
    at_place i w false e =
        let t = tree_at trees (place_of i) in
        knows.said i w ∙ any_more (is_said_in t) (tree_at trees c.fact) hyps
        ∙ ap (λ b. is_said hyps t || b) (ap (is_said_in t) tree ∙ in_said t (tree_at trees a) id ∙ sym (same_ids trees a (place_of i) d within_a w) ∙ e) ∙ or_false (is_said hyps t)

-- ---- what can be taken back
same_operands : (op o : TermOp) (a b s t : Term) → Infix op a b ≡ Infix o s t → (a ≡ s) × (b ≡ t)
same_operands op o a b s t e =
    let f : Term-F.Infix op a b ≡ Term-F.Infix o s t = sym (outs-Infix op a b) ∙ ap out-Term e ∙ outs-Infix o s t in
    (let g : a ≡ s = cc in g, let h : b ≡ t = cc in h)

infix_no_unary : (op : TermOp) (o : UnaryOp) (a b t : Term) → Infix op a b ≡ Unary o t → ⊥
infix_no_unary op o a b t e = let f : Term-F.Infix op a b ≡ Term-F.Unary o t = sym (outs-Infix op a b) ∙ ap out-Term e ∙ outs-Unary o t in cc

same_operand : (op o : UnaryOp) (a t : Term) → Unary op a ≡ Unary o t → a ≡ t
same_operand op o a t e = let f : Term-F.Unary op a ≡ Term-F.Unary o t = sym (outs-Unary op a) ∙ ap out-Term e ∙ outs-Unary o t in cc

module _ (trees hyps : List Term) (k : Known) (c : Change) (knows : Knows trees hyps k) (within : c.fact.0 < length trees) (was : c.was ≡ test_at k.facts c.fact.0) where
  pub restores_infix : (op : TermOp) (a b : TermId) → tree_at trees c.fact ≡ Infix op (tree_at trees a) (tree_at trees b) → (a.0 < c.fact.0) × (b.0 < c.fact.0) → c.left ≡ interval_at k.bounds a.0 → c.right ≡ interval_at k.bounds b.0 → Restores trees hyps c
  restores_infix op a b tree below left right =
      let within_a : a.0 < length trees = omega (arith, below.0) in
      let within_b : b.0 < length trees = omega (arith, below.1) in
      record {
        within = within;
        was = was ∙ knows.facts c.fact.0 within;
        left = λ o s t e. left ∙ knows.bounds a.0 within_a ∙ ap (bounded unbounded hyps) (same_operands op o (tree_at trees a) (tree_at trees b) s t (sym tree ∙ e)).0;
        right = λ o s t e. right ∙ knows.bounds b.0 within_b ∙ ap (bounded unbounded hyps) (same_operands op o (tree_at trees a) (tree_at trees b) s t (sym tree ∙ e)).1;
        said = λ id t e. absurd (infix_no_unary op (unary.In id) (tree_at trees a) (tree_at trees b) t (sym tree ∙ e));
      }

  pub restores_other : (n : Node) → tree_at trees c.fact ≡ tree_in trees n → is_silent n ≡ true → Restores trees hyps c
  restores_other n tree silent = record {
    within = within;
    was = was ∙ knows.facts c.fact.0 within;
    left = λ o s t e. absurd (true≢false (sym (ap is_loud (outs-Infix o s t)) ∙ ap (λ u. is_loud (out-Term u)) (sym e ∙ tree) ∙ quiet trees n silent));
    right = λ o s t e. absurd (true≢false (sym (ap is_loud (outs-Infix o s t)) ∙ ap (λ u. is_loud (out-Term u)) (sym e ∙ tree) ∙ quiet trees n silent));
    said = λ id t e. absurd (true≢false (sym (ap is_loud (outs-Unary (unary.In id) t)) ∙ ap (λ u. is_loud (out-Term u)) (sym e ∙ tree) ∙ quiet trees n silent));
  }

  pub restores_unary : (op : UnaryOp) (a : TermId) → tree_at trees c.fact ≡ Unary op (tree_at trees a) → a.0 < c.fact.0 → c.said ≡ test_at k.said a.0 → Restores trees hyps c
  restores_unary op a tree below said =
      let within_a : a.0 < length trees = omega (arith, below) in
      record {
        within = within;
        was = was ∙ knows.facts c.fact.0 within;
        left = λ o s t e. absurd (infix_no_unary o op s t (tree_at trees a) (sym e ∙ tree));
        right = λ o s t e. absurd (infix_no_unary o op s t (tree_at trees a) (sym e ∙ tree));
        said = λ id t e. said ∙ knows.said a.0 within_a ∙ ap (is_said hyps) (same_operand op (unary.In id) (tree_at trees a) t (sym tree ∙ e));
      }

pub undoes_more : (trees before hs : List Term) (cs : List Change) (h : Term) (c : Change) → Undoes trees before hs cs → Restores trees (before ++ hs) c → tree_at trees c.fact ≡ h → Undoes trees before (hs ++ h ∷ []) (cs ++ c ∷ [])
undoes_more trees before [] [] h c u r e = (subst (λ b. Restores trees b c) (append-nil before) r, (e, tt))
undoes_more trees before [] (d ∷ cs) h c u r e = elim u [ ]
undoes_more trees before (g ∷ hs) [] h c u r e = elim u [ ]
undoes_more trees before (g ∷ hs) (d ∷ cs) h c u r e =
    (u.0, (u.1.0, undoes_more trees (before ++ g ∷ []) hs cs h c u.1.1 (subst (λ b. Restores trees b c) (sym (append_assoc before (g ∷ []) hs)) r) e))

none_more : (trees before : List Term) (cs : List Change) (c : Change) → Undoes trees before [] (cs ++ c ∷ []) → ⊥
none_more trees before [] c u = u
none_more trees before (d ∷ cs) c u = u

pub more_none : (trees before hs : List Term) (h : Term) → Undoes trees before (hs ++ h ∷ []) [] → ⊥
more_none trees before [] h u = u
more_none trees before (g ∷ hs) h u = u

pub undoes_less : (trees before hs : List Term) (cs : List Change) (h : Term) (c : Change) → Undoes trees before (hs ++ h ∷ []) (cs ++ c ∷ []) → Undoes trees before hs cs × (Restores trees (before ++ hs) c × (tree_at trees c.fact ≡ h))
undoes_less trees before [] [] h c u = (tt, (subst (λ b. Restores trees b c) (sym (append-nil before)) u.0, u.1.0))
undoes_less trees before [] (d ∷ cs) h c u = absurd (none_more trees (before ++ h ∷ []) cs c u.1.1)
undoes_less trees before (g ∷ hs) [] h c u = absurd (more_none trees (before ++ g ∷ []) hs h u.1.1)
undoes_less trees before (g ∷ hs) (d ∷ cs) h c u =
    let l = undoes_less trees (before ++ g ∷ []) hs cs h c u.1.1 in
    ((u.0, (u.1.0, l.0)), (subst (λ b. Restores trees b c) (append_assoc before (g ∷ []) hs) l.1.0, l.1.1))

-- ---- facts that are known for a while
changes_push : (n : ℕ) (cs : List Change) (c : Change) → AreChanges n cs → c.fact.0 < n → AreChanges n (cs ++ c ∷ [])
changes_push n [] c are w = (w, tt)
changes_push n (d ∷ cs) c are w = (are.0, changes_push n cs c are.1 w)

pub changes_more : (n : ℕ) (cs new : List Change) (c : Change) → AreChanges n cs → c.fact.0 < n → new ≡ cs ++ c ∷ [] → AreChanges n new
changes_more n cs new c are w e = subst (AreChanges n) (sym e) (changes_push n cs c are w)

changes_less : (n : ℕ) (cs : List Change) (c : Change) → AreChanges n (cs ++ c ∷ []) → (c.fact.0 < n) × AreChanges n cs
changes_less n [] c are = (are.0, tt)
changes_less n (d ∷ cs) c are = let l = changes_less n cs c are.1 in (l.0, (are.0, l.1))

pub change_popped : (n : ℕ) (all cs : List Change) (c : Change) → AreChanges n all → all ≡ cs ++ c ∷ [] → (c.fact.0 < n) × AreChanges n cs
change_popped n all cs c are e = changes_less n cs c (subst (AreChanges n) e are)

pub assumed_none : (trees before : List Term) (k : Known) (cs : List Change) → Knows trees before k → cs ≡ [] → Assumed trees before [] k cs
assumed_none trees before k cs knows e = record { knows = subst (λ hs. Knows trees hs k) (sym (append-nil before)) knows; undoes = subst (Undoes trees before []) (sym e) tt }

pub assumed_more : (trees before hs : List Term) (old new : Known) (cs more : List Change) (c : Change) → Assumed trees before hs old cs → more ≡ cs ++ c ∷ []
    → ((hyps : List Term) → Knows trees hyps old → Restores trees hyps c) → ((hyps : List Term) → Knows trees hyps old → Knows trees (hyps ++ tree_at trees c.fact ∷ []) new) → Assumed trees before (hs ++ tree_at trees c.fact ∷ []) new more
assumed_more trees before hs old new cs more c a e restores knows = record {
  knows = subst (λ xs. Knows trees xs new) (append_assoc before hs (tree_at trees c.fact ∷ [])) (knows (before ++ hs) a.knows);
  undoes = subst (Undoes trees before (hs ++ tree_at trees c.fact ∷ [])) (sym e) (undoes_more trees before hs cs (tree_at trees c.fact) c a.undoes (restores (before ++ hs) a.knows) refl);
}

last_or_none : (hs : List Term) → (hs ≡ []) ⊎ ((init : List Term) × ((h : Term) × (hs ≡ init ++ h ∷ [])))
last_or_none [] = inl refl
last_or_none (h ∷ hs) = by h hs (last_or_none hs)
  where
    by : (h : Term) (hs : List Term) → (hs ≡ []) ⊎ ((init : List Term) × ((g : Term) × (hs ≡ init ++ g ∷ []))) → ((h ∷ hs) ≡ []) ⊎ ((init : List Term) × ((g : Term) × ((h ∷ hs) ≡ init ++ g ∷ [])))
    by h hs (inl e) = inr ([], (h, ap (λ xs. h ∷ xs) e))
    by h hs (inr p) = inr (h ∷ p.0, (p.1.0, ap (λ xs. h ∷ xs) p.1.1))

pub back_once : (trees before : List Term) (old new : Known) (all cs : List Change) (c : Change) → LeadsBack trees before old all → all ≡ cs ++ c ∷ []
    → ((hyps : List Term) → Restores trees hyps c → Knows trees (hyps ++ tree_at trees c.fact ∷ []) old → Knows trees hyps new) → LeadsBack trees before new cs
back_once trees before old new all cs c l e undone = by (last_or_none l.facts)
  where
    by : (l.facts ≡ []) ⊎ ((init : List Term) × ((h : Term) × (l.facts ≡ init ++ h ∷ []))) → LeadsBack trees before new cs
    by (inl none) = absurd (none_more trees before cs c (subst (λ hs. Undoes trees before hs (cs ++ c ∷ [])) none (subst (Undoes trees before l.facts) e l.assumed.undoes)))
    by (inr p) =
        let init = p.0 in
        let h = p.1.0 in
        let u = undoes_less trees before init cs h c (subst (λ hs. Undoes trees before hs (cs ++ c ∷ [])) p.1.1 (subst (Undoes trees before l.facts) e l.assumed.undoes)) in
        let here = subst (λ hs. Knows trees hs old) (ap (λ hs. before ++ hs) p.1.1 ∙ sym (append_assoc before init (h ∷ [])) ∙ ap (λ t. (before ++ init) ++ t ∷ []) (sym u.1.1)) l.assumed.knows in
        record { facts = init; assumed = record { knows = undone (before ++ init) u.1.0 here; undoes = u.0 } }

pub back_whole : (trees before : List Term) (k : Known) (cs : List Change) → LeadsBack trees before k cs → cs ≡ [] → Knows trees before k
back_whole trees before k cs l e = by l.facts l.assumed.knows (subst (Undoes trees before l.facts) e l.assumed.undoes)
  where
    by : (hs : List Term) → Knows trees (before ++ hs) k → Undoes trees before hs [] → Knows trees before k
    by [] knows u = subst (λ hs. Knows trees hs k) (append-nil before) knows
    by (h ∷ hs) knows u = elim u [ ]

-- ---- no facts
pub knows_none : (trees : List Term) (k : Known) → ((i : ℕ) → test_at k.facts i ≡ false) → ((i : ℕ) → interval_at k.bounds i ≡ unbounded) → ((i : ℕ) → test_at k.said i ≡ false) → k.made.items ≡ [] → Knows trees [] k
knows_none trees k none free unsaid empty = record {
  facts = λ i w. none i;
  bounds = λ i w. free i ∙ sym (none_bounded (tree_at trees (place_of i)));
  said = λ i w. unsaid i;
  intervals = λ j w. absurd (omega (arith, ap length empty));
  parts = λ j w. absurd (omega (arith, ap length empty));
}
