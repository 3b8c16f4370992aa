-- An element of an updated array, by cases on the index.
use Rattle.std.proofs.Common.{◌≡◌, ℕ, ℤ, ◌≤ℤ◌, ◌==◌, Bool, true, false, not, ◌&&◌, Option, Some, None, [], ◌∷◌, refl, sym, ap, ◌∙◌, subst, arith}
use Rattle.std.specs.Ordering.{int_eq}
use Rattle.std.proofs.lemmas.Int.{ints}
use Rattle.std.proofs.lemmas.Bool.Decides.{Decides-int_eq}
use Rattle.spx_term.specs.declared.condition.Sequent.{Sequent}
use Rattle.spx_term.specs.declared.term.Sort.{Sort}
use Rattle.spx_term.specs.declared.term.Sort.TheVariants.{Integer, Boolean, Composite}
use Rattle.spx_term.specs.declared.term.ArrayType.{ArrayType}
use Rattle.spx_term.specs.declared.term.TermOp.TheVariants as op
use Rattle.spx_term.specs.declared.term.BinaryOp.{BinaryOp}
use Rattle.spx_term.specs.declared.term.BinaryOp.TheVariants as binary
use Rattle.spx_term.specs.declared.term.TernaryOp.{TernaryOp}
use Rattle.spx_term.specs.declared.term.TernaryOp.TheVariants as ternary
use Rattle.spx_term.specs.declared.term.Term.{Term, Term-F, fold-Term, out-Term, roll-Term, roll-out-Term}
use Rattle.spx_term.specs.declared.term.Term.TheVariants.{Number, Truth, Variable, Blank, Prefix, Infix, Unary, Binary, Ternary, rolls-Ternary}
use Rattle.spx_term.specs.Sorts.{asked, element_takes, sort_of_prefix, sort_of_op, sort_of_unary, sort_of_binary, sort_of_ternary, sort_step, sort_of}
use Rattle.spx_term.proofs.FoldingLaws.{one_sort, two_sorts, ThreeSorts, three_sorts, sorted_value, element_parts}
use Rattle.spx_term.specs.Values.{Types, shape_of, first_of, is_in, element_at, with_elements, lies_between}
use Rattle.spx_term.specs.Meaning.{as_number, value_of_op, value_of_binary, Valuation, value_of, HasSort, IsNumber, Respects}
use Rattle.spx_term.proofs.Terms.{Cases, induct, fold-Number, fold-Truth, fold-Variable, fold-Blank, fold-Prefix, fold-Infix, fold-Unary, fold-Binary, fold-Ternary}
use Rattle.spx_term.specs.declared.value.Value.{Value}
use Rattle.spx_term.specs.declared.value.Value.TheVariants as value
use Rattle.spx_term.proofs.Terms.{value-Number, value-Infix, value-Binary, value-Ternary}
use Rattle.spx_term.proofs.ValueLaws.{ArrayValue, read_inside, read_outside}
use Rattle.spx_term.proofs.CompositeLaws.{array_of, array_passes, array_type_is}
use Rattle.spx_kernel.specs.Sequents.{with_hyp, with_goal, Sorted, Leads}
use Rattle.spx_kernel.specs.Steps.{in_range, elem_at}
use Rattle.spx_kernel.proofs.StepLaws.{leads_refused, leads_ok, valid, goal_of, goal_with}
use Rattle.spx_kernel.proofs.QuantifierSteps.{between}
use Rattle.spx_kernel.specs.Elements.{Reading, Spot, Search, within, first, updated_in, read_here, in_order, ternary_spot, search_step, spot_of}
use Rattle.spx_kernel.proofs.SortLaws.{sort_prefix, sort_infix, sort_unary, sort_binary, sort_ternary}
use Rattle.spx_kernel.proofs.QuantifierLaws.{alike_prefix, alike_infix, alike_unary, alike_binary, alike_update}

-- `A[i => e][j]`, with the type of the update
reading_term : Reading → ℕ → Term
reading_term r id = Binary (binary.Element r.array) (Ternary (ternary.Update id) r.of r.index r.item) r.at

-- a term is well sorted
abbrev pub HasSome : Types → Term → Type 0
HasSome types t = (m : Sort) × (sort_of types t ≡ Some m)

-- a spot of a term: the term is what is around the reading, and equal values and sorts there are equal ones of the whole
pub record IsSpot (types : Types) (t : Term) (spot : Spot) : Type 0 where
  pub id : ℕ
  pub whole : spot.around (Binary (binary.Element spot.reading.array) (Ternary (ternary.Update id) spot.reading.of spot.reading.index spot.reading.item) spot.reading.at) ≡ t
  pub keeps : (v : Valuation) (x y : Term) → value_of types v x ≡ value_of types v y → value_of types v (spot.around x) ≡ value_of types v (spot.around y)
  pub sorts : (x y : Term) → sort_of types x ≡ sort_of types y → sort_of types (spot.around x) ≡ sort_of types (spot.around y)
  pub sorted : (m : Sort) → sort_of types t ≡ Some m → HasSome types (Binary (binary.Element spot.reading.array) (Ternary (ternary.Update id) spot.reading.of spot.reading.index spot.reading.item) spot.reading.at)

module _ (types : Types) where
  abbrev Spots : Term → Option Spot → Type 0
  Spots t o = (spot : Spot) → o ≡ Some spot → IsSpot types t spot

  some_is : (x y : Spot) → ◌≡◌ {A = Option Spot} (Some x) (Some y) → x ≡ y
  some_is x y h = cc

  none_spots : (t : Term) → Spots t None
  none_spots t spot h = absurd (cc)

  within_spots : (t u : Term) (f : Term → Term) (o : Option Spot) → Spots t o → f t ≡ u → ((v : Valuation) (x y : Term) → value_of types v x ≡ value_of types v y → value_of types v (f x) ≡ value_of types v (f y))
      → ((x y : Term) → sort_of types x ≡ sort_of types y → sort_of types (f x) ≡ sort_of types (f y)) → ((m : Sort) → sort_of types u ≡ Some m → HasSome types t) → Spots u (within f o)
  within_spots t u f (Some s) spots is keeps sorts sorted spot h =
      let inner = spots s refl in
      subst (IsSpot types u) (some_is (record { reading = s.reading; around = λ x. f (s.around x) }) spot h)
      (record { id = inner.id; whole = ap f inner.whole ∙ is; keeps = λ v x y e. keeps v (s.around x) (s.around y) (inner.keeps v x y e); sorts = λ x y e. sorts (s.around x) (s.around y) (inner.sorts x y e); sorted = λ m g. let part = sorted m g in inner.sorted part.0 part.1 })
  within_spots t u f None spots is keeps sorts sorted spot h = absurd (cc)

  first_spots : (t : Term) (o p : Option Spot) → Spots t o → Spots t p → Spots t (first o p)
  first_spots t (Some s) p f g = f
  first_spots t None p f g = g

  ordered_spots : (t : Term) (op : BinaryOp) (o p : Option Spot) → Spots t o → Spots t p → Spots t (in_order op o p)
  ordered_spots t (binary.Element array) o p f g = first_spots t o p f g
  ordered_spots t (binary.Update x) o p f g = first_spots t o p f g
  ordered_spots t (binary.Elements id low high) o p f g = first_spots t p o g f
  ordered_spots t (binary.Field x) o p f g = first_spots t p o g f

  updated_spots : (array : ArrayType) (a j : Term) (layer : Term-F Term) → roll-Term layer ≡ a → Spots (Binary (binary.Element array) a j) (updated_in array j layer)
  updated_spots array a j (Term-F.Ternary (ternary.Update id) b i e) is spot h =
      subst (IsSpot types (Binary (binary.Element array) a j)) (some_is (record { reading = record { array = array; of = b; index = i; item = e; at = j }; around = λ t. t }) spot h)
      (record { id = id; whole = ap (λ x. Binary (binary.Element array) x j) (sym (rolls-Ternary (ternary.Update id) b i e) ∙ is); keeps = λ v x y same. same; sorts = λ x y same. same; sorted = λ m g. (m, ap (sort_of types) (ap (λ x. Binary (binary.Element array) x j) (sym (rolls-Ternary (ternary.Update id) b i e) ∙ is)) ∙ g) })
  updated_spots array a j _ is spot h = absurd (cc)

  here_spots : (o : BinaryOp) (a j : Term) → Spots (Binary o a j) (read_here o a j)
  here_spots (binary.Element array) a j = updated_spots array a j (out-Term a) (roll-out-Term a)
  here_spots _ a j = none_spots _

  record Searched (t : Term) (s : Search) : Type 0 where
    whole : s.whole ≡ t
    spots : Spots t s.spot

  abbrev search : Term → Search
  search = fold-Term Search search_step

  abbrev Known : Term → Type 0
  Known t = Searched t (search t)

  to : (t : Term) (s : Search) → search t ≡ s → Searched t s → Known t
  to t s is h = subst (Searched t) (sym is) h

  three_parts : (o : TernaryOp) (a b c : Term) (m : Sort) → sort_of types (Ternary o a b c) ≡ Some m → ThreeSorts (sort_of_ternary types o) (sort_of types a) (sort_of types b) (sort_of types c) m
  three_parts o a b c m g = three_sorts (sort_of_ternary types o) (sort_of types a) (sort_of types b) (sort_of types c) m (sym (fold-Ternary (sort_step types) o a b c) ∙ g)

  first_part : (o : TernaryOp) (a b c : Term) (m : Sort) → sort_of types (Ternary o a b c) ≡ Some m → HasSome types a
  first_part o a b c m g = let p = three_parts o a b c m g in (p.first, p.first_is)

  second_part : (o : TernaryOp) (a b c : Term) (m : Sort) → sort_of types (Ternary o a b c) ≡ Some m → HasSome types b
  second_part o a b c m g = let p = three_parts o a b c m g in (p.second, p.second_is)

  third_part : (o : TernaryOp) (a b c : Term) (m : Sort) → sort_of types (Ternary o a b c) ≡ Some m → HasSome types c
  third_part o a b c m g = let p = three_parts o a b c m g in (p.third, p.third_is)

  ternary_spots : (o : TernaryOp) (a b c : Term) → Known a → Known b → Known c → Spots (Ternary o a b c) (ternary_spot o (search a) (search b) (search c))
  ternary_spots (ternary.Update t) a b c p q r =
      let o = ternary.Update t in
      let x = (search a).whole in
      let y = (search b).whole in
      let z = (search c).whole in
      first_spots (Ternary o a b c) (within (λ u. Ternary o u y z) (search a).spot) (first (within (λ u. Ternary o x u z) (search b).spot) (within (λ u. Ternary o x y u) (search c).spot))
      (within_spots a (Ternary o a b c) (λ u. Ternary o u y z) (search a).spot p.spots (λ i. Ternary o a (q.whole i) (r.whole i)) (λ v l m e. alike_update types v v t l y z m y z e refl refl) (λ l m e. sort_ternary types o o l y z m y z refl e refl refl) (first_part o a b c))
      (first_spots (Ternary o a b c) (within (λ u. Ternary o x u z) (search b).spot) (within (λ u. Ternary o x y u) (search c).spot)
      (within_spots b (Ternary o a b c) (λ u. Ternary o x u z) (search b).spot q.spots (λ i. Ternary o (p.whole i) b (r.whole i)) (λ v l m e. alike_update types v v t x l z x m z refl e refl) (λ l m e. sort_ternary types o o x l z x m z refl refl e refl) (second_part o a b c))
      (within_spots c (Ternary o a b c) (λ u. Ternary o x y u) (search c).spot r.spots (λ i. Ternary o (p.whole i) (q.whole i) c) (λ v l m e. alike_update types v v t x y l x y m refl refl e) (λ l m e. sort_ternary types o o x y l x y m refl refl refl e) (third_part o a b c)))
  ternary_spots (ternary.Quantified f d) a b c p q r = none_spots _

  known_cases : Cases Known
  known_cases = record {
    number = λ n. to (Number n) _ (fold-Number search_step n) (record { whole = refl; spots = none_spots _ });
    truth = λ b. to (Truth b) _ (fold-Truth search_step b) (record { whole = refl; spots = none_spots _ });
    variable = λ x. to (Variable x) _ (fold-Variable search_step x) (record { whole = refl; spots = none_spots _ });
    blank = λ id. to (Blank id) _ (fold-Blank search_step id) (record { whole = refl; spots = none_spots _ });
    prefix = λ o a p. to (Prefix o a) _ (fold-Prefix search_step o a)
        (record { whole = ap (Prefix o) p.whole; spots = within_spots a (Prefix o a) (Prefix o) (search a).spot p.spots refl (λ v x y e. alike_prefix types v v o x y e) (λ x y e. sort_prefix types o x y e) (λ m g. let one = one_sort (sort_of_prefix o) (sort_of types a) m (sym (fold-Prefix (sort_step types) o a) ∙ g) in (one.only, one.only_is)) });
    «infix» = λ o a b p q. to (Infix o a b) _ (fold-Infix search_step o a b)
        (record {
          whole = λ i. Infix o (p.whole i) (q.whole i);
          spots = first_spots (Infix o a b) (within (λ x. Infix o x (search b).whole) (search a).spot) (within (Infix o (search a).whole) (search b).spot)
              (within_spots a (Infix o a b) (λ x. Infix o x (search b).whole) (search a).spot p.spots (ap (Infix o a) q.whole) (λ v x y e. alike_infix types v v o x (search b).whole y (search b).whole e refl) (λ x y e. sort_infix types o x (search b).whole y (search b).whole e refl) (λ m g. let both = two_sorts (sort_of_op o) (sort_of types a) (sort_of types b) m (sym (fold-Infix (sort_step types) o a b) ∙ g) in (both.first, both.first_is)))
              (within_spots b (Infix o a b) (Infix o (search a).whole) (search b).spot q.spots (ap (λ x. Infix o x b) p.whole) (λ v x y e. alike_infix types v v o (search a).whole x (search a).whole y refl e) (λ x y e. sort_infix types o (search a).whole x (search a).whole y refl e) (λ m g. let both = two_sorts (sort_of_op o) (sort_of types a) (sort_of types b) m (sym (fold-Infix (sort_step types) o a b) ∙ g) in (both.second, both.second_is)));
        });
    unary = λ o a p. to (Unary o a) _ (fold-Unary search_step o a)
        (record { whole = ap (Unary o) p.whole; spots = within_spots a (Unary o a) (Unary o) (search a).spot p.spots refl (λ v x y e. alike_unary types v v o x y e) (λ x y e. sort_unary types o x y e) (λ m g. let one = one_sort (sort_of_unary types o) (sort_of types a) m (sym (fold-Unary (sort_step types) o a) ∙ g) in (one.only, one.only_is)) });
    binary = λ o a b p q. to (Binary o a b) _ (fold-Binary search_step o a b)
        (record {
          whole = λ i. Binary o (p.whole i) (q.whole i);
          spots = first_spots (Binary o a b) (read_here o (search a).whole (search b).whole) (in_order o (within (λ x. Binary o x (search b).whole) (search a).spot) (within (Binary o (search a).whole) (search b).spot))
              (subst (λ t. Spots t (read_here o (search a).whole (search b).whole)) (λ i. Binary o (p.whole i) (q.whole i)) (here_spots o (search a).whole (search b).whole))
              (ordered_spots (Binary o a b) o (within (λ x. Binary o x (search b).whole) (search a).spot) (within (Binary o (search a).whole) (search b).spot)
              (within_spots a (Binary o a b) (λ x. Binary o x (search b).whole) (search a).spot p.spots (ap (Binary o a) q.whole) (λ v x y e. alike_binary types v v o x (search b).whole y (search b).whole e refl) (λ x y e. sort_binary types o x (search b).whole y (search b).whole e refl) (λ m g. let both = two_sorts (sort_of_binary types o) (sort_of types a) (sort_of types b) m (sym (fold-Binary (sort_step types) o a b) ∙ g) in (both.first, both.first_is)))
              (within_spots b (Binary o a b) (Binary o (search a).whole) (search b).spot q.spots (ap (λ x. Binary o x b) p.whole) (λ v x y e. alike_binary types v v o (search a).whole x (search a).whole y refl e) (λ x y e. sort_binary types o (search a).whole x (search a).whole y refl e) (λ m g. let both = two_sorts (sort_of_binary types o) (sort_of types a) (sort_of types b) m (sym (fold-Binary (sort_step types) o a b) ∙ g) in (both.second, both.second_is))));
        });
    ternary = λ o a b c p q r. to (Ternary o a b c) _ (fold-Ternary search_step o a b c)
        (record { whole = λ i. Ternary o (p.whole i) (q.whole i) (r.whole i); spots = ternary_spots o a b c p q r });
  }

  -- the spot that is found is one of the term
  pub spot_is : (t : Term) (spot : Spot) → spot_of t ≡ Some spot → IsSpot types t spot
  unfolding spot_of
  spot_is t = (induct Known known_cases t).spots

-- ---- values of readings

either_index : (P : Type 0) (i j : ℤ) → (i ≡ j → P) → (int_eq i j ≡ false → P) → P
either_index P i j f g = by_test (int_eq i j) refl where
  by_test : (b : Bool) → int_eq i j ≡ b → P
  by_test true h = f ((Decides-int_eq i j).0 h)
  by_test false h = g h

at_itself : (i : ℤ) → lies_between i i i ≡ true
at_itself i = grind (arith, ints)

apart_from : (i j : ℤ) → int_eq i j ≡ false → lies_between i i j ≡ false
apart_from i j h = grind (arith, ints)

index_of : (types : Types) (array : ArrayType) (m n s : Sort) → sort_of_binary types (binary.Element array) m n ≡ Some s → n ≡ Integer
unfolding sort_of_binary
index_of types array (Composite c) Integer s h = refl
index_of types array (Composite c) Boolean s h = absurd (cc)
index_of types array (Composite c) (Composite d) s h = absurd (cc)
index_of types array Integer n s h = absurd (cc)
index_of types array Boolean n s h = absurd (cc)

module _ (types : Types) (v : Valuation) (respects : Respects types v) (array : ArrayType) (id : ℕ) (a i e j : Term) where
  abbrev reading : Term
  reading = Binary (binary.Element array) (Ternary (ternary.Update id) a i e) j

  update_parts : (m n k s : Sort) → sort_of_ternary types (ternary.Update id) m n k ≡ Some s → (m ≡ s) × (n ≡ Integer)
  unfolding sort_of_ternary
  update_parts (Composite c) Integer k s h = (asked_sort (c == id && element_takes types id k) (Composite c) s h, refl) where
    asked_sort : (b : Bool) (r s : Sort) → asked b r ≡ Some s → r ≡ s
    asked_sort true r s h = cc
    asked_sort false r s h = absurd (cc)
  update_parts (Composite c) Boolean k s h = absurd (cc)
  update_parts (Composite c) (Composite d) k s h = absurd (cc)
  update_parts Integer n k s h = absurd (cc)
  update_parts Boolean n k s h = absurd (cc)

  abbrev other : Value
  other = first_of types array.element

  value_here : value_of types v reading ≡ element_at other (as_number (value_of types v j)) (with_elements (as_number (value_of types v i)) (as_number (value_of types v i)) (value_of types v e) (value_of types v a))
  unfolding value_of_binary
  value_here = value-Binary types v (binary.Element array) (Ternary (ternary.Update id) a i e) j ∙ ap (λ x. element_at other (as_number (value_of types v j)) x) (value-Ternary types v (ternary.Update id) a i e)

  value_before : value_of types v (Binary (binary.Element array) a j) ≡ element_at other (as_number (value_of types v j)) (value_of types v a)
  unfolding value_of_binary
  value_before = value-Binary types v (binary.Element array) a j

  -- what is known of the parts of a well-sorted reading
  record Parts : Type 0 where
    values : ArrayValue array.first array.last (is_in false (shape_of types array.element)) (value_of types v a)
    index : IsNumber (value_of types v i)
    at : IsNumber (value_of types v j)

  known : HasSome types reading → Parts
  unfolding array_of
  known some =
      let two = two_sorts (sort_of_binary types (binary.Element array)) (sort_of types (Ternary (ternary.Update id) a i e)) (sort_of types j) some.0 (sym (fold-Binary (sort_step types) (binary.Element array) (Ternary (ternary.Update id) a i e) j) ∙ some.1) in
      let element = element_parts types v respects array two.first two.second some.0 two.gives in
      let three = three_parts types (ternary.Update id) a i e two.first two.first_is in
      let update = update_parts three.first three.second three.third two.first three.gives in
      let said = array_type_is types array element.1 in
      let has = subst (λ m. HasSort types m (value_of types v a)) (update.0 ∙ element.0) (sorted_value types v respects a three.first three.first_is) in
      record {
        values = array_passes false (types array.position) (shape_of types array.element) (array_of types array said) (value_of types v a) has;
        index = subst (λ m. HasSort types m (value_of types v i)) update.1 (sorted_value types v respects i three.second three.second_is);
        at = subst (λ m. HasSort types m (value_of types v j)) (index_sort two.first two.second some.0 two.gives) (sorted_value types v respects j two.second two.second_is);
      }
    where
      index_sort : (m n s : Sort) → sort_of_binary types (binary.Element array) m n ≡ Some s → n ≡ Integer
      index_sort m n s h = index_of types array m n s h

  abbrev at_i : ℤ
  at_i = as_number (value_of types v i)

  abbrev at_j : ℤ
  at_j = as_number (value_of types v j)

  read_item : Parts → at_i ≡ at_j → lies_between array.first array.last at_j ≡ true → value_of types v reading ≡ value_of types v e
  read_item k same range =
      value_here
      ∙ read_inside array.first array.last (is_in false (shape_of types array.element)) (value_of types v a) k.values other (value_of types v e) at_i at_i at_j (subst (λ z. lies_between at_i at_i z ≡ true) same (at_itself at_i)) range

  read_before : Parts → int_eq at_i at_j ≡ false → value_of types v reading ≡ value_of types v (Binary (binary.Element array) a j)
  read_before k apart =
      value_here
      ∙ read_outside array.first array.last (is_in false (shape_of types array.element)) (value_of types v a) k.values other (value_of types v e) at_i at_i at_j (apart_from at_i at_j apart)
      ∙ sym value_before

equal_numbers : (x y : Value) → IsNumber x → IsNumber y → as_number x ≡ as_number y → value_of_op op.Equal x y ≡ value.Truth true
unfolding value_of_op
equal_numbers (value.Number m) (value.Number n) p q h = ap value.Truth ((Decides-int_eq m n).1 h)
equal_numbers (value.Number m) _ p q h = absurd q
equal_numbers _ y p q h = absurd p

apart_numbers : (x y : Value) → IsNumber x → IsNumber y → int_eq (as_number x) (as_number y) ≡ false → value_of_op op.NotEqual x y ≡ value.Truth true
unfolding value_of_op
apart_numbers (value.Number m) (value.Number n) p q h = ap (λ b. value.Truth (not b)) h
apart_numbers (value.Number m) _ p q h = absurd q
apart_numbers _ y p q h = absurd p

in_bounds : (i low high : ℤ) → low ≤ℤ i → i ≤ℤ high → lies_between low high i ≡ true
in_bounds i low high p q = grind (arith, ints)

module _ (types : Types) (s : Sequent) (sorted : Sorted types s) where
  found_leads : (spot : Spot) → spot_of s.goal ≡ Some spot → Leads types s (elem_at s (Some spot))
  found_leads spot found =
      let r = spot.reading in
      let low = Number r.array.first in
      let high = Number r.array.last in
      let first_left = with_goal (in_range r.index low high) s in
      let second_left = with_goal (spot.around r.item) (with_hyp (Infix op.Equal r.index r.at) s) in
      let third_left = with_goal (spot.around (Binary (binary.Element r.array) r.of r.at)) (with_hyp (Infix op.NotEqual r.index r.at) s) in
      let is = spot_is types s.goal spot found in
      leads_ok types s (first_left ∷ second_left ∷ third_left ∷ [])
      (λ all. valid types s (λ v respects facts.
      let k = known types v respects r.array is.id r.of r.index r.item r.at (is.sorted Boolean sorted.1) in
      let range = between types v r.index low high (goal_of types s first_left all.0 v respects facts) in
      let at_low = subst (λ z. as_number z ≤ℤ as_number (value_of types v r.index)) (value-Number types v r.array.first) range.above in
      let at_high = subst (λ z. as_number (value_of types v r.index) ≤ℤ as_number z) (value-Number types v r.array.last) range.below in
      ap (value_of types v) (sym is.whole)
      ∙ either_index (value_of types v (spot.around (reading types v respects r.array is.id r.of r.index r.item r.at)) ≡ value.Truth true) (as_number (value_of types v r.index)) (as_number (value_of types v r.at))
      (λ same.
      is.keeps v (reading types v respects r.array is.id r.of r.index r.item r.at) r.item
      (read_item types v respects r.array is.id r.of r.index r.item r.at k same (subst (λ z. lies_between r.array.first r.array.last z ≡ true) same (in_bounds (as_number (value_of types v r.index)) r.array.first r.array.last at_low at_high)))
      ∙ goal_with types s (Infix op.Equal r.index r.at ∷ []) (spot.around r.item) all.1.0 v respects facts
      (value-Infix types v op.Equal r.index r.at ∙ equal_numbers (value_of types v r.index) (value_of types v r.at) k.index k.at same, tt))
      (λ apart.
      is.keeps v (reading types v respects r.array is.id r.of r.index r.item r.at) (Binary (binary.Element r.array) r.of r.at) (read_before types v respects r.array is.id r.of r.index r.item r.at k apart)
      ∙ goal_with types s (Infix op.NotEqual r.index r.at ∷ []) (spot.around (Binary (binary.Element r.array) r.of r.at)) all.1.1.0 v respects facts
      (value-Infix types v op.NotEqual r.index r.at ∙ apart_numbers (value_of types v r.index) (value_of types v r.at) k.index k.at apart, tt))))

  by_spot : (o : Option Spot) → spot_of s.goal ≡ o → Leads types s (elem_at s o)
  by_spot (Some spot) is = found_leads spot is
  by_spot None is = leads_refused types s

  -- `elem`
  pub element_leads : Leads types s (elem_at s (spot_of s.goal))
  element_leads = by_spot (spot_of s.goal) refl
