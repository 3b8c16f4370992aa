-- Elements and fields of values: what is of a type stays so, and what was put is read again.
use Rattle.std.proofs.Common.{◌≡◌, ◌≤ℤ◌, ◌<ℤ◌, ℕ, zero, suc, ℤ, pos, negsuc, ◌+ℤ◌, ◌-ℤ◌, Bool, true, false, ◌&&◌, ◌==◌, List, [], ◌∷◌, map, length, replicate, refl, sym, ap, ap₂, ◌∙◌, subst, Some, if◌then◌else◌, int_le, arith}
use Rattle.std.specs.Prelude.{slice_get, slice_index_or, slice_set}
use Rattle.std.specs.Ordering.{int_eq}
use Rattle.std.specs.List.{list_all}
use Rattle.std.proofs.lemmas.Int.{ints}
use Rattle.std.proofs.lemmas.List.{length-replicate}
use Rattle.std.proofs.lemmas.Bool.{and_parts, cond_both, eqb-true}
use Rattle.std.proofs.lemmas.Bool.Decides.{Decides-int_eq, nat_tests}
use denote.Hole.Carrier.{roll}
use Rattle.spx_term.specs.declared.value.Shape.{Shape, Shape-F, out-Shape, roll-Shape, map-Shape, fold-Shape, fold_out-Shape, ind-Shape}
use Rattle.spx_term.specs.declared.value.Shape.TheVariants as shape
use Rattle.spx_term.specs.declared.value.Value.{Value, Value-F, out-Value}
use Rattle.spx_term.specs.declared.value.Value.TheVariants.{Elements, Fields, outs-Number, outs-Truth, outs-Elements, outs-Fields}
use Rattle.spx_term.specs.Values.{natural, count, lies_between, first_step, first_value, number_passes, is_truth, elements_pass, each_passes, fields_pass, within, is_in_step, is_in, nth, element_in, element_at, replaced, with_elements_in, with_elements, filled_in, filled, field_in, field_at, with_field_in, with_field}

both_true : (a b : Bool) → a ≡ true → b ≡ true → (a && b) ≡ true
both_true a b p q = ap₂ ◌&&◌ p q

-- ---- folds over shapes at each form

module _ {A : Type 0} (step : Shape-F A → A) where
  shape_at : (s : Shape) (layer : Shape-F Shape) → out-Shape s ≡ layer → fold-Shape A step s ≡ step (map-Shape Shape A (fold-Shape A step) layer)
  shape_at s layer is = fold_out-Shape A step s ∙ ap (λ x. step (map-Shape Shape A (fold-Shape A step) x)) is

module _ (b : Bool) where
  -- whether a value is of a type of this layer
  pub is_in-layer : (s : Shape) (layer : Shape-F Shape) → out-Shape s ≡ layer → (x : Value) → is_in b s x ≡ is_in_step b (map-Shape Shape (Value → Bool) (is_in b) layer) x
  unfolding is_in
  is_in-layer s layer is x = ap (λ (test : Value → Bool). test x) (shape_at (is_in_step b) s layer is)

-- ---- values of arrays

-- a value of an array type: its elements
pub record ArrayValue (low high : ℤ) (test : Value → Bool) (x : Value) : Type 0 where
  pub items : List Value
  pub is : out-Value x ≡ Value-F.Elements low items
  pub many : length items ≡ count low high
  pub pass : list_all test items ≡ true

array_layer : (low high : ℤ) (test : Value → Bool) (x : Value) (layer : Value-F Value) → out-Value x ≡ layer → elements_pass low high test layer ≡ true → ArrayValue low high test x
array_layer low high test x (Value-F.Elements first xs) is h =
    let parts = and_parts (int_eq first low) (length xs == count low high && list_all test xs) h in
    let others = and_parts (length xs == count low high) (list_all test xs) parts.1 in
    record {
      items = xs;
      is = is ∙ ap (λ f. Value-F.Elements f xs) ((Decides-int_eq first low).0 parts.0);
      many = eqb-true (length xs) (count low high) others.0;
      pass = others.1;
    }
array_layer low high test x _ is h = absurd (cc)

pub array_value : (low high : ℤ) (test : Value → Bool) (x : Value) → elements_pass low high test (out-Value x) ≡ true → ArrayValue low high test x
array_value low high test x h = array_layer low high test x (out-Value x) refl h

same_number : (n : ℕ) → (n == n) ≡ true
same_number n = grind (arith, nat_tests)

pub from_elements : (low high : ℤ) (test : Value → Bool) (xs : List Value) → length xs ≡ count low high → list_all test xs ≡ true → elements_pass low high test (out-Value (Elements low xs)) ≡ true
from_elements low high test xs many pass =
    ap (elements_pass low high test) (outs-Elements low xs)
    ∙ both_true (int_eq low low) (length xs == count low high && list_all test xs) ((Decides-int_eq low low).1 refl)
    (both_true (length xs == count low high) (list_all test xs) (ap (λ n. length xs == n) (sym many) ∙ same_number (length xs)) pass)

-- ---- elements that are read

nth_passes : (test : Value → Bool) (other : Value) (i n : ℤ) (xs : List Value) → test other ≡ true → list_all test xs ≡ true → test (nth other i n xs) ≡ true
nth_passes test other i n [] p all = p
nth_passes test other i n (x ∷ xs) p all =
    let parts = and_parts (test x) (list_all test xs) all in
    cond_both (int_eq i n) x (nth other i (n +ℤ pos 1) xs) (λ y. test y ≡ true) (λ _. parts.0) (λ _. nth_passes test other i (n +ℤ pos 1) xs p parts.1)

pub element_passes : (low high : ℤ) (test : Value → Bool) (other : Value) (i : ℤ) (x : Value) → ArrayValue low high test x → test other ≡ true → test (element_at other i x) ≡ true
unfolding element_at
element_passes low high test other i x v p = ap (λ layer. test (element_in other i layer)) v.is ∙ nth_passes test other i low v.items p v.pass

-- ---- elements that are put

replaced_length : (low high : ℤ) (e : Value) (n : ℤ) (xs : List Value) → length (replaced low high e n xs) ≡ length xs
replaced_length low high e n [] = refl
replaced_length low high e n (x ∷ xs) = ap suc (replaced_length low high e (n +ℤ pos 1) xs)

replaced_pass : (test : Value → Bool) (low high : ℤ) (e : Value) (n : ℤ) (xs : List Value) → test e ≡ true → list_all test xs ≡ true → list_all test (replaced low high e n xs) ≡ true
replaced_pass test low high e n [] p all = refl
replaced_pass test low high e n (x ∷ xs) p all =
    let parts = and_parts (test x) (list_all test xs) all in
    both_true (test (if lies_between low high n then e else x)) (list_all test (replaced low high e (n +ℤ pos 1) xs))
    (cond_both (lies_between low high n) e x (λ y. test y ≡ true) (λ _. p) (λ _. parts.0))
    (replaced_pass test low high e (n +ℤ pos 1) xs p parts.1)

pub with_elements_is : (first last : ℤ) (test : Value → Bool) (low high : ℤ) (e x : Value) → (v : ArrayValue first last test x) → with_elements low high e x ≡ Elements first (replaced low high e first v.items)
unfolding with_elements
with_elements_is first last test low high e x v = ap (with_elements_in low high e x) v.is

pub with_elements_pass : (first last : ℤ) (test : Value → Bool) (low high : ℤ) (e x : Value) → ArrayValue first last test x → test e ≡ true → elements_pass first last test (out-Value (with_elements low high e x)) ≡ true
with_elements_pass first last test low high e x v p =
    ap (λ y. elements_pass first last test (out-Value y)) (with_elements_is first last test low high e x v)
    ∙ from_elements first last test (replaced low high e first v.items) (replaced_length low high e first v.items ∙ v.many) (replaced_pass test low high e first v.items p v.pass)

-- ---- what is read after it was put

nth_outside : (other : Value) (j low high : ℤ) (e : Value) (n : ℤ) (xs : List Value) → lies_between low high j ≡ false → nth other j n (replaced low high e n xs) ≡ nth other j n xs
nth_outside other j low high e n [] h = refl
nth_outside other j low high e n (x ∷ xs) h =
    cond_both (int_eq j n) x (nth other j (n +ℤ pos 1) xs) (λ y. nth other j n (replaced low high e n (x ∷ xs)) ≡ y)
    (λ same. let here : j ≡ n = (Decides-int_eq j n).0 same in
    ap (λ b. if b then (if lies_between low high n then e else x) else nth other j (n +ℤ pos 1) (replaced low high e (n +ℤ pos 1) xs)) same
    ∙ ap (λ b. if b then e else x) (ap (lies_between low high) (sym here) ∙ h))
    (λ apart. ap (λ b. if b then (if lies_between low high n then e else x) else nth other j (n +ℤ pos 1) (replaced low high e (n +ℤ pos 1) xs)) apart
    ∙ nth_outside other j low high e (n +ℤ pos 1) xs h)

-- an index that is not the first one comes after it
later : (n j : ℤ) → n ≤ℤ j → int_eq j n ≡ false → (n +ℤ pos 1) ≤ℤ j
later n j p q = grind (arith, ints)

nth_inside : (other : Value) (j low high : ℤ) (e : Value) (n : ℤ) (xs : List Value) → lies_between low high j ≡ true → n ≤ℤ j → j <ℤ (n +ℤ pos (length xs)) → nth other j n (replaced low high e n xs) ≡ e
nth_inside other j low high e n [] h p q = absurd (omega (arith, ints))
nth_inside other j low high e n (x ∷ xs) h p q =
    cond_both (int_eq j n) (if lies_between low high n then e else x) (nth other j (n +ℤ pos 1) (replaced low high e (n +ℤ pos 1) xs)) (λ y. y ≡ e)
    (λ same. let here : j ≡ n = (Decides-int_eq j n).0 same in ap (λ b. if b then e else x) (ap (lies_between low high) (sym here) ∙ h))
    (λ apart. nth_inside other j low high e (n +ℤ pos 1) xs h (later n j p apart) (omega (arith, ints)))

nth_filled : (other : Value) (j : ℤ) (e : Value) (n : ℤ) (xs : List Value) → n ≤ℤ j → j <ℤ (n +ℤ pos (length xs)) → nth other j n (map (λ (y : Value). e) xs) ≡ e
nth_filled other j e n [] p q = absurd (omega (arith, ints))
nth_filled other j e n (x ∷ xs) p q =
    cond_both (int_eq j n) e (nth other j (n +ℤ pos 1) (map (λ (y : Value). e) xs)) (λ y. y ≡ e)
    (λ same. refl)
    (λ apart. nth_filled other j e (n +ℤ pos 1) xs (later n j p apart) (omega (arith, ints)))

natural_is : (z : ℤ) → pos 0 ≤ℤ z → pos (natural z) ≡ z
natural_is (pos n) h = refl
natural_is (negsuc n) h = absurd (omega (arith, ints))

-- an index in range is one of the elements
pub in_range : (low high j : ℤ) → lies_between low high j ≡ true → (low ≤ℤ j) × (j <ℤ (low +ℤ pos (count low high)))
in_range low high j h =
    let parts = and_parts (int_le low j) (int_le j high) h in
    let from : low ≤ℤ j = grind (arith, ints, parts.0) in
    let to : j ≤ℤ high = grind (arith, ints, parts.1) in
    let many : pos (count low high) ≡ ((high -ℤ low) +ℤ pos 1) = natural_is ((high -ℤ low) +ℤ pos 1) (omega (arith, ints)) in
    (from, let r : j <ℤ (low +ℤ pos (count low high)) = omega (arith, ints) in r)

module _ (first last : ℤ) (test : Value → Bool) (x : Value) (v : ArrayValue first last test x) where
  -- an update elsewhere
  pub read_outside : (other e : Value) (low high j : ℤ) → lies_between low high j ≡ false → element_at other j (with_elements low high e x) ≡ element_at other j x
  unfolding element_at
  read_outside other e low high j h =
      ap (λ y. element_in other j (out-Value y)) (with_elements_is first last test low high e x v)
      ∙ ap (element_in other j) (outs-Elements first (replaced low high e first v.items))
      ∙ nth_outside other j low high e first v.items h
      ∙ ap (element_in other j) (sym v.is)

  -- an update there
  pub read_inside : (other e : Value) (low high j : ℤ) → lies_between low high j ≡ true → lies_between first last j ≡ true → element_at other j (with_elements low high e x) ≡ e
  unfolding element_at
  read_inside other e low high j h range =
      let r = in_range first last j range in
      ap (λ y. element_in other j (out-Value y)) (with_elements_is first last test low high e x v)
      ∙ ap (element_in other j) (outs-Elements first (replaced low high e first v.items))
      ∙ nth_inside other j low high e first v.items h r.0 (subst (λ n. j <ℤ (first +ℤ pos n)) (sym v.many) r.1)

  pub filled_is : (e : Value) → filled e x ≡ Elements first (map (λ (y : Value). e) v.items)
  unfolding filled
  filled_is e = ap (filled_in e x) v.is

  -- all elements are e
  pub read_filled : (other e : Value) (j : ℤ) → lies_between first last j ≡ true → element_at other j (filled e x) ≡ e
  unfolding element_at
  read_filled other e j range =
      let r = in_range first last j range in
      ap (λ y. element_in other j (out-Value y)) (filled_is e)
      ∙ ap (element_in other j) (outs-Elements first (map (λ (y : Value). e) v.items))
      ∙ nth_filled other j e first v.items r.0 (subst (λ n. j <ℤ (first +ℤ pos n)) (sym v.many) r.1)

  map_length : (e : Value) (xs : List Value) → length (map (λ (y : Value). e) xs) ≡ length xs
  map_length e [] = refl
  map_length e (y ∷ ys) = ap suc (map_length e ys)

  map_pass : (e : Value) → test e ≡ true → (xs : List Value) → list_all test (map (λ (y : Value). e) xs) ≡ true
  map_pass e p [] = refl
  map_pass e p (y ∷ ys) = both_true (test e) (list_all test (map (λ (y : Value). e) ys)) p (map_pass e p ys)

  pub filled_pass : (e : Value) → test e ≡ true → elements_pass first last test (out-Value (filled e x)) ≡ true
  filled_pass e p =
      ap (λ y. elements_pass first last test (out-Value y)) (filled_is e)
      ∙ from_elements first last test (map (λ (y : Value). e) v.items) (map_length e v.items ∙ v.many) (map_pass e p v.items)

-- ---- values of records

pub record RecordValue (tests : List (Value → Bool)) (x : Value) : Type 0 where
  pub items : List Value
  pub is : out-Value x ≡ Value-F.Fields items
  pub pass : each_passes tests items ≡ true

record_layer : (tests : List (Value → Bool)) (x : Value) (layer : Value-F Value) → out-Value x ≡ layer → fields_pass tests layer ≡ true → RecordValue tests x
record_layer tests x (Value-F.Fields xs) is h = record { items = xs; is = is; pass = h }
record_layer tests x _ is h = absurd (cc)

pub record_value : (tests : List (Value → Bool)) (x : Value) → fields_pass tests (out-Value x) ≡ true → RecordValue tests x
record_value tests x h = record_layer tests x (out-Value x) refl h

-- the fields of a type, each with its test
field_passes : (b : Bool) (fields : List Shape) (xs : List Value) (k : ℕ) (other : Value) (s : Shape) → each_passes (map (is_in b) fields) xs ≡ true → slice_get fields k ≡ Some s → is_in b s (slice_index_or xs k other) ≡ true
field_passes b [] xs k other s all is = absurd (cc)
field_passes b (f ∷ fs) [] k other s all is = absurd (cc)
field_passes b (f ∷ fs) (x ∷ xs) zero other s all is =
    let parts = and_parts (is_in b f x) (each_passes (map (is_in b) fs) xs) all in
    let e : f ≡ s = cc in
    subst (λ s. is_in b s x ≡ true) e parts.0
field_passes b (f ∷ fs) (x ∷ xs) (suc k) other s all is =
    field_passes b fs xs k other s (and_parts (is_in b f x) (each_passes (map (is_in b) fs) xs) all).1 is

put_passes : (b : Bool) (fields : List Shape) (xs : List Value) (k : ℕ) (e : Value) (s : Shape) → each_passes (map (is_in b) fields) xs ≡ true → slice_get fields k ≡ Some s → is_in b s e ≡ true → each_passes (map (is_in b) fields) (slice_set xs k e) ≡ true
put_passes b [] xs k e s all is p = absurd (cc)
put_passes b (f ∷ fs) [] k e s all is p = absurd (cc)
put_passes b (f ∷ fs) (x ∷ xs) zero e s all is p =
    let q : f ≡ s = cc in
    both_true (is_in b f e) (each_passes (map (is_in b) fs) xs) (subst (λ s. is_in b s e ≡ true) (sym q) p) (and_parts (is_in b f x) (each_passes (map (is_in b) fs) xs) all).1
put_passes b (f ∷ fs) (x ∷ xs) (suc k) e s all is p =
    let parts = and_parts (is_in b f x) (each_passes (map (is_in b) fs) xs) all in
    both_true (is_in b f x) (each_passes (map (is_in b) fs) (slice_set xs k e)) parts.0 (put_passes b fs xs k e s parts.1 is p)

put_there : (b : Bool) (fields : List Shape) (xs : List Value) (k : ℕ) (e other : Value) (s : Shape) → each_passes (map (is_in b) fields) xs ≡ true → slice_get fields k ≡ Some s → slice_index_or (slice_set xs k e) k other ≡ e
put_there b [] xs k e other s all is = absurd (cc)
put_there b (f ∷ fs) [] k e other s all is = absurd (cc)
put_there b (f ∷ fs) (x ∷ xs) zero e other s all is = refl
put_there b (f ∷ fs) (x ∷ xs) (suc k) e other s all is = put_there b fs xs k e other s (and_parts (is_in b f x) (each_passes (map (is_in b) fs) xs) all).1 is

put_elsewhere : (xs : List Value) (j k : ℕ) (e other : Value) → (j == k) ≡ false → slice_index_or (slice_set xs j e) k other ≡ slice_index_or xs k other
put_elsewhere [] j k e other h = refl
put_elsewhere (x ∷ xs) zero zero e other h = absurd (cc)
put_elsewhere (x ∷ xs) zero (suc k) e other h = refl
put_elsewhere (x ∷ xs) (suc j) zero e other h = refl
put_elsewhere (x ∷ xs) (suc j) (suc k) e other h = let before : (j == k) ≡ false = grind (arith, nat_tests) in put_elsewhere xs j k e other before

module _ (b : Bool) (fields : List Shape) (x : Value) (v : RecordValue (map (is_in b) fields) x) where
  pub field_is_in : (k : ℕ) (other : Value) (s : Shape) → slice_get fields k ≡ Some s → is_in b s (field_at other k x) ≡ true
  unfolding field_at
  field_is_in k other s is = ap (λ layer. is_in b s (field_in other k layer)) v.is ∙ field_passes b fields v.items k other s v.pass is

  pub with_field_is : (k : ℕ) (e : Value) → with_field k e x ≡ Fields (slice_set v.items k e)
  unfolding with_field
  with_field_is k e = ap (with_field_in k e x) v.is

  pub with_field_pass : (k : ℕ) (e : Value) (s : Shape) → slice_get fields k ≡ Some s → is_in b s e ≡ true → fields_pass (map (is_in b) fields) (out-Value (with_field k e x)) ≡ true
  with_field_pass k e s is p =
      ap (λ y. fields_pass (map (is_in b) fields) (out-Value y)) (with_field_is k e)
      ∙ ap (fields_pass (map (is_in b) fields)) (outs-Fields (slice_set v.items k e))
      ∙ put_passes b fields v.items k e s v.pass is p

  pub read_field : (k : ℕ) (e other : Value) (s : Shape) → slice_get fields k ≡ Some s → field_at other k (with_field k e x) ≡ e
  unfolding field_at
  read_field k e other s is =
      ap (λ y. field_in other k (out-Value y)) (with_field_is k e)
      ∙ ap (field_in other k) (outs-Fields (slice_set v.items k e))
      ∙ put_there b fields v.items k e other s v.pass is

  pub read_other_field : (j k : ℕ) (e other : Value) → (j == k) ≡ false → field_at other k (with_field j e x) ≡ field_at other k x
  unfolding field_at
  read_other_field j k e other h =
      ap (λ y. field_in other k (out-Value y)) (with_field_is j e)
      ∙ ap (field_in other k) (outs-Fields (slice_set v.items j e))
      ∙ put_elsewhere v.items j k e other h
      ∙ ap (field_in other k) (sym v.is)

-- ---- first values

replicate_pass : (test : Value → Bool) (x : Value) → test x ≡ true → (n : ℕ) → list_all test (replicate n x) ≡ true
replicate_pass test x h zero = refl
replicate_pass test x h (suc n) = both_true (test x) (list_all test (replicate n x)) h (replicate_pass test x h n)

-- a type has its first value, apart from bounds
abbrev FirstIsIn : Shape → Type 0
FirstIsIn s = is_in false s (first_value s) ≡ true

abbrev Shown : Type 0
Shown = (s : Shape) × FirstIsIn s

firsts_pass : (fields : List Shown) → each_passes (map (is_in false) (map (λ (e : Shown). e.0) fields)) (map first_value (map (λ (e : Shown). e.0) fields)) ≡ true
firsts_pass [] = refl
firsts_pass (f ∷ fs) =
    both_true (is_in false f.0 (first_value f.0)) (each_passes (map (is_in false) (map (λ (e : Shown). e.0) fs)) (map first_value (map (λ (e : Shown). e.0) fs))) f.1 (firsts_pass fs)

by_layer : (s : Shape) (layer : Shape-F Shape) → out-Shape s ≡ layer → is_in_step false (map-Shape Shape (Value → Bool) (is_in false) layer) (first_step (map-Shape Shape Value first_value layer)) ≡ true → FirstIsIn s
by_layer s layer is h =
    is_in-layer false s layer is (first_value s)
    ∙ ap (is_in_step false (map-Shape Shape (Value → Bool) (is_in false) layer)) (shape_at first_step s layer is) ∙ h

first_layer : (y : Shape-F Shown) → FirstIsIn (roll-Shape (map-Shape Shown Shape (λ e. e.0) y))
unfolding roll-Shape roll
first_layer (Shape-F.Integer low high) = by_layer (shape.Integer low high) (Shape-F.Integer low high) (shape.outs-Integer low high) (ap (number_passes (within false low high)) (outs-Number low))
first_layer Shape-F.Boolean = by_layer shape.Boolean Shape-F.Boolean shape.outs-Boolean (ap is_truth (outs-Truth false))
first_layer (Shape-F.Array id low high e) =
    by_layer (shape.Array id low high e.0) (Shape-F.Array id low high e.0) (shape.outs-Array id low high e.0)
    (from_elements low high (is_in false e.0) (replicate (count low high) (first_value e.0)) (length-replicate (count low high) (first_value e.0)) (replicate_pass (is_in false e.0) (first_value e.0) e.1 (count low high)))
first_layer (Shape-F.Record id fields) =
    by_layer (shape.Record id (map (λ (e : Shown). e.0) fields)) (Shape-F.Record id (map (λ (e : Shown). e.0) fields)) (shape.outs-Record id (map (λ (e : Shown). e.0) fields))
    (ap (fields_pass (map (is_in false) (map (λ (e : Shown). e.0) fields))) (outs-Fields (map first_value (map (λ (e : Shown). e.0) fields))) ∙ firsts_pass fields)

pub first_is_in : (s : Shape) → FirstIsIn s
first_is_in = ind-Shape FirstIsIn (λ x y is. subst (λ z. FirstIsIn (roll-Shape z)) is (first_layer y))
