-- Elements and fields by their places.
use Rattle.std.proofs.Common.{◌≡◌, ◌≢◌, ℕ, zero, suc, ◌<◌, ◌≤◌, ◌+◌, ℤ, pos, ◌+ℤ◌, Bool, true, false, List, [], ◌∷◌, length, get_or, Option, None, refl, sym, ap, ap₂, ◌∙◌, arith}
use Rattle.std.specs.Prelude.{slice_get, slice_set, slice_index_or, unwrap_or, if◌then◌else◌}
use Rattle.std.specs.Ordering.{int_eq}
use Rattle.std.proofs.lemmas.Int.{ints}
use Rattle.std.proofs.lemmas.List.{set_past}
use Rattle.std.proofs.lemmas.Option.{unwrap_or-slice_get}
use Rattle.spx_term.specs.declared.value.Value.{Value}
use Rattle.spx_term.specs.declared.value.Value.TheVariants.{Number, Truth, Elements, Fields, outs-Number, outs-Truth, outs-Elements, outs-Fields}
use Rattle.spx_term.specs.Values.{lies_between, nth, element_in, element_at, replaced, with_elements_in, with_elements, field_in, field_at, with_field_in, with_field}

-- no element is at the index
abbrev pub Misses : ℤ → ℤ → ℕ → Type 0
Misses i n len = (k : ℕ) → k < len → i ≢ n +ℤ pos k

after : (n : ℤ) (k : ℕ) → n +ℤ pos (suc k) ≡ (n +ℤ pos 1) +ℤ pos k
after n k = grind (arith, ints)

at_first : (n : ℤ) → n +ℤ pos 0 ≡ n
at_first n = grind (arith, ints)

not_first : (i n : ℤ) (len : ℕ) → 0 < len → Misses i n len → i ≢ n
not_first i n len some misses same = misses 0 some (same ∙ sym (at_first n))

misses_rest : (i n : ℤ) (len : ℕ) → Misses i n (suc len) → Misses i (n +ℤ pos 1) len
misses_rest i n len misses k within same = misses (suc k) (omega arith) (same ∙ sym (after n k))

unequal : (i n : ℤ) → i ≢ n → int_eq i n ≡ false
unequal i n apart = grind (arith, ints)

unlying : (i n : ℤ) → i ≢ n → lies_between i i n ≡ false
unlying i n apart = grind (arith, ints)

lying : (n : ℤ) → lies_between n n n ≡ true
lying n = grind (arith, ints)

equal : (n : ℤ) → int_eq n n ≡ true
equal n = grind (arith, ints)

past : (n : ℤ) (k : ℕ) → n +ℤ pos (suc k) ≢ n
past n k same = omega (arith, ints)

misses_before : (n : ℤ) (len : ℕ) → Misses n (n +ℤ pos 1) len
misses_before n len k within same = omega (arith, ints)

-- ---- where there is no element

nth-absent : (other : Value) (i n : ℤ) (xs : List Value) → Misses i n (length xs) → nth other i n xs ≡ other
nth-absent other i n [] misses = refl
nth-absent other i n (x ∷ xs) misses =
    ap (λ b. if b then x else nth other i (n +ℤ pos 1) xs) (unequal i n (not_first i n (suc (length xs)) (omega arith) misses))
    ∙ nth-absent other i (n +ℤ pos 1) xs (misses_rest i n (length xs) misses)

replaced-absent : (i : ℤ) (e : Value) (n : ℤ) (xs : List Value) → Misses i n (length xs) → replaced i i e n xs ≡ xs
replaced-absent i e n [] misses = refl
replaced-absent i e n (x ∷ xs) misses =
    ap₂ (λ (y : Value) (ys : List Value). y ∷ ys)
    (ap (λ b. if b then e else x) (unlying i n (not_first i n (suc (length xs)) (omega arith) misses)))
    (replaced-absent i e (n +ℤ pos 1) xs (misses_rest i n (length xs) misses))

-- ---- where there is one

nth-there : (other : Value) (n : ℤ) (k : ℕ) (xs : List Value) → k < length xs → nth other (n +ℤ pos k) n xs ≡ unwrap_or (slice_get xs k) other
nth-there other n k [] within = absurd (omega arith)
nth-there other n zero (x ∷ xs) within =
    ap (λ i. nth other i n (x ∷ xs)) (at_first n) ∙ ap (λ b. if b then x else nth other n (n +ℤ pos 1) xs) (equal n)
nth-there other n (suc k) (x ∷ xs) within =
    ap (λ b. if b then x else nth other (n +ℤ pos (suc k)) (n +ℤ pos 1) xs) (unequal (n +ℤ pos (suc k)) n (past n k))
    ∙ ap (λ i. nth other i (n +ℤ pos 1) xs) (after n k)
    ∙ nth-there other (n +ℤ pos 1) k xs (omega arith)

replaced-there : (e : Value) (n : ℤ) (k : ℕ) (xs : List Value) → k < length xs → replaced (n +ℤ pos k) (n +ℤ pos k) e n xs ≡ slice_set xs k e
replaced-there e n k [] within = absurd (omega arith)
replaced-there e n zero (x ∷ xs) within =
    ap (λ i. replaced i i e n (x ∷ xs)) (at_first n)
    ∙ ap₂ (λ (y : Value) (ys : List Value). y ∷ ys) (ap (λ b. if b then e else x) (lying n)) (replaced-absent n e (n +ℤ pos 1) xs (misses_before n (length xs)))
replaced-there e n (suc k) (x ∷ xs) within =
    ap₂ (λ (y : Value) (ys : List Value). y ∷ ys)
    (ap (λ b. if b then e else x) (unlying (n +ℤ pos (suc k)) n (past n k)))
    (ap (λ i. replaced i i e (n +ℤ pos 1) xs) (after n k) ∙ replaced-there e (n +ℤ pos 1) k xs (omega arith))

-- ---- values

module _ (other part : Value) (i : ℤ) where
  pub element-Number : (m : ℤ) → element_at other i (Number m) ≡ other
  unfolding element_at
  element-Number m = ap (element_in other i) (outs-Number m)

  pub element-Truth : (b : Bool) → element_at other i (Truth b) ≡ other
  unfolding element_at
  element-Truth b = ap (element_in other i) (outs-Truth b)

  pub element-Fields : (xs : List Value) → element_at other i (Fields xs) ≡ other
  unfolding element_at
  element-Fields xs = ap (element_in other i) (outs-Fields xs)

  pub element-Elements : (n : ℤ) (xs : List Value) → element_at other i (Elements n xs) ≡ nth other i n xs
  unfolding element_at
  element-Elements n xs = ap (element_in other i) (outs-Elements n xs)

  pub put_element-Number : (m : ℤ) → with_elements i i part (Number m) ≡ Number m
  unfolding with_elements
  put_element-Number m = ap (with_elements_in i i part (Number m)) (outs-Number m)

  pub put_element-Truth : (b : Bool) → with_elements i i part (Truth b) ≡ Truth b
  unfolding with_elements
  put_element-Truth b = ap (with_elements_in i i part (Truth b)) (outs-Truth b)

  pub put_element-Fields : (xs : List Value) → with_elements i i part (Fields xs) ≡ Fields xs
  unfolding with_elements
  put_element-Fields xs = ap (with_elements_in i i part (Fields xs)) (outs-Fields xs)

  pub put_element-Elements : (n : ℤ) (xs : List Value) → with_elements i i part (Elements n xs) ≡ Elements n (replaced i i part n xs)
  unfolding with_elements
  put_element-Elements n xs = ap (with_elements_in i i part (Elements n xs)) (outs-Elements n xs)

  pub element_there : (n : ℤ) (k : ℕ) (xs : List Value) → k < length xs → i ≡ n +ℤ pos k → element_at other i (Elements n xs) ≡ unwrap_or (slice_get xs k) other
  element_there n k xs within is = element-Elements n xs ∙ ap (λ j. nth other j n xs) is ∙ nth-there other n k xs within

  pub element_absent : (n : ℤ) (xs : List Value) → Misses i n (length xs) → element_at other i (Elements n xs) ≡ other
  element_absent n xs misses = element-Elements n xs ∙ nth-absent other i n xs misses

  pub put_element_there : (n : ℤ) (k : ℕ) (xs : List Value) → k < length xs → i ≡ n +ℤ pos k → with_elements i i part (Elements n xs) ≡ Elements n (slice_set xs k part)
  put_element_there n k xs within is =
      put_element-Elements n xs ∙ ap (Elements n) (ap (λ j. replaced j j part n xs) is ∙ replaced-there part n k xs within)

  pub put_element_absent : (n : ℤ) (xs : List Value) → Misses i n (length xs) → with_elements i i part (Elements n xs) ≡ Elements n xs
  put_element_absent n xs misses = put_element-Elements n xs ∙ ap (Elements n) (replaced-absent i part n xs misses)

module _ (other part : Value) (k : ℕ) where
  pub field-Number : (m : ℤ) → field_at other k (Number m) ≡ other
  unfolding field_at
  field-Number m = ap (field_in other k) (outs-Number m)

  pub field-Truth : (b : Bool) → field_at other k (Truth b) ≡ other
  unfolding field_at
  field-Truth b = ap (field_in other k) (outs-Truth b)

  pub field-Elements : (n : ℤ) (xs : List Value) → field_at other k (Elements n xs) ≡ other
  unfolding field_at
  field-Elements n xs = ap (field_in other k) (outs-Elements n xs)

  pub field-Fields : (xs : List Value) → field_at other k (Fields xs) ≡ slice_index_or xs k other
  unfolding field_at
  field-Fields xs = ap (field_in other k) (outs-Fields xs)

  pub put_field-Number : (m : ℤ) → with_field k part (Number m) ≡ Number m
  unfolding with_field
  put_field-Number m = ap (with_field_in k part (Number m)) (outs-Number m)

  pub put_field-Truth : (b : Bool) → with_field k part (Truth b) ≡ Truth b
  unfolding with_field
  put_field-Truth b = ap (with_field_in k part (Truth b)) (outs-Truth b)

  pub put_field-Elements : (n : ℤ) (xs : List Value) → with_field k part (Elements n xs) ≡ Elements n xs
  unfolding with_field
  put_field-Elements n xs = ap (with_field_in k part (Elements n xs)) (outs-Elements n xs)

  pub put_field-Fields : (xs : List Value) → with_field k part (Fields xs) ≡ Fields (slice_set xs k part)
  unfolding with_field
  put_field-Fields xs = ap (with_field_in k part (Fields xs)) (outs-Fields xs)

  pub field_found : (x : Value) (xs : List Value) (found : Option Value) → x ≡ Fields xs → found ≡ slice_get xs k → unwrap_or found other ≡ field_at other k x
  field_found x xs found is at = ap (λ o. unwrap_or o other) at ∙ unwrap_or-slice_get xs k other ∙ sym (ap (field_at other k) is ∙ field-Fields xs)

  pub put_field_past : (x : Value) (xs : List Value) → x ≡ Fields xs → length xs ≤ k → with_field k part x ≡ x
  put_field_past x xs is past = ap (with_field k part) is ∙ put_field-Fields xs ∙ ap Fields (set_past xs k part past) ∙ sym is

  pub put_field_absent : (x : Value) (xs : List Value) → x ≡ Fields xs → slice_get xs k ≡ None → with_field k part x ≡ x
  put_field_absent x xs is none = put_field_past x xs is (past_end xs k none)
    where
      past_end : (xs : List Value) (k : ℕ) → slice_get xs k ≡ None → length xs ≤ k
      past_end [] k none = omega arith
      past_end (y ∷ ys) zero none = absurd cc
      past_end (y ∷ ys) (suc k) none = omega (arith, past_end ys k none)

pub ruleset part_forms = (element-Number, element-Truth, element-Fields, element_there, element_absent, put_element-Number, put_element-Truth, put_element-Fields, put_element_there, put_element_absent, field-Number, field-Truth, field-Elements, field-Fields, put_field-Number, put_field-Truth, put_field-Elements, put_field-Fields)

-- ---- values that are known by an equation

pub element_is : (x y other : Value) (i n : ℤ) (k : ℕ) (xs : List Value) → x ≡ Elements n xs → k < length xs → i ≡ n +ℤ pos k → y ≡ get_or xs k y → y ≡ element_at other i x
element_is x y other i n k xs is within at found =
    found
    ∙ sym (unwrap_or-slice_get xs k y)
    ∙ same_there xs k within
    ∙ sym (ap (element_at other i) is ∙ element_there other other i n k xs within at)
  where
    same_there : (xs : List Value) (k : ℕ) → k < length xs → unwrap_or (slice_get xs k) y ≡ unwrap_or (slice_get xs k) other
    same_there [] k within = absurd (omega arith)
    same_there (z ∷ xs) zero within = refl
    same_there (z ∷ xs) (suc k) within = same_there xs k (omega arith)

pub no_element : (x other : Value) (i n : ℤ) (xs : List Value) → x ≡ Elements n xs → Misses i n (length xs) → other ≡ element_at other i x
no_element x other i n xs is misses = sym (ap (element_at other i) is ∙ element_absent other other i n xs misses)

pub element_stays : (x part : Value) (i n : ℤ) (xs : List Value) → x ≡ Elements n xs → Misses i n (length xs) → with_elements i i part x ≡ x
element_stays x part i n xs is misses = ap (with_elements i i part) is ∙ put_element_absent part part i n xs misses ∙ sym is
