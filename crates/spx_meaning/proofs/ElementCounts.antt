-- Counts of array elements up to a limit.
use Rattle.std.proofs.Common.{◌≡◌, ◌≤◌, ◌<◌, ◌+◌, ◌*◌, ℕ, zero, suc, min, Bool, true, false, nat_lt, List, [], ◌∷◌, ◌++◌, map, length, drop, get_or, unwrap_or, slice_get, Option, Some, None, option_map, refl, sym, ap, ap₂, ◌∙◌, ◌⊎◌, inl, inr, arith, drop-cons, add-one}
use Rattle.std.specs.List.{sum, sum_by}
use Rattle.std.proofs.lemmas.List.{drop_all, map-append}
use Rattle.std.proofs.lemmas.List.Sums.{sum-map, sum_by-cons, sum_by-drop_more}
use Rattle.std.proofs.lemmas.Option.{slice_get-map}
use Rattle.std.proofs.lemmas.Bool.{lt-ltb, ltb-true, ltb-false}
use Rattle.std.proofs.Math.Nat.{le-mul_of_pos_right, mul_comm, mul-zero}
use Rattle.spx_core.specs.declared.entity.Subtype.{Subtype}
use Rattle.spx_core.specs.declared.entity.TypeId.{TypeId}
use Rattle.spx_core.specs.declared.program.Field.{Field}
use Rattle.spx_core.specs.declared.program.TypeForm.{TypeForm}
use Rattle.spx_core.specs.declared.program.TypeForm.TheVariants.{Scalar, Array, Record}
use Rattle.spx_core.specs.declared.program.TypeRow.{TypeRow}
use Rattle.spx_term.specs.Values.{count}
use Rattle.spx_meaning.specs.Elements.{elements_at, elements_in, elements_after}
use Rattle.spx_meaning.specs.Mirror.{capped}

-- ---- numbers

capped_twice : (a : ℕ) → capped (capped a) ≡ capped a
capped_twice a = omega arith

capped_plus : (a b : ℕ) → capped (capped a + b) ≡ capped (a + b)
capped_plus a b = omega arith

capped_both : (a b : ℕ) → capped (a + capped b) ≡ capped (a + b)
capped_both a b = omega arith

next_capped : (total new this rest : ℕ) → new ≡ capped (total + this) → capped (new + rest) ≡ capped (total + (this + rest))
next_capped total new this rest is = omega (arith, is)

-- a product past the most, where one factor is
left_past : (a b : ℕ) → 1000001 ≤ a → 1 ≤ b → 1000001 ≤ a * b
left_past a b h g = let more : a ≤ a * b = le-mul_of_pos_right a g in omega (arith, h, more)

right_past : (a b : ℕ) → 1 ≤ a → 1000001 ≤ b → 1000001 ≤ a * b
right_past a b h g = let more : 1000001 ≤ b * a = left_past b a g h in omega (arith, more, mul_comm a b)

at_most : (n : ℕ) → 1000001 ≤ n → capped n ≡ 1000001
at_most n h = omega (arith, h)

in_limit : (n : ℕ) → n ≤ 1000000 → capped n ≡ n
in_limit n h = omega (arith, h)

one_up : (n : ℕ) → 1 ≤ n → 1 ≤ capped n
one_up n h = omega (arith, h)

both_past : (x y : ℕ) → 1000001 ≤ x → 1000001 ≤ y → capped x ≡ capped y
both_past x y h g = at_most x h ∙ sym (at_most y g)

by_left : (a b : ℕ) → 1 ≤ b → (1000001 ≤ a) ⊎ (a ≤ 1000000) → capped (capped a * b) ≡ capped (a * b)
by_left a b g (inl h) = both_past (capped a * b) (a * b) (left_past (capped a) b (omega (arith, at_most a h)) g) (left_past a b h g)
by_left a b g (inr h) = ap (λ n. capped (n * b)) (in_limit a h)

sides : (n : ℕ) (b : Bool) → nat_lt 1000000 n ≡ b → (1000001 ≤ n) ⊎ (n ≤ 1000000)
sides n true is = inl (omega (arith, ltb-true 1000000 n is))
sides n false is = inr (omega (arith, ltb-false 1000000 n is))

capped_left : (a b : ℕ) → capped (capped a * b) ≡ capped (a * b)
capped_left a zero = ap capped (mul-zero (capped a) ∙ sym (mul-zero a))
capped_left a (suc b) = by_left a (suc b) (omega arith) (sides a (nat_lt 1000000 a) refl)

pub capped_products : (a b : ℕ) → capped (capped a * capped b) ≡ capped (a * b)
capped_products a b = capped_left a (capped b) ∙ ap capped (mul_comm a (capped b)) ∙ capped_left b a ∙ ap capped (mul_comm b a)

capped_next : (a : ℕ) → capped (suc (capped a)) ≡ capped (suc a)
capped_next a = omega arith

-- ---- sums

pub next_sum : {X : Type 0} (f : X → ℕ) (xs : List X) (i : ℕ) (d : X) (total new : ℕ) → i < length xs
    → capped (total + sum_by f (drop i xs)) ≡ capped (sum_by f xs) → new ≡ capped (total + f (get_or xs i d))
    → capped (new + sum_by f (drop (i + 1) xs)) ≡ capped (sum_by f xs)
next_sum f xs i d total new w before is =
    next_capped total new (f (get_or xs i d)) (sum_by f (drop (i + 1) xs)) is ∙ ap (λ n. capped (total + n)) (sym (sum_by-drop_more f xs i d w)) ∙ before

pub all_summed : {X : Type 0} (f : X → ℕ) (xs : List X) (i total : ℕ) → length xs ≤ i → total ≤ 1000001
    → capped (total + sum_by f (drop i xs)) ≡ capped (sum_by f xs) → total ≡ capped (sum (map f xs))
all_summed f xs i total all least is =
    let here : capped (total + 0) ≡ capped (sum_by f xs) = ap (λ ys. capped (total + sum_by f ys)) (sym (drop_all i xs all)) ∙ is in
    let same = sum-map f xs in
    omega (arith, here, least, same)

added : (a b c d : ℕ) → capped a ≡ capped c → capped b ≡ capped d → capped (a + b) ≡ capped (c + d)
added a b c d this rest = omega (arith, this, rest)

-- a sum of numbers that are counted up to the most
capped_terms : {X : Type 0} (f g : X → ℕ) (xs : List X) → ((x : X) → capped (f x) ≡ capped (g x)) → capped (sum_by f xs) ≡ capped (sum_by g xs)
capped_terms f g [] same = refl
capped_terms f g (x ∷ xs) same =
    ap capped (sum_by-cons f x xs) ∙ added (f x) (sum_by f xs) (g x) (sum_by g xs) (same x) (capped_terms f g xs same) ∙ ap capped (sym (sum_by-cons g x xs))

pub capped_sums : {X : Type 0} (f g : X → ℕ) (xs : List X) → ((x : X) → capped (f x) ≡ capped (g x)) → capped (sum (map f xs)) ≡ capped (sum (map g xs))
capped_sums f g xs same = ap capped (sum-map f xs) ∙ capped_terms f g xs same ∙ ap capped (sym (sum-map g xs))

-- ---- tables of counts

abbrev Same : List ℕ → List ℕ → Type 0
Same xs ys = map capped xs ≡ map capped ys

or_none : (o : Option ℕ) → unwrap_or (option_map capped o) 0 ≡ capped (unwrap_or o 0)
or_none (Some n) = refl
or_none None = refl

pub at_capped : (counts : List ℕ) (id : TypeId) → elements_at (map capped counts) id ≡ capped (elements_at counts id)
at_capped counts id = ap (λ o. unwrap_or o 0) (slice_get-map capped counts id.0) ∙ or_none (slice_get counts id.0)

at_same : (xs ys : List ℕ) (id : TypeId) → Same xs ys → capped (elements_at xs id) ≡ capped (elements_at ys id)
at_same xs ys id same = sym (at_capped xs id) ∙ ap (λ counts. elements_at counts id) same ∙ at_capped ys id

-- the sum over a table that is counted up to the most
pub known_sums : {X : Type 0} (counts whole : List ℕ) (id : X → TypeId) (xs : List X) → counts ≡ map capped whole
    → capped (sum (map (λ x. elements_at counts (id x)) xs)) ≡ capped (sum (map (λ x. elements_at whole (id x)) xs))
known_sums counts whole id xs is =
    capped_sums (λ x. elements_at counts (id x)) (λ x. elements_at whole (id x)) xs
    (λ x. ap (λ (ns : List ℕ). capped (elements_at ns (id x))) is ∙ ap capped (at_capped whole (id x)) ∙ capped_twice (elements_at whole (id x)))

in_same : (xs ys : List ℕ) (form : TypeForm) → Same xs ys → capped (elements_in xs form) ≡ capped (elements_in ys form)
in_same xs ys Scalar same = refl
in_same xs ys (Array index element) same =
    let n = count index.first index.last in
    let id = element.base.id in
    let each : capped (suc (elements_at xs id)) ≡ capped (suc (elements_at ys id)) = sym (capped_next (elements_at xs id)) ∙ ap (λ k. capped (suc k)) (at_same xs ys id same) ∙ capped_next (elements_at ys id) in
    sym (capped_products n (suc (elements_at xs id))) ∙ ap (λ k. capped (capped n * k)) each ∙ capped_products n (suc (elements_at ys id))
in_same xs ys (Record fields) same =
    capped_sums (λ (field : Field). elements_at xs field.subtype.base.id) (λ (field : Field). elements_at ys field.subtype.base.id) fields (λ field. at_same xs ys field.subtype.base.id same)

longer : (xs ys : List ℕ) (a b : ℕ) → Same xs ys → capped a ≡ capped b → Same (xs ++ a ∷ []) (ys ++ b ∷ [])
longer xs ys a b same is = map-append capped xs (a ∷ []) ∙ ap₂ (λ front k. front ++ k ∷ []) same is ∙ sym (map-append capped ys (b ∷ []))

after_same : (xs ys : List ℕ) (rows : List TypeRow) → Same xs ys → Same (elements_after xs rows) (elements_after ys rows)
after_same xs ys [] same = same
after_same xs ys (row ∷ rows) same = after_same (xs ++ elements_in xs row.form ∷ []) (ys ++ elements_in ys row.form ∷ []) rows (longer xs ys (elements_in xs row.form) (elements_in ys row.form) same (in_same xs ys row.form same))

-- one more row of the table
pub next_row : (rows : List TypeRow) (i : ℕ) (d : TypeRow) (counts : List ℕ) (this : ℕ) (new : List ℕ) → i < length rows → map capped counts ≡ counts
    → Same (elements_after counts (drop i rows)) (elements_after [] rows) → this ≡ capped (elements_in counts (get_or rows i d).form) → new ≡ counts ++ this ∷ []
    → record { known : map capped new ≡ new; rest : Same (elements_after new (drop (i + 1) rows)) (elements_after [] rows) }
next_row rows i d counts this new w known before is pushed =
    let row = get_or rows i d in
    let n = elements_in counts row.form in
    let once : capped this ≡ this = ap capped is ∙ capped_twice n ∙ sym is in
    let left : drop i rows ≡ row ∷ drop (i + 1) rows = drop-cons rows i d w ∙ ap (λ k. row ∷ drop k rows) (sym (add-one i)) in
    record {
      known = ap (map capped) pushed ∙ map-append capped counts (this ∷ []) ∙ ap₂ (λ front k. front ++ k ∷ []) known once ∙ sym pushed;
      rest = ap (λ xs. map capped (elements_after xs (drop (i + 1) rows))) pushed
          ∙ after_same (counts ++ this ∷ []) (counts ++ n ∷ []) (drop (i + 1) rows) (longer counts counts this n refl (ap capped is ∙ capped_twice n))
          ∙ ap (λ rows. map capped (elements_after counts rows)) (sym left) ∙ before;
    }

pub all_rows : (rows : List TypeRow) (i : ℕ) (counts : List ℕ) → length rows ≤ i → map capped counts ≡ counts → Same (elements_after counts (drop i rows)) (elements_after [] rows)
    → counts ≡ map capped (elements_after [] rows)
all_rows rows i counts all known is = sym known ∙ ap (λ rows. map capped (elements_after counts rows)) (sym (drop_all i rows all)) ∙ is

-- what is past the most
pub past_most : (total n : ℕ) → total ≡ capped n → nat_lt 1000000 total ≡ nat_lt 1000000 n
past_most total n is = ap (nat_lt 1000000) is ∙ by_side (nat_lt 1000000 n) refl
  where
    by_side : (b : Bool) → nat_lt 1000000 n ≡ b → nat_lt 1000000 (capped n) ≡ nat_lt 1000000 n
    by_side true h = lt-ltb 1000000 (capped n) (omega (arith, ltb-true 1000000 n h)) ∙ sym h
    by_side false h = ap (nat_lt 1000000) (in_limit n (ltb-false 1000000 n h))
