-- The values of sums and multiples of forms.
use Rattle.std.proofs.Common.{◌≡◌, ℕ, zero, suc, ◌+◌, Bool, true, false, ◌&&◌, ℤ, pos, ◌+ℤ◌, ◌*ℤ◌, Option, Some, None, option_map, List, [], ◌∷◌, ◌++◌, slice_get, slice_set, refl, sym, ap, ap₂, ◌∙◌, subst, arith, if◌then◌else◌}
use Rattle.std.specs.Bool.{⊤}
use Rattle.std.proofs.lemmas.Int.{ints}
use Rattle.std.proofs.Math.IntN.{zero-*ℤ, *ℤ-zero}
use Rattle.spx_num.specs.declared.arithmetic.Op.{Op}
use Rattle.spx_num.specs.declared.arithmetic.Op.TheVariants.{Add, Sub, Mul}
use Rattle.spx_num.specs.Exact.{exact}
use Rattle.spx_num.specs.Widths.{fits, fitting}
use Rattle.spx_term.specs.declared.term.Term.{Term}
use Rattle.spx_term.specs.Equality.{same_term}
use Rattle.spx_term.specs.Values.{Types}
use Rattle.spx_term.specs.Meaning.{as_number, Valuation, value_of}
use Rattle.spx_term.proofs.Equality.{same_term-Decides}
use Rattle.spx_linear.specs.declared.form.Part.{Part}
use Rattle.spx_linear.specs.declared.form.Form.{Form}
use Rattle.spx_linear.specs.Forms.{part, place_from, factor_of, factor_at, with_factor, with_part, scaled_part, with_parts, followed, scaled_parts, form_with, joined, scaled, two, once}
use Rattle.spx_linear.specs.Linear.{part_value, parts_value, form_value}
use Rattle.spx_linear.proofs.Products.{sum_times, difference_times, times_sum, times_times}

-- ---- options

pub some_is : {A : Type 0} (x y : A) → ◌≡◌ {A = Option A} (Some x) (Some y) → x ≡ y
some_is x y h = cc

pub fitting_is : (z y : ℤ) → fitting z ≡ Some y → z ≡ y
fitting_is z y h = by_fit (fits z) h where
  by_fit : (b : Bool) → (if b then Some z else None) ≡ Some y → z ≡ y
  by_fit true h = some_is z y h
  by_fit false h = absurd (cc)

pub fitting_map : {A : Type 0} (f : ℤ → A) (z : ℤ) (y : A) → option_map f (fitting z) ≡ Some y → f z ≡ y
fitting_map f z y h = by_fit (fits z) h where
  by_fit : (b : Bool) → option_map f (if b then Some z else None) ≡ Some y → f z ≡ y
  by_fit true h = some_is (f z) y h
  by_fit false h = absurd (cc)

-- both operands are there
pub record Both (f : Form → Form → Option Form) (a b : Option Form) (c : Form) : Type 0 where
  pub first : Form
  pub second : Form
  pub first_is : a ≡ Some first
  pub second_is : b ≡ Some second
  pub gives : f first second ≡ Some c

pub two_is : (f : Form → Form → Option Form) (a b : Option Form) (c : Form) → two f a b ≡ Some c → Both f a b c
two_is f (Some x) (Some y) c h = record { first = x; second = y; first_is = refl; second_is = refl; gives = h }
two_is f (Some x) None c h = absurd (cc)
two_is f None b c h = absurd (cc)

pub record Once (f : Form → Option Form) (a : Option Form) (c : Form) : Type 0 where
  pub first : Form
  pub first_is : a ≡ Some first
  pub gives : f first ≡ Some c

pub once_is : (f : Form → Option Form) (a : Option Form) (c : Form) → once f a ≡ Some c → Once f a c
once_is f (Some x) c h = record { first = x; first_is = refl; gives = h }
once_is f None c h = absurd (cc)

record With (ps : Option (List Part)) (n : Option ℤ) (e : Bool) (f : Form) : Type 0 where
  parts : ps ≡ Some f.parts
  constant : n ≡ Some f.constant
  equation : f.equation ≡ e

with_is : (ps : Option (List Part)) (n : Option ℤ) (e : Bool) (f : Form) → form_with ps n e ≡ Some f → With ps n e f
with_is (Some ps) (Some n) e f h =
    let same : record { parts = ps; constant = n; equation = e } ≡ f = some_is (record { parts = ps; constant = n; equation = e }) f h in
    record { parts = ap (λ (x : Form). Some x.parts) same; constant = ap (λ (x : Form). Some x.constant) same; equation = ap (λ (x : Form). x.equation) (sym same) }
with_is (Some ps) None e f h = absurd (cc)
with_is None n e f h = absurd (cc)

-- ---- sums and differences

-- an operation on forms is one of these
abbrev pub IsSum : Op → Type 0
IsSum Add = ⊤
IsSum Sub = ⊤
IsSum Mul = ⊥

sum_of_products : (o : Op) → IsSum o → (a b k : ℤ) → (exact o a b *ℤ k) ≡ exact o (a *ℤ k) (b *ℤ k)
sum_of_products Add s a b k = sum_times a b k
sum_of_products Sub s a b k = difference_times a b k
sum_of_products Mul s a b k = absurd s

-- what comes after is summed up as before
sum_changed : (o : Op) → IsSum o → (x y f r total new : ℤ) → total ≡ x +ℤ r → y ≡ exact o x f → new ≡ y +ℤ r → new ≡ exact o total f
sum_changed Add s x y f r total new p q n = omega (arith, ints)
sum_changed Sub s x y f r total new p q n = omega (arith, ints)
sum_changed Mul s x y f r total new p q n = absurd s

sum_none : (o : Op) → IsSum o → (x : ℤ) → x ≡ exact o x (pos 0)
sum_none Add s x = omega (arith, ints)
sum_none Sub s x = omega (arith, ints)
sum_none Mul s x = absurd s

sum_at_end : (o : Op) → IsSum o → (x f y : ℤ) → y ≡ exact o (pos 0) f → (x +ℤ (y +ℤ pos 0)) ≡ exact o x f
sum_at_end Add s x f y h = omega (arith, ints)
sum_at_end Sub s x f y h = omega (arith, ints)
sum_at_end Mul s x f y h = absurd s

sum_in_turn : (o : Op) → IsSum o → (x y p r z : ℤ) → y ≡ exact o x p → z ≡ exact o y r → z ≡ exact o x (p +ℤ r)
sum_in_turn Add s x y p r z f g = omega (arith, ints)
sum_in_turn Sub s x y p r z f g = omega (arith, ints)
sum_in_turn Mul s x y p r z f g = absurd s

sum_of_pairs : (o : Op) → IsSum o → (x y m n p c : ℤ) → p ≡ exact o x y → exact o m n ≡ c → (p +ℤ c) ≡ exact o (x +ℤ m) (y +ℤ n)
sum_of_pairs Add s x y m n p c f g = omega (arith, ints)
sum_of_pairs Sub s x y m n p c f g = omega (arith, ints)
sum_of_pairs Mul s x y m n p c f g = absurd s

regroup : (a b c : ℤ) → (a +ℤ (b +ℤ c)) ≡ ((a +ℤ b) +ℤ c)
regroup a b c = omega (arith, ints)

swap : (a b r s t : ℤ) → s ≡ b +ℤ t → (a +ℤ s) ≡ (b +ℤ (a +ℤ t))
swap a b r s t h = omega (arith, ints)

none_before : (x : ℤ) → x ≡ pos 0 +ℤ x
none_before x = omega (arith, ints)

-- ---- the place of an atom

record IsAt (t : Term) (ps : List Part) (n i : ℕ) : Type 0 where
  at : ℕ
  is : i ≡ at + n
  there : Part
  found : slice_get ps at ≡ Some there
  atom : there.atom ≡ t

place_is : (n : ℕ) (t : Term) (ps : List Part) (i : ℕ) → place_from n t ps ≡ Some i → IsAt t ps n i
place_is n t [] i h = absurd (cc)
place_is n t (p ∷ ps) i h = by_test (same_term p.atom t) refl h (place_is (suc n) t ps i) where
  by_test : (b : Bool) → same_term p.atom t ≡ b → (if b then Some n else place_from (suc n) t ps) ≡ Some i → (place_from (suc n) t ps ≡ Some i → IsAt t ps (suc n) i) → IsAt t (p ∷ ps) n i
  by_test true same h later = record { at = 0; is = sym (some_is n i h) ∙ omega arith; there = p; found = refl; atom = (same_term-Decides p.atom t).0 same }
  by_test false same h later =
      let rest = later h in
      let e = rest.is in
      record { at = suc rest.at; is = e ∙ omega arith; there = rest.there; found = rest.found; atom = rest.atom }

module _ (types : Types) (v : Valuation) where
  abbrev pub at : Term → ℤ
  at t = as_number (value_of types v t)

  abbrev part_is : Part → ℤ
  part_is p = part_value types v p

  abbrev parts_are : List Part → ℤ
  parts_are ps = parts_value types v ps

  parts_append : (ps qs : List Part) → parts_are (ps ++ qs) ≡ (parts_are ps +ℤ parts_are qs)
  parts_append [] qs = none_before (parts_are qs)
  parts_append (p ∷ ps) qs = ap (λ x. part_is p +ℤ x) (parts_append ps qs) ∙ regroup (part_is p) (parts_are ps) (parts_are qs)

  -- the value of all parts but the one at a place
  record Apart (ps : List Part) (i : ℕ) (p : Part) : Type 0 where
    rest : ℤ
    whole : parts_are ps ≡ (part_is p +ℤ rest)
    changed : (new : Part) → parts_are (slice_set ps i new) ≡ (part_is new +ℤ rest)

  apart : (ps : List Part) (i : ℕ) (p : Part) → slice_get ps i ≡ Some p → Apart ps i p
  apart [] i p h = absurd (cc)
  apart (q ∷ qs) zero p h = record { rest = parts_are qs; whole = ap (λ x. part_is x +ℤ parts_are qs) (some_is q p h); changed = λ new. refl }
  apart (q ∷ qs) (suc i) p h =
      let rest = apart qs i p h in
      record {
        rest = part_is q +ℤ rest.rest;
        whole = swap (part_is q) (part_is p) (pos 0) (parts_are qs) rest.rest rest.whole;
        changed = λ new. swap (part_is q) (part_is new) (pos 0) (parts_are (slice_set qs i new)) rest.rest (rest.changed new);
      }

  with_factor_value : (o : Op) → IsSum o → (ps : List Part) (p : Part) (place : Option ℕ) → place_from 0 p.atom ps ≡ place
      → parts_are (with_factor place p.atom ps (exact o (factor_at place ps) p.factor)) ≡ exact o (parts_are ps) (part_is p)
  with_factor_value o s ps p None is =
      parts_append ps (part (exact o (pos 0) p.factor) p.atom ∷ [])
      ∙ sum_at_end o s (parts_are ps) (part_is p) (exact o (pos 0) p.factor *ℤ at p.atom)
      (sum_of_products o s (pos 0) p.factor (at p.atom) ∙ ap (λ x. exact o x (part_is p)) (zero-*ℤ (at p.atom)))
  with_factor_value o s ps p (Some i) is =
      let known = place_is 0 p.atom ps i is in
      let e : known.at ≡ i = sym (known.is ∙ omega arith) in
      let there : slice_get ps i ≡ Some known.there = subst (λ k. slice_get ps k ≡ Some known.there) e known.found in
      let rest = apart ps i known.there there in
      let old = ap factor_of there in
      sum_changed o s (part_is known.there) (exact o (factor_of (slice_get ps i)) p.factor *ℤ at p.atom) (part_is p) rest.rest (parts_are ps)
      (parts_are (slice_set ps i (part (exact o (factor_of (slice_get ps i)) p.factor) p.atom)))
      rest.whole
      (sum_of_products o s (factor_of (slice_get ps i)) p.factor (at p.atom)
      ∙ ap (λ x. exact o x (part_is p)) (ap₂ (λ f t. f *ℤ at t) old (sym known.atom)))
      (rest.changed (part (exact o (factor_of (slice_get ps i)) p.factor) p.atom))

  with_part_value : (o : Op) → IsSum o → (ps : List Part) (p : Part) (qs : List Part) → with_part o ps p ≡ Some qs → parts_are qs ≡ exact o (parts_are ps) (part_is p)
  unfolding with_part
  with_part_value o s ps p qs h =
      let place = place_from 0 p.atom ps in
      ap parts_are (sym (fitting_map (with_factor place p.atom ps) (exact o (factor_at place ps) p.factor) qs h))
      ∙ with_factor_value o s ps p place refl

  none_with : (o : Op) (qs rs : List Part) → with_parts o None qs ≡ Some rs → (P : Type 0) → P
  none_with o [] rs h P = absurd (cc)
  none_with o (q ∷ qs) rs h P = absurd (cc)

  with_parts_value : (o : Op) → IsSum o → (qs ps rs : List Part) → with_parts o (Some ps) qs ≡ Some rs → parts_are rs ≡ exact o (parts_are ps) (parts_are qs)
  with_parts_value o s [] ps rs h = ap parts_are (sym (some_is ps rs h)) ∙ sum_none o s (parts_are ps)
  with_parts_value o s (q ∷ qs) ps rs h = by_next (with_part o ps q) refl h (λ next. with_parts_value o s qs next rs) where
    by_next : (next : Option (List Part)) → with_part o ps q ≡ next → with_parts o next qs ≡ Some rs → ((next : List Part) → with_parts o (Some next) qs ≡ Some rs → parts_are rs ≡ exact o (parts_are next) (parts_are qs)) → parts_are rs ≡ exact o (parts_are ps) (parts_are (q ∷ qs))
    by_next None is h later = none_with o qs rs h _
    by_next (Some next) is h later =
        sum_in_turn o s (parts_are ps) (parts_are next) (part_is q) (parts_are qs) (parts_are rs) (with_part_value o s ps q next is) (later next h)

  -- the value of a sum or difference
  pub joined_value : (o : Op) → IsSum o → (f g h : Form) → joined o f g ≡ Some h → form_value types v h ≡ exact o (form_value types v f) (form_value types v g)
  unfolding joined
  joined_value o s f g h is =
      let w = with_is (with_parts o (Some f.parts) g.parts) (fitting (exact o f.constant g.constant)) (f.equation && g.equation) h is in
      sum_of_pairs o s (parts_are f.parts) (parts_are g.parts) f.constant g.constant (parts_are h.parts) h.constant
      (with_parts_value o s g.parts f.parts h.parts w.parts) (fitting_is (exact o f.constant g.constant) h.constant w.constant)

  pub joined_equation : (o : Op) (f g h : Form) → joined o f g ≡ Some h → h.equation ≡ (f.equation && g.equation)
  unfolding joined
  joined_equation o f g h is = (with_is (with_parts o (Some f.parts) g.parts) (fitting (exact o f.constant g.constant)) (f.equation && g.equation) h is).equation

  -- ---- multiples

  each_more : (by p ps q qs : ℤ) → q ≡ (by *ℤ p) → qs ≡ (by *ℤ ps) → (q +ℤ qs) ≡ (by *ℤ (p +ℤ ps))
  each_more by p ps q qs g h = ap₂ ◌+ℤ◌ g h ∙ sym (times_sum by p ps)

  scaled_part_value : (by : ℤ) (p q : Part) → scaled_part by p ≡ Some q → part_is q ≡ (by *ℤ part_is p)
  unfolding scaled_part
  scaled_part_value by p q h =
      ap part_is (sym (fitting_map (λ n. part n p.atom) (by *ℤ p.factor) q h)) ∙ times_times by p.factor (at p.atom)

  scaled_parts_value : (by : ℤ) (ps rs : List Part) → scaled_parts by ps ≡ Some rs → parts_are rs ≡ (by *ℤ parts_are ps)
  scaled_parts_value by [] rs h = ap parts_are (sym (some_is [] rs h)) ∙ sym (*ℤ-zero by)
  scaled_parts_value by (p ∷ ps) rs h = by_parts (scaled_part by p) refl (scaled_parts by ps) refl h (scaled_parts_value by ps) where
    by_parts : (first : Option Part) → scaled_part by p ≡ first → (rest : Option (List Part)) → scaled_parts by ps ≡ rest → followed first rest ≡ Some rs → ((qs : List Part) → scaled_parts by ps ≡ Some qs → parts_are qs ≡ (by *ℤ parts_are ps)) → parts_are rs ≡ (by *ℤ parts_are (p ∷ ps))
    by_parts (Some q) is (Some qs) rest_is h later =
        ap parts_are (sym (some_is (q ∷ qs) rs h)) ∙ each_more by (part_is p) (parts_are ps) (part_is q) (parts_are qs) (scaled_part_value by p q is) (later qs rest_is)
    by_parts (Some q) is None rest_is h later = absurd (cc)
    by_parts None is rest rest_is h later = absurd (cc)

  from_both : (x c p q r : ℤ) → x ≡ p → c ≡ q → r ≡ (p +ℤ q) → (x +ℤ c) ≡ r
  from_both x c p q r f g h = omega (arith, ints)

  -- the value of a multiple
  pub scaled_value : (by : ℤ) (f h : Form) → scaled by f ≡ Some h → form_value types v h ≡ (by *ℤ form_value types v f)
  unfolding scaled
  scaled_value by f h is =
      let w = with_is (scaled_parts by f.parts) (fitting (exact Mul by f.constant)) f.equation h is in
      from_both (parts_are h.parts) h.constant (by *ℤ parts_are f.parts) (by *ℤ f.constant) (by *ℤ form_value types v f)
      (scaled_parts_value by f.parts h.parts w.parts) (sym (fitting_is (exact Mul by f.constant) h.constant w.constant)) (times_sum by (parts_are f.parts) f.constant)

  pub scaled_equation : (by : ℤ) (f h : Form) → scaled by f ≡ Some h → h.equation ≡ f.equation
  unfolding scaled
  scaled_equation by f h is = (with_is (scaled_parts by f.parts) (fitting (exact Mul by f.constant)) f.equation h is).equation
