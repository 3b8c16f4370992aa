-- No values meet forms that are refuted.
use Rattle.std.proofs.Common.{◌≡◌, Bool, true, false, ◌&&◌, ◌||◌, ℤ, pos, ◌+ℤ◌, ◌*ℤ◌, ◌≤ℤ◌, int_lt, int_le, Option, Some, None, option_map, inl, inr, List, [], ◌∷◌, refl, sym, ap, ◌∙◌, subst, arith, if◌then◌else◌}
use Rattle.std.specs.List.{AllByRecursion, list_all}
use Rattle.std.proofs.lemmas.Int.{ints}
use Rattle.std.proofs.lemmas.Bool.{and_parts, or_cases}
use Rattle.std.proofs.lemmas.Bool.Decides.{Decides-int_eq}
use Rattle.std.proofs.lemmas.List.Elements.{recursion_from_All}
use Rattle.std.proofs.Math.IntN.{zero-*ℤ, *ℤ-zero}
use Rattle.spx_num.specs.declared.arithmetic.Op.TheVariants.{Add}
use Rattle.spx_term.specs.Values.{Types}
use Rattle.spx_term.specs.Meaning.{as_number, Valuation, value_of}
use Rattle.spx_linear.specs.declared.form.Part.{Part}
use Rattle.spx_linear.specs.declared.form.Form.{Form}
use Rattle.spx_linear.specs.Forms.{constant_form, joined, scaled}
use Rattle.spx_linear.specs.Linear.{part_value, parts_value, form_value, Meets, FormHolds}
use Rattle.spx_linear.specs.Refutation.{is_allowed, with_multiple, sum_from, has_no_factor, is_never, refutation, RefutationIsSound}
use Rattle.spx_linear.proofs.Products.{product_natural}
use Rattle.spx_linear.proofs.FormLaws.{some_is, once_is, joined_value, joined_equation, scaled_value, scaled_equation}

both_none : (x y z : ℤ) → x ≡ pos 0 → y ≡ pos 0 → z ≡ (x +ℤ y) → z ≡ pos 0
both_none x y z p q r = omega (arith, ints)

both_least : (x y z : ℤ) → pos 0 ≤ℤ x → pos 0 ≤ℤ y → z ≡ (x +ℤ y) → pos 0 ≤ℤ z
both_least x y z p q r = omega (arith, ints)

from_none : (x : ℤ) → x ≡ pos 0 → pos 0 ≤ℤ x
from_none x h = omega (arith, ints)

no_multiple : (n y : ℤ) → y ≡ pos 0 → (n *ℤ y) ≡ pos 0
no_multiple n y h = ap (λ x. n *ℤ x) h ∙ *ℤ-zero n

multiple_least : (n y : ℤ) → int_le (pos 0) n ≡ true → pos 0 ≤ℤ y → pos 0 ≤ℤ (n *ℤ y)
multiple_least n y h q = product_natural n y (grind (arith, ints)) q

-- the sum of what is met and of a multiple of what is met
meets_more : (d e : Bool) (x y n z : ℤ) → (e || int_le (pos 0) n) ≡ true → Meets d x → Meets e y → z ≡ (x +ℤ (n *ℤ y)) → Meets (d && e) z
meets_more true true x y n z allowed p q r = both_none x (n *ℤ y) z p (no_multiple n y q) r
meets_more true false x y n z allowed p q r = both_least x (n *ℤ y) z (from_none x p) (multiple_least n y allowed q) r
meets_more false true x y n z allowed p q r = both_least x (n *ℤ y) z p (from_none (n *ℤ y) (no_multiple n y q)) r
meets_more false false x y n z allowed p q r = both_least x (n *ℤ y) z p (multiple_least n y allowed q) r

module _ (types : Types) (v : Valuation) where
  more_holds : (sum f : Form) (n : ℤ) (next : Form) → (f.equation || int_le (pos 0) n) ≡ true → FormHolds types v sum → FormHolds types v f → with_multiple sum f n ≡ Some next → FormHolds types v next
  unfolding with_multiple
  more_holds sum f n next allowed p q h =
      let is = once_is (joined Add sum) (scaled n f) next h in
      let value_is = joined_value types v Add tt sum is.first next is.gives ∙ ap (λ x. form_value types v sum +ℤ x) (scaled_value types v n f is.first is.first_is) in
      let equation = joined_equation types v Add sum is.first next is.gives ∙ ap (λ e. sum.equation && e) (scaled_equation types v n f is.first is.first_is) in
      subst (λ e. Meets e (form_value types v next)) (sym equation)
      (meets_more sum.equation f.equation (form_value types v sum) (form_value types v f) n (form_value types v next) allowed p q value_is)

  none_from : (fs : List Form) (ns : List ℤ) (f : Form) → sum_from None fs ns ≡ Some f → (P : Type 0) → P
  none_from [] ns f h P = absurd (cc)
  none_from (g ∷ fs) [] f h P = absurd (cc)
  none_from (g ∷ fs) (n ∷ ns) f h P = absurd (cc)

  sum_holds : (fs : List Form) (ns : List ℤ) (sum f : Form) → is_allowed fs ns ≡ true → FormHolds types v sum → AllByRecursion (FormHolds types v) fs → sum_from (Some sum) fs ns ≡ Some f → FormHolds types v f
  sum_holds [] ns sum f allowed p all h = subst (FormHolds types v) (some_is sum f h) p
  sum_holds (g ∷ fs) [] sum f allowed p all h = subst (FormHolds types v) (some_is sum f h) p
  sum_holds (g ∷ fs) (n ∷ ns) sum f allowed p all h =
      by_next (with_multiple sum g n) refl h
      (λ next. sum_holds fs ns next f (and_parts (g.equation || int_le (pos 0) n) (is_allowed fs ns) allowed).1)
    where
      by_next : (next : Option Form) → with_multiple sum g n ≡ next → sum_from next fs ns ≡ Some f
          → ((next : Form) → FormHolds types v next → AllByRecursion (FormHolds types v) fs → sum_from (Some next) fs ns ≡ Some f → FormHolds types v f) → FormHolds types v f
      by_next None is h later = none_from fs ns f h _
      by_next (Some next) is h later =
          later next (more_holds sum g n next (and_parts (g.equation || int_le (pos 0) n) (is_allowed fs ns) allowed).0 p all.0 is) all.1 h

  no_parts : (ps : List Part) → list_all has_no_factor ps ≡ true → parts_value types v ps ≡ pos 0
  no_parts [] h = refl
  no_parts (p ∷ ps) h =
      let parts = and_parts (has_no_factor p) (list_all has_no_factor ps) h in
      both_none (part_value types v p) (parts_value types v ps) (parts_value types v (p ∷ ps))
      (ap (λ x. x *ℤ as_number (value_of types v p.atom)) ((Decides-int_eq p.factor (pos 0)).0 parts.0) ∙ zero-*ℤ (as_number (value_of types v p.atom)))
      (no_parts ps parts.1) refl

  none_is_below : (e : Bool) (n : ℤ) → int_lt n (pos 0) ≡ true → Meets e n → ⊥
  none_is_below true n h m = grind (arith, ints)
  none_is_below false n h m = grind (arith, ints)

  none_is_above : (e : Bool) (n : ℤ) → e ≡ true → int_lt (pos 0) n ≡ true → Meets e n → ⊥
  none_is_above true n is h m = grind (arith, ints)
  none_is_above false n is h m = absurd (cc)

  constant_is : (x c : ℤ) → x ≡ pos 0 → (x +ℤ c) ≡ c
  constant_is x c h = omega (arith, ints)

  never_holds : (f : Form) → is_never f ≡ true → FormHolds types v f → ⊥
  unfolding is_never
  never_holds f h holds =
      let parts = and_parts (list_all has_no_factor f.parts) (int_lt f.constant (pos 0) || (f.equation && int_lt (pos 0) f.constant)) h in
      let met = subst (Meets f.equation) (constant_is (parts_value types v f.parts) f.constant (no_parts f.parts parts.0)) holds in
      elim (or_cases (int_lt f.constant (pos 0)) (f.equation && int_lt (pos 0) f.constant) parts.1) [
        | inl below ↦ none_is_below f.equation f.constant below met
        | inr above ↦ let both = and_parts f.equation (int_lt (pos 0) f.constant) above in none_is_above f.equation f.constant both.0 both.1 met
      ]

some_truth : (f : Option Form) → option_map is_never f ≡ Some true → (P : Type 0) → ((g : Form) → f ≡ Some g → is_never g ≡ true → P) → P
some_truth (Some g) h P k = k g refl (some_is (is_never g) true h)
some_truth None h P k = absurd (cc)

pub refuted : RefutationIsSound
unfolding refutation
refuted types v fs ns h all = by_test (is_allowed fs ns) refl h where
  by_test : (b : Bool) → is_allowed fs ns ≡ b → (if b then option_map is_never (sum_from (Some (constant_form (pos 0))) fs ns) else Some false) ≡ Some true → ⊥
  by_test false is h = let e : false ≡ true = some_is false true h in absurd (cc)
  by_test true is h =
      some_truth (sum_from (Some (constant_form (pos 0))) fs ns) h ⊥
      (λ g sums never. never_holds types v g never (sum_holds types v fs ns (constant_form (pos 0)) g is refl (recursion_from_All (FormHolds types v) fs all) sums))
