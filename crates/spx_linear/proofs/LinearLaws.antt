-- What the forms of terms and comparisons mean.
use Rattle.std.proofs.Common.{◌≡◌, ◌↔◌, Bool, true, false, ◌&&◌, ℤ, pos, negsuc, ◌+ℤ◌, ◌-ℤ◌, ◌*ℤ◌, ◌≤ℤ◌, neg_ℤ, int_lt, int_le, Option, Some, None, option_map, refl, sym, ap, ap₂, ◌∙◌, subst, arith}
use Rattle.std.specs.Ordering.{int_eq}
use Rattle.std.proofs.lemmas.Int.{ints}
use Rattle.std.proofs.lemmas.Bool.Decides.{Decides-int_eq}
use Rattle.std.proofs.Math.IntN.{one, *ℤ_comm, *ℤ-one, *ℤ-negsuc}
use Rattle.spx_num.specs.declared.arithmetic.Op.TheVariants.{Add, Sub}
use Rattle.spx_term.specs.declared.term.Sort.{Sort}
use Rattle.spx_term.specs.declared.term.Sort.TheVariants.{Integer, Boolean}
use Rattle.spx_term.specs.declared.term.TermOp.{TermOp}
use Rattle.spx_term.specs.declared.term.TermOp.TheVariants as op
use Rattle.spx_term.specs.declared.term.TermPrefix.{TermPrefix}
use Rattle.spx_term.specs.declared.term.TermPrefix.TheVariants as sign
use Rattle.spx_term.specs.declared.term.Term.{Term}
use Rattle.spx_term.specs.declared.term.Term.TheVariants.{Number, Truth, Variable, Blank, Prefix, Infix, Unary, Binary, Ternary}
use Rattle.spx_term.specs.declared.value.Value.{Value}
use Rattle.spx_term.specs.declared.value.Value.TheVariants as value
use Rattle.spx_term.specs.Negation.{is_numeric}
use Rattle.spx_term.specs.Sorts.{sort_of_op, sort_step, sort_of}
use Rattle.spx_term.specs.Values.{Types}
use Rattle.spx_term.specs.Meaning.{as_number, value_of_prefix, value_of_op, Valuation, value_of, Holds, HasSort, IsNumber, Respects}
use Rattle.spx_term.proofs.Terms.{Cases, induct, fold-Infix, value-Number, value-Infix, value-Prefix}
use Rattle.spx_term.proofs.FoldingLaws.{two_sorts, sorted_value}
use Rattle.spx_linear.specs.declared.form.Form.{Form}
use Rattle.spx_linear.specs.Forms.{constant_form, atom_form, joined, scaled, two, once}
use Rattle.spx_linear.specs.Linear.{number_in, times, form_of_infix, form_of_prefix, form_of, form_of-Number, form_of-Truth, form_of-Variable, form_of-Blank, form_of-Prefix, form_of-Infix, form_of-Unary, form_of-Binary, form_of-Ternary, is_listed, at_least_zero, above_zero, form_of_comparison, is_comparison, linear_form, is_comparison-Number, is_comparison-Truth, is_comparison-Variable, is_comparison-Blank, is_comparison-Prefix, is_comparison-Infix, is_comparison-Unary, is_comparison-Binary, is_comparison-Ternary, linear_form-Infix, form_value, Meets, FormHolds, LinearFormIsMeant}
use Rattle.spx_linear.proofs.NumericLaws.{integral}
use Rattle.spx_linear.proofs.FormLaws.{some_is, two_is, once_is, joined_value, joined_equation, scaled_value, scaled_equation}

-- what is at least 0 is made of a form
record IsLeast (a : Option Form) (f : Form) : Type 0 where
  first : Form
  first_is : a ≡ Some first
  gives : at_least_zero first ≡ f

least_is : (a : Option Form) (f : Form) → option_map at_least_zero a ≡ Some f → IsLeast a f
least_is (Some x) f h = record { first = x; first_is = refl; gives = some_is (at_least_zero x) f h }
least_is None f h = absurd (cc)

module _ (types : Types) (v : Valuation) where
  -- the form has the value of the term
  record HasValue (t : Term) (f : Form) : Type 0 where
    value_is : form_value types v f ≡ as_number (value_of types v t)
    equation : f.equation ≡ true

  abbrev Means : Term → Type 0
  Means t = (f : Form) → form_of t ≡ Some f → HasValue t f

  one_atom : (x y : ℤ) → y ≡ x → ((y +ℤ pos 0) +ℤ pos 0) ≡ x
  one_atom x y h = omega (arith, ints)

  times_one : (y : ℤ) → (y *ℤ pos 1) ≡ y
  unfolding one
  times_one y = *ℤ-one y

  of_atom : (t : Term) (f : Form) → Some (atom_form t) ≡ Some f → HasValue t f
  of_atom t f h =
      subst (HasValue t) (some_is (atom_form t) f h)
      (record { value_is = one_atom (as_number (value_of types v t)) (pos 1 *ℤ as_number (value_of types v t)) (*ℤ_comm (pos 1) (as_number (value_of types v t)) ∙ times_one (as_number (value_of types v t))); equation = refl })

  both_true : (a b c : Bool) → c ≡ (a && b) → a ≡ true → b ≡ true → c ≡ true
  both_true a b c h p q = h ∙ ap₂ (λ x y. x && y) p q

  of_sum : (a b : Term) (f : Form) → Means a → Means b → two (joined Add) (form_of a) (form_of b) ≡ Some f → HasValue (Infix op.Add a b) f
  unfolding value_of_op
  of_sum a b f p q h =
      let is = two_is (joined Add) (form_of a) (form_of b) f h in
      let m = p is.first is.first_is in
      let n = q is.second is.second_is in
      record {
        value_is = joined_value types v Add tt is.first is.second f is.gives ∙ ap₂ ◌+ℤ◌ m.value_is n.value_is ∙ ap as_number (sym (value-Infix types v op.Add a b));
        equation = both_true is.first.equation is.second.equation f.equation (joined_equation types v Add is.first is.second f is.gives) m.equation n.equation;
      }

  of_difference : (a b : Term) (f : Form) → Means a → Means b → two (joined Sub) (form_of a) (form_of b) ≡ Some f → HasValue (Infix op.Subtract a b) f
  unfolding value_of_op
  of_difference a b f p q h =
      let is = two_is (joined Sub) (form_of a) (form_of b) f h in
      let m = p is.first is.first_is in
      let n = q is.second is.second_is in
      record {
        value_is = joined_value types v Sub tt is.first is.second f is.gives ∙ ap₂ ◌-ℤ◌ m.value_is n.value_is ∙ ap as_number (sym (value-Infix types v op.Subtract a b));
        equation = both_true is.first.equation is.second.equation f.equation (joined_equation types v Sub is.first is.second f is.gives) m.equation n.equation;
      }

  record Multiple (n : ℤ) (t : Term) (f : Form) : Type 0 where
    value_is : form_value types v f ≡ (n *ℤ as_number (value_of types v t))
    equation : f.equation ≡ true

  of_multiple : (n : ℤ) (t : Term) (f : Form) → Means t → once (scaled n) (form_of t) ≡ Some f → Multiple n t f
  of_multiple n t f p h =
      let is = once_is (scaled n) (form_of t) f h in
      let m = p is.first is.first_is in
      record { value_is = scaled_value types v n is.first f is.gives ∙ ap (λ x. n *ℤ x) m.value_is; equation = scaled_equation types v n is.first f is.gives ∙ m.equation }

  number_value : (a : Term) (n : ℤ) → number_in a ≡ Some n → as_number (value_of types v a) ≡ n
  number_value (Number m) n h = ap as_number (value-Number types v m) ∙ some_is m n h
  number_value _ n h = absurd (cc)

  of_product : (a b : Term) (f : Form) → Means a → Means b → (m n : Option ℤ) → number_in a ≡ m → number_in b ≡ n → times m n a b (form_of a) (form_of b) ≡ Some f → HasValue (Infix op.Multiply a b) f
  unfolding value_of_op
  of_product a b f p q (Some m) n e g h =
      let is = of_multiple m b f q h in
      record {
        value_is = is.value_is ∙ ap (λ x. x *ℤ as_number (value_of types v b)) (sym (number_value a m e)) ∙ ap as_number (sym (value-Infix types v op.Multiply a b));
        equation = is.equation;
      }
  of_product a b f p q None (Some n) e g h =
      let is = of_multiple n a f p h in
      record {
        value_is = is.value_is ∙ *ℤ_comm n (as_number (value_of types v a)) ∙ ap (λ x. as_number (value_of types v a) *ℤ x) (sym (number_value b n g)) ∙ ap as_number (sym (value-Infix types v op.Multiply a b));
        equation = is.equation;
      }
  of_product a b f p q None None e g h = of_atom (Infix op.Multiply a b) f h

  of_infix : (o : TermOp) (a b : Term) (f : Form) → Means a → Means b → form_of_infix o a b (form_of a) (form_of b) ≡ Some f → HasValue (Infix o a b) f
  of_infix op.Add a b f p q h = of_sum a b f p q h
  of_infix op.Subtract a b f p q h = of_difference a b f p q h
  of_infix op.Multiply a b f p q h = of_product a b f p q (number_in a) (number_in b) refl refl h
  of_infix o a b f p q h = of_atom (Infix o a b) f h

  minus : (x z : ℤ) → z ≡ x → neg_ℤ z ≡ (pos 0 -ℤ x)
  minus x z p = omega (arith, ints)

  negative : (x : ℤ) → (negsuc 0 *ℤ x) ≡ (pos 0 -ℤ x)
  negative x = *ℤ_comm (negsuc 0) x ∙ *ℤ-negsuc x 0 ∙ minus x (x *ℤ pos 1) (times_one x)

  of_prefix : (o : TermPrefix) (a : Term) (f : Form) → Means a → form_of_prefix o a (form_of a) ≡ Some f → HasValue (Prefix o a) f
  unfolding value_of_prefix
  of_prefix sign.Minus a f p h =
      let is = of_multiple (negsuc 0) a f p h in
      record {
        value_is = is.value_is ∙ negative (as_number (value_of types v a)) ∙ ap as_number (sym (value-Prefix types v sign.Minus a));
        equation = is.equation;
      }
  of_prefix sign.Abs a f p h = of_atom (Prefix sign.Abs a) f h
  of_prefix sign.Not a f p h = of_atom (Prefix sign.Not a) f h

  zero_before : (n : ℤ) → (pos 0 +ℤ n) ≡ n
  zero_before n = omega (arith, ints)

  means_cases : Cases Means
  means_cases = record {
    number = λ n f h. subst (HasValue (Number n)) (some_is (constant_form n) f (sym (form_of-Number n) ∙ h))
        (record { value_is = zero_before n ∙ ap as_number (sym (value-Number types v n)); equation = refl });
    truth = λ b f h. of_atom (Truth b) f (sym (form_of-Truth b) ∙ h);
    variable = λ name f h. of_atom (Variable name) f (sym (form_of-Variable name) ∙ h);
    prefix = λ o a p f h. of_prefix o a f p (sym (form_of-Prefix o a) ∙ h);
    «infix» = λ o a b p q f h. of_infix o a b f p q (sym (form_of-Infix o a b) ∙ h);
    blank = λ id f h. of_atom (Blank id) f (sym (form_of-Blank id) ∙ h);
    unary = λ o a p f h. of_atom (Unary o a) f (sym (form_of-Unary o a) ∙ h);
    binary = λ o a b p q f h. of_atom (Binary o a b) f (sym (form_of-Binary o a b) ∙ h);
    ternary = λ o a b c p q r f h. of_atom (Ternary o a b c) f (sym (form_of-Ternary o a b c) ∙ h);
  }

  means : (t : Term) → Means t
  means = induct Means means_cases

  -- ---- comparisons

  abbrev at : Term → ℤ
  at t = as_number (value_of types v t)

  -- a difference that is at least 0, or above 0
  record Least (f : Form) (n : ℤ) : Type 0 where
    value_is : form_value types v f ≡ n
    equation : f.equation ≡ false

  of_two : (a b : Term) (f : Form) → two (joined Sub) (form_of a) (form_of b) ≡ Some f → HasValue (Infix op.Subtract a b) f
  of_two a b f h = of_difference a b f (means a) (means b) h

  difference_is : (a b : Term) (f : Form) → two (joined Sub) (form_of a) (form_of b) ≡ Some f → form_value types v f ≡ (at a -ℤ at b)
  unfolding value_of_op
  difference_is a b f h = (of_two a b f h).value_is ∙ ap as_number (value-Infix types v op.Subtract a b)

  at_least : (a b : Term) (f : Form) → option_map at_least_zero (two (joined Sub) (form_of a) (form_of b)) ≡ Some f → Least f (at a -ℤ at b)
  at_least a b f h =
      let is = least_is (two (joined Sub) (form_of a) (form_of b)) f h in
      record { value_is = ap (form_value types v) (sym is.gives) ∙ difference_is a b is.first is.first_is; equation = ap (λ (x : Form). x.equation) (sym is.gives) }

  one_less : (x y m n : ℤ) → x ≡ (y -ℤ (pos 0 +ℤ pos 1)) → y ≡ (m -ℤ n) → x ≡ ((m -ℤ n) -ℤ pos 1)
  one_less x y m n p q = omega (arith, ints)

  above : (a b : Term) (f : Form) → once above_zero (two (joined Sub) (form_of a) (form_of b)) ≡ Some f → Least f ((at a -ℤ at b) -ℤ pos 1)
  above a b f h =
      let is = once_is above_zero (two (joined Sub) (form_of a) (form_of b)) f h in
      let less = least_is (joined Sub is.first (constant_form (pos 1))) f is.gives in
      record {
        value_is = ap (form_value types v) (sym less.gives)
            ∙ one_less (form_value types v less.first) (form_value types v is.first) (at a) (at b) (joined_value types v Sub tt is.first (constant_form (pos 1)) less.first less.first_is) (difference_is a b is.first is.first_is);
        equation = ap (λ (x : Form). x.equation) (sym less.gives);
      }

  truth_is : (a b : Bool) → value.Truth a ≡ value.Truth b → a ≡ b
  truth_is a b h = cc

  -- what holds by a test holds by a form
  by_test : (f : Form) (n : ℤ) (b : Bool) (t : Term) → Least f n → value_of types v t ≡ value.Truth b → ((b ≡ true) ↔ (pos 0 ≤ℤ n)) → Holds types t v ↔ FormHolds types v f
  by_test f n b t least is same = (
    λ h. subst (λ e. Meets e (form_value types v f)) (sym least.equation) (subst (λ x. pos 0 ≤ℤ x) (sym least.value_is) (same.0 (truth_is b true (sym is ∙ h)))),
    λ h. is ∙ ap value.Truth (same.1 (subst (λ x. pos 0 ≤ℤ x) least.value_is (subst (λ e. Meets e (form_value types v f)) least.equation h))),
  )

  less_is : (m n : ℤ) → (int_lt m n ≡ true) ↔ (pos 0 ≤ℤ ((n -ℤ m) -ℤ pos 1))
  less_is m n = (λ h. grind (arith, ints), λ h. grind (arith, ints))

  up_to_is : (m n : ℤ) → (int_le m n ≡ true) ↔ (pos 0 ≤ℤ (n -ℤ m))
  up_to_is m n = (λ h. grind (arith, ints), λ h. grind (arith, ints))

  equal_is : (m n : ℤ) → (int_eq m n ≡ true) ↔ ((m -ℤ n) ≡ pos 0)
  equal_is m n = (λ h. let e = (Decides-int_eq m n).0 h in omega (arith, ints), λ h. (Decides-int_eq m n).1 (omega (arith, ints)))

  number_of : (x : Value) → IsNumber x → x ≡ value.Number (as_number x)
  number_of (value.Number n) h = refl
  number_of _ h = absurd h

  -- two numbers are equal where their difference is 0
  equal_numbers : (x y : Value) → IsNumber x → IsNumber y → (value_of_op op.Equal x y ≡ value.Truth true) ↔ ((as_number x -ℤ as_number y) ≡ pos 0)
  unfolding value_of_op
  equal_numbers (value.Number m) (value.Number n) p q = (λ h. (equal_is m n).0 (truth_is (int_eq m n) true h), λ h. ap value.Truth ((equal_is m n).1 h))
  equal_numbers (value.Number m) _ p q = absurd q
  equal_numbers _ y p q = absurd p

  number_sort : (x : Value) (s : Sort) → s ≡ Integer → HasSort types s x → IsNumber x
  number_sort x s e h = subst (λ s. HasSort types s x) e h

  other_sort : (m n s : Sort) → sort_of_op op.Equal m n ≡ Some s → m ≡ Integer → n ≡ Integer
  unfolding sort_of_op
  other_sort Integer Integer s h e = refl
  other_sort Integer _ s h e = absurd (cc)
  other_sort _ n s h e = absurd (cc)

  module _ (respects : Respects types v) where
    of_equal : (a b : Term) (f : Form) → sort_of types (Infix op.Equal a b) ≡ Some Boolean → is_numeric a ≡ true → two (joined Sub) (form_of a) (form_of b) ≡ Some f
        → Holds types (Infix op.Equal a b) v ↔ FormHolds types v f
    of_equal a b f sorted numeric h =
        let sorts = two_sorts (sort_of_op op.Equal) (sort_of types a) (sort_of types b) Boolean (sym (fold-Infix (sort_step types) op.Equal a b) ∙ sorted) in
        let first = integral types a sorts.first numeric sorts.first_is in
        let second = other_sort sorts.first sorts.second Boolean sorts.gives first in
        let p = number_sort (value_of types v a) sorts.first first (sorted_value types v respects a sorts.first sorts.first_is) in
        let q = number_sort (value_of types v b) sorts.second second (sorted_value types v respects b sorts.second sorts.second_is) in
        let is = of_two a b f h in
        let same = equal_numbers (value_of types v a) (value_of types v b) p q in (
          λ holds. subst (λ e. Meets e (form_value types v f)) (sym is.equation) (difference_is a b f h ∙ same.0 (sym (value-Infix types v op.Equal a b) ∙ holds)),
          λ met. value-Infix types v op.Equal a b ∙ same.1 (sym (difference_is a b f h) ∙ subst (λ e. Meets e (form_value types v f)) is.equation met),
        )

    of_comparison : (o : TermOp) (a b : Term) (f : Form) → sort_of types (Infix o a b) ≡ Some Boolean → is_listed o (is_numeric a) ≡ true → form_of_comparison o (form_of a) (form_of b) ≡ Some f
        → Holds types (Infix o a b) v ↔ FormHolds types v f
    unfolding value_of_op
    of_comparison op.Equal a b f sorted listed h = of_equal a b f sorted listed h
    of_comparison op.Less a b f sorted listed h =
        by_test f ((at b -ℤ at a) -ℤ pos 1) (int_lt (at a) (at b)) (Infix op.Less a b) (above b a f h) (value-Infix types v op.Less a b) (less_is (at a) (at b))
    of_comparison op.LessOrEqual a b f sorted listed h =
        by_test f (at b -ℤ at a) (int_le (at a) (at b)) (Infix op.LessOrEqual a b) (at_least b a f h) (value-Infix types v op.LessOrEqual a b) (up_to_is (at a) (at b))
    of_comparison op.Greater a b f sorted listed h =
        by_test f ((at a -ℤ at b) -ℤ pos 1) (int_lt (at b) (at a)) (Infix op.Greater a b) (above a b f h) (value-Infix types v op.Greater a b) (less_is (at b) (at a))
    of_comparison op.GreaterOrEqual a b f sorted listed h =
        by_test f (at a -ℤ at b) (int_le (at b) (at a)) (Infix op.GreaterOrEqual a b) (at_least a b f h) (value-Infix types v op.GreaterOrEqual a b) (up_to_is (at b) (at a))
    of_comparison _ a b f sorted listed h = absurd (cc)

    abbrev Meant : Term → Type 0
    Meant t = sort_of types t ≡ Some Boolean → is_comparison t ≡ true → (f : Form) → linear_form t ≡ Some f → Holds types t v ↔ FormHolds types v f

    no_comparison : (t : Term) (P : Type 0) → is_comparison t ≡ false → is_comparison t ≡ true → P
    no_comparison t P h e = let b : false ≡ true = sym h ∙ e in absurd (cc)

    meant_cases : Cases Meant
    meant_cases = record {
      number = λ n s e f h. no_comparison (Number n) _ (is_comparison-Number n) e;
      truth = λ b s e f h. no_comparison (Truth b) _ (is_comparison-Truth b) e;
      variable = λ name s e f h. no_comparison (Variable name) _ (is_comparison-Variable name) e;
      prefix = λ o a p s e f h. no_comparison (Prefix o a) _ (is_comparison-Prefix o a) e;
      «infix» = λ o a b p q s e f h. of_comparison o a b f s (sym (is_comparison-Infix o a b) ∙ e) (sym (linear_form-Infix o a b) ∙ h);
      blank = λ id s e f h. no_comparison (Blank id) _ (is_comparison-Blank id) e;
      unary = λ o a p s e f h. no_comparison (Unary o a) _ (is_comparison-Unary o a) e;
      binary = λ o a b p q s e f h. no_comparison (Binary o a b) _ (is_comparison-Binary o a b) e;
      ternary = λ o a b c p q r s e f h. no_comparison (Ternary o a b c) _ (is_comparison-Ternary o a b c) e;
    }

pub form_is_meant : LinearFormIsMeant
form_is_meant types v respects t = induct (Meant types v respects) (meant_cases types v respects) t
