-- A goal whose negation is refuted holds where its hypotheses do.
use Rattle.std.proofs.Common.{◌≡◌, ℤ, true, Some, refl, ap, ap₂, ◌∙◌, arith}
use Rattle.std.specs.Prelude.{All, int_lt, int_le}
use Rattle.std.proofs.lemmas.Bool.{false_from_ne_true}
use Rattle.std.proofs.lemmas.Int.{ints}
use Rattle.std.proofs.lemmas.List.Elements.{All-from_recursion, recursion_from_All}
use denote.Hole.Carrier.{out, hidden}
use Rattle.spx_num.specs.Widths.{fits}
use Rattle.spx_term.specs.declared.term.Name.{Name}
use Rattle.spx_term.specs.declared.term.Sort.{Sort}
use Rattle.spx_term.specs.declared.term.Sort.TheVariants.{Integer, Boolean}
use Rattle.spx_term.specs.declared.term.TermOp.{TermOp}
use Rattle.spx_term.specs.declared.term.TermOp.TheVariants as op
use Rattle.spx_term.specs.declared.term.Term.{Term, out-Term}
use Rattle.spx_term.specs.declared.term.Term.TheBlock.{hidden-the_row-Term-0}
use Rattle.spx_term.specs.declared.term.Term.TheVariants.{Number, Variable, Infix}
use Rattle.spx_term.specs.declared.value.Value.TheVariants as value
use Rattle.spx_term.specs.Equality.{same_term, same_by}
use Rattle.spx_term.specs.Meaning.{as_number, value_of, value_of_op, Valuation, Holds, Respects, Valid}
use Rattle.spx_term.specs.Negation as negation
use Rattle.spx_term.specs.Sorts.{both, sort_of_op, sort_step, sort_of}
use Rattle.spx_term.specs.Values.{Types}
use Rattle.spx_term.proofs.Terms.{fold-Number, fold-Variable, fold-Infix, value-Infix}
use Rattle.spx_linear.specs.declared.form.Form.{Form}
use Rattle.spx_linear.specs.Forms.{with_part, joined, scaled_part, scaled}
use Rattle.spx_linear.specs.Linear.{form_of, is_comparison, linear_form, FormHolds}
use Rattle.spx_linear.specs.Refutation.{with_multiple, is_never, refutation}
use Rattle.spx_linear.proofs.LinearLaws.{form_is_meant}
use Rattle.spx_linear.proofs.RefutationLaws.{refuted}
use Rattle.spx_examples.specs.LinearExamples.{number, sum, s_is_doubled, i_in_range, n_is_small, s_is_wide, s_fits, hypotheses, integer_s, doubled_form, range_form, small_form, wide_form, goal_and_bounds, certificate}

-- ---- the forms

abbrev Has : Term → Sort → Type 0
Has t s = (types : Types) → sort_of types t ≡ Some s

number_has : (n : ℤ) → Has (Number n) Integer
number_has n types = fold-Number (sort_step types) n

name_has : (name : Name) → Has (Variable name) name.sort
name_has name types = fold-Variable (sort_step types) name

infix_has : (o : TermOp) (a b : Term) {s : Sort} → Has a Integer → Has b Integer → sort_of_op o Integer Integer ≡ Some s → Has (Infix o a b) s
infix_has o a b p q is types = fold-Infix (sort_step types) o a b ∙ ap₂ (both (sort_of_op o)) (p types) (q types) ∙ is

record IsForm (t : Term) (f : Form) : Type 0 where
  sorted : Has t Boolean
  compared : is_comparison t ≡ true
  is : linear_form t ≡ Some f

record FormsAre : Type 0 where
  wide : IsForm s_is_wide wide_form
  doubled : IsForm s_is_doubled doubled_form
  range : IsForm i_in_range range_form
  small : IsForm n_is_small small_form

forms_are : FormsAre
unfolding sort_of_op is_comparison negation.form_of linear_form form_of joined scaled with_part scaled_part fits same_term same_by out-Term out hidden-the_row-Term-0 hidden
forms_are = record {
  wide = record { sorted = infix_has _ _ _ (infix_has _ _ _ (name_has _) (number_has _) refl) (number_has _) refl; compared = refl; is = refl };
  doubled = record { sorted = infix_has _ _ _ (name_has _) (infix_has _ _ _ (number_has _) (name_has _) refl) refl; compared = refl; is = refl };
  range = record { sorted = infix_has _ _ _ (name_has _) (name_has _) refl; compared = refl; is = refl };
  small = record { sorted = infix_has _ _ _ (name_has _) (number_has _) refl; compared = refl; is = refl };
}

are_refuted : refutation goal_and_bounds certificate ≡ Some true
unfolding refutation is_never with_multiple joined scaled with_part scaled_part fits same_term same_by out-Term out hidden-the_row-Term-0 hidden
are_refuted = refl

-- ---- the goal

up_to : (m n : ℤ) → (int_lt n m ≡ true → ⊥) → int_le m n ≡ true
up_to m n h = let e = false_from_ne_true (int_lt n m) h in grind (arith, ints)

module _ (types : Types) (v : Valuation) where
  up_to_by : (a b : Term) → (Holds types (Infix op.Greater a b) v → ⊥) → Holds types (Infix op.LessOrEqual a b) v
  unfolding value_of_op
  up_to_by a b h =
      let m = as_number (value_of types v a) in
      let n = as_number (value_of types v b) in
      value-Infix types v op.LessOrEqual a b ∙ ap value.Truth (up_to m n (λ e. h (value-Infix types v op.Greater a b ∙ ap value.Truth e)))

  module _ (respects : Respects types v) where
    form_holds : (t : Term) (f : Form) → IsForm t f → Holds types t v → FormHolds types v f
    form_holds t f form = (form_is_meant types v respects t (form.sorted types) form.compared f form.is).0

    never_wide : All (λ (t : Term). Holds types t v) hypotheses → Holds types s_is_wide v → ⊥
    never_wide holds wide =
        let given = recursion_from_All (λ (t : Term). Holds types t v) hypotheses holds in
        refuted types v goal_and_bounds certificate are_refuted
        (All-from_recursion (FormHolds types v) goal_and_bounds (
          form_holds s_is_wide wide_form forms_are.wide wide,
          (
            form_holds s_is_doubled doubled_form forms_are.doubled given.0,
            (
              form_holds i_in_range range_form forms_are.range given.1.0,
              (
                form_holds n_is_small small_form forms_are.small given.1.1.1.0,
                tt,
              ),
            ),
          ),
        ))

pub fits_where_they_hold : (types : Types) → Valid types hypotheses s_fits
fits_where_they_hold types v respects holds = up_to_by types v (sum integer_s (number 2)) (number 2147483647) (never_wide types v respects holds)
