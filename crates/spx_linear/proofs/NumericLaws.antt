-- A well-sorted term that is seen to be a number is one.
use Rattle.std.proofs.Common.{◌≡◌, true, false, ◌&&◌, ◌==◌, Option, Some, sym, ap, ◌∙◌}
use Rattle.spx_term.specs.declared.term.Sort.{Sort}
use Rattle.spx_term.specs.declared.term.Sort.TheVariants.{Integer, Boolean, Composite}
use Rattle.spx_term.specs.declared.term.Component.{Component}
use Rattle.spx_term.specs.declared.term.Component.TheVariants as component
use Rattle.spx_term.specs.declared.term.TermOp.{TermOp}
use Rattle.spx_term.specs.declared.term.TermOp.TheVariants as op
use Rattle.spx_term.specs.declared.term.TermPrefix.{TermPrefix}
use Rattle.spx_term.specs.declared.term.TermPrefix.TheVariants as sign
use Rattle.spx_term.specs.declared.term.UnaryOp.{UnaryOp}
use Rattle.spx_term.specs.declared.term.UnaryOp.TheVariants as unary
use Rattle.spx_term.specs.declared.term.BinaryOp.{BinaryOp}
use Rattle.spx_term.specs.declared.term.BinaryOp.TheVariants as binary
use Rattle.spx_term.specs.declared.term.Term.{Term}
use Rattle.spx_term.specs.declared.negation.TermForm.TheVariants as form
use Rattle.spx_term.specs.Negation.{gives_number, unary_form, binary_form, is_numeric}
use Rattle.spx_term.specs.declared.term.FieldName.{FieldName}
use Rattle.spx_term.specs.declared.term.ArrayType.{ArrayType}
use Rattle.spx_term.specs.Sorts.{is_field, is_array, integers, sort_in, sort_of_op, sort_of_prefix, sort_of_unary, sort_of_binary, sort_step, sort_of}
use Rattle.spx_term.specs.Values.{Types}
use Rattle.spx_term.proofs.NegationLaws.{form-Truth, form-Variable, form-Blank, form-Prefix, form-Infix, form-Unary, form-Binary, form-Ternary}
use Rattle.spx_term.proofs.Terms.{Cases, induct, fold-Number, fold-Variable, fold-Prefix, fold-Infix, fold-Unary, fold-Binary}
use Rattle.spx_term.proofs.CompositeLaws.{asked_is}
use Rattle.spx_term.proofs.FoldingLaws.{one_sort, two_sorts}

some_sort : (a b : Sort) → ◌≡◌ {A = Option Sort} (Some a) (Some b) → b ≡ a
some_sort a b h = cc

no_number : (s : Sort) → false ≡ true → s ≡ Integer
no_number s h = absurd (cc)

of_variable : (m s : Sort) → gives_number (form.Variable m) ≡ true → Some m ≡ Some s → s ≡ Integer
of_variable Integer s h e = some_sort Integer s e
of_variable _ s h e = absurd (cc)

of_component : (c : Component) (s : Sort) → gives_number (form.Component c) ≡ true → s ≡ sort_in c → s ≡ Integer
of_component (component.Integer low high) s h e = e
of_component component.Boolean s h e = absurd (cc)
of_component (component.Composite id) s h e = absurd (cc)

of_prefix : (o : TermPrefix) (m s : Sort) → gives_number (form.Prefix o) ≡ true → sort_of_prefix o m ≡ Some s → s ≡ Integer
unfolding sort_of_prefix
of_prefix sign.Minus Integer s h e = some_sort Integer s e
of_prefix sign.Minus _ s h e = absurd (cc)
of_prefix sign.Abs Integer s h e = some_sort Integer s e
of_prefix sign.Abs _ s h e = absurd (cc)
of_prefix sign.Not m s h e = absurd (cc)

of_integers : (m n s : Sort) → integers Integer m n ≡ Some s → s ≡ Integer
of_integers Integer Integer s e = some_sort Integer s e
of_integers Integer Boolean s e = absurd (cc)
of_integers Integer (Composite id) s e = absurd (cc)
of_integers Boolean n s e = absurd (cc)
of_integers (Composite id) n s e = absurd (cc)

of_infix : (o : TermOp) (m n s : Sort) → gives_number (form.Infix o) ≡ true → sort_of_op o m n ≡ Some s → s ≡ Integer
unfolding sort_of_op
of_infix op.Add m n s h e = of_integers m n s e
of_infix op.Subtract m n s h e = of_integers m n s e
of_infix op.Multiply m n s h e = of_integers m n s e
of_infix op.Divide m n s h e = of_integers m n s e
of_infix op.Rem m n s h e = of_integers m n s e
of_infix op.Mod m n s h e = of_integers m n s e
of_infix op.Power m n s h e = of_integers m n s e
of_infix _ m n s h e = absurd (cc)

module _ (types : Types) where
  abbrev Integral : Term → Type 0
  Integral t = (s : Sort) → is_numeric t ≡ true → sort_of types t ≡ Some s → s ≡ Integer

  field_sort : (f : FieldName) (c : Component) (m s : Sort) → sort_of_unary types (unary.Field f c) m ≡ Some s → s ≡ sort_in c
  unfolding sort_of_unary
  field_sort f c (Composite id) s h = (asked_is (id == f.position && is_field types f c) (sort_in c) s h).1
  field_sort f c Integer s h = absurd (cc)
  field_sort f c Boolean s h = absurd (cc)

  element_sort : (t : ArrayType) (m n s : Sort) → sort_of_binary types (binary.Element t) m n ≡ Some s → s ≡ sort_in t.element
  unfolding sort_of_binary
  element_sort t (Composite id) Integer s h = (asked_is (id == t.position && is_array types t) (sort_in t.element) s h).1
  element_sort t (Composite id) Boolean s h = absurd (cc)
  element_sort t (Composite id) (Composite k) s h = absurd (cc)
  element_sort t Integer n s h = absurd (cc)
  element_sort t Boolean n s h = absurd (cc)

  of_unary : (o : UnaryOp) (m s : Sort) → gives_number (unary_form o) ≡ true → sort_of_unary types o m ≡ Some s → s ≡ Integer
  of_unary (unary.Field f c) m s h e = of_component c s h (field_sort f c m s e)
  of_unary (unary.In t) m s h e = absurd (cc)
  of_unary (unary.Others t) m s h e = absurd (cc)

  of_binary : (o : BinaryOp) (m n s : Sort) → gives_number (binary_form o) ≡ true → sort_of_binary types o m n ≡ Some s → s ≡ Integer
  of_binary (binary.Element t) m n s h e = of_component t.element s h (element_sort t m n s e)
  of_binary _ m n s h e = absurd (cc)

  integral_cases : Cases Integral
  integral_cases = record {
    number = λ n s h e. some_sort Integer s (sym (fold-Number (sort_step types) n) ∙ e);
    truth = λ b s h e. no_number s (sym (ap gives_number (form-Truth b)) ∙ h);
    variable = λ name s h e. of_variable name.sort s (sym (ap gives_number (form-Variable name)) ∙ h) (sym (fold-Variable (sort_step types) name) ∙ e);
    prefix = λ o a p s h e.
        let is = one_sort (sort_of_prefix o) (sort_of types a) s (sym (fold-Prefix (sort_step types) o a) ∙ e) in
        of_prefix o is.only s (sym (ap gives_number (form-Prefix o a)) ∙ h) is.gives;
    «infix» = λ o a b p q s h e.
        let is = two_sorts (sort_of_op o) (sort_of types a) (sort_of types b) s (sym (fold-Infix (sort_step types) o a b) ∙ e) in
        of_infix o is.first is.second s (sym (ap gives_number (form-Infix o a b)) ∙ h) is.gives;
    blank = λ id s h e. no_number s (sym (ap gives_number (form-Blank id)) ∙ h);
    unary = λ o a p s h e.
        let is = one_sort (sort_of_unary types o) (sort_of types a) s (sym (fold-Unary (sort_step types) o a) ∙ e) in
        of_unary o is.only s (sym (ap gives_number (form-Unary o a)) ∙ h) is.gives;
    binary = λ o a b p q s h e.
        let is = two_sorts (sort_of_binary types o) (sort_of types a) (sort_of types b) s (sym (fold-Binary (sort_step types) o a b) ∙ e) in
        of_binary o is.first is.second s (sym (ap gives_number (form-Binary o a b)) ∙ h) is.gives;
    ternary = λ o a b c p q r s h e. no_number s (sym (ap gives_number (form-Ternary o a b c)) ∙ h);
  }

  -- a number by its form is one by its sort
  pub integral : (t : Term) → Integral t
  integral = induct Integral integral_cases
