-- Each step leaves sequents of Boolean terms, rule by rule.
use Rattle.std.proofs.Common.{◌≡◌, ℕ, ◌==◌, Bool, true, false, ◌&&◌, ℤ, pos, Option, Some, None, Ok, Err, List, [], ◌∷◌, ◌++◌, refl, sym, ap, ap₂, ◌∙◌, subst}
use Rattle.std.specs.List.{AllByRecursion}
use Rattle.std.proofs.lemmas.Bool.{and_parts, eqb-true}
use Rattle.spx_term.specs.declared.condition.Sequent.{Sequent}
use Rattle.spx_term.specs.declared.term.ArrayType.{ArrayType}
use Rattle.spx_term.specs.declared.term.BoundVariable.{BoundVariable}
use Rattle.spx_term.specs.declared.term.Component.{Component}
use Rattle.spx_term.specs.declared.term.Component.TheVariants as component
use Rattle.spx_term.specs.declared.term.Quantifier.{Quantifier}
use Rattle.spx_term.specs.declared.term.Quantifier.TheVariants as quantifier
use Rattle.spx_term.specs.declared.term.Sort.{Sort}
use Rattle.spx_term.specs.declared.term.Sort.TheVariants.{Integer, Boolean, Composite}
use Rattle.spx_term.specs.declared.term.TermOp.{TermOp}
use Rattle.spx_term.specs.declared.term.TermOp.TheVariants as op
use Rattle.spx_term.specs.declared.term.TermPrefix.{TermPrefix}
use Rattle.spx_term.specs.declared.term.TermPrefix.TheVariants as sign
use Rattle.spx_term.specs.declared.term.UnaryOp.{UnaryOp}
use Rattle.spx_term.specs.declared.term.UnaryOp.TheVariants as unary
use Rattle.spx_term.specs.declared.term.BinaryOp.{BinaryOp}
use Rattle.spx_term.specs.declared.term.BinaryOp.TheVariants as binary
use Rattle.spx_term.specs.declared.term.TernaryOp.{TernaryOp}
use Rattle.spx_term.specs.declared.term.TernaryOp.TheVariants as ternary
use Rattle.spx_term.specs.declared.term.Term.{Term, Term-F, out-Term, roll-Term, roll-out-Term}
use Rattle.spx_term.specs.declared.term.Term.TheVariants.{Number, Truth, Variable, Blank, Prefix, Infix, Unary, Binary, Ternary, rolls-Prefix, rolls-Infix, rolls-Ternary, outs-Number, outs-Variable, outs-Blank, outs-Prefix, outs-Infix, outs-Unary, outs-Binary, outs-Ternary}
use Rattle.spx_term.specs.declared.value.Shape.{Shape}
use Rattle.spx_term.specs.Equality.{same_term}
use Rattle.spx_term.specs.Folding.{folded}
use Rattle.spx_term.specs.Negation.{is_numeric}
use Rattle.spx_term.specs.Plain.{closes}
use Rattle.spx_term.specs.Sorts.{integers, booleans, alike, one, both, sort_of_op, sort_of_prefix, sort_in, sort_of_shape, element_shape, element_takes, is_array, is_field, sort_of_unary, sort_of_binary, sort_of_ternary, sort_step, sort_of}
use Rattle.spx_term.specs.Values.{Types, shape_of}
use Rattle.spx_term.proofs.Equality.{same_sort-Decides}
use Rattle.spx_term.proofs.Terms.{Cases, induct, fold-Number, fold-Truth, fold-Variable, fold-Prefix, fold-Infix, fold-Unary, fold-Binary, fold-Ternary}
use Rattle.spx_term.proofs.CompositeLaws.{asked_is, takes_is, array_type_is}
use Rattle.spx_term.proofs.ConjunctLaws.{all_append}
use Rattle.spx_term.proofs.FoldingLaws.{one_sort, two_sorts, three_sorts, from_booleans}
use Rattle.spx_linear.proofs.NumericLaws.{integral}
use Rattle.spx_kernel.specs.declared.fault.StepFault.{StepFault}
use Rattle.spx_kernel.specs.declared.fault.StepFault.TheVariants.{DoesNotApply, TooWide}
use Rattle.spx_kernel.specs.declared.rule.Entry.{Entry}
use Rattle.spx_kernel.specs.declared.rule.RuleOf.TheVariants as rule
use Rattle.spx_kernel.specs.Names.{gives_truth, is_truth_type, unary_truth, binary_truth, ternary_truth, is_boolean_in, is_boolean, new_name}
use Rattle.spx_kernel.specs.Quantifiers.{stands_alone, opened}
use Rattle.spx_kernel.specs.Rewriting.{rewritten}
use Rattle.spx_kernel.specs.Elements.{Spot, spot_of}
use Rattle.spx_kernel.specs.Divisions.{zero_term, division_facts, divides, division_in, division}
use Rattle.spx_linear.specs.declared.form.Form.{Form}
use Rattle.spx_linear.specs.Refutation.{refutation}
use Rattle.spx_kernel.specs.Certificates.{all_listed, forms_of, refuted_by, by_forms, by_terms, certified}
use Rattle.spx_kernel.specs.Sequents.{Answer, refused, with_hyp, with_hyps, with_goal, hyp_at, Sorted}
use Rattle.spx_kernel.specs.Steps.{only_if, at, split_infix, split_in, from_to, in_range, intro_all, use_some, inst_all, give_some, intro_infix, intro_prefix, intro_in, pick_infix, pick_in, cases_infix, cases_in, use_infix, use_prefix, use_in, inst_in, give_in, may_stand, rewrite_goal, rewrite_hyp, rewrite_by, rewrite_in, elem_at, div_by, step, Rule, SomeSort, RuleSorted}
use Rattle.spx_kernel.specs.Sorts.{StepKeepsSorts}
use Rattle.spx_kernel.proofs.StepLaws.{hyp_has, alike_sort, not_equal_alike}
use Rattle.spx_kernel.proofs.DivisionLaws.{from_integers}
use Rattle.spx_kernel.proofs.QuantifierSteps.{scoped_parts}
use Rattle.spx_kernel.proofs.ElementLaws.{IsSpot, spot_is}
use Rattle.spx_kernel.proofs.SortLaws.{opened_sort, rewritten_sort}

no : (P : Type 0) → false ≡ true → P
no P h = absurd (cc)

some_sort : (r s : Sort) → ◌≡◌ {A = Option Sort} (Some r) (Some s) → s ≡ r
some_sort r s h = cc

-- ---- sorts of results

result_of_integers : (r m n s : Sort) → integers r m n ≡ Some s → s ≡ r
result_of_integers r Integer Integer s h = some_sort r s h
result_of_integers r _ _ s h = absurd (cc)

result_of_alike : (r m n s : Sort) → alike r m n ≡ Some s → s ≡ r
result_of_alike r Integer Integer s h = some_sort r s h
result_of_alike r Boolean Boolean s h = some_sort r s h
result_of_alike r (Composite m) (Composite n) s h = (asked_is (m == n) r s h).1
result_of_alike r _ _ s h = absurd (cc)

-- two terms that are compared by `=` have one sort
one_sort_of : (m n s : Sort) → sort_of_op op.Equal m n ≡ Some s → m ≡ n
unfolding sort_of_op
one_sort_of Integer Integer s h = refl
one_sort_of Boolean Boolean s h = refl
one_sort_of (Composite m) (Composite n) s h = ap Composite (eqb-true m n (asked_is (m == n) Boolean s h).0)
one_sort_of _ _ s h = absurd (cc)

record Quantifies (m n k : Sort) : Type 0 where
  low : m ≡ Integer
  high : n ≡ Integer
  body : k ≡ Boolean

record Updates (types : Types) (id : ℕ) (m n k s : Sort) : Type 0 where
  index : n ≡ Integer
  whole : s ≡ m
  of : m ≡ Composite id
  item : element_takes types id k ≡ true

record Reads (types : Types) (array : ArrayType) (m n s : Sort) : Type 0 where
  of : m ≡ Composite array.position
  index : n ≡ Integer
  element : s ≡ sort_in array.element
  said : is_array types array ≡ true

module _ (types : Types) where
  quantifies : (q : Quantifier) (d : BoundVariable) (m n k s : Sort) → sort_of_ternary types (ternary.Quantified q d) m n k ≡ Some s → Quantifies m n k
  unfolding sort_of_ternary
  quantifies q d Integer Integer Boolean s h = record { low = refl; high = refl; body = refl }
  quantifies q d Integer Integer Integer s h = absurd (cc)
  quantifies q d Integer Integer (Composite x) s h = absurd (cc)
  quantifies q d Integer Boolean k s h = absurd (cc)
  quantifies q d Integer (Composite x) k s h = absurd (cc)
  quantifies q d Boolean n k s h = absurd (cc)
  quantifies q d (Composite x) n k s h = absurd (cc)

  updates : (id : ℕ) (m n k s : Sort) → sort_of_ternary types (ternary.Update id) m n k ≡ Some s → Updates types id m n k s
  unfolding sort_of_ternary
  updates id (Composite c) Integer k s h =
      let p = asked_is (c == id && element_takes types id k) (Composite c) s h in
      let tests = and_parts (c == id) (element_takes types id k) p.0 in
      record { index = refl; whole = p.1; of = ap Composite (eqb-true c id tests.0); item = tests.1 }
  updates id (Composite c) Boolean k s h = absurd (cc)
  updates id (Composite c) (Composite x) k s h = absurd (cc)
  updates id Integer n k s h = absurd (cc)
  updates id Boolean n k s h = absurd (cc)

  reads : (array : ArrayType) (m n s : Sort) → sort_of_binary types (binary.Element array) m n ≡ Some s → Reads types array m n s
  unfolding sort_of_binary
  reads array (Composite c) Integer s h =
      let p = asked_is (c == array.position && is_array types array) (sort_in array.element) s h in
      let tests = and_parts (c == array.position) (is_array types array) p.0 in
      record { of = ap Composite (eqb-true c array.position tests.0); index = refl; element = p.1; said = tests.1 }
  reads array (Composite c) Boolean s h = absurd (cc)
  reads array (Composite c) (Composite x) s h = absurd (cc)
  reads array Integer n s h = absurd (cc)
  reads array Boolean n s h = absurd (cc)

  -- ---- terms that are seen to be truth values

  abbrev Truthful : Term → Type 0
  Truthful t = (s : Sort) → is_boolean t ≡ true → sort_of types t ≡ Some s → s ≡ Boolean

  of_component : (c : Component) → is_truth_type c ≡ true → sort_in c ≡ Boolean
  of_component component.Boolean h = refl
  of_component _ h = no _ h

  of_prefix : (o : TermPrefix) (a : Term) (m s : Sort) → is_boolean_in (Term-F.Prefix o a) ≡ true → sort_of_prefix o m ≡ Some s → s ≡ Boolean
  unfolding sort_of_prefix
  of_prefix sign.Not a Boolean s h e = some_sort Boolean s e
  of_prefix sign.Not a _ s h e = absurd (cc)
  of_prefix _ a m s h e = no _ h

  of_infix : (o : TermOp) (m n s : Sort) → gives_truth o ≡ true → sort_of_op o m n ≡ Some s → s ≡ Boolean
  unfolding sort_of_op
  of_infix op.Equal m n s h e = result_of_alike Boolean m n s e
  of_infix op.NotEqual m n s h e = result_of_alike Boolean m n s e
  of_infix op.Less m n s h e = result_of_integers Boolean m n s e
  of_infix op.LessOrEqual m n s h e = result_of_integers Boolean m n s e
  of_infix op.Greater m n s h e = result_of_integers Boolean m n s e
  of_infix op.GreaterOrEqual m n s h e = result_of_integers Boolean m n s e
  of_infix op.And m n s h e = (from_booleans Boolean m n s e).2
  of_infix op.Or m n s h e = (from_booleans Boolean m n s e).2
  of_infix op.Implies m n s h e = (from_booleans Boolean m n s e).2
  of_infix op.Equivalent m n s h e = (from_booleans Boolean m n s e).2
  of_infix _ m n s h e = no _ h

  of_unary : (o : UnaryOp) (m s : Sort) → unary_truth o ≡ true → sort_of_unary types o m ≡ Some s → s ≡ Boolean
  unfolding sort_of_unary
  of_unary (unary.Field f c) (Composite id) s h e = (asked_is (id == f.position && is_field types f c) (sort_in c) s e).1 ∙ of_component c h
  of_unary (unary.Field f c) Integer s h e = absurd (cc)
  of_unary (unary.Field f c) Boolean s h e = absurd (cc)
  of_unary (unary.In t) (Composite id) s h e = (asked_is (id == t) Boolean s e).1
  of_unary (unary.In t) Integer s h e = absurd (cc)
  of_unary (unary.In t) Boolean s h e = absurd (cc)
  of_unary (unary.Others t) m s h e = no _ h

  of_binary : (o : BinaryOp) (m n s : Sort) → binary_truth o ≡ true → sort_of_binary types o m n ≡ Some s → s ≡ Boolean
  of_binary (binary.Element array) m n s h e = (reads array m n s e).element ∙ of_component array.element h
  of_binary _ m n s h e = no _ h

  of_ternary : (o : TernaryOp) (m n k s : Sort) → ternary_truth o ≡ true → sort_of_ternary types o m n k ≡ Some s → s ≡ Boolean
  unfolding sort_of_ternary
  of_ternary (ternary.Quantified q d) Integer Integer Boolean s h e = some_sort Boolean s e
  of_ternary (ternary.Quantified q d) Integer Integer Integer s h e = absurd (cc)
  of_ternary (ternary.Quantified q d) Integer Integer (Composite x) s h e = absurd (cc)
  of_ternary (ternary.Quantified q d) Integer Boolean k s h e = absurd (cc)
  of_ternary (ternary.Quantified q d) Integer (Composite x) k s h e = absurd (cc)
  of_ternary (ternary.Quantified q d) Boolean n k s h e = absurd (cc)
  of_ternary (ternary.Quantified q d) (Composite x) n k s h e = absurd (cc)
  of_ternary (ternary.Update t) m n k s h e = no _ h

  form : (t : Term) (layer : Term-F Term) → out-Term t ≡ layer → is_boolean t ≡ true → is_boolean_in layer ≡ true
  unfolding is_boolean
  form t layer is h = ap is_boolean_in (sym is) ∙ h

  truthful_cases : Cases Truthful
  truthful_cases = record {
    number = λ n s h e. no _ (form (Number n) (Term-F.Number n) (outs-Number n) h);
    truth = λ b s h e. some_sort Boolean s (sym (fold-Truth (sort_step types) b) ∙ e);
    variable = λ x s h e.
        some_sort x.sort s (sym (fold-Variable (sort_step types) x) ∙ e) ∙ (same_sort-Decides x.sort Boolean).0 (form (Variable x) (Term-F.Variable x) (outs-Variable x) h);
    blank = λ id s h e. no _ (form (Blank id) (Term-F.Blank id) (outs-Blank id) h);
    prefix = λ o a p s h e.
        let is = one_sort (sort_of_prefix o) (sort_of types a) s (sym (fold-Prefix (sort_step types) o a) ∙ e) in
        of_prefix o a is.only s (form (Prefix o a) (Term-F.Prefix o a) (outs-Prefix o a) h) is.gives;
    «infix» = λ o a b p q s h e.
        let is = two_sorts (sort_of_op o) (sort_of types a) (sort_of types b) s (sym (fold-Infix (sort_step types) o a b) ∙ e) in
        of_infix o is.first is.second s (form (Infix o a b) (Term-F.Infix o a b) (outs-Infix o a b) h) is.gives;
    unary = λ o a p s h e.
        let is = one_sort (sort_of_unary types o) (sort_of types a) s (sym (fold-Unary (sort_step types) o a) ∙ e) in
        of_unary o is.only s (form (Unary o a) (Term-F.Unary o a) (outs-Unary o a) h) is.gives;
    binary = λ o a b p q s h e.
        let is = two_sorts (sort_of_binary types o) (sort_of types a) (sort_of types b) s (sym (fold-Binary (sort_step types) o a b) ∙ e) in
        of_binary o is.first is.second s (form (Binary o a b) (Term-F.Binary o a b) (outs-Binary o a b) h) is.gives;
    ternary = λ o a b c p q r s h e.
        let is = three_sorts (sort_of_ternary types o) (sort_of types a) (sort_of types b) (sort_of types c) s (sym (fold-Ternary (sort_step types) o a b c) ∙ e) in
        of_ternary o is.first is.second is.third s (form (Ternary o a b c) (Term-F.Ternary o a b c) (outs-Ternary o a b c) h) is.gives;
  }

  truthful : (t : Term) → SomeSort types t → is_boolean t ≡ true → sort_of types t ≡ Some Boolean
  truthful t some h = some.1 ∙ ap Some (induct Truthful truthful_cases t some.0 h some.1)

  -- ---- numbers and formulas

  abbrev IsNumeral : Term → Type 0
  IsNumeral t = sort_of types t ≡ Some Integer

  abbrev IsFormula : Term → Type 0
  IsFormula t = sort_of types t ≡ Some Boolean

  infix_sort : (o : TermOp) (a b : Term) (m n s : Sort) → sort_of types a ≡ Some m → sort_of types b ≡ Some n → sort_of_op o m n ≡ Some s → sort_of types (Infix o a b) ≡ Some s
  infix_sort o a b m n s p q h = fold-Infix (sort_step types) o a b ∙ ap₂ (both (sort_of_op o)) p q ∙ h

  -- an operation on numbers
  on_numbers : (o : TermOp) (a b : Term) (s : Sort) → sort_of_op o Integer Integer ≡ Some s → IsNumeral a → IsNumeral b → sort_of types (Infix o a b) ≡ Some s
  on_numbers o a b s h p q = infix_sort o a b Integer Integer s p q h

  -- an operation on formulas
  on_formulas : (o : TermOp) (a b : Term) → sort_of_op o Boolean Boolean ≡ Some Boolean → IsFormula a → IsFormula b → IsFormula (Infix o a b)
  on_formulas o a b h p q = infix_sort o a b Boolean Boolean Boolean p q h

  number_sort : (n : ℤ) → IsNumeral (Number n)
  number_sort n = fold-Number (sort_step types) n

  -- the parts of a formula
  formulas : (o : TermOp) → sort_of_op o ≡ booleans Boolean → (a b : Term) → IsFormula (Infix o a b) → IsFormula a × IsFormula b
  formulas o same a b h =
      let sorts = two_sorts (sort_of_op o) (sort_of types a) (sort_of types b) Boolean (sym (fold-Infix (sort_step types) o a b) ∙ h) in
      let p = from_booleans Boolean sorts.first sorts.second Boolean (ap (λ (f : Sort → Sort → Option Sort). f sorts.first sorts.second) (sym same) ∙ sorts.gives) in
      (sorts.first_is ∙ ap Some p.0, sorts.second_is ∙ ap Some p.1)

  -- those of a comparison by `=` or `/=`, where the first one is seen to be a number
  numerals : (o : TermOp) → sort_of_op o ≡ sort_of_op op.Equal → (a b : Term) → IsFormula (Infix o a b) → is_numeric a ≡ true → IsNumeral a × IsNumeral b
  numerals o same a b h numeric =
      let sorts = two_sorts (sort_of_op o) (sort_of types a) (sort_of types b) Boolean (sym (fold-Infix (sort_step types) o a b) ∙ h) in
      let first = integral types a sorts.first numeric sorts.first_is in
      let second = alike_sort o same sorts.first sorts.second Boolean sorts.gives first in
      (sorts.first_is ∙ ap Some first, sorts.second_is ∙ ap Some second)

  negated : (a : Term) → IsFormula (Prefix sign.Not a) → IsFormula a
  unfolding sort_of_prefix
  negated a h = let is = one_sort (sort_of_prefix sign.Not) (sort_of types a) Boolean (sym (fold-Prefix (sort_step types) sign.Not a) ∙ h) in is.only_is ∙ ap Some (by_sort is.only is.gives) where
    by_sort : (m : Sort) → sort_of_prefix sign.Not m ≡ Some Boolean → m ≡ Boolean
    by_sort Boolean h = refl
    by_sort Integer h = absurd (cc)
    by_sort (Composite id) h = absurd (cc)

  -- a number in a range
  ranges : (t low high : Term) → IsNumeral t → IsNumeral low → IsNumeral high → AllByRecursion IsFormula (from_to t low high)
  unfolding sort_of_op
  ranges t low high p q r = (on_numbers op.GreaterOrEqual t low Boolean refl p q, (on_numbers op.LessOrEqual t high Boolean refl p r, tt))

  range : (t low high : Term) → IsNumeral t → IsNumeral low → IsNumeral high → IsFormula (in_range t low high)
  unfolding sort_of_op
  range t low high p q r =
      let both = ranges t low high p q r in
      on_formulas op.And (Infix op.GreaterOrEqual t low) (Infix op.LessOrEqual t high) refl both.0 both.1.0

  record Quantified (d : BoundVariable) (low high body : Term) : Type 0 where
    low_sort : IsNumeral low
    high_sort : IsNumeral high
    opened_sort : (t : Term) → IsNumeral t → IsFormula (opened t body)

  quantified : (q : Quantifier) (d : BoundVariable) (low high body : Term) → stands_alone (Ternary (ternary.Quantified q d) low high body) ≡ true → IsFormula (Ternary (ternary.Quantified q d) low high body) → Quantified d low high body
  quantified q d low high body alone h =
      let o = ternary.Quantified q d in
      let three = three_sorts (sort_of_ternary types o) (sort_of types low) (sort_of types high) (sort_of types body) Boolean (sym (fold-Ternary (sort_step types) o low high body) ∙ h) in
      let parts = quantifies q d three.first three.second three.third Boolean three.gives in
      record {
        low_sort = three.first_is ∙ ap Some parts.low;
        high_sort = three.second_is ∙ ap Some parts.high;
        opened_sort = λ t number. opened_sort types t number (d ∷ []) body (scoped_parts q d low high body alone).body_scoped ∙ three.third_is ∙ ap Some parts.body;
      }

  -- ---- readings of updated arrays

  position : (m n : ℕ) → Composite m ≡ Composite n → m ≡ n
  position m n h = cc

  shape_there : (a b : Shape) → ◌≡◌ {A = Option Shape} (Some a) (Some b) → a ≡ b
  shape_there a b h = cc

  -- what an array takes has the sort of its elements
  item_sort : (array : ArrayType) (id : ℕ) (k : Sort) → id ≡ array.position → is_array types array ≡ true → element_takes types id k ≡ true → k ≡ sort_in array.element
  item_sort array id k same is h =
      let said = (array_type_is types array is).said in
      let taken = takes_is types (element_shape (types id)) k h in
      let look : taken.look ≡ shape_of types array.element = shape_there taken.look (shape_of types array.element) (sym taken.is ∙ ap (λ id. element_shape (types id)) same ∙ said.is) in
      sym taken.sorted ∙ ap sort_of_shape look ∙ said.sorted

  -- the parts of `A[i => e][j]`
  record ReadingSorts (array : ArrayType) (id : ℕ) (a i e j : Term) : Type 0 where
    index : IsNumeral i
    at : IsNumeral j
    item : sort_of types e ≡ sort_of types (Binary (binary.Element array) (Ternary (ternary.Update id) a i e) j)
    before : sort_of types (Binary (binary.Element array) a j) ≡ sort_of types (Binary (binary.Element array) (Ternary (ternary.Update id) a i e) j)

  reading_sorts : (array : ArrayType) (id : ℕ) (a i e j : Term) (m : Sort) → sort_of types (Binary (binary.Element array) (Ternary (ternary.Update id) a i e) j) ≡ Some m → ReadingSorts array id a i e j
  reading_sorts array id a i e j m h =
      let update = Ternary (ternary.Update id) a i e in
      let two = two_sorts (sort_of_binary types (binary.Element array)) (sort_of types update) (sort_of types j) m (sym (fold-Binary (sort_step types) (binary.Element array) update j) ∙ h) in
      let read = reads array two.first two.second m two.gives in
      let three = three_sorts (sort_of_ternary types (ternary.Update id)) (sort_of types a) (sort_of types i) (sort_of types e) two.first (sym (fold-Ternary (sort_step types) (ternary.Update id) a i e) ∙ two.first_is) in
      let updated = updates id three.first three.second three.third two.first three.gives in
      let same : id ≡ array.position = position id array.position (sym updated.of ∙ sym updated.whole ∙ read.of) in
      let item = item_sort array id three.third same read.said updated.item in
      record {
        index = three.second_is ∙ ap Some updated.index;
        at = two.second_is ∙ ap Some read.index;
        item = three.third_is ∙ ap Some (item ∙ sym read.element) ∙ sym h;
        before = fold-Binary (sort_step types) (binary.Element array) a j ∙ ap₂ (both (sort_of_binary types (binary.Element array))) (three.first_is ∙ ap Some (sym updated.whole)) two.second_is ∙ two.gives ∙ sym h;
      }

  -- ---- answers

  abbrev Keeps : Answer → Type 0
  Keeps answer = (left : List Sequent) → answer ≡ Ok left → AllByRecursion (Sorted types) left

  keeps_fault : (fault : StepFault) → Keeps (Err fault)
  keeps_fault fault left h = absurd (cc)

  keeps_refused : Keeps refused
  keeps_refused = keeps_fault DoesNotApply

  ok_is : (xs ys : List Sequent) → ◌≡◌ {A = Answer} (Ok xs) (Ok ys) → xs ≡ ys
  ok_is xs ys h = cc

  keeps_ok : (xs : List Sequent) → AllByRecursion (Sorted types) xs → Keeps (Ok xs)
  keeps_ok xs all left h = subst (AllByRecursion (Sorted types)) (ok_is xs left h) all

  keeps_if : (test : Bool) (answer : Answer) → (test ≡ true → Keeps answer) → Keeps (only_if test answer)
  keeps_if true answer f = f refl
  keeps_if false answer f = keeps_refused

  keeps_at : (o : Option Term) (f : Term → Answer) → ((t : Term) → o ≡ Some t → Keeps (f t)) → Keeps (at o f)
  keeps_at (Some t) f g = g t refl
  keeps_at None f g = keeps_refused

  keeps_closed : (test : Bool) → Keeps (only_if test (Ok []))
  keeps_closed test = keeps_if test (Ok []) (λ is. keeps_ok [] tt)

  -- ---- rules

  module _ (s : Sequent) (sorted : Sorted types s) where
    with_more : (ts : List Term) (g : Term) → AllByRecursion IsFormula ts → IsFormula g → Sorted types (with_goal g (with_hyps ts s))
    with_more ts g more goal = (all_append IsFormula s.hyps ts sorted.0 more, goal)

    goal_sorted : (g : Term) → IsFormula g → Sorted types (with_goal g s)
    goal_sorted g goal = (sorted.0, goal)

    hyp_sorted : (t : Term) → IsFormula t → Sorted types (with_hyp t s)
    hyp_sorted t h = with_more (t ∷ []) s.goal (h, tt) sorted.1

    hyp_sort : (n : ℤ) (h : Term) → hyp_at s n ≡ Some h → IsFormula h
    hyp_sort n h is = hyp_has types s IsFormula n h is sorted.0

    split_keeps : (o : TermOp) (a b : Term) → IsFormula (Infix o a b) → Keeps (split_infix o s a b)
    unfolding sort_of_op
    split_keeps op.And a b h = let p = formulas op.And refl a b h in keeps_ok _ (goal_sorted a p.0, (goal_sorted b p.1, tt))
    split_keeps op.Equivalent a b h =
        let p = formulas op.Equivalent refl a b h in
        keeps_ok _ (goal_sorted (Infix op.Implies a b) (on_formulas op.Implies a b refl p.0 p.1), (goal_sorted (Infix op.Implies b a) (on_formulas op.Implies b a refl p.1 p.0), tt))
    split_keeps op.Equal a b h =
        keeps_if (is_numeric a) _ (λ numeric.
        let p = numerals op.Equal refl a b h numeric in
        keeps_ok _ (goal_sorted (Infix op.LessOrEqual a b) (on_numbers op.LessOrEqual a b Boolean refl p.0 p.1), (goal_sorted (Infix op.GreaterOrEqual a b) (on_numbers op.GreaterOrEqual a b Boolean refl p.0 p.1), tt)))
    split_keeps _ a b h = keeps_refused

    pick_keeps : (left : Bool) (o : TermOp) (a b : Term) → IsFormula (Infix o a b) → Keeps (pick_infix left o s a b)
    unfolding sort_of_op
    pick_keeps true op.Or a b h = keeps_ok _ (goal_sorted a (formulas op.Or refl a b h).0, tt)
    pick_keeps false op.Or a b h = keeps_ok _ (goal_sorted b (formulas op.Or refl a b h).1, tt)
    pick_keeps left _ a b h = keeps_refused

    intro_infix_keeps : (o : TermOp) (a b : Term) → IsFormula (Infix o a b) → Keeps (intro_infix o s a b)
    unfolding sort_of_op
    intro_infix_keeps op.Implies a b h = let p = formulas op.Implies refl a b h in keeps_ok _ (with_more (a ∷ []) b (p.0, tt) p.1, tt)
    intro_infix_keeps _ a b h = keeps_refused

    intro_prefix_keeps : (o : TermPrefix) (a : Term) → IsFormula (Prefix o a) → Keeps (intro_prefix o s a)
    intro_prefix_keeps sign.Not a h = keeps_ok _ (with_more (a ∷ []) (Truth false) (negated a h, tt) (fold-Truth (sort_step types) false), tt)
    intro_prefix_keeps _ a h = keeps_refused

    new_sort : (d : BoundVariable) → IsNumeral (Variable (new_name s d))
    unfolding new_name
    new_sort d = fold-Variable (sort_step types) (new_name s d)

    intro_all_keeps : (q : Quantifier) (d : BoundVariable) (low high body : Term) → Ternary (ternary.Quantified q d) low high body ≡ s.goal → Keeps (intro_all q d s low high body)
    intro_all_keeps quantifier.All d low high body is =
        keeps_if (stands_alone s.goal) _ (λ alone.
        let x = Variable (new_name s d) in
        let parts = quantified quantifier.All d low high body (ap stands_alone is ∙ alone) (ap (sort_of types) is ∙ sorted.1) in
        keeps_ok _ (with_more (from_to x low high) (opened x body) (ranges x low high (new_sort d) parts.low_sort parts.high_sort) (parts.opened_sort x (new_sort d)), tt))
    intro_all_keeps quantifier.Some d low high body is = keeps_refused

    use_some_keeps : (q : Quantifier) (d : BoundVariable) (h low high body : Term) → Ternary (ternary.Quantified q d) low high body ≡ h → IsFormula h → Keeps (use_some q d s h low high body)
    use_some_keeps quantifier.Some d h low high body is sort =
        keeps_if (stands_alone h) _ (λ alone.
        let x = Variable (new_name s d) in
        let parts = quantified quantifier.Some d low high body (ap stands_alone is ∙ alone) (ap (sort_of types) is ∙ sort) in
        let more = all_append IsFormula s.hyps (from_to x low high) sorted.0 (ranges x low high (new_sort d) parts.low_sort parts.high_sort) in
        keeps_ok _ ((all_append IsFormula (s.hyps ++ from_to x low high) (opened x body ∷ []) more (parts.opened_sort x (new_sort d), tt), sorted.1), tt))
    use_some_keeps quantifier.All d h low high body is sort = keeps_refused

    inst_all_keeps : (q : Quantifier) (d : BoundVariable) (t h low high body : Term) → IsNumeral t → Ternary (ternary.Quantified q d) low high body ≡ h → IsFormula h → Keeps (inst_all q s t h low high body)
    inst_all_keeps quantifier.All d t h low high body number is sort =
        keeps_if (stands_alone h) _ (λ alone.
        let parts = quantified quantifier.All d low high body (ap stands_alone is ∙ alone) (ap (sort_of types) is ∙ sort) in
        keeps_ok _ (goal_sorted (in_range t low high) (range t low high number parts.low_sort parts.high_sort), (hyp_sorted (opened t body) (parts.opened_sort t number), tt)))
    inst_all_keeps quantifier.Some d t h low high body number is sort = keeps_refused

    give_some_keeps : (q : Quantifier) (d : BoundVariable) (t low high body : Term) → IsNumeral t → Ternary (ternary.Quantified q d) low high body ≡ s.goal → Keeps (give_some q s t low high body)
    give_some_keeps quantifier.Some d t low high body number is =
        keeps_if (stands_alone s.goal) _ (λ alone.
        let parts = quantified quantifier.Some d low high body (ap stands_alone is ∙ alone) (ap (sort_of types) is ∙ sorted.1) in
        keeps_ok _ (goal_sorted (in_range t low high) (range t low high number parts.low_sort parts.high_sort), (goal_sorted (opened t body) (parts.opened_sort t number), tt)))
    give_some_keeps quantifier.All d t low high body number is = keeps_refused

    cases_keeps : (o : TermOp) (a b : Term) → IsFormula (Infix o a b) → Keeps (cases_infix o s a b)
    unfolding sort_of_op
    cases_keeps op.Or a b h = let p = formulas op.Or refl a b h in keeps_ok _ (hyp_sorted a p.0, (hyp_sorted b p.1, tt))
    cases_keeps op.NotEqual a b h =
        keeps_if (is_numeric a) _ (λ numeric.
        let p = numerals op.NotEqual not_equal_alike a b h numeric in
        keeps_ok _ (hyp_sorted (Infix op.Less a b) (on_numbers op.Less a b Boolean refl p.0 p.1), (hyp_sorted (Infix op.Greater a b) (on_numbers op.Greater a b Boolean refl p.0 p.1), tt)))
    cases_keeps _ a b h = keeps_refused

    use_infix_keeps : (o : TermOp) (a b : Term) → IsFormula (Infix o a b) → Keeps (use_infix o s a b)
    unfolding sort_of_op
    use_infix_keeps op.And a b h = let p = formulas op.And refl a b h in keeps_ok _ (with_more (a ∷ b ∷ []) s.goal (p.0, (p.1, tt)) sorted.1, tt)
    use_infix_keeps op.Implies a b h = let p = formulas op.Implies refl a b h in keeps_ok _ (goal_sorted a p.0, (hyp_sorted b p.1, tt))
    use_infix_keeps op.Equivalent a b h =
        let p = formulas op.Equivalent refl a b h in
        keeps_ok _ (with_more (Infix op.Implies a b ∷ Infix op.Implies b a ∷ []) s.goal (on_formulas op.Implies a b refl p.0 p.1, (on_formulas op.Implies b a refl p.1 p.0, tt)) sorted.1, tt)
    use_infix_keeps _ a b h = keeps_refused

    use_prefix_keeps : (o : TermPrefix) (a : Term) → IsFormula (Prefix o a) → Keeps (use_prefix o s a)
    use_prefix_keeps sign.Not a h = keeps_ok _ (goal_sorted a (negated a h), tt)
    use_prefix_keeps _ a h = keeps_refused

    -- ---- rules by the form of a term

    split_in_keeps : (layer : Term-F Term) → IsFormula (roll-Term layer) → Keeps (split_in s layer)
    split_in_keeps (Term-F.Infix o a b) h = split_keeps o a b (ap (sort_of types) (sym (rolls-Infix o a b)) ∙ h)
    split_in_keeps _ h = keeps_refused

    pick_in_keeps : (left : Bool) (layer : Term-F Term) → IsFormula (roll-Term layer) → Keeps (pick_in left s layer)
    pick_in_keeps left (Term-F.Infix o a b) h = pick_keeps left o a b (ap (sort_of types) (sym (rolls-Infix o a b)) ∙ h)
    pick_in_keeps left _ h = keeps_refused

    intro_in_keeps : (layer : Term-F Term) → roll-Term layer ≡ s.goal → Keeps (intro_in s layer)
    intro_in_keeps (Term-F.Infix o a b) is = intro_infix_keeps o a b (ap (sort_of types) (sym (rolls-Infix o a b) ∙ is) ∙ sorted.1)
    intro_in_keeps (Term-F.Prefix o a) is = intro_prefix_keeps o a (ap (sort_of types) (sym (rolls-Prefix o a) ∙ is) ∙ sorted.1)
    intro_in_keeps (Term-F.Ternary (ternary.Quantified q d) a b c) is = intro_all_keeps q d a b c (sym (rolls-Ternary (ternary.Quantified q d) a b c) ∙ is)
    intro_in_keeps (Term-F.Ternary (ternary.Update t) a b c) is = keeps_refused
    intro_in_keeps _ is = keeps_refused

    cases_in_keeps : (layer : Term-F Term) → IsFormula (roll-Term layer) → Keeps (cases_in s layer)
    cases_in_keeps (Term-F.Infix o a b) h = cases_keeps o a b (ap (sort_of types) (sym (rolls-Infix o a b)) ∙ h)
    cases_in_keeps _ h = keeps_refused

    use_in_keeps : (h : Term) → IsFormula h → (layer : Term-F Term) → roll-Term layer ≡ h → Keeps (use_in s h layer)
    use_in_keeps h sort (Term-F.Infix o a b) is = use_infix_keeps o a b (ap (sort_of types) (sym (rolls-Infix o a b) ∙ is) ∙ sort)
    use_in_keeps h sort (Term-F.Prefix o a) is = use_prefix_keeps o a (ap (sort_of types) (sym (rolls-Prefix o a) ∙ is) ∙ sort)
    use_in_keeps h sort (Term-F.Ternary (ternary.Quantified q d) a b c) is = use_some_keeps q d h a b c (sym (rolls-Ternary (ternary.Quantified q d) a b c) ∙ is) sort
    use_in_keeps h sort (Term-F.Ternary (ternary.Update t) a b c) is = keeps_refused
    use_in_keeps h sort _ is = keeps_refused

    inst_in_keeps : (t h : Term) → IsNumeral t → IsFormula h → (layer : Term-F Term) → roll-Term layer ≡ h → Keeps (inst_in s t h layer)
    inst_in_keeps t h number sort (Term-F.Ternary (ternary.Quantified q d) a b c) is = inst_all_keeps q d t h a b c number (sym (rolls-Ternary (ternary.Quantified q d) a b c) ∙ is) sort
    inst_in_keeps t h number sort (Term-F.Ternary (ternary.Update id) a b c) is = keeps_refused
    inst_in_keeps t h number sort _ is = keeps_refused

    give_in_keeps : (t : Term) → IsNumeral t → (layer : Term-F Term) → roll-Term layer ≡ s.goal → Keeps (give_in s t layer)
    give_in_keeps t number (Term-F.Ternary (ternary.Quantified q d) a b c) is = give_some_keeps q d t a b c number (sym (rolls-Ternary (ternary.Quantified q d) a b c) ∙ is)
    give_in_keeps t number (Term-F.Ternary (ternary.Update id) a b c) is = keeps_refused
    give_in_keeps t number _ is = keeps_refused

    numeral : (t : Term) → SomeSort types t → is_numeric t ≡ true → IsNumeral t
    numeral t some numeric = some.1 ∙ ap Some (integral types t some.0 numeric some.1)

    -- ---- rewrite

    goal_keeps : (t : Option Term) → ((r : Term) → t ≡ Some r → IsFormula r) → Keeps (rewrite_goal s t)
    goal_keeps (Some r) f = keeps_ok _ (goal_sorted r (f r refl), tt)
    goal_keeps None f = keeps_refused

    hyp_keeps : (t : Option Term) → ((r : Term) → t ≡ Some r → IsFormula r) → Keeps (rewrite_hyp s t)
    hyp_keeps (Some r) f = keeps_ok _ (hyp_sorted r (f r refl), tt)
    hyp_keeps None f = keeps_refused

    rewrite_keeps : (o : TermOp) (m : Option ℤ) (a b : Term) → IsFormula (Infix o a b) → Keeps (rewrite_by o s m a b)
    rewrite_keeps op.Equal m a b h = by_place m where
      sorts : sort_of types a ≡ sort_of types b
      sorts =
          let two = two_sorts (sort_of_op op.Equal) (sort_of types a) (sort_of types b) Boolean (sym (fold-Infix (sort_step types) op.Equal a b) ∙ h) in
          two.first_is ∙ ap Some (one_sort_of two.first two.second Boolean two.gives) ∙ sym two.second_is

      by_place : (m : Option ℤ) → Keeps (rewrite_by op.Equal s m a b)
      by_place None = goal_keeps (rewritten a b s.goal) (λ r e. rewritten_sort types a b sorts s.goal r e ∙ sorted.1)
      by_place (Some k) = keeps_at (hyp_at s k) _ (λ t there. hyp_keeps (rewritten a b t) (λ r e. rewritten_sort types a b sorts t r e ∙ hyp_sort k t there))
    rewrite_keeps _ m a b h = keeps_refused

    rewrite_in_keeps : (m : Option ℤ) (layer : Term-F Term) → IsFormula (roll-Term layer) → Keeps (rewrite_in s m layer)
    rewrite_in_keeps m (Term-F.Infix o a b) h = keeps_if (stands_alone a && stands_alone b) _ (λ scoped. rewrite_keeps o m a b (ap (sort_of types) (sym (rolls-Infix o a b)) ∙ h))
    rewrite_in_keeps m _ h = keeps_refused

    -- ---- linear

    refuted_keeps : (o : Option Bool) → Keeps (refuted_by o)
    refuted_keeps (Some true) = keeps_ok [] tt
    refuted_keeps (Some false) = keeps_refused
    refuted_keeps None = keeps_fault TooWide

    forms_keep : (ns : List ℤ) (o : Option (List Form)) → Keeps (by_forms ns o)
    forms_keep ns (Some fs) = refuted_keeps (refutation fs ns)
    forms_keep ns None = keeps_fault TooWide

    terms_keep : (ns : List ℤ) (o : Option (List Term)) → Keeps (by_terms ns o)
    terms_keep ns (Some ts) = forms_keep ns (forms_of ts)
    terms_keep ns None = keeps_refused

    linear_keeps : (es : List Entry) → Keeps (certified s es)
    unfolding certified
    linear_keeps es = terms_keep _ (all_listed s es)

    -- ---- elem

    found_keeps : (spot : Spot) → IsSpot types s.goal spot → Keeps (elem_at s (Some spot))
    unfolding sort_of_op
    found_keeps spot is =
        let r = spot.reading in
        let update = Ternary (ternary.Update is.id) r.of r.index r.item in
        let before = Binary (binary.Element r.array) r.of r.at in
        let whole = is.sorted Boolean sorted.1 in
        let parts = reading_sorts r.array is.id r.of r.index r.item r.at whole.0 whole.1 in
        let goal : IsFormula (spot.around (Binary (binary.Element r.array) update r.at)) = ap (sort_of types) is.whole ∙ sorted.1 in
        let item_goal : IsFormula (spot.around r.item) = is.sorts r.item (Binary (binary.Element r.array) update r.at) parts.item ∙ goal in
        let before_goal : IsFormula (spot.around before) = is.sorts before (Binary (binary.Element r.array) update r.at) parts.before ∙ goal in
        let low = number_sort r.array.first in
        let high = number_sort r.array.last in
        let equal = on_numbers op.Equal r.index r.at Boolean refl parts.index parts.at in
        let apart = on_numbers op.NotEqual r.index r.at Boolean refl parts.index parts.at in
        keeps_ok _ (
          goal_sorted (in_range r.index (Number r.array.first) (Number r.array.last)) (range r.index (Number r.array.first) (Number r.array.last) parts.index low high),
          (with_more (Infix op.Equal r.index r.at ∷ []) (spot.around r.item) (equal, tt) item_goal, (with_more (Infix op.NotEqual r.index r.at ∷ []) (spot.around before) (apart, tt) before_goal, tt)),
        )

    elem_keeps : (o : Option Spot) → spot_of s.goal ≡ o → Keeps (elem_at s o)
    elem_keeps (Some spot) is = found_keeps spot (spot_is types s.goal spot is)
    elem_keeps None is = keeps_refused

    -- ---- div

    operands_keep : (a b : Term) → IsNumeral a → IsNumeral b → Keeps (div_by s (Some (record { dividend = a; divisor = b })))
    unfolding sort_of_op sort_of_prefix
    operands_keep a b p q =
        let z = number_sort (pos 0) in
        let quotient = on_numbers op.Divide a b Integer refl p q in
        let rest = on_numbers op.Rem a b Integer refl p q in
        let modulus = on_numbers op.Mod a b Integer refl p q in
        let compare = λ (o : TermOp) (x y : Term) (h : sort_of_op o Integer Integer ≡ Some Boolean) (i : IsNumeral x) (j : IsNumeral y). on_numbers o x y Boolean h i j in
        let absolute = λ (x : Term) (i : IsNumeral x). let e : IsNumeral (Prefix sign.Abs x) = fold-Prefix (sort_step types) sign.Abs x ∙ ap (one (sort_of_prefix sign.Abs)) i in e in
        keeps_ok _ (
          goal_sorted (Infix op.NotEqual b zero_term) (compare op.NotEqual b zero_term refl q z),
          (
            with_more (division_facts a b) s.goal (
              compare op.Equal a _ refl p (on_numbers op.Add _ _ Integer refl (on_numbers op.Multiply b _ Integer refl q quotient) rest),
              (
                compare op.Less _ _ refl (absolute _ rest) (absolute _ q),
                (
                  on_formulas op.Implies _ _ refl (compare op.GreaterOrEqual a zero_term refl p z) (compare op.GreaterOrEqual _ zero_term refl rest z),
                  (
                    on_formulas op.Implies _ _ refl (compare op.LessOrEqual a zero_term refl p z) (compare op.LessOrEqual _ zero_term refl rest z),
                    (
                      on_formulas op.Implies _ _ refl (compare op.Greater b zero_term refl q z) (on_formulas op.And _ _ refl (compare op.GreaterOrEqual _ zero_term refl modulus z) (compare op.Less _ b refl modulus q)),
                      (
                        on_formulas op.Implies _ _ refl (compare op.Less b zero_term refl q z) (on_formulas op.And _ _ refl (compare op.LessOrEqual _ zero_term refl modulus z) (compare op.Greater _ b refl modulus q)),
                        (on_formulas op.Or _ _ refl (compare op.Equal _ _ refl modulus rest) (compare op.Equal _ _ refl modulus (on_numbers op.Add _ b Integer refl rest q)), tt),
                      ),
                    ),
                  ),
                ),
              ),
            )
                sorted.1,
            tt,
          ),
        )

    numbers : (o : TermOp) → sort_of_op o ≡ integers Integer → (a b : Term) (m : Sort) → sort_of types (Infix o a b) ≡ Some m → IsNumeral a × IsNumeral b
    numbers o same a b m h =
        let sorts = two_sorts (sort_of_op o) (sort_of types a) (sort_of types b) m (sym (fold-Infix (sort_step types) o a b) ∙ h) in
        let p = from_integers Integer sorts.first sorts.second m (ap (λ (f : Sort → Sort → Option Sort). f sorts.first sorts.second) (sym same) ∙ sorts.gives) in
        (sorts.first_is ∙ ap Some p.0, sorts.second_is ∙ ap Some p.1)

    divides_keeps : (o : TermOp) (a b : Term) (m : Sort) → sort_of types (Infix o a b) ≡ Some m → Keeps (div_by s (divides o a b))
    unfolding sort_of_op
    divides_keeps op.Divide a b m h = let p = numbers op.Divide refl a b m h in operands_keep a b p.0 p.1
    divides_keeps op.Rem a b m h = let p = numbers op.Rem refl a b m h in operands_keep a b p.0 p.1
    divides_keeps op.Mod a b m h = let p = numbers op.Mod refl a b m h in operands_keep a b p.0 p.1
    divides_keeps _ a b m h = keeps_refused

    division_in_keeps : (m : Sort) (layer : Term-F Term) → sort_of types (roll-Term layer) ≡ Some m → Keeps (div_by s (division_in layer))
    division_in_keeps m (Term-F.Infix o a b) h = divides_keeps o a b m (ap (sort_of types) (sym (rolls-Infix o a b)) ∙ h)
    division_in_keeps m _ h = keeps_refused

    div_keeps : (t : Term) → SomeSort types t → Keeps (div_by s (division t))
    unfolding division
    div_keeps t some = division_in_keeps some.0 (out-Term t) (ap (sort_of types) (roll-out-Term t) ∙ some.1)

    -- ---- all rules

    rolled : (t : Term) → IsFormula t → IsFormula (roll-Term (out-Term t))
    rolled t h = ap (sort_of types) (roll-out-Term t) ∙ h

    all_keep : (r : Rule) → RuleSorted types r → Keeps (step s r)
    unfolding step
    all_keep (rule.Hyp n) w = keeps_at (hyp_at s n) _ (λ h is. keeps_closed (same_term (folded h) (folded s.goal)))
    all_keep rule.Plain w = keeps_closed (closes s.hyps s.goal)
    all_keep rule.Split w = split_in_keeps (out-Term s.goal) (rolled s.goal sorted.1)
    all_keep rule.Intro w = intro_in_keeps (out-Term s.goal) (roll-out-Term s.goal)
    all_keep rule.PickLeft w = pick_in_keeps true (out-Term s.goal) (rolled s.goal sorted.1)
    all_keep rule.PickRight w = pick_in_keeps false (out-Term s.goal) (rolled s.goal sorted.1)
    all_keep (rule.Cases n) w = keeps_at (hyp_at s n) _ (λ h is. cases_in_keeps (out-Term h) (rolled h (hyp_sort n h is)))
    all_keep (rule.UseHyp n) w = keeps_at (hyp_at s n) _ (λ h is. use_in_keeps h (hyp_sort n h is) (out-Term h) (roll-out-Term h))
    all_keep (rule.Cut t) w =
        keeps_if (is_boolean t && may_stand s t) _
        (λ may. let formula = truthful t w (and_parts (is_boolean t) (may_stand s t) may).0 in keeps_ok _ (goal_sorted t formula, (hyp_sorted t formula, tt)))
    all_keep (rule.Inst n t) w =
        keeps_if (is_numeric t && may_stand s t) _
        (λ may. let number = numeral t w (and_parts (is_numeric t) (may_stand s t) may).0 in
        keeps_at (hyp_at s n) _ (λ h is. inst_in_keeps t h number (hyp_sort n h is) (out-Term h) (roll-out-Term h)))
    all_keep (rule.Give t) w =
        keeps_if (is_numeric t && may_stand s t) _
        (λ may. give_in_keeps t (numeral t w (and_parts (is_numeric t) (may_stand s t) may).0) (out-Term s.goal) (roll-out-Term s.goal))
    all_keep (rule.Rewrite n m) w = keeps_at (hyp_at s n) _ (λ h is. rewrite_in_keeps m (out-Term h) (rolled h (hyp_sort n h is)))
    all_keep (rule.Linear es) w = linear_keeps es
    all_keep rule.Elem w = elem_keeps (spot_of s.goal) refl
    all_keep (rule.Div t) w = keeps_if (stands_alone t) _ (λ is. div_keeps t w)

pub steps_keep : StepKeepsSorts
steps_keep types s r sorted w left h = all_keep types s sorted r w left h
