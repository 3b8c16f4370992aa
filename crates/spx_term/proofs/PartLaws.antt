-- Terms mean parts of values, which lie in their types and are replaced one by one.
use Rattle.std.proofs.Common.{◌≡◌, ℕ, ℤ, Bool, true, false, ◌&&◌, ◌==◌, Option, Some, List, [], ◌∷◌, map, refl, sym, ap, ap₂, ◌∙◌, subst, inl, inr, arith}
use Rattle.std.proofs.lemmas.Bool.Decides.{nat_tests}
use Rattle.spx_term.specs.declared.term.Sort.{Sort}
use Rattle.spx_term.specs.declared.term.Sort.TheVariants.{Integer, Composite}
use Rattle.spx_term.specs.declared.term.ArrayType.{ArrayType}
use Rattle.spx_term.specs.declared.term.Component.{Component}
use Rattle.spx_term.specs.declared.term.Component.TheVariants as component
use Rattle.spx_term.specs.declared.term.FieldName.{FieldName}
use Rattle.spx_term.specs.declared.term.UnaryOp.TheVariants as unary
use Rattle.spx_term.specs.declared.term.BinaryOp.TheVariants as binary
use Rattle.spx_term.specs.declared.term.TernaryOp.TheVariants as ternary
use Rattle.spx_term.specs.declared.term.Term.{Term}
use Rattle.spx_term.specs.declared.value.Shape.{Shape}
use Rattle.spx_term.specs.declared.value.Value.{Value}
use Rattle.spx_term.specs.Values.{Types, shape_of, first_of, has_first, lies_between, is_in, with_elements, with_field}
use Rattle.spx_term.specs.Sorts.{asked, sort_in, sort_of_shape, element_shape, field_shape, looks, takes, element_takes, field_takes, is_array, is_field, sort_of_unary, sort_of_binary, sort_of_ternary, one, both, three, sort_step, sort_of}
use Rattle.spx_term.specs.Meaning.{Valuation, value_of, value_of_unary, value_of_binary}
use Rattle.spx_term.specs.Parts.{Step, indexed, selected, part_of, with_part, at_end, with_end, TermStep, indexed_by, selecting, step_in, part_term, with_part_term, end_term, with_end_term, PartsAreMeant, LeadsTo, AreSorted, PartsAreSorted, Leads, IsReplaced, PartsAreReplaced, Differ, Diverge, OtherPartsStay}
use Rattle.spx_term.proofs.Equality.{same_shape-Decides, same_sort-Decides}
use Rattle.spx_term.proofs.Terms.{fold-Unary, fold-Binary, fold-Ternary, value-Unary, value-Binary, value-Ternary}
use Rattle.spx_term.proofs.ValueLaws.{ArrayValue, element_passes, with_elements_pass, read_outside, read_inside, RecordValue, field_is_in, with_field_pass, read_field, read_other_field, first_is_in}
use Rattle.spx_term.proofs.CompositeLaws.{array_passes, array_is_in, RecordShape, record_shape, record_passes, record_is_in, SaidOf, component_is, array_type_is, array_of}
use Rattle.spx_term.proofs.FoldingLaws.{apart_lies, lies_itself}

-- ---- terms

module _ (types : Types) (v : Valuation) where
  part_means : (step : TermStep) (a : Term) → value_of types v (part_term step a) ≡ part_of types (step_in types v step) (value_of types v a)
  unfolding value_of_binary
  part_means (indexed_by t i) a = value-Binary types v (binary.Element t) a i
  part_means (selecting f c) a = value-Unary types v (unary.Field f c) a

  with_part_means : (step : TermStep) (a e : Term) → value_of types v (with_part_term step a e) ≡ with_part (step_in types v step) (value_of types v a) (value_of types v e)
  unfolding value_of_binary
  with_part_means (indexed_by t i) a e = value-Ternary types v (ternary.Update t.position) a i e
  with_part_means (selecting f c) a e = value-Binary types v (binary.Update f) a e

  part_meant : (way : List TermStep) (a : Term) → value_of types v (end_term way a) ≡ at_end types (map (step_in types v) way) (value_of types v a)
  part_meant [] a = refl
  part_meant (step ∷ way) a = part_meant way (part_term step a) ∙ ap (at_end types (map (step_in types v) way)) (part_means step a)

  whole_meant : (way : List TermStep) (a e : Term) → value_of types v (with_end_term way a e) ≡ with_end types (map (step_in types v) way) (value_of types v a) (value_of types v e)
  whole_meant [] a e = refl
  whole_meant (step ∷ way) a e =
      with_part_means step a (with_end_term way (part_term step a) e)
      ∙ ap (with_part (step_in types v step) (value_of types v a))
      (whole_meant way (part_term step a) e ∙ ap (λ u. with_end types (map (step_in types v) way) u (value_of types v e)) (part_means step a))

pub parts_are_meant : PartsAreMeant
parts_are_meant types v way a e = record { part = part_meant types v way a; whole = whole_meant types v way a e }

-- ---- sorts

module _ (types : Types) where
  looks_so : (c : Component) → looks types (shape_of types c) (sort_in c) ≡ true
  looks_so (component.Integer low high) = refl
  looks_so component.Boolean = refl
  looks_so (component.Composite id) = (same_shape-Decides (types id) (types id)).1 refl

  -- a component takes terms of its sort
  took : (option : Option Shape) (c : Component) → SaidOf types option c → takes types option (sort_in c) ≡ true
  took option c said =
      ap (λ o. takes types o (sort_in c)) said.is
      ∙ ap₂ ◌&&◌ ((same_sort-Decides (sort_of_shape (shape_of types c)) (sort_in c)).1 said.sorted) (looks_so c)

  same_and : (n : ℕ) (b : Bool) → b ≡ true → (n == n && b) ≡ true
  same_and n b h = let same : (n == n) ≡ true = grind (arith, nat_tests) in ap₂ ◌&&◌ same h

  element_sorted : (t : ArrayType) (a i : Term) → is_array types t ≡ true → sort_of types a ≡ Some (Composite t.position) → sort_of types i ≡ Some Integer → sort_of types (part_term (indexed_by t i) a) ≡ Some (sort_in t.element)
  unfolding sort_of_binary
  element_sorted t a i ok whole index =
      fold-Binary (sort_step types) (binary.Element t) a i
      ∙ (λ k. both (sort_of_binary types (binary.Element t)) (whole k) (index k))
      ∙ ap (λ b. asked b (sort_in t.element)) (same_and t.position (is_array types t) ok)

  updated_sorted : (t : ArrayType) (a i e : Term) → is_array types t ≡ true → sort_of types a ≡ Some (Composite t.position) → sort_of types i ≡ Some Integer → sort_of types e ≡ Some (sort_in t.element)
      → sort_of types (with_part_term (indexed_by t i) a e) ≡ Some (Composite t.position)
  unfolding sort_of_ternary
  updated_sorted t a i e ok whole index part =
      fold-Ternary (sort_step types) (ternary.Update t.position) a i e
      ∙ (λ k. three (sort_of_ternary types (ternary.Update t.position)) (whole k) (index k) (part k))
      ∙ ap (λ b. asked b (Composite t.position))
      (same_and t.position (element_takes types t.position (sort_in t.element)) (took (element_shape (types t.position)) t.element (array_type_is types t ok).said))

  field_sorted : (f : FieldName) (c : Component) (a : Term) → is_field types f c ≡ true → sort_of types a ≡ Some (Composite f.position) → sort_of types (part_term (selecting f c) a) ≡ Some (sort_in c)
  unfolding sort_of_unary
  field_sorted f c a ok whole =
      fold-Unary (sort_step types) (unary.Field f c) a
      ∙ ap (one (sort_of_unary types (unary.Field f c))) whole
      ∙ ap (λ b. asked b (sort_in c)) (same_and f.position (is_field types f c) ok)

  field_put_sorted : (f : FieldName) (c : Component) (a e : Term) → is_field types f c ≡ true → sort_of types a ≡ Some (Composite f.position) → sort_of types e ≡ Some (sort_in c) → sort_of types (with_part_term (selecting f c) a e) ≡ Some (Composite f.position)
  unfolding sort_of_binary
  field_put_sorted f c a e ok whole part =
      fold-Binary (sort_step types) (binary.Update f) a e
      ∙ (λ k. both (sort_of_binary types (binary.Update f)) (whole k) (part k))
      ∙ ap (λ b. asked b (Composite f.position))
      (same_and f.position (field_takes types f (sort_in c)) (took (field_shape (types f.position) f.place) c (component_is types (field_shape (types f.position) f.place) c ok)))

  sorted : (m n : Sort) (way : List TermStep) (a : Term) → LeadsTo types m way n → sort_of types a ≡ Some m → AreSorted types m n way a
  sorted m n [] a leads is = record { part = is ∙ ap Some leads; whole = λ e h. h ∙ ap Some (sym leads) }
  sorted m n (indexed_by t i ∷ way) a leads is =
      let step = indexed_by t i in
      let whole : sort_of types a ≡ Some (Composite t.position) = is ∙ ap Some leads.1 in
      let inner = sorted (sort_in t.element) n way (part_term step a) leads.3 (element_sorted t a i leads.0 whole leads.2) in
      record { part = inner.part; whole = λ e h. updated_sorted t a i (with_end_term way (part_term step a) e) leads.0 whole leads.2 (inner.whole e h) ∙ ap Some (sym leads.1) }
  sorted m n (selecting f c ∷ way) a leads is =
      let step = selecting f c in
      let whole : sort_of types a ≡ Some (Composite f.position) = is ∙ ap Some leads.1 in
      let inner = sorted (sort_in c) n way (part_term step a) leads.2 (field_sorted f c a leads.0 whole) in
      record { part = inner.part; whole = λ e h. field_put_sorted f c a (with_end_term way (part_term step a) e) leads.0 whole (inner.whole e h) ∙ ap Some (sym leads.1) }

pub parts_are_sorted : PartsAreSorted
parts_are_sorted types m n way a = sorted types m n way a

-- ---- values

module _ (types : Types) (b : Bool) where
  first_in : (bounded : Bool) (c : Component) → has_first (shape_of types c) ≡ true → is_in bounded (shape_of types c) (first_of types c) ≡ true
  first_in true c h = h
  first_in false c h = first_is_in (shape_of types c)

  module _ (a : ArrayType) (ok : is_array types a ≡ true) (s : Shape) (is : s ≡ types a.position) (u : Value) (h : is_in b s u ≡ true) where
    array_here : ArrayValue a.first a.last (is_in b (shape_of types a.element)) u
    unfolding array_of
    array_here = array_passes b (types a.position) (shape_of types a.element) (array_of types a (array_type_is types a ok)) u (subst (λ r. is_in b r u ≡ true) is h)

    element_in : (i : ℤ) → is_in b (shape_of types a.element) (part_of types (indexed a i) u) ≡ true
    unfolding value_of_binary
    element_in i = element_passes a.first a.last (is_in b (shape_of types a.element)) (first_of types a.element) i u array_here (first_in b a.element (array_type_is types a ok).said.first)

    element_put : (i : ℤ) (w : Value) → is_in b (shape_of types a.element) w ≡ true → is_in b s (with_part (indexed a i) u w) ≡ true
    unfolding array_of
    element_put i w p =
        subst (λ r. is_in b r (with_elements i i w u) ≡ true) (sym is)
        (array_is_in b (types a.position) (shape_of types a.element) (array_of types a (array_type_is types a ok)) (with_elements i i w u)
        (with_elements_pass a.first a.last (is_in b (shape_of types a.element)) i i w u array_here p))

    element_there : (i : ℤ) (w : Value) → lies_between a.first a.last i ≡ true → part_of types (indexed a i) (with_part (indexed a i) u w) ≡ w
    unfolding value_of_binary
    element_there i w range = read_inside a.first a.last (is_in b (shape_of types a.element)) u array_here (first_of types a.element) w i i i (lies_itself i) range

    element_elsewhere : (i : ℤ) (w : Value) (step : Step) → Differ (indexed a i) step → part_of types step (with_part (indexed a i) u w) ≡ part_of types step u
    unfolding value_of_binary
    element_elsewhere i w (indexed c j) differ = read_outside a.first a.last (is_in b (shape_of types a.element)) u array_here (first_of types c.element) w i i j (apart_lies i j differ)
    element_elsewhere i w (selected g d) differ = absurd differ

  module _ (f : FieldName) (c : Component) (ok : is_field types f c ≡ true) (s : Shape) (is : s ≡ types f.position) (u : Value) (h : is_in b s u ≡ true) where
    look : RecordShape (types f.position) f.place (shape_of types c)
    look = record_shape (types f.position) f.place (shape_of types c) (component_is types (field_shape (types f.position) f.place) c ok).is

    record_here : RecordValue (map (is_in b) look.fields) u
    record_here = record_passes b (types f.position) f.place (shape_of types c) look u (subst (λ r. is_in b r u ≡ true) is h)

    field_in : is_in b (shape_of types c) (part_of types (selected f c) u) ≡ true
    unfolding value_of_unary
    field_in = field_is_in b look.fields u record_here f.place (first_of types c) (shape_of types c) look.field

    field_put : (w : Value) → is_in b (shape_of types c) w ≡ true → is_in b s (with_part (selected f c) u w) ≡ true
    field_put w p =
        subst (λ r. is_in b r (with_field f.place w u) ≡ true) (sym is)
        (record_is_in b (types f.position) f.place (shape_of types c) look (with_field f.place w u) (with_field_pass b look.fields u record_here f.place w (shape_of types c) look.field p))

    field_there : (w : Value) → part_of types (selected f c) (with_part (selected f c) u w) ≡ w
    unfolding value_of_unary
    field_there w = read_field b look.fields u record_here f.place w (first_of types c) (shape_of types c) look.field

    field_elsewhere : (w : Value) (step : Step) → Differ (selected f c) step → part_of types step (with_part (selected f c) u w) ≡ part_of types step u
    unfolding value_of_unary
    field_elsewhere w (selected g d) differ = read_other_field b look.fields u record_here f.place g.place w (first_of types d) differ
    field_elsewhere w (indexed a i) differ = absurd differ

  replaced : (s t : Shape) (way : List Step) (u : Value) → Leads types s way t → is_in b s u ≡ true → IsReplaced types b s t way u
  replaced s t [] u leads h = record {
    part = subst (λ r. is_in b r u ≡ true) leads h;
    whole = λ w p. subst (λ r. is_in b r w ≡ true) (sym leads) p;
    there = λ w. refl;
  }
  replaced s t (indexed a i ∷ way) u leads h =
      let part = part_of types (indexed a i) u in
      let inner = replaced (shape_of types a.element) t way part leads.3 (element_in a leads.0 s leads.1 u h i) in
      record {
        part = inner.part;
        whole = λ w p. element_put a leads.0 s leads.1 u h i (with_end types way part w) (inner.whole w p);
        there = λ w. ap (at_end types way) (element_there a leads.0 s leads.1 u h i (with_end types way part w) leads.2) ∙ inner.there w;
      }
  replaced s t (selected f c ∷ way) u leads h =
      let part = part_of types (selected f c) u in
      let inner = replaced (shape_of types c) t way part leads.2 (field_in f c leads.0 s leads.1 u h) in
      record {
        part = inner.part;
        whole = λ w p. field_put f c leads.0 s leads.1 u h (with_end types way part w) (inner.whole w p);
        there = λ w. ap (at_end types way) (field_there f c leads.0 s leads.1 u h (with_end types way part w)) ∙ inner.there w;
      }

  -- one step further, where two ways go apart later
  later : (x y : Step) (way others : List Step) (u e : Value) → x ≡ y → part_of types x (with_part x u e) ≡ e → at_end types others e ≡ at_end types others (part_of types x u)
      → at_end types (y ∷ others) (with_part x u e) ≡ at_end types (y ∷ others) u
  later x y way others u e same there rest =
      ap (λ z. at_end types others (part_of types z (with_part x u e))) (sym same) ∙ ap (at_end types others) there ∙ rest ∙ ap (λ z. at_end types others (part_of types z u)) same

  stays : (s t : Shape) (way others : List Step) (u w : Value) → Leads types s way t → is_in b s u ≡ true → Diverge way others → at_end types others (with_end types way u w) ≡ at_end types others u
  stays s t [] others u w leads h apart = absurd apart
  stays s t (x ∷ way) [] u w leads h apart = absurd apart
  stays s t (indexed a i ∷ way) (y ∷ others) u w leads h (inl differ) =
      ap (at_end types others) (element_elsewhere a leads.0 s leads.1 u h i (with_end types way (part_of types (indexed a i) u) w) y differ)
  stays s t (indexed a i ∷ way) (y ∷ others) u w leads h (inr apart) =
      let part = part_of types (indexed a i) u in
      later (indexed a i) y way others u (with_end types way part w) apart.0 (element_there a leads.0 s leads.1 u h i (with_end types way part w) leads.2)
      (stays (shape_of types a.element) t way others part w leads.3 (element_in a leads.0 s leads.1 u h i) apart.1)
  stays s t (selected f c ∷ way) (y ∷ others) u w leads h (inl differ) =
      ap (at_end types others) (field_elsewhere f c leads.0 s leads.1 u h (with_end types way (part_of types (selected f c) u) w) y differ)
  stays s t (selected f c ∷ way) (y ∷ others) u w leads h (inr apart) =
      let part = part_of types (selected f c) u in
      later (selected f c) y way others u (with_end types way part w) apart.0 (field_there f c leads.0 s leads.1 u h (with_end types way part w))
      (stays (shape_of types c) t way others part w leads.2 (field_in f c leads.0 s leads.1 u h) apart.1)

pub parts_are_replaced : PartsAreReplaced
parts_are_replaced types bounded s t way u = replaced types bounded s t way u

pub other_parts_stay : OtherPartsStay
other_parts_stay types s t way others u w = stays types false s t way others u w
