-- A linear certificate shows its goal.
use Rattle.std.proofs.Common.{◌≡◌, Bool, true, false, not, ◌&&◌, ◌||◌, ℤ, pos, int_le, Option, Some, None, option_map, List, [], ◌∷◌, map, refl, sym, ap, ap₂, ◌∙◌, subst, if◌then◌else◌}
use Rattle.std.specs.List.{AllByRecursion}
use Rattle.std.proofs.lemmas.Bool.{and_parts}
use Rattle.std.proofs.lemmas.List.Elements.{All-from_recursion}
use Rattle.spx_term.specs.declared.condition.Sequent.{Sequent}
use Rattle.spx_term.specs.declared.term.Sort.TheVariants.{Boolean}
use Rattle.spx_term.specs.declared.term.TermPrefix.TheVariants as sign
use Rattle.spx_term.specs.declared.term.Term.{Term, Term-F, out-Term, roll-Term, roll-out-Term}
use Rattle.spx_term.specs.declared.term.Term.TheVariants.{Infix, rolls-Infix}
use Rattle.spx_term.specs.declared.value.Value.{Value}
use Rattle.spx_term.specs.declared.value.Value.TheVariants as value
use Rattle.spx_term.specs.Negation.{is_numeric, opposite}
use Rattle.spx_term.specs.Folding.{folded}
use Rattle.spx_term.specs.Sorts.{both, sort_of_op, sort_step, sort_of}
use Rattle.spx_term.specs.Values.{Types}
use Rattle.spx_term.specs.Meaning.{as_truth, value_of_prefix, value_of_op, Valuation, value_of, Holds, Respects}
use Rattle.spx_term.proofs.Terms.{fold-Infix, value-Infix}
use Rattle.spx_term.proofs.NegationLaws.{opposite_sort, opposite_value}
use Rattle.spx_term.proofs.FoldingLaws.{two_sorts, keeps_value, keeps_sort}
use Rattle.spx_linear.specs.declared.form.Form.{Form}
use Rattle.spx_linear.specs.Linear.{is_comparison, linear_form, FormHolds}
use Rattle.spx_linear.specs.Refutation.{refutation}
use Rattle.spx_linear.proofs.LinearLaws.{form_is_meant}
use Rattle.spx_linear.proofs.RefutationLaws.{refuted}
use Rattle.spx_kernel.specs.declared.rule.Entry.{Entry}
use Rattle.spx_kernel.specs.Sequents.{hyp_at, Sorted, Leads}
use Rattle.spx_kernel.specs.Certificates.{opposite_in, opposite_of, is_equation, named, listed, with_term, all_listed, with_form, forms_of, multiplier, refuted_by, by_forms, by_terms, certified}
use Rattle.spx_kernel.proofs.StepLaws.{either, Facts, valid, hyp_has}

some_is : {A : Type 0} (x y : A) → ◌≡◌ {A = Option A} (Some x) (Some y) → x ≡ y
some_is x y h = cc

-- what is mapped to something is there
record Mapped {A B : Type 0} (f : A → B) (o : Option A) (y : B) : Type 0 where
  first : A
  there : o ≡ Some first
  gives : f first ≡ y

mapped : {A B : Type 0} (f : A → B) (o : Option A) (y : B) → option_map f o ≡ Some y → Mapped f o y
mapped f (Some x) y h = record { first = x; there = refl; gives = some_is (f x) y h }
mapped f None y h = absurd (cc)

negated : (z : Value) → as_truth z ≡ false → value_of_prefix sign.Not z ≡ value.Truth true
unfolding value_of_prefix
negated z h = ap (λ b. value.Truth (not b)) h

module _ (types : Types) (s : Sequent) (sorted : Sorted types s) (v : Valuation) (respects : Respects types v) (facts : Facts types s v) (fails : as_truth (value_of types v s.goal) ≡ false) where
  -- a formula that holds
  record Fact (t : Term) : Type 0 where
    sort : sort_of types t ≡ Some Boolean
    holds : Holds types t v

  fold_fact : (t : Term) → Fact t → Fact (folded t)
  fold_fact t f = record { sort = keeps_sort types t Boolean f.sort; holds = keeps_value types v respects t Boolean f.sort ∙ f.holds }

  opposite_fact : (g : Term) → sort_of types g ≡ Some Boolean → as_truth (value_of types v g) ≡ false → (layer : Term-F Term) → roll-Term layer ≡ g → (t : Term) → opposite_in layer ≡ Some t → Fact t
  opposite_fact g sort false_is (Term-F.Infix o a b) is t h =
      let m = mapped (λ p. Infix p a b) (opposite o (is_numeric a)) t h in
      let here : Infix o a b ≡ g = sym (rolls-Infix o a b) ∙ is in
      let sorts = two_sorts (sort_of_op o) (sort_of types a) (sort_of types b) Boolean (sym (fold-Infix (sort_step types) o a b) ∙ ap (sort_of types) here ∙ sort) in
      let x = value_of types v a in
      let y = value_of types v b in
      subst Fact m.gives
      (record {
        sort = fold-Infix (sort_step types) m.first a b ∙ ap₂ (both (sort_of_op m.first)) sorts.first_is sorts.second_is ∙ opposite_sort o (is_numeric a) sorts.first sorts.second Boolean sorts.gives m.first m.there;
        holds = value-Infix types v m.first a b ∙ opposite_value o (is_numeric a) x y m.first m.there
            ∙ negated (value_of_op o x y) (ap as_truth (sym (value-Infix types v o a b) ∙ ap (value_of types v) here) ∙ false_is);
      })
  opposite_fact g sort false_is _ is t h = absurd (cc)

  named_fact : (n : Option ℤ) (t : Term) → named s n ≡ Some t → Fact t
  unfolding opposite_of
  named_fact (Some n) t h =
      let m = mapped folded (hyp_at s n) t h in
      subst Fact m.gives
      (fold_fact m.first
      (record { sort = hyp_has types s (λ h. sort_of types h ≡ Some Boolean) n m.first m.there sorted.0; holds = hyp_has types s (λ h. Holds types h v) n m.first m.there facts }))
  named_fact None t h =
      opposite_fact (folded s.goal) (keeps_sort types s.goal Boolean sorted.1) (ap as_truth (keeps_value types v respects s.goal Boolean sorted.1) ∙ fails)
      (out-Term (folded s.goal)) (roll-out-Term (folded s.goal)) t h

  -- a comparison that is listed
  record Listed (by : ℤ) (o : Option Term) (t : Term) : Type 0 where
    there : o ≡ Some t
    comparison : is_comparison t ≡ true

  listed_is : (by : ℤ) (o : Option Term) (t : Term) → listed by o ≡ Some t → Listed by o t
  listed_is by (Some u) t h = by_test (is_comparison u && (is_equation u || int_le (pos 0) by)) refl h where
    by_test : (b : Bool) → (is_comparison u && (is_equation u || int_le (pos 0) by)) ≡ b → (if b then Some u else None) ≡ Some t → Listed by (Some u) t
    by_test true is h =
        let same = some_is u t h in
        record { there = ap Some same; comparison = ap is_comparison (sym same) ∙ (and_parts (is_comparison u) (is_equation u || int_le (pos 0) by) is).0 }
    by_test false is h = absurd (cc)
  listed_is by None t h = absurd (cc)

  record Parted (o : Option Term) (os : Option (List Term)) (ts : List Term) : Type 0 where
    first : Term
    rest : List Term
    first_is : o ≡ Some first
    rest_is : os ≡ Some rest
    whole : first ∷ rest ≡ ts

  parted : (o : Option Term) (os : Option (List Term)) (ts : List Term) → with_term o os ≡ Some ts → Parted o os ts
  parted (Some t) (Some us) ts h = record { first = t; rest = us; first_is = refl; rest_is = refl; whole = some_is (t ∷ us) ts h }
  parted (Some t) None ts h = absurd (cc)
  parted None os ts h = absurd (cc)

  record Compared (t : Term) : Type 0 where
    fact : Fact t
    comparison : is_comparison t ≡ true

  all_facts : (es : List Entry) (ts : List Term) → all_listed s es ≡ Some ts → AllByRecursion Compared ts
  all_facts [] ts h = subst (AllByRecursion Compared) (some_is [] ts h) tt
  all_facts (e ∷ es) ts h =
      let p = parted (listed e.by (named s e.hyp)) (all_listed s es) ts h in
      let l = listed_is e.by (named s e.hyp) p.first p.first_is in
      subst (AllByRecursion Compared) p.whole (record { fact = named_fact e.hyp p.first l.there; comparison = l.comparison }, all_facts es p.rest p.rest_is)

  record Formed (o : Option Form) (os : Option (List Form)) (fs : List Form) : Type 0 where
    first : Form
    rest : List Form
    first_is : o ≡ Some first
    rest_is : os ≡ Some rest
    whole : first ∷ rest ≡ fs

  formed : (o : Option Form) (os : Option (List Form)) (fs : List Form) → with_form o os ≡ Some fs → Formed o os fs
  formed (Some f) (Some gs) fs h = record { first = f; rest = gs; first_is = refl; rest_is = refl; whole = some_is (f ∷ gs) fs h }
  formed (Some f) None fs h = absurd (cc)
  formed None os fs h = absurd (cc)

  forms_hold : (ts : List Term) (fs : List Form) → AllByRecursion Compared ts → forms_of ts ≡ Some fs → AllByRecursion (FormHolds types v) fs
  forms_hold [] fs all h = subst (AllByRecursion (FormHolds types v)) (some_is [] fs h) tt
  forms_hold (t ∷ ts) fs all h =
      let p = formed (linear_form t) (forms_of ts) fs h in
      subst (AllByRecursion (FormHolds types v)) p.whole
      ((form_is_meant types v respects t all.0.fact.sort all.0.comparison p.first p.first_is).0 all.0.fact.holds, forms_hold ts p.rest all.1 p.rest_is)

  contradiction : (es : List Entry) (ts : List Term) (fs : List Form) → all_listed s es ≡ Some ts → forms_of ts ≡ Some fs → refutation fs (map multiplier es) ≡ Some true → ⊥
  contradiction es ts fs p q h = refuted types v fs (map multiplier es) h (All-from_recursion (FormHolds types v) fs (forms_hold ts fs (all_facts es ts p) q))

module _ (types : Types) (s : Sequent) (sorted : Sorted types s) where
  by_refutation : (es : List Entry) (ts : List Term) (fs : List Form) → all_listed s es ≡ Some ts → forms_of ts ≡ Some fs → (o : Option Bool) → refutation fs (map multiplier es) ≡ o → Leads types s (refuted_by o)
  by_refutation es ts fs p q (Some true) is left h all =
      valid types s (λ v respects facts. either (Holds types s.goal v) (value_of types v s.goal) (λ holds. holds) (λ fails. absurd (contradiction types s sorted v respects facts fails es ts fs p q is)))
  by_refutation es ts fs p q (Some false) is left h all = absurd (cc)
  by_refutation es ts fs p q None is left h all = absurd (cc)

  by_forms_leads : (es : List Entry) (ts : List Term) → all_listed s es ≡ Some ts → (o : Option (List Form)) → forms_of ts ≡ o → Leads types s (by_forms (map multiplier es) o)
  by_forms_leads es ts p (Some fs) q left h all = by_refutation es ts fs p q (refutation fs (map multiplier es)) refl left h all
  by_forms_leads es ts p None q left h all = absurd (cc)

  by_terms_leads : (es : List Entry) (o : Option (List Term)) → all_listed s es ≡ o → Leads types s (by_terms (map multiplier es) o)
  by_terms_leads es (Some ts) p left h all = by_forms_leads es ts p (forms_of ts) refl left h all
  by_terms_leads es None p left h all = absurd (cc)

  pub certified_leads : (es : List Entry) → Leads types s (certified s es)
  unfolding certified
  certified_leads es = by_terms_leads es (all_listed s es) refl
