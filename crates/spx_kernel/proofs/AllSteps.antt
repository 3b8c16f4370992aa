-- Each step leads from valid sequents to a valid one, rule by rule.
use Rattle.std.proofs.Common.{◌≡◌, true, false, ◌&&◌, ℤ, Option, Some, None, [], ◌∷◌, refl, sym, ap, ◌∙◌, subst}
use Rattle.std.proofs.lemmas.Bool.{and_parts}
use Rattle.spx_term.specs.declared.condition.Sequent.{Sequent}
use Rattle.spx_term.specs.declared.term.TermOp.{TermOp}
use Rattle.spx_term.specs.declared.term.TermOp.TheVariants as op
use Rattle.spx_term.specs.declared.term.TernaryOp.TheVariants as ternary
use Rattle.spx_term.specs.declared.term.Term.{Term, Term-F, out-Term, roll-Term, roll-out-Term}
use Rattle.spx_term.specs.declared.term.Term.TheVariants.{Infix, Ternary, rolls-Prefix, rolls-Infix, rolls-Ternary}
use Rattle.spx_term.specs.Negation.{is_numeric}
use Rattle.spx_term.specs.Values.{Types}
use Rattle.spx_term.specs.Meaning.{Valuation, value_of, Holds, HasSort, IsNumber, Respects}
use Rattle.spx_term.proofs.Terms.{value-Infix}
use Rattle.spx_term.proofs.FoldingLaws.{sorted_value}
use Rattle.spx_linear.proofs.NumericLaws.{integral}
use Rattle.spx_kernel.specs.declared.rule.RuleOf.TheVariants as rule
use Rattle.spx_kernel.specs.Names.{is_over, is_boolean}
use Rattle.spx_kernel.specs.Quantifiers.{stands_alone}
use Rattle.spx_kernel.specs.Rewriting.{rewritten}
use Rattle.spx_kernel.specs.Elements.{spot_of}
use Rattle.spx_kernel.specs.Divisions.{division}
use Rattle.spx_kernel.specs.Sequents.{with_hyp, with_goal, hyp_at, Sorted, Leads}
use Rattle.spx_kernel.specs.Steps.{at, by_hyp, intro_in, cases_in, use_in, inst_in, give_in, may_stand, rewrite_goal, rewrite_hyp, rewrite_by, rewrite_in, elem_at, div_by, Rule, step, SomeSort, RuleSorted, StepIsValid}
use Rattle.spx_kernel.proofs.StepLaws.{leads_refused, leads_ok, leads_if, leads_at, Facts, valid, goal_of, goal_with, hyp_has, by_hyp_leads, plain_leads, split_leads, intro_infix_leads, intro_prefix_leads, pick_leads, cases_leads, use_infix_leads, use_prefix_leads, cut_leads, equal_value}
use Rattle.spx_kernel.proofs.CertificateLaws.{certified_leads}
use Rattle.spx_kernel.proofs.QuantifierSteps.{inst_all_leads, give_some_leads, intro_all_leads, use_some_leads}
use Rattle.spx_kernel.proofs.RewriteLaws.{rewritten_value}
use Rattle.spx_kernel.proofs.DivisionLaws.{division_leads}
use Rattle.spx_kernel.proofs.ElementLaws.{element_leads}

module _ (types : Types) (s : Sequent) (sorted : Sorted types s) where
  intro_leads : (layer : Term-F Term) → roll-Term layer ≡ s.goal → Leads types s (intro_in s layer)
  intro_leads (Term-F.Infix o a b) is = intro_infix_leads types s sorted o a b (sym (rolls-Infix o a b) ∙ is)
  intro_leads (Term-F.Prefix o a) is = intro_prefix_leads types s sorted o a (sym (rolls-Prefix o a) ∙ is)
  intro_leads (Term-F.Ternary (ternary.Quantified q d) a b c) is = intro_all_leads types s q d a b c (sym (rolls-Ternary (ternary.Quantified q d) a b c) ∙ is)
  intro_leads (Term-F.Ternary (ternary.Update t) a b c) is = leads_refused types s
  intro_leads _ is = leads_refused types s

  use_leads : (n : ℤ) (h : Term) → hyp_at s n ≡ Some h → (layer : Term-F Term) → roll-Term layer ≡ h → Leads types s (use_in s h layer)
  use_leads n h found (Term-F.Infix o a b) is = use_infix_leads types s sorted n h found o a b (sym (rolls-Infix o a b) ∙ is)
  use_leads n h found (Term-F.Prefix o a) is = use_prefix_leads types s sorted n h found o a (sym (rolls-Prefix o a) ∙ is)
  use_leads n h found (Term-F.Ternary (ternary.Quantified q d) a b c) is =
      let here : Ternary (ternary.Quantified q d) a b c ≡ h = sym (rolls-Ternary (ternary.Quantified q d) a b c) ∙ is in
      subst (λ t. Leads types s (use_in s t (Term-F.Ternary (ternary.Quantified q d) a b c))) here (use_some_leads types s q d n a b c (found ∙ ap Some (sym here)))
  use_leads n h found (Term-F.Ternary (ternary.Update t) a b c) is = leads_refused types s
  use_leads n h found _ is = leads_refused types s

  -- a term that is given is a number
  numeric : (t : Term) → SomeSort types t → is_numeric t ≡ true → (v : Valuation) → Respects types v → IsNumber (value_of types v t)
  numeric t some is v r =
      let e = integral types t some.0 is some.1 in
      subst (λ m. HasSort types m (value_of types v t)) e (sorted_value types v r t some.0 some.1)

  inst_leads : (n : ℤ) (t h : Term) → stands_alone t ≡ true → ((v : Valuation) → Respects types v → IsNumber (value_of types v t)) → hyp_at s n ≡ Some h → (layer : Term-F Term) → roll-Term layer ≡ h → Leads types s (inst_in s t h layer)
  inst_leads n t h scoped number found (Term-F.Ternary (ternary.Quantified q d) a b c) is =
      let here : Ternary (ternary.Quantified q d) a b c ≡ h = sym (rolls-Ternary (ternary.Quantified q d) a b c) ∙ is in
      subst (λ u. Leads types s (inst_in s t u (Term-F.Ternary (ternary.Quantified q d) a b c))) here (inst_all_leads types s q d n t a b c scoped number (found ∙ ap Some (sym here)))
  inst_leads n t h scoped number found (Term-F.Ternary (ternary.Update id) a b c) is = leads_refused types s
  inst_leads n t h scoped number found _ is = leads_refused types s

  give_leads : (t : Term) → stands_alone t ≡ true → ((v : Valuation) → Respects types v → IsNumber (value_of types v t)) → (layer : Term-F Term) → roll-Term layer ≡ s.goal → Leads types s (give_in s t layer)
  give_leads t scoped number (Term-F.Ternary (ternary.Quantified q d) a b c) is = give_some_leads types s q d t a b c scoped number (sym (rolls-Ternary (ternary.Quantified q d) a b c) ∙ is)
  give_leads t scoped number (Term-F.Ternary (ternary.Update id) a b c) is = leads_refused types s
  give_leads t scoped number _ is = leads_refused types s

  -- ---- rewrite

  goal_leads : (t : Option Term) → ((r : Term) → t ≡ Some r → (v : Valuation) → Respects types v → Facts types s v → value_of types v r ≡ value_of types v s.goal) → Leads types s (rewrite_goal s t)
  goal_leads (Some r) f = leads_ok types s (with_goal r s ∷ []) (λ all. valid types s (λ v respects facts. sym (f r refl v respects facts) ∙ goal_of types s (with_goal r s) all.0 v respects facts))
  goal_leads None f = leads_refused types s

  hyp_leads : (h : Term) → ((v : Valuation) → Facts types s v → Holds types h v) → (t : Option Term) → ((r : Term) → t ≡ Some r → (v : Valuation) → Respects types v → Facts types s v → value_of types v r ≡ value_of types v h) → Leads types s (rewrite_hyp s t)
  hyp_leads h holds (Some r) f = leads_ok types s (with_hyp r s ∷ []) (λ all. valid types s (λ v respects facts. goal_with types s (r ∷ []) s.goal all.0 v respects facts (f r refl v respects facts ∙ holds v facts, tt)))
  hyp_leads h holds None f = leads_refused types s

  rewrite_leads : (n : ℤ) (h : Term) → hyp_at s n ≡ Some h → (m : Option ℤ) (layer : Term-F Term) → roll-Term layer ≡ h → Leads types s (rewrite_in s m layer)
  rewrite_leads n h found m (Term-F.Infix o a b) is =
      leads_if types s (stands_alone a && stands_alone b) (rewrite_by o s m a b)
      (λ scoped. let parts = and_parts (stands_alone a) (stands_alone b) scoped in by_op o m parts.0 parts.1 (sym (rolls-Infix o a b) ∙ is))
    where
      same : (v : Valuation) → Respects types v → Facts types s v → Infix op.Equal a b ≡ h → value_of types v a ≡ value_of types v b
      same v respects facts here = equal_value (value_of types v a) (value_of types v b) (sym (value-Infix types v op.Equal a b) ∙ ap (value_of types v) here ∙ hyp_has types s (λ h. Holds types h v) n h found facts)

      by_op : (o : TermOp) (m : Option ℤ) → stands_alone a ≡ true → stands_alone b ≡ true → Infix o a b ≡ h → Leads types s (rewrite_by o s m a b)
      by_op op.Equal None p q here = goal_leads (rewritten a b s.goal) (λ r e v respects facts. rewritten_value types a b p q v (same v respects facts here) s.goal r e)
      by_op op.Equal (Some k) p q here =
          leads_at types s (hyp_at s k) (λ t. rewrite_hyp s (rewritten a b t))
          (λ t there. hyp_leads t (λ v facts. hyp_has types s (λ h. Holds types h v) k t there facts) (rewritten a b t) (λ r e v respects facts. rewritten_value types a b p q v (same v respects facts here) t r e))
      by_op _ m p q here = leads_refused types s
  rewrite_leads n h found m _ is = leads_refused types s

  -- ---- all rules but `elem` and `div`

  module _ (elem_leads : Leads types s (elem_at s (spot_of s.goal))) (div_leads : (t : Term) → SomeSort types t → Leads types s (div_by s (division t))) where
    all_lead : (r : Rule) → RuleSorted types r → Leads types s (step s r)
    unfolding step
    all_lead (rule.Hyp n) w = leads_at types s (hyp_at s n) (by_hyp s) (λ h is. by_hyp_leads types s sorted n h is)
    all_lead rule.Plain w = plain_leads types s sorted
    all_lead rule.Split w = split_leads types s sorted (out-Term s.goal) (roll-out-Term s.goal)
    all_lead rule.Intro w = intro_leads (out-Term s.goal) (roll-out-Term s.goal)
    all_lead rule.PickLeft w = pick_leads types s sorted true (out-Term s.goal) (roll-out-Term s.goal)
    all_lead rule.PickRight w = pick_leads types s sorted false (out-Term s.goal) (roll-out-Term s.goal)
    all_lead (rule.Cases n) w = leads_at types s (hyp_at s n) (λ h. cases_in s (out-Term h)) (λ h is. cases_leads types s sorted n h is (out-Term h) (roll-out-Term h))
    all_lead (rule.UseHyp n) w = leads_at types s (hyp_at s n) (λ h. use_in s h (out-Term h)) (λ h is. use_leads n h is (out-Term h) (roll-out-Term h))
    all_lead (rule.Cut t) w = cut_leads types s sorted t (is_boolean t && may_stand s t)
    all_lead (rule.Inst n t) w =
        leads_if types s (is_numeric t && may_stand s t) (at (hyp_at s n) (λ h. inst_in s t h (out-Term h)))
        (λ may. let parts = and_parts (is_numeric t) (may_stand s t) may in
        leads_at types s (hyp_at s n) (λ h. inst_in s t h (out-Term h))
        (λ h is. inst_leads n t h (and_parts (stands_alone t) (is_over s t) parts.1).0 (numeric t w parts.0) is (out-Term h) (roll-out-Term h)))
    all_lead (rule.Give t) w =
        leads_if types s (is_numeric t && may_stand s t) (give_in s t (out-Term s.goal))
        (λ may. let parts = and_parts (is_numeric t) (may_stand s t) may in
        give_leads t (and_parts (stands_alone t) (is_over s t) parts.1).0 (numeric t w parts.0) (out-Term s.goal) (roll-out-Term s.goal))
    all_lead (rule.Rewrite n m) w = leads_at types s (hyp_at s n) (λ h. rewrite_in s m (out-Term h)) (λ h is. rewrite_leads n h is m (out-Term h) (roll-out-Term h))
    all_lead (rule.Linear es) w = certified_leads types s sorted es
    all_lead rule.Elem w = elem_leads
    all_lead (rule.Div t) w = leads_if types s (stands_alone t) (div_by s (division t)) (λ is. div_leads t w)

pub steps_valid : StepIsValid
steps_valid types s r sorted w = all_lead types s sorted (element_leads types s sorted) (division_leads types s) r w
