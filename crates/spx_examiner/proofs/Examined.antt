-- Units break one first rule or are one program, and there is one thing to report on a program.
use Rattle.std.proofs.Common.{◌≡◌, ◌≢◌, true, false, List, [], ◌∷◌, Option, Some, None, refl, sym, ap, subst, ◌∙◌, arith}
use Rattle.spx_tree.specs.declared.subprogram.Unit.{Unit}
use Rattle.spx_core.specs.declared.program.Program.{Program}
use Rattle.spx_core.specs.declared.subprogram.Sub.{Sub}
use Rattle.spx_core.specs.declared.rule.Breach.{Breach}
use Rattle.spx_core.specs.Contents.{IsMadeFrom}
use Rattle.spx_core.specs.FlowRules.{HasNoFinding, HasNoFlowFinding, has_many_variables}
use Rattle.spx_core.specs.Obeyed.{Obeys, first_rule_breach}
use Rattle.spx_core.specs.Statements.{first_name_breach}
use Rattle.spx_derives.specs.declared.finding.FlowFinding.{FlowFinding}
use Rattle.spx_derives.specs.FlowFindings.{Finds, missing, unused, ineffective, unset}
use Rattle.std.proofs.Common.{get_or}
use Rattle.std.specs.Prelude.{Contains}
use Rattle.std.proofs.lemmas.List.Elements.{All-contains_itself}
use Rattle.spx_report.specs.declared.limit.LimitName.{LimitName}
use Rattle.spx_report.specs.declared.report.Finding.{Finding}
use Rattle.spx_findings.specs.Findings.{first_limit}
use Rattle.spx_report.specs.FlowLines.{AreFlowLines, flow_line}
use Rattle.spx_examiner.specs.declared.status.Status.TheVariants as status
use Rattle.spx_examiner.specs.declared.judgement.Judgement.{Judgement}
use Rattle.spx_examiner.specs.declared.judgement.Judgement.TheVariants.{Refused}
use Rattle.spx_examiner.specs.Judgement.{status_of}
use Rattle.spx_examiner.specs.Laws.{Laws}
use Rattle.spx_examiner.specs.Outcome.{IsExamined, IsFirstBreach, by_flow, by_limit, narrow, of_names, of_rules, wide}

-- ---- programs that are made from units

-- from units one program is made
pub one_made : Laws → (units : List Unit) (p q : Program) → IsMadeFrom units p → IsMadeFrom units q → p ≡ q
one_made laws units p q a b = laws.program p q a.visible b.visible (a.made ∙ sym b.made)

breaks_nothing : Laws → (units : List Unit) (p : Program) → IsMadeFrom units p → first_name_breach units ≡ None
breaks_nothing laws units p made = subst (λ us. first_name_breach us ≡ None) made.made (laws.breach p made.visible made.typed)

none_and_some : (o : Option Breach) (breach : Breach) → o ≡ None → o ≡ Some breach → ⊥
none_and_some o breach none some = absurd (cc)

some_once : (o : Option Breach) (a b : Breach) → o ≡ Some a → o ≡ Some b → a ≡ b
some_once o a b x y = cc

-- the first broken rule is one
pub one_breach : Laws → (units : List Unit) (a b : Breach) → IsFirstBreach units a → IsFirstBreach units b → a ≡ b
one_breach laws units a b (of_names x) (of_names y) = some_once (first_name_breach units) a b x y
one_breach laws units a b (of_names x) (of_rules q made y) = absurd (none_and_some (first_name_breach units) a (breaks_nothing laws units q made) x)
one_breach laws units a b (of_rules p made x) (of_names y) = absurd (none_and_some (first_name_breach units) b (breaks_nothing laws units p made) y)
one_breach laws units a b (of_rules p made x) (of_rules q made' y) =
    let same : q ≡ p = one_made laws units q p made' made in
    some_once (first_rule_breach p) a b x (subst (λ r. first_rule_breach r ≡ Some b) same y)

-- where one is broken, the units are no program that obeys the rules
pub not_obeyed : Laws → (units : List Unit) (breach : Breach) (p : Program) → IsFirstBreach units breach → IsMadeFrom units p → ¬ Obeys p
not_obeyed laws units breach p (of_names first) made obeys = none_and_some (first_name_breach units) breach (breaks_nothing laws units p made) first
not_obeyed laws units breach p (of_rules q made' first) made obeys =
    let same : p ≡ q = one_made laws units p q made made' in
    none_and_some (first_rule_breach q) breach (laws.obeyed q (subst Obeys same obeys)) first

-- ---- flow

finds_nothing : (p : Program) (sub : Sub) → HasNoFinding p sub → (f : FlowFinding) → ¬ Finds p sub f
finds_nothing p sub none _ (missing {x} {y} m) = none.none_missing x y m
finds_nothing p sub none _ (unused {x} {y} u) = none.none_unused x y u
finds_nothing p sub none _ (ineffective {place} i) = none.none_ineffective place i
finds_nothing p sub none _ (unset {place} {v} m) = none.none_unset place v m

-- a program without a flow finding has no line on its flow
no_flow_lines : (p : Program) (line : Finding) (lines : List Finding) → AreFlowLines p (line ∷ lines) → ¬ HasNoFlowFinding p
no_flow_lines p line lines are none =
    let w = (are.exact line).0 (0, omega arith, refl) in
    let a = w.1 in
    finds_nothing p a.1 (subst (HasNoFinding p) a.3 (none a.0 a.1 a.2)) w.0 a.4

in_no_list : {X : Type 0} (x : X) → Contains [] x → ⊥
in_no_list x is = omega (arith, is.1)

-- where there is no line, there is no finding
no_lines : (p : Program) → AreFlowLines p [] → HasNoFlowFinding p
no_lines p are k d less =
    let sub = get_or p.subs k d in
    let is = All-contains_itself p.subs k d less in
    let none : (f : FlowFinding) → ¬ Finds p sub f = λ f found. in_no_list (flow_line p f) ((are.exact (flow_line p f)).1 (f, (is.0, sub, is.1, is.2, found), refl)) in
    record {
      none_missing = λ x y m. none _ (missing m);
      none_unused = λ x y u. none _ (unused u);
      none_ineffective = λ place i. none _ (ineffective i);
      none_unset = λ place v m. none _ (unset m);
    }

-- ---- examinations

-- there is one thing to report on a program
pub one_examined : Laws → (p : Program) (c j k : Judgement) → IsExamined p c j → IsExamined p c k → j ≡ k
one_examined laws p c j k (wide w is) (wide w' is') = is ∙ sym is'
one_examined laws p c j k (wide w is) (narrow lines n are is') = absurd (cc)
one_examined laws p c j k (narrow lines n are is) (wide w is') = absurd (cc)
one_examined laws p c j k (narrow lines n are is) (narrow others n' are' is') =
    let same : lines ≡ others = laws.lines p lines others are are' in
    is ∙ ap (λ ls. by_flow c (first_limit p) ls) same ∙ sym is'

-- what an examination comes to, in facts on the program
pub data Examination (p : Program) (c j : Judgement) : Type 0 where
  too_wide : has_many_variables p ≡ true → status_of j ≡ status.Limit → Examination p c j
  flawed : has_many_variables p ≡ false → ¬ HasNoFlowFinding p → status_of j ≡ status.Refused → Examination p c j
  too_large : has_many_variables p ≡ false → HasNoFlowFinding p → (name : LimitName) → first_limit p ≡ Some name → status_of j ≡ status.Limit → Examination p c j
  sound : has_many_variables p ≡ false → HasNoFlowFinding p → first_limit p ≡ None → j ≡ c → Examination p c j

by_first : (p : Program) (c j : Judgement) → has_many_variables p ≡ false → HasNoFlowFinding p → (o : Option LimitName) → first_limit p ≡ o → j ≡ by_limit c o → Examination p c j
by_first p c j n flows (Some name) first is = too_large n flows name first (ap status_of is)
by_first p c j n flows None first is = sound n flows first is

pub examination : (p : Program) (c j : Judgement) → IsExamined p c j → Examination p c j
examination p c j (wide w is) = too_wide w (ap status_of is)
examination p c j (narrow [] n are is) = by_first p c j n (no_lines p are) (first_limit p) refl is
examination p c j (narrow (line ∷ lines) n are is) = flawed n (no_flow_lines p line lines are) (ap status_of is)

-- findings on flow come before the conditions
pub flow_first : (c : Judgement) (o : Option LimitName) (lines : List Finding) → lines ≢ [] → Refused lines ≡ by_flow c o lines
flow_first c o [] some = absurd (some refl)
flow_first c o (line ∷ lines) some = refl
