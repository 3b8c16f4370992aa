-- What a judgement on contents says of them.
use Rattle.std.proofs.Common.{◌≡◌, ◌≢◌, ℕ, true, false, cond, eqb, List, [], ◌∷◌, length, Some, None, Result, Ok, Err, inl, inr, refl, sym, ap, subst, ◌∙◌, arith}
use Rattle.std.specs.Prelude.{◌⊎◌}
use Rattle.std.proofs.lemmas.Grind.{common_steps}
use Rattle.std.proofs.lemmas.Bool.Decides.{nat_tests}
use Rattle.spx_tree.specs.declared.subprogram.Unit.{Unit}
use Rattle.spx_tree.specs.Places.{place_after_bytes}
use Rattle.spx_tree.specs.Form.{forms_of}
use Rattle.spx_tree.specs.Goes.{place_with}
use Rattle.spx_core.specs.declared.program.Program.{Program}
use Rattle.spx_core.specs.Contents.{Is, IsText, IsMadeFrom}
use Rattle.spx_core.specs.Erased.{Visible, erased}
use Rattle.spx_core.specs.FlowRules.{HasNoFlowFinding, has_many_variables}
use Rattle.spx_core.specs.Obeyed.{Obeys}
use Rattle.spx_core.proofs.Callers.Bodies.{bodies_are}
use Rattle.spx_paths.specs.Fit.{Clean}
use Rattle.spx_report.specs.declared.limit.LimitName.{LimitName}
use Rattle.spx_report.specs.declared.report.Finding.{Finding}
use Rattle.spx_findings.specs.Findings.{findings_of, first_limit}
use Rattle.spx_findings.specs.Listing.{conditions_text}
use Rattle.spx_findings.proofs.FindingLaws.{lines_of, none_left}
use Rattle.spx_run.specs.declared.inputs.InputLine.{InputLine}
use Rattle.spx_run.specs.declared.result.RunResult.{RunResult}
use Rattle.spx_run.specs.declared.result.RunResult.TheVariants as result
use Rattle.spx_run.specs.Results.{result_of}
use Rattle.spx_words.specs.Requests as requests
use Rattle.spx_words.specs.Requests.{Request}
use Rattle.spx_examiner.specs.declared.status.Status.TheVariants as status
use Rattle.spx_examiner.specs.declared.judgement.Judgement.{Judgement}
use Rattle.spx_examiner.specs.declared.judgement.Judgement.TheVariants.{Examined, Listed, Ran}
use Rattle.spx_examiner.specs.declared.reading.Reading.{Reading}
use Rattle.spx_examiner.specs.declared.reading.Reading.TheVariants.{Units, Broken, TooManyTokens, TooNested}
use Rattle.spx_examiner.specs.Causes.{any_too_long}
use Rattle.spx_examiner.specs.Judgement.{status_of}
use Rattle.spx_examiner.specs.Laws.{Laws}
use Rattle.spx_examiner.specs.Outcome.{AreBadFor, AreClean, AreGoodFor, AreInputsIn, AreSound, AreTooLarge, AreTooWide, ComesTo, EndsBadly, EndsWell, HasNotEnded, IsExamined, IsJudgedOn, IsReadTooFar, IsReportOnProgram, IsReportOnReading, IsReportOnUnits, PassesLimit, SaysHowItRan, of_breach, of_line, of_program}
use Rattle.spx_examiner.specs.Reading.{IsRead, crowded, ended, expected_at, nested, stopped, stopped_at, whole}
use Rattle.spx_examiner.specs.Words.{IsCheck, IsConditions, IsRun, files_in}
use Rattle.spx_examiner.proofs.Examined.{Examination, examination, flawed, not_obeyed, sound, too_large, too_wide}
use Rattle.spx_examiner.proofs.Spelled.{forms_of_text, goes_on, one_reading, one_text, spelled_by, text_of_whole, units_spelled}

-- ---- programs that a text spells

-- a text spells one program
pub only_program : Laws → (source : List ℕ) (p q : Program) → Is (source ∷ []) p → Is (source ∷ []) q → q ≡ p
only_program laws source p q sp sq =
    laws.program q p sq.visible sp.visible (one_text laws.spelling laws.tree source (erased q) (erased p) (units_spelled source q sq) (units_spelled source p sp))

made_from : Laws → (source : List ℕ) (units : List Unit) (p : Program) → IsText 0 source units → Is (source ∷ []) p → IsMadeFrom units p
made_from laws source units p text spelled = record {
  made = one_text laws.spelling laws.tree source (erased p) units (units_spelled source p spelled) text;
  visible = spelled.visible;
  typed = spelled.typed;
}

-- it spells one that obeys the rules
abbrev SpellsObeyed : List ℕ → Type 0
SpellsObeyed source = (p : Program) × Is (source ∷ []) p × Obeys p

lines_are : (p : Program) → Visible p → (findings_of p).lines ≡ lines_of p p.subs
unfolding findings_of
lines_are p visible = ap (lines_of p) (bodies_are p visible)

-- a program on which nothing is found is clean
pub clean_program : (source : List ℕ) (p : Program) → Is (source ∷ []) p → Obeys p → HasNoFlowFinding p → (findings_of p).lines ≡ [] → Clean p
clean_program source p spelled obeys flows none = record {
  visible = spelled.visible;
  typed = spelled.typed;
  obeys = obeys;
  flows = flows;
  conditions = (none_left p p.subs).0 (sym (lines_are p spelled.visible) ∙ none);
}

-- and on a clean one nothing is
none_found : (p : Program) → Clean p → (findings_of p).lines ≡ []
none_found p clean = lines_are p clean.visible ∙ (none_left p p.subs).1 clean.conditions

narrow_and_wide : (p q : Program) → p ≡ q → has_many_variables p ≡ true → ¬ (has_many_variables q ≡ false)
narrow_and_wide p q same wide narrow = let e = ap has_many_variables same in absurd (cc)

not_both : (p q : Program) (name : LimitName) → p ≡ q → first_limit p ≡ Some name → ¬ (first_limit q ≡ None)
not_both p q name same passed none = let e = ap first_limit same in absurd (cc)

-- ---- what is asked for

-- a limit of conditions or of a run is passed
abbrev TooMuch : Request → List (List ℕ) → Type 0
TooMuch r contents = ((¬ IsRun r) × (AreTooWide contents ⊎ AreTooLarge contents)) ⊎ ((name : LimitName) × ComesTo r contents (result.TooLarge name))

-- the contents say nothing for what is asked
record SayNothing (r : Request) (contents : List (List ℕ)) : Type 0 where
  no_good : ¬ AreGoodFor r contents
  no_result : (came : RunResult) → ¬ ComesTo r contents came
  not_much : ¬ TooMuch r contents

-- no run is asked for
abbrev IsPlain : Request → Type 0
IsPlain r = ¬ IsRun r

pub no_result_plain : (r : Request) (contents : List (List ℕ)) (came : RunResult) → ComesTo r contents came → IsRun r
no_result_plain (requests.check file) [] came comes = absurd comes
no_result_plain (requests.check file) (source ∷ given) came comes = absurd comes
no_result_plain (requests.conditions file) [] came comes = absurd comes
no_result_plain (requests.conditions file) (source ∷ given) came comes = absurd comes
no_result_plain (requests.run entry turns inputs file) contents came comes = tt

check_is_plain : (r : Request) → IsCheck r → ¬ IsRun r
check_is_plain (requests.check file) check runs = runs
check_is_plain (requests.conditions file) check runs = check
check_is_plain (requests.run entry turns inputs file) check runs = check

conditions_are_plain : (r : Request) → IsConditions r → ¬ IsRun r
conditions_are_plain (requests.check file) conditions runs = runs
conditions_are_plain (requests.conditions file) conditions runs = runs
conditions_are_plain (requests.run entry turns inputs file) conditions runs = conditions

-- ---- fates

-- a judgement has one of five causes, which its status names
pub data Fate (r : Request) (contents : List (List ℕ)) (j : Judgement) : Type 0 where
  limited : PassesLimit r contents → status_of j ≡ status.Limit → Fate r contents j
  refused : ¬ PassesLimit r contents → AreBadFor r contents → status_of j ≡ status.Refused → Fate r contents j
  accepted : ¬ PassesLimit r contents → AreGoodFor r contents → status_of j ≡ status.Accepted → Fate r contents j
  faulted : ¬ PassesLimit r contents → EndsBadly r contents → status_of j ≡ status.RunFault → Fate r contents j
  late : ¬ PassesLimit r contents → HasNotEnded r contents → status_of j ≡ status.NotEnded → Fate r contents j

-- the files are short and the text is not read too far
record AreShort (contents : List (List ℕ)) : Type 0 where
  files : any_too_long contents ≡ false
  text : ¬ IsReadTooFar contents

within : (r : Request) (contents : List (List ℕ)) → AreShort contents → ¬ TooMuch r contents → ¬ PassesLimit r contents
within r contents short small (inl long) = absurd (let e = short.files in cc)
within r contents short small (inr (inl far)) = short.text far
within r contents short small (inr (inr much)) = small much

refused_for : (r : Request) (contents : List (List ℕ)) (j : Judgement) → AreShort contents → SayNothing r contents → status_of j ≡ status.Refused → Fate r contents j
refused_for r contents j short nothing e =
    refused (within r contents short nothing.not_much)
    (nothing.no_good, (λ (fault, comes). nothing.no_result _ comes), (λ (turns, comes). nothing.no_result _ comes)) e

-- ---- texts that spell no program that obeys the rules

result_obeyed : (r : Request) (source : List ℕ) (given : List (List ℕ)) (came : RunResult) → ComesTo r (source ∷ given) came → SpellsObeyed source
result_obeyed (requests.check file) source given came comes = absurd comes
result_obeyed (requests.conditions file) source given came comes = absurd comes
result_obeyed (requests.run entry turns inputs file) source given came (p, lines, spelled, obeys, are, is) = (p, spelled, obeys)

result_given : (r : Request) (source : List ℕ) (given : List (List ℕ)) (came : RunResult) → ComesTo r (source ∷ given) came → (lines : List InputLine) × AreInputsIn given (Ok lines)
result_given (requests.check file) source given came comes = absurd comes
result_given (requests.conditions file) source given came comes = absurd comes
result_given (requests.run entry turns inputs file) source given came (p, lines, spelled, obeys, are, is) = (lines, are)

-- where no run is asked for, there is one file
abbrev IsAlone : Request → List (List ℕ) → Type 0
IsAlone r given = ¬ IsRun r → given ≡ []

good_obeyed : (r : Request) (source : List ℕ) (given : List (List ℕ)) → IsAlone r given → AreGoodFor r (source ∷ given) → SpellsObeyed source
good_obeyed r source given alone (inl (check, clean)) =
    let (p, spelled, is) = subst (λ rest. AreClean (source ∷ rest)) (alone (check_is_plain r check)) clean in
    (p, spelled, is.obeys)
good_obeyed r source given alone (inr (inl (conditions, good))) =
    let (p, spelled, obeys, narrow, flows) = subst (λ rest. AreSound (source ∷ rest)) (alone (conditions_are_plain r conditions)) good in
    (p, spelled, obeys)
good_obeyed r source given alone (inr (inr (outputs, comes))) = result_obeyed r source given _ comes

much_obeyed : (r : Request) (source : List ℕ) (given : List (List ℕ)) → IsAlone r given → TooMuch r (source ∷ given) → SpellsObeyed source
much_obeyed r source given alone (inl (plain, inl wide)) =
    let (p, spelled, obeys, is) = subst (λ rest. AreTooWide (source ∷ rest)) (alone plain) wide in
    (p, spelled, obeys)
much_obeyed r source given alone (inl (plain, inr large)) =
    let (p, spelled, obeys, narrow, flows, name, is) = subst (λ rest. AreTooLarge (source ∷ rest)) (alone plain) large in
    (p, spelled, obeys)
much_obeyed r source given alone (inr (name, comes)) = result_obeyed r source given _ comes

nothing_obeyed : (r : Request) (source : List ℕ) (given : List (List ℕ)) → IsAlone r given → ¬ SpellsObeyed source → SayNothing r (source ∷ given)
nothing_obeyed r source given alone none = record {
  no_good = λ good. none (good_obeyed r source given alone good);
  no_result = λ came comes. none (result_obeyed r source given came comes);
  not_much = λ much. none (much_obeyed r source given alone much);
}

-- ---- inputs that have a bad line

nothing_given : (r : Request) (source : List ℕ) (given : List (List ℕ)) → IsRun r → ¬ ((lines : List InputLine) × AreInputsIn given (Ok lines)) → SayNothing r (source ∷ given)
nothing_given r source given runs none = record {
  no_good = not_good;
  no_result = λ came comes. none (result_given r source given came comes);
  not_much = not_much;
}
  where
    not_good : ¬ AreGoodFor r (source ∷ given)
    not_good (inl (check, clean)) = check_is_plain r check runs
    not_good (inr (inl (conditions, good))) = conditions_are_plain r conditions runs
    not_good (inr (inr (outputs, comes))) = none (result_given r source given _ comes)

    not_much : ¬ TooMuch r (source ∷ given)
    not_much (inl (plain, large)) = plain runs
    not_much (inr (name, comes)) = none (result_given r source given _ comes)

-- inputs are read in one way
pub one_inputs : Laws → (given : List (List ℕ)) (a b : Result (List InputLine) ℕ) → AreInputsIn given a → AreInputsIn given b → a ≡ b
one_inputs laws [] a b x y = x ∙ sym y
one_inputs laws (bytes ∷ more) a b x y = laws.inputs bytes a b x y

-- ---- on a program that obeys the rules

-- the contents of one file spell this program, which obeys the rules
record IsOn (source : List ℕ) (p : Program) : Type 0 where
  spelled : Is (source ∷ []) p
  obeys : Obeys p

module _ (laws : Laws) (source : List ℕ) (p : Program) (on : IsOn source p) where
  same_program : (q : Program) → Is (source ∷ []) q → q ≡ p
  same_program q spelled = only_program laws source p q on.spelled spelled

  not_large : (r : Request) → IsPlain r → has_many_variables p ≡ false → (HasNoFlowFinding p → first_limit p ≡ None) → ¬ TooMuch r (source ∷ [])
  not_large r plain narrow few (inl (_, inl (q, spelled, obeys, wide))) = narrow_and_wide q p (same_program q spelled) wide narrow
  not_large r plain narrow few (inl (_, inr (q, spelled, obeys, slim, flows, name, passed))) =
      let same = same_program q spelled in
      not_both q p name same passed (few (subst HasNoFlowFinding same flows))
  not_large r plain narrow few (inr (name, comes)) = plain (no_result_plain r (source ∷ []) _ comes)

  not_flawed : (r : Request) → IsPlain r → ¬ HasNoFlowFinding p → ¬ AreGoodFor r (source ∷ [])
  not_flawed r plain flaw (inl (check, (q, spelled, clean))) = flaw (subst HasNoFlowFinding (same_program q spelled) clean.flows)
  not_flawed r plain flaw (inr (inl (conditions, (q, spelled, obeys, narrow, flows)))) = flaw (subst HasNoFlowFinding (same_program q spelled) flows)
  not_flawed r plain flaw (inr (inr (outputs, comes))) = plain (no_result_plain r (source ∷ []) _ comes)

  -- a program with findings on its conditions is not clean
  not_clean : (line : Finding) (lines : List Finding) → (findings_of p).lines ≡ line ∷ lines → ¬ AreClean (source ∷ [])
  not_clean line lines some (q, spelled, clean) = let none = none_found p (subst Clean (same_program q spelled) clean) in absurd (cc)

  -- what a check of its conditions comes to
  fate_of_findings : (file : List ℕ) (j : Judgement) → AreShort (source ∷ []) → has_many_variables p ≡ false → HasNoFlowFinding p → first_limit p ≡ None → j ≡ Examined p (findings_of p) → (lines : List Finding) → (findings_of p).lines ≡ lines → Fate (requests.check file) (source ∷ []) j
  fate_of_findings file j short narrow flows few is [] none =
      accepted (within (requests.check file) (source ∷ []) short (not_large (requests.check file) (λ runs. runs) narrow (λ _. few)))
      (inl (tt, (p, on.spelled, clean_program source p on.spelled on.obeys flows none)))
      (ap status_of is ∙ ap (λ (lines : List Finding). cond (eqb (length lines) 0) status.Accepted status.Refused) none)
  fate_of_findings file j short narrow flows few is (line ∷ lines) some =
      let refusal : cond (eqb (length (line ∷ lines)) 0) status.Accepted status.Refused ≡ status.Refused = grind (arith, common_steps, nat_tests) in
      refused_for (requests.check file) (source ∷ []) j short
      (record {
        no_good = not_good;
        no_result = λ came comes. comes;
        not_much = not_large (requests.check file) (λ runs. runs) narrow (λ _. few);
      })
      (ap status_of is ∙ ap (λ (lines : List Finding). cond (eqb (length lines) 0) status.Accepted status.Refused) some ∙ refusal)
    where
      not_good : ¬ AreGoodFor (requests.check file) (source ∷ [])
      not_good (inl (check, clean)) = not_clean line lines some clean
      not_good (inr (inl (conditions, good))) = conditions
      not_good (inr (inr (outputs, comes))) = comes

  -- what an examination for a plain request comes to, up to its conditions
  fate_before : (r : Request) (c j : Judgement) → IsPlain r → AreShort (source ∷ []) → Examination p c j → (has_many_variables p ≡ false → HasNoFlowFinding p → first_limit p ≡ None → j ≡ c → Fate r (source ∷ []) j) → Fate r (source ∷ []) j
  fate_before r c j plain short (too_wide wide e) on_conditions = limited (inr (inr (inl (plain, inl (p, on.spelled, on.obeys, wide))))) e
  fate_before r c j plain short (flawed narrow flaw e) on_conditions =
      refused_for r (source ∷ []) j short
      (record {
        no_good = not_flawed r plain flaw;
        no_result = λ came comes. plain (no_result_plain r (source ∷ []) came comes);
        not_much = not_large r plain narrow (λ flows. absurd (flaw flows));
      }) e
  fate_before r c j plain short (too_large narrow flows name passed e) on_conditions =
      limited (inr (inr (inl (plain, inr (p, on.spelled, on.obeys, narrow, flows, name, passed))))) e
  fate_before r c j plain short (sound narrow flows few is) on_conditions = on_conditions narrow flows few is

  fate_of_check : (file : List ℕ) (j : Judgement) → AreShort (source ∷ []) → IsExamined p (Examined p (findings_of p)) j → Fate (requests.check file) (source ∷ []) j
  fate_of_check file j short examined =
      fate_before (requests.check file) (Examined p (findings_of p)) j (λ runs. runs) short (examination p _ j examined)
      (λ narrow flows few is. fate_of_findings file j short narrow flows few is (findings_of p).lines refl)

  fate_of_conditions : (file : List ℕ) (j : Judgement) → AreShort (source ∷ []) → IsExamined p (Listed (conditions_text p (file ∷ []))) j → Fate (requests.conditions file) (source ∷ []) j
  fate_of_conditions file j short examined =
      fate_before (requests.conditions file) (Listed (conditions_text p (file ∷ []))) j (λ runs. runs) short (examination p _ j examined)
      (λ narrow flows few is. accepted (within (requests.conditions file) (source ∷ []) short (not_large (requests.conditions file) (λ runs. runs) narrow (λ _. few)))
      (inr (inl (tt, (p, on.spelled, on.obeys, narrow, flows)))) (ap status_of is))

-- ---- runs

-- the run that is asked for comes to one result
pub one_result : Laws → (r : Request) (contents : List (List ℕ)) (a b : RunResult) → ComesTo r contents a → ComesTo r contents b → a ≡ b
one_result laws (requests.check file) [] a b x y = absurd x
one_result laws (requests.check file) (source ∷ given) a b x y = absurd x
one_result laws (requests.conditions file) [] a b x y = absurd x
one_result laws (requests.conditions file) (source ∷ given) a b x y = absurd x
one_result laws (requests.run entry turns inputs file) [] a b x y = absurd x
one_result laws (requests.run entry turns inputs file) (source ∷ given) a b (p, lines, spelled, obeys, are, is) (q, others, spelled', obeys', are', is') =
    let same : q ≡ p = only_program laws source p q spelled spelled' in
    let e = one_inputs laws given (Ok lines) (Ok others) are are' in
    let alike : lines ≡ others = cc in
    is ∙ ap (λ (ls : List InputLine). result_of p entry turns 1 ls) alike ∙ ap (λ (s : Program). result_of s entry turns 1 others) (sym same) ∙ sym is'

-- a result of a run is not another one
differs : Laws → (r : Request) (contents : List (List ℕ)) (a b : RunResult) → (a ≡ b → ⊥) → ComesTo r contents a → ¬ ComesTo r contents b
differs laws r contents a b other x y = other (one_result laws r contents a b x y)

-- a run is good where it ends well alone, and passes a limit where its numbers are too large alone
pub good_run : (r : Request) (contents : List (List ℕ)) → IsRun r → AreGoodFor r contents → EndsWell r contents
good_run r contents runs (inl (check, clean)) = absurd (check_is_plain r check runs)
good_run r contents runs (inr (inl (conditions, good))) = absurd (conditions_are_plain r conditions runs)
good_run r contents runs (inr (inr ends)) = ends

much_run : (r : Request) (contents : List (List ℕ)) → IsRun r → TooMuch r contents → (name : LimitName) × ComesTo r contents (result.TooLarge name)
much_run r contents runs (inl (plain, large)) = absurd (plain runs)
much_run r contents runs (inr comes) = comes

fate_of_result : Laws → (r : Request) (contents : List (List ℕ)) (j : Judgement) (came : RunResult) → IsRun r → AreShort contents → ComesTo r contents came → j ≡ Ran came → Fate r contents j
fate_of_result laws r contents j (result.Refused found) runs short comes is =
    refused (within r contents short (λ much. let (name, passes) = much_run r contents runs much in differs laws r contents (result.Refused found) (result.TooLarge name) (λ e. cc) comes passes)) (
      (λ good. let ends = good_run r contents runs good in differs laws r contents (result.Refused found) (result.Ended ends.0) (λ e. cc) comes ends.1),
      (λ bad. differs laws r contents (result.Refused found) (result.Faulted bad.0) (λ e. cc) comes bad.1),
      (λ on. differs laws r contents (result.Refused found) (result.NotEnded on.0) (λ e. cc) comes on.1),
    )
    (ap status_of is)
fate_of_result laws r contents j (result.TooLarge name) runs short comes is = limited (inr (inr (inr (name, comes)))) (ap status_of is)
fate_of_result laws r contents j (result.Faulted fault) runs short comes is =
    faulted (within r contents short (λ much. let (name, passes) = much_run r contents runs much in differs laws r contents (result.Faulted fault) (result.TooLarge name) (λ e. cc) comes passes)) (fault, comes) (ap status_of is)
fate_of_result laws r contents j (result.NotEnded n) runs short comes is =
    late (within r contents short (λ much. let (name, passes) = much_run r contents runs much in differs laws r contents (result.NotEnded n) (result.TooLarge name) (λ e. cc) comes passes)) (n, comes) (ap status_of is)
fate_of_result laws r contents j (result.Ended all) runs short comes is =
    accepted (within r contents short (λ much. let (name, passes) = much_run r contents runs much in differs laws r contents (result.Ended all) (result.TooLarge name) (λ e. cc) comes passes)) (inr (inr (all, comes))) (ap status_of is)

-- ---- on units

fate_of_program : Laws → (r : Request) (source : List ℕ) (given : List (List ℕ)) (j : Judgement) (lines : List InputLine) (p : Program) → IsAlone r given → AreShort (source ∷ given) → AreInputsIn given (Ok lines) → IsOn source p → IsReportOnProgram r lines p j → Fate r (source ∷ given) j
fate_of_program laws (requests.check file) source [] j lines p alone short are on report = fate_of_check laws source p on file j short report
fate_of_program laws (requests.check file) source (more ∷ rest) j lines p alone short are on report = absurd (let e = alone (λ runs. runs) in cc)
fate_of_program laws (requests.conditions file) source [] j lines p alone short are on report = fate_of_conditions laws source p on file j short report
fate_of_program laws (requests.conditions file) source (more ∷ rest) j lines p alone short are on report = absurd (let e = alone (λ runs. runs) in cc)
fate_of_program laws (requests.run entry turns inputs file) source given j lines p alone short are on report =
    fate_of_result laws (requests.run entry turns inputs file) (source ∷ given) j (result_of p entry turns 1 lines) tt short (p, lines, on.spelled, on.obeys, are, refl) report

-- where there are inputs with a bad line, a run is asked for
runs_of_bad : (r : Request) (given : List (List ℕ)) (n : ℕ) → IsAlone r given → AreInputsIn given (Err n) → IsRun r
runs_of_bad (requests.check file) given n alone bad = let e = subst (λ rest. AreInputsIn rest (Err n)) (alone (λ runs. runs)) bad in absurd (cc)
runs_of_bad (requests.conditions file) given n alone bad = let e = subst (λ rest. AreInputsIn rest (Err n)) (alone (λ runs. runs)) bad in absurd (cc)
runs_of_bad (requests.run entry turns inputs file) given n alone bad = tt

fate_of_units : Laws → (r : Request) (source : List ℕ) (given : List (List ℕ)) (j : Judgement) (units : List Unit) → IsAlone r given → AreShort (source ∷ given) → IsText 0 source units → IsReportOnUnits r given units j → Fate r (source ∷ given) j
fate_of_units laws r source given j units alone short text (of_line n bad is) =
    refused_for r (source ∷ given) j short
    (nothing_given r source given (runs_of_bad r given n alone bad) (λ (lines, are). let e = one_inputs laws given (Ok lines) (Err n) are bad in absurd (cc)))
    (ap status_of is)
fate_of_units laws r source given j units alone short text (of_breach lines breach are first is) =
    refused_for r (source ∷ given) j short
    (nothing_obeyed r source given alone (λ (p, spelled, obeys). not_obeyed laws units breach p first (made_from laws source units p text spelled) obeys))
    (ap status_of is)
fate_of_units laws r source given j units alone short text (of_program lines p are made obeys report) =
    fate_of_program laws r source given j lines p alone short are (record { spelled = spelled_by source units p text made; obeys = obeys }) report

-- ---- on readings

not_far : Laws → (source : List ℕ) (given : List (List ℕ)) (reading : Reading) → IsRead source reading → reading ≢ TooManyTokens → reading ≢ TooNested → ¬ IsReadTooFar (source ∷ given)
not_far laws source given reading read few flat (inl crowd) = few (one_reading laws.spelling laws.stop laws.answer source reading TooManyTokens read crowd)
not_far laws source given reading read few flat (inr deep) = flat (one_reading laws.spelling laws.stop laws.answer source reading TooNested read deep)

-- a reading that is broken is of no text
data Text (source : List ℕ) : Reading → Type 0 where
  units_of : (units : List Unit) → IsText 0 source units → Text source (Units units)
  none_of : (finding : Finding) → ((units : List Unit) → ¬ IsText 0 source units) → Text source (Broken finding)
  crowd_of : Text source TooManyTokens
  depth_of : Text source TooNested

text_of_reading : Laws → (source : List ℕ) (reading : Reading) → IsRead source reading → Text source reading
text_of_reading laws source reading (crowded many is) = subst (Text source) (sym is) crowd_of
text_of_reading laws source reading (stopped cause place at few is) =
    subst (Text source) (sym is) (none_of (stopped_at cause place) (λ units text. laws.stop.unspelled 0 source cause place text.tokens at text.spelled))
text_of_reading laws source reading (ended tokens left spelled further is) =
    subst (Text source) (sym is)
    (none_of (expected_at (place_with (place_after_bytes 0 source) tokens left))
    (λ units text. goes_on (forms_of source tokens) left text.levels units further text.grammatical (sym (forms_of_text laws.spelling source tokens units spelled.spelled text))))
text_of_reading laws source reading (nested tokens left spelled deep is) = subst (Text source) (sym is) depth_of
text_of_reading laws source reading (whole tokens units spelled text is) = subst (Text source) (sym is) (units_of units (text_of_whole source tokens units spelled.spelled text))

fate_of_reading : Laws → (r : Request) (source : List ℕ) (given : List (List ℕ)) (j : Judgement) (reading : Reading) → IsAlone r given → any_too_long (source ∷ given) ≡ false → IsRead source reading → Text source reading → IsReportOnReading r given reading j → Fate r (source ∷ given) j
fate_of_reading laws r source given j _ alone short read (units_of units text) report =
    fate_of_units laws r source given j units alone (record { files = short; text = not_far laws source given (Units units) read (λ e. cc) (λ e. cc) }) text report
fate_of_reading laws r source given j _ alone short read (none_of finding none) is =
    refused_for r (source ∷ given) j (record { files = short; text = not_far laws source given (Broken finding) read (λ e. cc) (λ e. cc) })
    (nothing_obeyed r source given alone (λ (p, spelled, obeys). none (erased p) (units_spelled source p spelled)))
    (ap status_of is)
fate_of_reading laws r source given j _ alone short read crowd_of is = limited (inr (inl (inl read))) (ap status_of is)
fate_of_reading laws r source given j _ alone short read depth_of is = limited (inr (inl (inr read))) (ap status_of is)

-- ---- accepted judgements on one file

-- a judgement is what is asked for of the conditions of the program that a text spells
pub record Accepts (source : List ℕ) (of_conditions : Program → Judgement) (j : Judgement) : Type 0 where
  pub program : Program
  pub spelled : Is (source ∷ []) program
  pub obeys : Obeys program
  pub flows : HasNoFlowFinding program
  pub is : j ≡ of_conditions program

module _ (laws : Laws) (r : Request) (of_conditions : Program → Judgement) (examines : (lines : List InputLine) (p : Program) (j : Judgement) → IsReportOnProgram r lines p j → IsExamined p (of_conditions p) j) where
  accepts_examined : (source : List ℕ) (p : Program) (j : Judgement) → IsOn source p → Examination p (of_conditions p) j → status_of j ≡ status.Accepted → Accepts source of_conditions j
  accepts_examined source p j on (too_wide wide e) a = absurd (cc)
  accepts_examined source p j on (flawed narrow flaw e) a = absurd (cc)
  accepts_examined source p j on (too_large narrow flows name passed e) a = absurd (cc)
  accepts_examined source p j on (sound narrow flows few is) a = record { program = p; spelled = on.spelled; obeys = on.obeys; flows = flows; is = is }

  accepts_units : (source : List ℕ) (units : List Unit) (j : Judgement) → IsText 0 source units → IsReportOnUnits r [] units j → status_of j ≡ status.Accepted → Accepts source of_conditions j
  accepts_units source units j text (of_line n bad is) a = absurd (cc)
  accepts_units source units j text (of_breach lines breach are first is) a = let e : status_of j ≡ status.Refused = ap status_of is in absurd (cc)
  accepts_units source units j text (of_program lines p are made obeys report) a =
      accepts_examined source p j (record { spelled = spelled_by source units p text made; obeys = obeys }) (examination p (of_conditions p) j (examines lines p j report)) a

  accepts_reading : (source : List ℕ) (reading : Reading) (j : Judgement) → Text source reading → IsReportOnReading r [] reading j → status_of j ≡ status.Accepted → Accepts source of_conditions j
  accepts_reading source _ j (units_of units text) report a = accepts_units source units j text report a
  accepts_reading source _ j (none_of finding none) is a = let e : status_of j ≡ status.Refused = ap status_of is in absurd (cc)
  accepts_reading source _ j crowd_of is a = let e : status_of j ≡ status.Limit = ap status_of is in absurd (cc)
  accepts_reading source _ j depth_of is a = let e : status_of j ≡ status.Limit = ap status_of is in absurd (cc)

  pub accepts : (source : List ℕ) (j : Judgement) → IsJudgedOn r (source ∷ []) j → status_of j ≡ status.Accepted → Accepts source of_conditions j
  accepts source j (inl (long, is)) a = let e : status_of j ≡ status.Limit = ap status_of is in absurd (cc)
  accepts source j (inr (short, (reading, read, report))) a = accepts_reading source reading j (text_of_reading laws source reading read) report a

-- ---- runs that came to something

-- a judgement says what the run comes to
abbrev pub SaysResult : Request → List (List ℕ) → Judgement → Type 0
SaysResult r contents j = (came : RunResult) × ComesTo r contents came × (j ≡ Ran came)

not_refused : (j : Judgement) → status_of j ≡ status.Refused → ¬ SaysHowItRan (status_of j)
not_refused j e (inl a) = absurd (cc)
not_refused j e (inr (inl a)) = absurd (cc)
not_refused j e (inr (inr a)) = absurd (cc)

not_limited : (j : Judgement) → status_of j ≡ status.Limit → ¬ SaysHowItRan (status_of j)
not_limited j e (inl a) = absurd (cc)
not_limited j e (inr (inl a)) = absurd (cc)
not_limited j e (inr (inr a)) = absurd (cc)

ran_program : (r : Request) (source : List ℕ) (given : List (List ℕ)) (j : Judgement) (lines : List InputLine) (p : Program) → IsRun r → AreInputsIn given (Ok lines) → IsOn source p → IsReportOnProgram r lines p j → SaysResult r (source ∷ given) j
ran_program (requests.check file) source given j lines p runs are on report = absurd runs
ran_program (requests.conditions file) source given j lines p runs are on report = absurd runs
ran_program (requests.run entry turns inputs file) source given j lines p runs are on report = (result_of p entry turns 1 lines, (p, lines, on.spelled, on.obeys, are, refl), report)

ran_units : (r : Request) (source : List ℕ) (given : List (List ℕ)) (j : Judgement) (units : List Unit) → IsRun r → IsText 0 source units → IsReportOnUnits r given units j → SaysHowItRan (status_of j) → SaysResult r (source ∷ given) j
ran_units r source given j units runs text (of_line n bad is) how = absurd (not_refused j (ap status_of is) how)
ran_units r source given j units runs text (of_breach lines breach are first is) how = absurd (not_refused j (ap status_of is) how)
ran_units r source given j units runs text (of_program lines p are made obeys report) how =
    ran_program r source given j lines p runs are (record { spelled = spelled_by source units p text made; obeys = obeys }) report

ran_reading : (r : Request) (source : List ℕ) (given : List (List ℕ)) (j : Judgement) (reading : Reading) → IsRun r → Text source reading → IsReportOnReading r given reading j → SaysHowItRan (status_of j) → SaysResult r (source ∷ given) j
ran_reading r source given j _ runs (units_of units text) report how = ran_units r source given j units runs text report how
ran_reading r source given j _ runs (none_of finding none) is how = absurd (not_refused j (ap status_of is) how)
ran_reading r source given j _ runs crowd_of is how = absurd (not_limited j (ap status_of is) how)
ran_reading r source given j _ runs depth_of is how = absurd (not_limited j (ap status_of is) how)

pub says_result : Laws → (r : Request) (contents : List (List ℕ)) (j : Judgement) → IsRun r → IsJudgedOn r contents j → SaysHowItRan (status_of j) → SaysResult r contents j
says_result laws r contents j runs (inl (long, is)) how = absurd (not_limited j (ap status_of is) how)
says_result laws r [] j runs (inr (short, report)) how = absurd report
says_result laws r (source ∷ given) j runs (inr (short, (reading, read, report))) how = ran_reading r source given j reading runs (text_of_reading laws source reading read) report how

-- ---- on contents

alone_by_count : (r : Request) (source : List ℕ) (given : List (List ℕ)) → length (source ∷ given) ≡ length (files_in r) → IsAlone r given
alone_by_count (requests.check file) source [] count = λ plain. refl
alone_by_count (requests.check file) source (more ∷ rest) count = absurd (omega (arith, count))
alone_by_count (requests.conditions file) source [] count = λ plain. refl
alone_by_count (requests.conditions file) source (more ∷ rest) count = absurd (omega (arith, count))
alone_by_count (requests.run entry turns inputs file) source given count = λ plain. absurd (plain tt)

-- what a judgement on contents comes to
pub fate : Laws → (r : Request) (contents : List (List ℕ)) (j : Judgement) → length contents ≡ length (files_in r) → IsJudgedOn r contents j → Fate r contents j
fate laws r contents j count (inl (long, is)) = limited (inl long) (ap status_of is)
fate laws r [] j count (inr (short, report)) = absurd report
fate laws r (source ∷ given) j count (inr (short, (reading, read, report))) =
    fate_of_reading laws r source given j reading (alone_by_count r source given count) short read (text_of_reading laws source reading read) report
