-- Where each answer comes, and from an accepted check to runs that may be relied on.
use Rattle.std.proofs.Common.{◌≡◌, ◌≢◌, ℕ, cond, eqb, List, [], ◌∷◌, length, Some, Result, Ok, Err, inl, inr, refl, sym, ap, subst, ◌∙◌, arith}
use Rattle.std.specs.Prelude.{◌↔◌}
use Rattle.std.proofs.lemmas.Grind.{common_steps}
use Rattle.std.proofs.lemmas.Bool.Decides.{nat_tests}
use Rattle.spx_tree.specs.declared.subprogram.Unit.{Unit}
use Rattle.spx_core.specs.declared.program.Program.{Program}
use Rattle.spx_paths.specs.Fit.{Fit}
use Rattle.spx_meaning.specs.Laws.{NeverBad, TwoRuns}
use Rattle.spx_report.specs.declared.report.Finding.{Finding}
use Rattle.spx_findings.specs.Findings.{findings_of}
use Rattle.spx_findings.specs.Listing.{conditions_text}
use Rattle.spx_report.specs.RuleTexts.{breach_finding}
use Rattle.spx_run.specs.declared.inputs.InputLine.{InputLine}
use Rattle.spx_words.specs.Requests as requests
use Rattle.spx_words.specs.Requests.{Request}
use Rattle.spx_examiner.specs.declared.status.Status.TheVariants as status
use Rattle.spx_examiner.specs.declared.judgement.Judgement.{Judgement}
use Rattle.spx_examiner.specs.declared.judgement.Judgement.TheVariants.{Examined, Listed, Ran, Refused}
use Rattle.spx_examiner.specs.declared.reading.Reading.{Reading}
use Rattle.spx_examiner.specs.declared.reading.Reading.TheVariants.{Units, Broken, TooManyTokens, TooNested}
use Rattle.spx_examiner.specs.Causes.{named}
use Rattle.spx_examiner.specs.Judgement.{status_of, text_of}
use Rattle.spx_examiner.specs.Laws.{Laws}
use Rattle.spx_examiner.specs.Outcome.{AreAcceptable, AreBadFor, AreFit, AreGoodFor, AreInputsIn, AreRefusable, AreReliable, EndsBadly, HasNotEnded, IsAssured, IsJudgedOn, IsJudgement, IsReportOn, IsReportOnProgram, IsReportOnReading, IsReportOnUnits, OneOutcome, PassLimit, PassesLimit, SaysHowItRan, SpellOnly, Stand, no_form, of_breach, of_line, of_program, of_request, refused_at}
use Rattle.spx_examiner.specs.Words.{AsksForCheck, AsksForConditions, AsksForRun, HasNoForm, IsRun, asked, files_in}
use Rattle.spx_examiner.proofs.Endings.{named_are}
use Rattle.spx_examiner.proofs.Examined.{one_breach, one_examined, one_made, not_obeyed}
use Rattle.spx_examiner.proofs.Fates.{Fate, SaysResult, accepted, accepts, clean_program, fate, faulted, good_run, late, limited, no_result_plain, one_inputs, one_result, only_program, refused, says_result}
use Rattle.spx_examiner.proofs.Spelled.{one_reading}

-- ---- one judgement

one_on_program : Laws → (r : Request) (lines : List InputLine) (p : Program) (j k : Judgement) → IsReportOnProgram r lines p j → IsReportOnProgram r lines p k → j ≡ k
one_on_program laws (requests.check file) lines p j k a b = one_examined laws p _ j k a b
one_on_program laws (requests.conditions file) lines p j k a b = one_examined laws p _ j k a b
one_on_program laws (requests.run entry turns inputs file) lines p j k a b = a ∙ sym b

one_read : Laws → (given : List (List ℕ)) (a b : Result (List InputLine) ℕ) → AreInputsIn given a → AreInputsIn given b → a ≡ b
one_read laws given a b x y = one_inputs laws given a b x y

good_and_bad : Laws → (given : List (List ℕ)) (lines : List InputLine) (n : ℕ) → AreInputsIn given (Ok lines) → ¬ AreInputsIn given (Err n)
good_and_bad laws given lines n x y = let e = one_inputs laws given (Ok lines) (Err n) x y in absurd (cc)

one_of_units : Laws → (r : Request) (given : List (List ℕ)) (units : List Unit) (j k : Judgement) → IsReportOnUnits r given units j → IsReportOnUnits r given units k → j ≡ k
one_of_units laws r given units j k (of_line n bad is) (of_line m bad' is') =
    let e = one_inputs laws given (Err n) (Err m) bad bad' in
    let same : n ≡ m = cc in
    is ∙ ap (λ (l : ℕ). Ran (refused_at l)) same ∙ sym is'
one_of_units laws r given units j k (of_line n bad is) (of_breach lines breach are first is') = absurd (good_and_bad laws given lines n are bad)
one_of_units laws r given units j k (of_line n bad is) (of_program lines p are made obeys report) = absurd (good_and_bad laws given lines n are bad)
one_of_units laws r given units j k (of_breach lines breach are first is) (of_line n bad is') = absurd (good_and_bad laws given lines n are bad)
one_of_units laws r given units j k (of_breach lines a are first is) (of_breach lines' b are' first' is') =
    is ∙ ap (λ breach. Refused (breach_finding breach ∷ [])) (one_breach laws units a b first first') ∙ sym is'
one_of_units laws r given units j k (of_breach lines breach are first is) (of_program lines' p are' made obeys report) = absurd (not_obeyed laws units breach p first made obeys)
one_of_units laws r given units j k (of_program lines p are made obeys report) (of_line n bad is) = absurd (good_and_bad laws given lines n are bad)
one_of_units laws r given units j k (of_program lines p are made obeys report) (of_breach lines' breach are' first is) = absurd (not_obeyed laws units breach p first made obeys)
one_of_units laws r given units j k (of_program lines p are made obeys report) (of_program others q are' made' obeys' report') =
    let e = one_inputs laws given (Ok others) (Ok lines) are' are in
    let alike : others ≡ lines = cc in
    let same : q ≡ p = one_made laws units q p made' made in
    one_on_program laws r lines p j k report
    (subst (λ ls. IsReportOnProgram r ls p k) alike (subst (λ s. IsReportOnProgram r others s k) same report'))

one_by_reading : Laws → (r : Request) (given : List (List ℕ)) (reading : Reading) (j k : Judgement) → IsReportOnReading r given reading j → IsReportOnReading r given reading k → j ≡ k
one_by_reading laws r given (Units units) j k a b = one_of_units laws r given units j k a b
one_by_reading laws r given (Broken finding) j k a b = a ∙ sym b
one_by_reading laws r given TooManyTokens j k a b = a ∙ sym b
one_by_reading laws r given TooNested j k a b = a ∙ sym b

one_report : Laws → (r : Request) (contents : List (List ℕ)) (j k : Judgement) → IsReportOn r contents j → IsReportOn r contents k → j ≡ k
one_report laws r [] j k a b = absurd a
one_report laws r (source ∷ given) j k (s, read, a) (t, read', b) =
    let same : t ≡ s = one_reading laws.spelling laws.stop laws.answer source t s read' read in
    one_by_reading laws r given s j k a (subst (λ u. IsReportOnReading r given u k) same b)

one_judged : Laws → (r : Request) (contents : List (List ℕ)) (j k : Judgement) → IsJudgedOn r contents j → IsJudgedOn r contents k → j ≡ k
one_judged laws r contents j k (inl long) (inl long') = long.1 ∙ sym long'.1
one_judged laws r contents j k (inl long) (inr report) = absurd (cc)
one_judged laws r contents j k (inr report) (inl long) = absurd (cc)
one_judged laws r contents j k (inr report) (inr report') = one_report laws r contents j k report.1 report'.1

-- words ask for one thing
one_asked : (words : List (List ℕ)) (r s : Request) → asked words ≡ Some r → asked words ≡ Some s → r ≡ s
one_asked words r s is is' = cc

-- two judgements on words and contents are the same
pub one_outcome : Laws → OneOutcome
one_outcome laws words contents j k (no_form none is) (no_form none' is') = is ∙ sym is'
one_outcome laws words contents j k (no_form none is) (of_request r asks count judged) = absurd (cc)
one_outcome laws words contents j k (of_request r asks count judged) (no_form none is) = absurd (cc)
one_outcome laws words contents j k (of_request r asks count judged) (of_request s asks' count' judged') =
    one_judged laws r contents j k judged (subst (λ q. IsJudgedOn q contents k) (one_asked words s r asks' asks) judged')

-- ---- where each answer comes

-- the fate of words that ask for something, or they have no form
data Ending (words contents : List (List ℕ)) (j : Judgement) : Type 0 where
  formless : HasNoForm words → status_of j ≡ status.Usage → Ending words contents j
  fated : (r : Request) → asked words ≡ Some r → Fate r contents j → Ending words contents j

ending : Laws → (words contents : List (List ℕ)) (j : Judgement) → IsJudgement words contents j → Ending words contents j
ending laws words contents j (no_form none is) = formless none (ap status_of is)
ending laws words contents j (of_request r asks count judged) = fated r asks (fate laws r contents j count judged)

-- what words stand for, for what they ask
standing : (words contents : List (List ℕ)) (P : Request → List (List ℕ) → Type 0) (r : Request) → asked words ≡ Some r → Stand P words contents → (¬ PassesLimit r contents) × P r contents
standing words contents P r asks (s, asks', few, here) =
    subst (λ q. (¬ PassesLimit q contents) × P q contents) (one_asked words s r asks' asks) (few, here)

passing : (words contents : List (List ℕ)) (r : Request) → asked words ≡ Some r → PassLimit words contents → PassesLimit r contents
passing words contents r asks (s, asks', passes) = subst (λ q. PassesLimit q contents) (one_asked words s r asks' asks) passes

good_is_not_faulty : Laws → (r : Request) (contents : List (List ℕ)) → AreGoodFor r contents → ¬ EndsBadly r contents
good_is_not_faulty laws r contents good (fault, comes) =
    let (outputs, other) = good_run r contents (no_result_plain r contents _ comes) good in
    let e = one_result laws r contents _ _ comes other in absurd (cc)

good_is_not_late : Laws → (r : Request) (contents : List (List ℕ)) → AreGoodFor r contents → ¬ HasNotEnded r contents
good_is_not_late laws r contents good (turns, comes) =
    let (outputs, other) = good_run r contents (no_result_plain r contents _ comes) good in
    let e = one_result laws r contents _ _ comes other in absurd (cc)

faulty_is_not_late : Laws → (r : Request) (contents : List (List ℕ)) → EndsBadly r contents → ¬ HasNotEnded r contents
faulty_is_not_late laws r contents (fault, comes) (turns, other) = let e = one_result laws r contents _ _ comes other in absurd (cc)

module _ (laws : Laws) (words contents : List (List ℕ)) (j : Judgement) where
  on_accepted : Ending words contents j → (status_of j ≡ status.Accepted) ↔ AreAcceptable words contents
  on_accepted (formless none e) = (λ a. absurd (cc), λ a. absurd (let asks = a.1 in cc))
  on_accepted (fated r asks (limited passes e)) = (λ a. absurd (cc), λ a. absurd ((standing words contents AreGoodFor r asks a).0 passes))
  on_accepted (fated r asks (refused few bad e)) = (λ a. absurd (cc), λ a. absurd (bad.0 (standing words contents AreGoodFor r asks a).1))
  on_accepted (fated r asks (accepted few good e)) = (λ a. (r, asks, few, good), λ a. e)
  on_accepted (fated r asks (faulted few fault e)) = (λ a. absurd (cc), λ a. absurd (good_is_not_faulty laws r contents (standing words contents AreGoodFor r asks a).1 fault))
  on_accepted (fated r asks (late few on e)) = (λ a. absurd (cc), λ a. absurd (good_is_not_late laws r contents (standing words contents AreGoodFor r asks a).1 on))

  on_refused : Ending words contents j → (status_of j ≡ status.Refused) ↔ AreRefusable words contents
  on_refused (formless none e) = (λ a. absurd (cc), λ a. absurd (let asks = a.1 in cc))
  on_refused (fated r asks (limited passes e)) = (λ a. absurd (cc), λ a. absurd ((standing words contents AreBadFor r asks a).0 passes))
  on_refused (fated r asks (refused few bad e)) = (λ a. (r, asks, few, bad), λ a. e)
  on_refused (fated r asks (accepted few good e)) = (λ a. absurd (cc), λ a. absurd ((standing words contents AreBadFor r asks a).1.0 good))
  on_refused (fated r asks (faulted few fault e)) = (λ a. absurd (cc), λ a. absurd ((standing words contents AreBadFor r asks a).1.1 fault))
  on_refused (fated r asks (late few on e)) = (λ a. absurd (cc), λ a. absurd ((standing words contents AreBadFor r asks a).1.2 on))

  on_faulted : Ending words contents j → (status_of j ≡ status.RunFault) ↔ Stand EndsBadly words contents
  on_faulted (formless none e) = (λ a. absurd (cc), λ a. absurd (let asks = a.1 in cc))
  on_faulted (fated r asks (limited passes e)) = (λ a. absurd (cc), λ a. absurd ((standing words contents EndsBadly r asks a).0 passes))
  on_faulted (fated r asks (refused few bad e)) = (λ a. absurd (cc), λ a. absurd (bad.1 (standing words contents EndsBadly r asks a).1))
  on_faulted (fated r asks (accepted few good e)) = (λ a. absurd (cc), λ a. absurd (good_is_not_faulty laws r contents good (standing words contents EndsBadly r asks a).1))
  on_faulted (fated r asks (faulted few fault e)) = (λ a. (r, asks, few, fault), λ a. e)
  on_faulted (fated r asks (late few on e)) = (λ a. absurd (cc), λ a. absurd (faulty_is_not_late laws r contents (standing words contents EndsBadly r asks a).1 on))

  on_late : Ending words contents j → (status_of j ≡ status.NotEnded) ↔ Stand HasNotEnded words contents
  on_late (formless none e) = (λ a. absurd (cc), λ a. absurd (let asks = a.1 in cc))
  on_late (fated r asks (limited passes e)) = (λ a. absurd (cc), λ a. absurd ((standing words contents HasNotEnded r asks a).0 passes))
  on_late (fated r asks (refused few bad e)) = (λ a. absurd (cc), λ a. absurd (bad.2 (standing words contents HasNotEnded r asks a).1))
  on_late (fated r asks (accepted few good e)) = (λ a. absurd (cc), λ a. absurd (good_is_not_late laws r contents good (standing words contents HasNotEnded r asks a).1))
  on_late (fated r asks (faulted few fault e)) = (λ a. absurd (cc), λ a. absurd (faulty_is_not_late laws r contents fault (standing words contents HasNotEnded r asks a).1))
  on_late (fated r asks (late few on e)) = (λ a. (r, asks, few, on), λ a. e)

  on_limited : Ending words contents j → (status_of j ≡ status.Limit) ↔ PassLimit words contents
  on_limited (formless none e) = (λ a. absurd (cc), λ a. absurd (let asks = a.1 in cc))
  on_limited (fated r asks (limited passes e)) = (λ a. (r, asks, passes), λ a. e)
  on_limited (fated r asks (refused few bad e)) = (λ a. absurd (cc), λ a. absurd (few (passing words contents r asks a)))
  on_limited (fated r asks (accepted few good e)) = (λ a. absurd (cc), λ a. absurd (few (passing words contents r asks a)))
  on_limited (fated r asks (faulted few fault e)) = (λ a. absurd (cc), λ a. absurd (few (passing words contents r asks a)))
  on_limited (fated r asks (late few on e)) = (λ a. absurd (cc), λ a. absurd (few (passing words contents r asks a)))

  on_usage : Ending words contents j → (status_of j ≡ status.Usage) ↔ HasNoForm words
  on_usage (formless none e) = (λ a. none, λ a. e)
  on_usage (fated r asks (limited passes e)) = (λ a. absurd (cc), λ none. absurd (cc))
  on_usage (fated r asks (refused few bad e)) = (λ a. absurd (cc), λ none. absurd (cc))
  on_usage (fated r asks (accepted few good e)) = (λ a. absurd (cc), λ none. absurd (cc))
  on_usage (fated r asks (faulted few fault e)) = (λ a. absurd (cc), λ none. absurd (cc))
  on_usage (fated r asks (late few on e)) = (λ a. absurd (cc), λ none. absurd (cc))

  on_fault : Ending words contents j → (status_of j ≢ status.ReadFault) × (status_of j ≢ status.NoMemory)
  on_fault (formless none e) = (λ a. cc, λ a. cc)
  on_fault (fated r asks (limited passes e)) = (λ a. cc, λ a. cc)
  on_fault (fated r asks (refused few bad e)) = (λ a. cc, λ a. cc)
  on_fault (fated r asks (accepted few good e)) = (λ a. cc, λ a. cc)
  on_fault (fated r asks (faulted few fault e)) = (λ a. cc, λ a. cc)
  on_fault (fated r asks (late few on e)) = (λ a. cc, λ a. cc)

-- for each answer, exactly where a judgement has it
pub record Causes (words contents : List (List ℕ)) (j : Judgement) : Type 0 where
  pub accepted : (status_of j ≡ status.Accepted) ↔ AreAcceptable words contents
  pub refused : (status_of j ≡ status.Refused) ↔ AreRefusable words contents
  pub limited : (status_of j ≡ status.Limit) ↔ PassLimit words contents
  pub run_fault : (status_of j ≡ status.RunFault) ↔ Stand EndsBadly words contents
  pub not_ended : (status_of j ≡ status.NotEnded) ↔ Stand HasNotEnded words contents
  pub usage : (status_of j ≡ status.Usage) ↔ HasNoForm words
  pub no_fault : (status_of j ≢ status.ReadFault) × (status_of j ≢ status.NoMemory)

pub causes : Laws → (words contents : List (List ℕ)) (j : Judgement) → IsJudgement words contents j → Causes words contents j
causes laws words contents j judged =
    let end = ending laws words contents j judged in
    record {
      accepted = on_accepted laws words contents j end;
      refused = on_refused laws words contents j end;
      limited = on_limited laws words contents j end;
      run_fault = on_faulted laws words contents j end;
      not_ended = on_late laws words contents j end;
      usage = on_usage laws words contents j end;
      no_fault = on_fault laws words contents j end;
    }

-- ---- accepted judgements on one file

one_line_found : (lines : List Finding) → cond (eqb (length lines) 0) status.Accepted status.Refused ≡ status.Accepted → lines ≡ []
one_line_found [] e = refl
one_line_found (line ∷ lines) e = grind (arith, common_steps, nat_tests, e)

-- a judgement on what words ask for, of one file
record IsOnOne (r : Request) (contents : List (List ℕ)) (j : Judgement) : Type 0 where
  source : List ℕ
  alone : contents ≡ source ∷ []
  judged : IsJudgedOn r (source ∷ []) j

on_one_file : (r : Request) (contents : List (List ℕ)) (j : Judgement) → length contents ≡ 1 → IsJudgedOn r contents j → IsOnOne r contents j
on_one_file r [] j one judged = absurd (omega (arith, one))
on_one_file r (source ∷ []) j one judged = record { source = source; alone = refl; judged = judged }
on_one_file r (source ∷ more ∷ rest) j one judged = absurd (omega (arith, one))

on_one : (words contents : List (List ℕ)) (j : Judgement) (r : Request) → asked words ≡ Some r → length (files_in r) ≡ 1 → IsJudgement words contents j → IsOnOne r contents j
on_one words contents j r asks one (no_form none is) = absurd (cc)
on_one words contents j r asks one (of_request s asks' count judged) =
    let same : s ≡ r = one_asked words s r asks' asks in
    on_one_file r contents j (count ∙ ap (λ (q : Request). length (files_in q)) same ∙ one) (subst (λ q. IsJudgedOn q contents j) same judged)

-- where the judgement on a check is accepted, the contents spell a program that is fit, and that may be relied on
pub reliable : Laws → (words contents : List (List ℕ)) (j : Judgement) → IsJudgement words contents j → AsksForCheck words → status_of j ≡ status.Accepted → IsAssured j → AreFit contents × AreReliable contents
reliable laws words contents j judged (file, asks) e assured =
    let on = on_one words contents j (requests.check file) asks refl judged in
    let a = accepts laws (requests.check file) (λ p. Examined p (findings_of p)) (λ lines p k report. report) on.source j on.judged e in
    let none = one_line_found (findings_of a.program).lines (sym (ap status_of a.is) ∙ e) in
    let clean = clean_program on.source a.program a.spelled a.obeys a.flows none in
    let sure : Fit a.program × NeverBad a.program × TwoRuns a.program = subst IsAssured a.is assured clean in
    subst (λ those. AreFit those × AreReliable those) (sym on.alone)
    ((a.program, a.spelled, clean, sure.0), (a.program, record { spelled = a.spelled; only = λ q spelled. only_program laws on.source a.program q a.spelled spelled; never_bad = sure.1; two_runs = sure.2 }))

-- where the judgement on conditions is accepted, its text is that of the conditions of the one program that the contents spell
abbrev pub ListsConditions : List (List ℕ) → List (List ℕ) → Judgement → Type 0
ListsConditions names contents j = (p : Program) × SpellOnly contents p × (text_of names j ≡ conditions_text p names)

pub lists_conditions : Laws → (words contents : List (List ℕ)) (j : Judgement) → IsJudgement words contents j → AsksForConditions words → status_of j ≡ status.Accepted → ListsConditions (named words) contents j
lists_conditions laws words contents j judged (file, asks) e =
    let on = on_one words contents j (requests.conditions file) asks refl judged in
    let a = accepts laws (requests.conditions file) (λ p. Listed (conditions_text p (file ∷ []))) (λ lines p k report. report) on.source j on.judged e in
    subst (λ those. ListsConditions (named words) those j) (sym on.alone)
    (subst (λ names. ListsConditions names (on.source ∷ []) j) (sym (named_are words (requests.conditions file) asks))
    (a.program, record { spelled = a.spelled; only = λ q spelled. only_program laws on.source a.program q a.spelled spelled }, ap (text_of (file ∷ [])) a.is))

-- where a run says how it ended, its judgement is what it comes to
pub runs_to : Laws → (words contents : List (List ℕ)) (j : Judgement) → IsJudgement words contents j → AsksForRun words → SaysHowItRan (status_of j) → (r : Request) × (asked words ≡ Some r) × SaysResult r contents j
runs_to laws words contents j (no_form none is) (r, asks, runs) how = absurd (cc)
runs_to laws words contents j (of_request s asks' count judged) (r, asks, runs) how =
    (s, asks', says_result laws s contents j (subst IsRun (one_asked words r s asks asks') runs) judged how)
