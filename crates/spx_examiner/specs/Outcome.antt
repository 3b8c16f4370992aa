-- What the program is to answer and to write, by its words and the contents of the files that they name.
use Rattle.std.specs.Prelude.{◌≡◌, ◌⊎◌, ⊤, ℕ, true, false, List, [], ◌∷◌, length, Option, Some, None, Result, Ok, Err}
use Rattle.spx_tree.specs.declared.subprogram.Unit.{Unit}
use Rattle.spx_core.specs.declared.program.Program.{Program}
use Rattle.spx_core.specs.Contents.{Is, IsMadeFrom}
use Rattle.spx_core.specs.Statements.{first_name_breach}
use Rattle.spx_core.specs.declared.rule.Breach.{Breach}
use Rattle.spx_core.specs.Obeyed.{Obeys, first_rule_breach}
use Rattle.spx_core.specs.FlowRules.{HasNoFlowFinding, has_many_variables}
use Rattle.spx_paths.specs.Fit.{Clean, Fit}
use Rattle.spx_meaning.specs.Laws.{NeverBad, TwoRuns}
use Rattle.spx_examiner.specs.declared.status.Status.{Status}
use Rattle.spx_examiner.specs.declared.status.Status.TheVariants as status
use Rattle.spx_report.specs.declared.report.Finding.{Finding}
use Rattle.spx_examiner.specs.declared.judgement.Judgement.{Judgement}
use Rattle.spx_examiner.specs.declared.judgement.Judgement.TheVariants.{Usage, Limit, Refused, Examined, Listed, Ran}
use Rattle.spx_report.specs.declared.limit.LimitName.{LimitName}
use Rattle.spx_report.specs.declared.limit.LimitName.TheVariants.{FileSize, Tokens, Nesting, Variables}
use Rattle.spx_examiner.specs.declared.reading.Reading.{Reading}
use Rattle.spx_examiner.specs.declared.reading.Reading.TheVariants.{Units, Broken, TooManyTokens, TooNested}
use Rattle.spx_examiner.specs.Reading.{IsRead}
use Rattle.spx_words.specs.Requests.{Request, check, conditions, run}
use Rattle.spx_examiner.specs.Words.{HasNoForm, IsCheck, IsConditions, IsRun, asked, files_in}
use Rattle.spx_examiner.specs.Judgement.{status_of, text_of}
use Rattle.spx_findings.specs.Findings.{findings_of, first_limit}
use Rattle.spx_findings.specs.Listing.{conditions_text}
use Rattle.spx_report.specs.RuleTexts.{breach_finding}
use Rattle.spx_report.specs.FlowLines.{AreFlowLines}
use Rattle.spx_meaning.specs.declared.bad.Bad.{Bad}
use Rattle.spx_run.specs.declared.inputs.InputLine.{InputLine}
use Rattle.spx_run.specs.declared.result.InputFinding.TheVariants.{BadLine}
use Rattle.spx_run.specs.declared.result.Output.{Output}
use Rattle.spx_run.specs.declared.result.RunResult.{RunResult}
use Rattle.spx_run.specs.declared.result.RunResult.TheVariants as result
use Rattle.spx_run.specs.Inputs.{AreInputs}
use Rattle.spx_run.specs.Results.{result_of, result_text}
use Rattle.spx_text.specs.Writes.{IsPart, after}
use Rattle.spx_examiner.specs.Causes.{AreTooLong, any_too_long, named}

-- ---- programs

-- The contents spell this program, and no other.
pub record SpellOnly (contents : List (List ℕ)) (p : Program) : Type 0 where
  pub spelled : Is contents p
  pub only : (q : Program) → Is contents q → q ≡ p

-- The contents spell exactly this program, and its runs may be relied on: from a store that meets its precondition no run of a
-- subprogram is bad, at any bound; and two ended runs that agree on the declared imports of an export give it one value.
pub record IsReliable (contents : List (List ℕ)) (p : Program) : Type 0 where
  pub spelled : Is contents p
  pub only : (q : Program) → Is contents q → q ≡ p
  pub never_bad : NeverBad p
  pub two_runs : TwoRuns p

-- ---- judgements, in the order of work

-- What the inputs of a run say: the lines of their file, or the number of its first bad one. Without a file there are no lines.
abbrev pub AreInputsIn : List (List ℕ) → Result (List InputLine) ℕ → Type 0
AreInputsIn [] read = read ≡ Ok []
AreInputsIn (bytes ∷ more) read = AreInputs bytes read

-- a run is refused for a bad line of its inputs, which are the second file
abbrev pub refused_at : ℕ → RunResult
refused_at n = result.Refused (BadLine (record { file = 1; line = n; column = 1 }) ∷ [])

-- the first broken rule: one on names or types, or else one on variables
pub data IsFirstBreach (units : List Unit) (breach : Breach) : Type 0 where
  of_names : first_name_breach units ≡ Some breach → IsFirstBreach units breach
  of_rules : (p : Program) → IsMadeFrom units p → first_rule_breach p ≡ Some breach → IsFirstBreach units breach

-- the limit, or what is asked for where there is none
abbrev pub by_limit : Judgement → Option LimitName → Judgement
by_limit j (Some name) = Limit name
by_limit j None = j

-- the findings on flow, or else the first limit of the conditions, or else what is asked for
abbrev pub by_flow : Judgement → Option LimitName → List Finding → Judgement
by_flow j limit [] = by_limit j limit
by_flow j limit (line ∷ lines) = Refused (line ∷ lines)

-- What is reported on a program that obeys the rules, where this is asked for of its conditions: that a subprogram has too many variables;
-- else what the bodies and their declared relations disagree on; else that a body has too many paths or a condition too many nodes.
pub data IsExamined (p : Program) (of_conditions j : Judgement) : Type 0 where
  wide : has_many_variables p ≡ true → j ≡ Limit Variables → IsExamined p of_conditions j
  narrow : (lines : List Finding) → has_many_variables p ≡ false → AreFlowLines p lines → j ≡ by_flow of_conditions (first_limit p) lines → IsExamined p of_conditions j

-- what is asked for of a program that obeys the rules
abbrev pub IsReportOnProgram : Request → List InputLine → Program → Judgement → Type 0
IsReportOnProgram (check file) lines p j = IsExamined p (Examined p (findings_of p)) j
IsReportOnProgram (conditions file) lines p j = IsExamined p (Listed (conditions_text p (file ∷ []))) j
IsReportOnProgram (run entry turns inputs file) lines p j = j ≡ Ran (result_of p entry turns 1 lines)

-- on units and inputs: the first bad line of the inputs, else the first broken rule, else what is asked for
pub data IsReportOnUnits (r : Request) (inputs : List (List ℕ)) (units : List Unit) (j : Judgement) : Type 0 where
  of_line : (n : ℕ) → AreInputsIn inputs (Err n) → j ≡ Ran (refused_at n) → IsReportOnUnits r inputs units j
  of_breach : (lines : List InputLine) (breach : Breach) → AreInputsIn inputs (Ok lines) → IsFirstBreach units breach → j ≡ Refused (breach_finding breach ∷ []) → IsReportOnUnits r inputs units j
  of_program : (lines : List InputLine) (p : Program) → AreInputsIn inputs (Ok lines) → IsMadeFrom units p → Obeys p → IsReportOnProgram r lines p j → IsReportOnUnits r inputs units j

-- on a text and inputs, by what lexis and syntax say of the text
abbrev pub IsReportOnReading : Request → List (List ℕ) → Reading → Judgement → Type 0
IsReportOnReading r inputs (Units units) j = IsReportOnUnits r inputs units j
IsReportOnReading r inputs (Broken finding) j = j ≡ Refused (finding ∷ [])
IsReportOnReading r inputs TooManyTokens j = j ≡ Limit Tokens
IsReportOnReading r inputs TooNested j = j ≡ Limit Nesting

-- on the contents of the files, of which the first is the program
abbrev pub IsReportOn : Request → List (List ℕ) → Judgement → Type 0
IsReportOn r [] j = ⊥
IsReportOn r (bytes ∷ inputs) j = (reading : Reading) × IsRead bytes reading × IsReportOnReading r inputs reading j

-- a file is too long, or else there is this to report
abbrev pub IsJudgedOn : Request → List (List ℕ) → Judgement → Type 0
IsJudgedOn r contents j = (AreTooLong contents × (j ≡ Limit FileSize)) ⊎ ((any_too_long contents ≡ false) × IsReportOn r contents j)

-- The judgement on words and on the contents of the files that they name: words without a form, then a file that is too long, then the
-- report on what is asked for.
pub data IsJudgement (words contents : List (List ℕ)) (j : Judgement) : Type 0 where
  no_form : HasNoForm words → j ≡ Usage → IsJudgement words contents j
  of_request : (r : Request) → asked words ≡ Some r → length contents ≡ length (files_in r) → IsJudgedOn r contents j → IsJudgement words contents j

-- the status is that of the judgement, and its text was taken
abbrev pub EndsAs : List (List ℕ) → List (List ℕ) → Status → Option (List ℕ) → Option (List ℕ) → Type 0
EndsAs words contents status before now = (j : Judgement) × IsJudgement words contents j × (status ≡ status_of j) × (now ≡ after before (text_of (named words) j))

-- a part of the text of the judgement was taken, and not all
abbrev pub IsCutShortAs : List (List ℕ) → List (List ℕ) → Option (List ℕ) → Option (List ℕ) → Type 0
IsCutShortAs words contents before now = (j : Judgement) × IsJudgement words contents j × IsPart before now (text_of (named words) j)

-- the contents spell one program, and the text of its conditions was taken
abbrev pub AreListed : List (List ℕ) → List (List ℕ) → Option (List ℕ) → Option (List ℕ) → Type 0
AreListed words contents before now = (p : Program) × SpellOnly contents p × (now ≡ after before (conditions_text p (named words)))

-- a text spells at most one program
abbrev pub OneSpelled : Type 0
OneSpelled = (source : List ℕ) (p q : Program) → Is (source ∷ []) p → Is (source ∷ []) q → q ≡ p

-- words and contents have at most one judgement
abbrev pub OneOutcome : Type 0
OneOutcome = (words contents : List (List ℕ)) (j k : Judgement) → IsJudgement words contents j → IsJudgement words contents k → j ≡ k

-- and at least one, where there is a content for each file that the words name
abbrev pub SomeOutcome : Type 0
SomeOutcome = (words contents : List (List ℕ)) → length contents ≡ length (named words) → (j : Judgement) × IsJudgement words contents j

-- ---- answers, by the words and the contents alone

-- the text of the program has too many tokens, or passes the levels of nesting before anything else breaks it
abbrev pub IsReadTooFar : List (List ℕ) → Type 0
IsReadTooFar [] = ⊥
IsReadTooFar (bytes ∷ inputs) = IsRead bytes TooManyTokens ⊎ IsRead bytes TooNested

-- the contents spell a program that obeys the rules, and has a subprogram with too many variables
abbrev pub AreTooWide : List (List ℕ) → Type 0
AreTooWide contents = (p : Program) × Is contents p × Obeys p × (has_many_variables p ≡ true)

-- or one that obeys the rules, has no such subprogram and no flow finding, and has a body with too many paths or a condition with too many nodes
abbrev pub AreTooLarge : List (List ℕ) → Type 0
AreTooLarge contents = (p : Program) × Is contents p × Obeys p × (has_many_variables p ≡ false) × HasNoFlowFinding p × (name : LimitName) × (first_limit p ≡ Some name)

-- the contents spell a program that obeys the rules and inputs for it, and the run that is asked for comes to this
abbrev pub ComesTo : Request → List (List ℕ) → RunResult → Type 0
ComesTo (run entry turns inputs file) (source ∷ given) result =
    (p : Program) × (lines : List InputLine) × Is (source ∷ []) p × Obeys p × AreInputsIn given (Ok lines) × (result ≡ result_of p entry turns 1 lines)
ComesTo _ _ result = ⊥

-- what is asked for passes a limit: that of a file, of a text, of conditions, or of the numbers in a run
abbrev pub PassesLimit : Request → List (List ℕ) → Type 0
PassesLimit r contents = AreTooLong contents ⊎ (IsReadTooFar contents ⊎ (((¬ IsRun r) × (AreTooWide contents ⊎ AreTooLarge contents)) ⊎ ((name : LimitName) × ComesTo r contents (result.TooLarge name))))

-- the contents spell a program on which there is nothing to report
abbrev pub AreClean : List (List ℕ) → Type 0
AreClean contents = (p : Program) × Is contents p × Clean p

-- the contents spell a program that has conditions: it obeys the rules, no subprogram has too many variables, and there is no flow finding
abbrev pub AreSound : List (List ℕ) → Type 0
AreSound contents = (p : Program) × Is contents p × Obeys p × (has_many_variables p ≡ false) × HasNoFlowFinding p

-- the run that is asked for ends well, ends with a fault, or has not ended within its turns
abbrev pub EndsWell : Request → List (List ℕ) → Type 0
EndsWell r contents = (outputs : List Output) × ComesTo r contents (result.Ended outputs)

-- the run that is asked for ends with a fault
abbrev pub EndsBadly : Request → List (List ℕ) → Type 0
EndsBadly r contents = (fault : Bad) × ComesTo r contents (result.Faulted fault)

-- the run that is asked for has not ended within its turns
abbrev pub HasNotEnded : Request → List (List ℕ) → Type 0
HasNotEnded r contents = (turns : ℕ) × ComesTo r contents (result.NotEnded turns)

-- the contents are as they must be for what is asked: for a check clean, for conditions sound, for a run such that it ends well
abbrev pub AreGoodFor : Request → List (List ℕ) → Type 0
AreGoodFor r contents = (IsCheck r × AreClean contents) ⊎ ((IsConditions r × AreSound contents) ⊎ EndsWell r contents)

-- neither that, nor does a run end badly or too late
abbrev pub AreBadFor : Request → List (List ℕ) → Type 0
AreBadFor r contents = (¬ AreGoodFor r contents) × (¬ EndsBadly r contents) × (¬ HasNotEnded r contents)

-- the run that is asked for comes to something, and its text was taken
abbrev pub HasRunTo : List (List ℕ) → List (List ℕ) → Option (List ℕ) → Option (List ℕ) → Type 0
HasRunTo words contents before now = (r : Request) × (asked words ≡ Some r) × (came : RunResult) × ComesTo r contents came × (now ≡ after before (result_text (named words) came))

-- the answer says how a run ended, or that it has not ended
abbrev pub SaysHowItRan : Status → Type 0
SaysHowItRan answer = (answer ≡ status.Accepted) ⊎ ((answer ≡ status.RunFault) ⊎ (answer ≡ status.NotEnded))

-- the words ask for something, and a limit is passed
abbrev pub PassLimit : List (List ℕ) → List (List ℕ) → Type 0
PassLimit words contents = (r : Request) × (asked words ≡ Some r) × PassesLimit r contents

-- the words ask for something, no limit is passed, and this holds of the contents for it
abbrev pub Stand : (Request → List (List ℕ) → Type 0) → List (List ℕ) → List (List ℕ) → Type 0
Stand P words contents = (r : Request) × (asked words ≡ Some r) × (¬ PassesLimit r contents) × P r contents

-- no limit is passed, and the contents are as they must be for what is asked
abbrev pub AreAcceptable : List (List ℕ) → List (List ℕ) → Type 0
AreAcceptable words contents = Stand AreGoodFor words contents

-- no limit is passed, and the contents are not as they must be for what is asked
abbrev pub AreRefusable : List (List ℕ) → List (List ℕ) → Type 0
AreRefusable words contents = Stand AreBadFor words contents

-- the contents spell a program on which there is nothing to report, and which is fit to run
abbrev pub AreFit : List (List ℕ) → Type 0
AreFit contents = (p : Program) × Is contents p × Clean p × Fit p

-- the contents spell exactly one program, and its runs may be relied on
abbrev pub AreReliable : List (List ℕ) → Type 0
AreReliable contents = (p : Program) × IsReliable contents p

-- what is known of the program in a judgement: where it is clean, it is fit, and its runs may be relied on
abbrev pub IsAssured : Judgement → Type 0
IsAssured Usage = ⊤
IsAssured (Limit name) = ⊤
IsAssured (Refused lines) = ⊤
IsAssured (Examined p found) = Clean p → Fit p × NeverBad p × TwoRuns p
IsAssured (Listed text) = ⊤
IsAssured (Ran result) = ⊤
