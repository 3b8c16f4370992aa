-- Words, and contents of the files that they name, have a judgement.
use Rattle.std.proofs.Common.{◌≡◌, inl, inr, ℕ, Bool, true, false, List, [], ◌∷◌, length, Option, Some, None, Result, Ok, Err, refl, ap, ◌∙◌, arith}
use Rattle.spx_tree.specs.declared.token.Token.{Token}
use Rattle.spx_tree.specs.declared.subprogram.Unit.{Unit}
use Rattle.spx_tree.specs.Form.{forms_of}
use Rattle.spx_tree.specs.Grammar.{IsFile}
use Rattle.spx_tree.specs.Goes.{Answers, Expected, TooDeep}
use Rattle.spx_tree.specs.Written.{written}
use Rattle.spx_core.specs.declared.program.Program.{Program}
use Rattle.spx_core.specs.declared.rule.Breach.{Breach}
use Rattle.spx_core.specs.Contents.{IsMadeFrom}
use Rattle.spx_core.specs.FlowRules.{has_many_variables}
use Rattle.spx_core.specs.Obeyed.{first_rule_breach}
use Rattle.spx_core.specs.Statements.{first_name_breach}
use Rattle.spx_report.specs.declared.limit.LimitName.TheVariants as limit
use Rattle.spx_run.specs.declared.inputs.InputLine.{InputLine}
use Rattle.spx_run.specs.Results.{result_of}
use Rattle.spx_words.specs.Requests as requests
use Rattle.spx_words.specs.Requests.{Request}
use Rattle.spx_examiner.specs.declared.judgement.Judgement.{Judgement}
use Rattle.spx_examiner.specs.declared.judgement.Judgement.TheVariants.{Usage, Limit, Refused, Ran}
use Rattle.spx_examiner.specs.declared.reading.Reading.{Reading}
use Rattle.spx_examiner.specs.declared.reading.Reading.TheVariants.{Units, Broken, TooManyTokens, TooNested}
use Rattle.spx_examiner.specs.Causes.{any_too_long, named}
use Rattle.spx_examiner.specs.Laws.{LawsOfExistence, Parsed}
use Rattle.spx_examiner.specs.Outcome as outcome
use Rattle.spx_examiner.specs.Outcome.{AreInputsIn, IsExamined, IsJudgedOn, IsJudgement, IsReportOnProgram, IsReportOnReading, IsReportOnUnits, SomeOutcome, narrow, no_form, of_breach, of_line, of_names, of_request, of_rules, wide}
use Rattle.spx_examiner.specs.Reading.{AreTokens, IsRead, crowded, ended, nested, stopped, whole}
use Rattle.spx_examiner.specs.Words.{asked, files_in}
use Rattle.spx_examiner.proofs.Endings.{named_are}

-- ---- texts

abbrev SomeReading : List ℕ → Type 0
SomeReading bytes = (reading : Reading) × IsRead bytes reading

-- what syntax answers says what the text is read as
answered : (bytes : List ℕ) (tokens : List Token) → AreTokens bytes tokens → (answer : Parsed) → Answers written IsFile 200 (forms_of bytes tokens) answer → SomeReading bytes
answered bytes tokens are (Ok (units, [])) is = (_, whole tokens units are is refl)
answered bytes tokens are (Ok (units, f ∷ rest)) is = (_, ended tokens _ are (inr (f, rest, units, is, refl)) refl)
answered bytes tokens are (Err (Expected left)) is = (_, ended tokens left are (inl is) refl)
answered bytes tokens are (Err (TooDeep left)) is = (_, nested tokens left are is refl)

abbrev SomeReport : Request → List (List ℕ) → List Unit → Type 0
SomeReport r given units = (j : Judgement) × IsReportOnUnits r given units j

module _ (laws : LawsOfExistence) where
  some_reading : (bytes : List ℕ) → SomeReading bytes
  some_reading bytes =
      elim (laws.spelling 0 bytes) [
        | inl (tokens, spelled, few) ↦ let answer = laws.answer bytes tokens in answered bytes tokens (record { spelled = spelled; few = few }) answer.0 answer.1
        | inr (inl (cause, place, stops, few)) ↦ (_, stopped cause place stops few refl)
        | inr (inr many) ↦ (_, crowded many refl)
      ]

  -- ---- programs

  by_width : (p : Program) (c : Judgement) (many : Bool) → has_many_variables p ≡ many → (j : Judgement) × IsExamined p c j
  by_width p c true is = (Limit limit.Variables, wide is refl)
  by_width p c false is = let lines = laws.lines p in (_, narrow lines.0 is lines.1 refl)

  of_program : (r : Request) (lines : List InputLine) (p : Program) → (j : Judgement) × IsReportOnProgram r lines p j
  of_program (requests.check file) lines p = by_width p _ (has_many_variables p) refl
  of_program (requests.conditions file) lines p = by_width p _ (has_many_variables p) refl
  of_program (requests.run entry turns inputs file) lines p = (Ran (result_of p entry turns 1 lines), refl)

  -- ---- units

  of_rule : (r : Request) (given : List (List ℕ)) (lines : List InputLine) → AreInputsIn given (Ok lines) → (units : List Unit) (p : Program) → IsMadeFrom units p → (o : Option Breach) → first_rule_breach p ≡ o → SomeReport r given units
  of_rule r given lines are units p made (Some breach) is = (_, of_breach lines breach are (of_rules p made is) refl)
  of_rule r given lines are units p made None is = let report = of_program r lines p in (report.0, outcome.of_program lines p are made (laws.obeyed p is) report.1)

  of_name : (r : Request) (given : List (List ℕ)) (lines : List InputLine) → AreInputsIn given (Ok lines) → (units : List Unit) → (o : Option Breach) → first_name_breach units ≡ o → SomeReport r given units
  of_name r given lines are units (Some breach) is = (_, of_breach lines breach are (of_names is) refl)
  of_name r given lines are units None is =
      let (p, made, visible, typed) = laws.program units is in
      of_rule r given lines are units p (record { made = made; visible = visible; typed = typed }) (first_rule_breach p) refl

  some_inputs : (given : List (List ℕ)) → (read : Result (List InputLine) ℕ) × AreInputsIn given read
  some_inputs [] = (Ok [], refl)
  some_inputs (bytes ∷ more) = laws.inputs bytes

  of_inputs : (r : Request) (given : List (List ℕ)) (units : List Unit) (read : Result (List InputLine) ℕ) → AreInputsIn given read → SomeReport r given units
  of_inputs r given units (Ok lines) are = of_name r given lines are units (first_name_breach units) refl
  of_inputs r given units (Err n) bad = (_, of_line n bad refl)

  -- ---- contents

  of_reading : (r : Request) (given : List (List ℕ)) (reading : Reading) → (j : Judgement) × IsReportOnReading r given reading j
  of_reading r given (Units units) = let read = some_inputs given in of_inputs r given units read.0 read.1
  of_reading r given (Broken finding) = (Refused (finding ∷ []), refl)
  of_reading r given TooManyTokens = (Limit limit.Tokens, refl)
  of_reading r given TooNested = (Limit limit.Nesting, refl)

  of_length : (r : Request) (source : List ℕ) (given : List (List ℕ)) (long : Bool) → any_too_long (source ∷ given) ≡ long → (j : Judgement) × IsJudgedOn r (source ∷ given) j
  of_length r source given true is = (Limit limit.FileSize, inl (is, refl))
  of_length r source given false is =
      let read = some_reading source in
      let report = of_reading r given read.0 in
      (report.0, inr (is, (read.0, read.1, report.1)))

  of_contents : (r : Request) (contents : List (List ℕ)) → length contents ≡ length (files_in r) → (j : Judgement) × IsJudgedOn r contents j
  of_contents r [] count = absurd (omega (arith, count))
  of_contents r (source ∷ given) count = of_length r source given (any_too_long (source ∷ given)) refl

  of_words : (words contents : List (List ℕ)) → length contents ≡ length (named words) → (o : Option Request) → asked words ≡ o → (j : Judgement) × IsJudgement words contents j
  of_words words contents as_many None is = (Usage, no_form is refl)
  of_words words contents as_many (Some r) is =
      let count : length contents ≡ length (files_in r) = as_many ∙ ap length (named_are words r is) in
      let judged = of_contents r contents count in
      (judged.0, of_request r is count judged.1)

  pub some_outcome : SomeOutcome
  some_outcome words contents as_many = of_words words contents as_many (asked words) refl
