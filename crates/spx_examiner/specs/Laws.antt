-- The laws of the definitions below on which the answers rest.
use Rattle.std.specs.Prelude.{◌≡◌, ◌⊎◌, ℕ, List, Result, None}
use Rattle.spx_text.specs.declared.place.Place.{Place}
use Rattle.spx_tree.specs.declared.token.Token.{Token}
use Rattle.spx_tree.specs.declared.subprogram.Unit.{Unit}
use Rattle.spx_tree.specs.Spells.{Spells}
use Rattle.spx_tree.specs.Stops.{Cause, StopsAt}
use Rattle.spx_tree.specs.Form.{Form, forms_of}
use Rattle.spx_tree.specs.Written.{written}
use Rattle.spx_tree.specs.Grammar.{IsFile}
use Rattle.spx_tree.specs.Goes.{Fault, Answers, most_levels}
use Rattle.spx_tree.specs.Stops.{HasMoreTokens, most_tokens}
use Rattle.spx_core.specs.declared.program.Program.{Program}
use Rattle.spx_core.specs.Erased.{erased}
use Rattle.spx_core.specs.Erased.{Visible}
use Rattle.spx_core.specs.Statements.{Typed}
use Rattle.spx_core.specs.Obeyed.{Obeys}
use Rattle.spx_core.specs.Statements.{first_name_breach}
use Rattle.spx_core.specs.Obeyed.{first_rule_breach}
use Rattle.spx_report.specs.declared.report.Finding.{Finding}
use Rattle.spx_report.specs.FlowLines.{AreFlowLines}
use Rattle.spx_run.specs.declared.inputs.InputLine.{InputLine}
use Rattle.spx_run.specs.Inputs.{AreInputs}

-- a text has one list of tokens
abbrev pub OneSpelling : Type 0
OneSpelling = (file : ℕ) (bytes : List ℕ) (a b : List Token) → Spells file bytes a → Spells file bytes b → a ≡ b

-- or it is stopped at one place for one cause
pub record OneStop : Type 0 where
  pub unspelled : (file : ℕ) (bytes : List ℕ) (cause : Cause) (place : Place) (tokens : List Token) → StopsAt file bytes cause place → ¬ Spells file bytes tokens
  pub cause : (file : ℕ) (bytes : List ℕ) (c d : Cause) (p q : Place) → StopsAt file bytes c p → StopsAt file bytes d q → c ≡ d
  pub place : (file : ℕ) (bytes : List ℕ) (c d : Cause) (p q : Place) → StopsAt file bytes c p → StopsAt file bytes d q → p ≡ q

-- what syntax answers on tokens: units and the forms after them, or a fault
abbrev pub Parsed : Type 0
Parsed = Result (List Unit × List Form) Fault

-- tokens have one answer
abbrev pub OneAnswer : Type 0
OneAnswer = (source : List ℕ) (tokens : List Token) (a b : Parsed) → Answers written IsFile most_levels (forms_of source tokens) a → Answers written IsFile most_levels (forms_of source tokens) b → a ≡ b

-- files that are written with the same forms are one
abbrev pub OneTree : Type 0
OneTree = (m n : ℕ) (a b : List Unit) → IsFile m a → IsFile n b → written a ≡ written b → a ≡ b

-- units that are a program whose types fit break no rule on names or types
abbrev pub NoBreach : Type 0
NoBreach = (p : Program) → Visible p → Typed p → first_name_breach (erased p) ≡ None

-- a program that obeys the rules on variables breaks none of them
abbrev pub NoRuleBreach : Type 0
NoRuleBreach = (p : Program) → Obeys p → first_rule_breach p ≡ None

-- the flow of a program has one list of lines
abbrev pub OneListOfLines : Type 0
OneListOfLines = (p : Program) (a b : List Finding) → AreFlowLines p a → AreFlowLines p b → a ≡ b

-- the text of inputs is read in one way
abbrev pub OneListOfInputs : Type 0
OneListOfInputs = (bytes : List ℕ) (a b : Result (List InputLine) ℕ) → AreInputs bytes a → AreInputs bytes b → a ≡ b

-- units are one program
abbrev pub OneProgram : Type 0
OneProgram = (p q : Program) → Visible p → Visible q → erased p ≡ erased q → p ≡ q

-- that there is at most one judgement rests on these: lexis, syntax, rules and lines have each at most one outcome
pub record Laws : Type 0 where
  pub spelling : OneSpelling
  pub stop : OneStop
  pub answer : OneAnswer
  pub tree : OneTree
  pub program : OneProgram
  pub breach : NoBreach
  pub obeyed : NoRuleBreach
  pub lines : OneListOfLines
  pub inputs : OneListOfInputs

-- ---- that there is something

-- a text has tokens, or it is stopped, or it has too many tokens before that
abbrev pub SomeSpelling : Type 0
SomeSpelling = (file : ℕ) (bytes : List ℕ) →
    ((tokens : List Token) × Spells file bytes tokens × (¬ HasMoreTokens most_tokens file bytes))
    ⊎ (((cause : Cause) × (place : Place) × StopsAt file bytes cause place × (¬ HasMoreTokens most_tokens file bytes)) ⊎ HasMoreTokens most_tokens file bytes)

-- tokens have an answer
abbrev pub SomeAnswer : Type 0
SomeAnswer = (source : List ℕ) (tokens : List Token) → (answer : Parsed) × Answers written IsFile most_levels (forms_of source tokens) answer

-- units that break no rule on names or types are a program
abbrev pub SomeProgram : Type 0
SomeProgram = (units : List Unit) → first_name_breach units ≡ None → (p : Program) × (erased p ≡ units) × Visible p × Typed p

-- a program in which no rule on variables is broken first obeys them
abbrev pub ObeysUnlessBroken : Type 0
ObeysUnlessBroken = (p : Program) → first_rule_breach p ≡ None → Obeys p

-- the flow of a program has a list of lines
abbrev pub SomeListOfLines : Type 0
SomeListOfLines = (p : Program) → (lines : List Finding) × AreFlowLines p lines

-- the text of inputs is read in some way
abbrev pub SomeListOfInputs : Type 0
SomeListOfInputs = (bytes : List ℕ) → (read : Result (List InputLine) ℕ) × AreInputs bytes read

-- that there is a judgement rests on these: they have each at least one outcome
pub record LawsOfExistence : Type 0 where
  pub spelling : SomeSpelling
  pub answer : SomeAnswer
  pub program : SomeProgram
  pub obeyed : ObeysUnlessBroken
  pub lines : SomeListOfLines
  pub inputs : SomeListOfInputs
