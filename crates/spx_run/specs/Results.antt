-- What `run` comes to, and what it prints.
use Rattle.std.specs.Prelude.{ℕ, if◌then◌else◌, List, [], ◌∷◌, ◌++◌, length, flat_map, filter_map, Option, Some, None, option_map, slice_get, codes}
use Rattle.std.specs.Fmt.{decimal, signed_decimal}
use Rattle.std.specs.List.{join_by}
use Rattle.spx_core.specs.declared.entity.VarId.{VarId}
use Rattle.spx_core.specs.declared.program.Program.{Program}
use Rattle.spx_core.specs.declared.subprogram.Sub.{Sub}
use Rattle.spx_core.specs.Dependency.{exports}
use Rattle.spx_core.specs.Formals.{formals}
use Rattle.spx_term.specs.declared.value.Value.{Value, Value-F, fold-Value}
use Rattle.spx_meaning.specs.declared.bad.BadKind.{BadKind}
use Rattle.spx_meaning.specs.declared.bad.BadKind.TheVariants as bad
use Rattle.spx_meaning.specs.declared.bad.Bad.{Bad}
use Rattle.spx_meaning.specs.Stores.{Store, look, unset_store}
use Rattle.spx_meaning.specs.Runs as runs
use Rattle.spx_meaning.specs.Limits.{call_passes}
use Rattle.spx_meaning.specs.Elements.{has_many_elements}
use Rattle.spx_report.specs.declared.limit.LimitName.TheVariants.{Elements, Bits}
use Rattle.spx_report.specs.Limits.{limit_text}
use Rattle.spx_report.specs.Report.{place_text, spot_text, verdict}
use Rattle.spx_run.specs.declared.inputs.InputLine.{InputLine}
use Rattle.spx_run.specs.declared.result.InputFinding.{InputFinding}
use Rattle.spx_run.specs.declared.result.InputFinding.TheVariants.{BadLine, NoImport, NotOfType, NoValue, NoSubprogram}
use Rattle.spx_run.specs.declared.result.Output.{Output}
use Rattle.spx_run.specs.declared.result.RunResult.{RunResult}
use Rattle.spx_run.specs.declared.result.RunResult.TheVariants.{Refused, TooLarge, Faulted, NotEnded, Ended}
use Rattle.spx_run.specs.Given.{entry_named, findings_of, store_with, var_name}

-- ---- results

-- the value of an export after a run
abbrev pub output_of : Program → Store → VarId → Option Output
output_of p s v = option_map (λ x. record { name = var_name p v; value = x }) (look s v)

-- the exports of a subprogram with their values, in the order of the formals
abbrev pub outputs : Program → Sub → Store → List Output
outputs p sub s = filter_map (λ v. if exports v sub then output_of p s v else None) (formals sub)

-- what a call that ends like this comes to
abbrev pub ended_as : Program → Sub → (turns : ℕ) → runs.Outcome → RunResult
ended_as p sub turns (runs.Ended s) = Ended (outputs p sub s)
ended_as p sub turns (runs.Left s) = Ended (outputs p sub s)
ended_as p sub turns (runs.Bad kind place) = Faulted (record { kind = kind; place = place })
ended_as p sub turns runs.Later = NotEnded turns

-- the result of a call at this bound; a limit that it passes comes before all else, and that on elements before that on bits
abbrev pub result_of_call : Program → Sub → (turns : ℕ) → Store → RunResult
result_of_call p sub turns s =
    if has_many_elements p sub then TooLarge Elements else
    if call_passes p turns sub s then TooLarge Bits else ended_as p sub turns (runs.call p turns sub s)

-- findings on the inputs come before the run
abbrev pub after_findings : Program → Sub → (turns : ℕ) → List InputLine → List InputFinding → RunResult
after_findings p sub turns lines [] = result_of_call p sub turns (store_with p sub lines (unset_store p))
after_findings p sub turns lines (finding ∷ more) = Refused (finding ∷ more)

-- what a run of this subprogram with these inputs comes to
abbrev pub result_on : Program → Option Sub → (turns file : ℕ) → List InputLine → RunResult
result_on p (Some sub) turns file lines = after_findings p sub turns lines (findings_of p sub (unset_store p) file lines)
result_on p None turns file lines = Refused []

-- what a run of the subprogram at this position comes to; without a position, no subprogram has the name
abbrev pub result_at : Program → (name : List ℕ) → (turns file : ℕ) → List InputLine → Option ℕ → RunResult
result_at p name turns file lines (Some k) = result_on p (slice_get p.subs k) turns file lines
result_at p name turns file lines None = Refused (NoSubprogram name ∷ [])

-- The result of a run of the subprogram of this name, with these inputs, which are the lines of the file of this number. There is nothing to elaborate: each
-- variable is unset at first.
unfoldable pub result_of : Program → (name : List ℕ) → (turns file : ℕ) → List InputLine → RunResult
result_of p name turns file lines = result_at p name turns file lines (entry_named p name)

-- ---- texts

-- texts with a comma and a space between two
abbrev pub separated : List (List ℕ) → List ℕ
separated texts = join_by (λ text. text) (codes ", ") texts

-- these texts in parentheses
abbrev pub in_parentheses : List (List ℕ) → List ℕ
in_parentheses texts = codes "(" ++ (separated texts ++ codes ")")

-- the text of a value, where elements and fields have these texts
abbrev pub value_step : Value-F (List ℕ) → List ℕ
value_step (Value-F.Number n) = signed_decimal n
value_step (Value-F.Truth b) = if b then codes "True" else codes "False"
value_step (Value-F.Elements first texts) = in_parentheses texts
value_step (Value-F.Fields texts) = in_parentheses texts

-- a value in the form of an input
abbrev pub value_text : Value → List ℕ
value_text = fold-Value (List ℕ) value_step

-- `NAME = VALUE`
unfoldable pub output_line : Output → List ℕ
output_line output = output.name ++ (codes " = " ++ (value_text output.value ++ codes "\n"))

-- the word for the check that a run fails
abbrev pub bad_text : BadKind → List ℕ
bad_text bad.Division = codes "division"
bad_text bad.Overflow = codes "overflow"
bad_text bad.Range = codes "range"
bad_text bad.Index = codes "index"
bad_text bad.Unset = codes "unset"
bad_text bad.Pre = codes "pre"
bad_text bad.Post = codes "post"
bad_text bad.Assert = codes "assert"
bad_text bad.Check = codes "check"

-- `fault: KIND at FILE:LINE:COLUMN`
unfoldable pub fault_line : List (List ℕ) → Bad → List ℕ
fault_line names fault = codes "fault: " ++ (bad_text fault.kind ++ (codes " at " ++ (spot_text names fault.place ++ codes "\n")))

-- `not ended within N turns`
unfoldable pub turns_line : ℕ → List ℕ
turns_line n = codes "not ended within " ++ (decimal n ++ codes " turns\n")

-- a finding, with its place or without one
unfoldable pub input_line : List (List ℕ) → InputFinding → List ℕ
input_line names (BadLine place) = place_text names place ++ codes "I1 bad input line\n"
input_line names (NoImport place) = place_text names place ++ codes "I2 no such import, or twice\n"
input_line names (NotOfType place) = place_text names place ++ codes "I3 value is not of the type\n"
input_line names (NoValue name) = codes "I4 import has no value: " ++ (name ++ codes "\n")
input_line names (NoSubprogram name) = codes "I5 no such subprogram: " ++ (name ++ codes "\n")

-- what is printed, where the files have these names
unfoldable pub result_text : List (List ℕ) → RunResult → List ℕ
result_text names (Refused found) = flat_map (input_line names) found ++ verdict (length found)
result_text names (TooLarge limit) = limit_text limit
result_text names (Faulted fault) = fault_line names fault
result_text names (NotEnded n) = turns_line n
result_text names (Ended all) = flat_map output_line all
