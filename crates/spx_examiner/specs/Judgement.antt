-- The status and the text of each judgement.
use Rattle.std.specs.Prelude.{ℕ, ◌==◌, if◌then◌else◌, List, length}
use Rattle.spx_examiner.specs.declared.status.Status.{Status}
use Rattle.spx_examiner.specs.declared.status.Status.TheVariants as status
use Rattle.spx_examiner.specs.declared.judgement.Judgement.{Judgement}
use Rattle.spx_examiner.specs.declared.judgement.Judgement.TheVariants.{Usage, Limit, Refused, Examined, Listed, Ran}
use Rattle.spx_examiner.specs.Words.{usage_line}
use Rattle.spx_report.specs.Limits.{limit_text}
use Rattle.spx_run.specs.declared.result.RunResult.{RunResult}
use Rattle.spx_run.specs.declared.result.RunResult.TheVariants as result
use Rattle.spx_run.specs.Results.{result_text}
use Rattle.spx_report.specs.Report.{refusal_text, report_text}

-- how the program ends after a run
abbrev pub status_of_run : RunResult → Status
status_of_run (result.Refused found) = status.Refused
status_of_run (result.TooLarge limit) = status.Limit
status_of_run (result.Faulted bad) = status.RunFault
status_of_run (result.NotEnded turns) = status.NotEnded
status_of_run (result.Ended all) = status.Accepted

-- how the program ends; it is refused exactly where there are findings
abbrev pub status_of : Judgement → Status
status_of Usage = status.Usage
status_of (Limit name) = status.Limit
status_of (Refused lines) = status.Refused
status_of (Examined p found) = if length found.lines == 0 then status.Accepted else status.Refused
status_of (Listed text) = status.Accepted
status_of (Ran result) = status_of_run result

-- what is printed, where the files have these names
abbrev pub text_of : List (List ℕ) → Judgement → List ℕ
text_of names Usage = usage_line
text_of names (Limit name) = limit_text name
text_of names (Refused lines) = refusal_text names lines
text_of names (Examined p found) = report_text p names found
text_of names (Listed text) = text
text_of names (Ran result) = result_text names result
