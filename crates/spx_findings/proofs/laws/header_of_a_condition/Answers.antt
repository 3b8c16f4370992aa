use Rattle.std.proofs.Common.{refl}
use Rattle.std.specs.Fmt.{digits}
use Rattle.spx_findings.specs.Listing.{header_line}
use Rattle.spx_report.specs.Report.{spot_text}
use Rattle.spx_findings.proofs.laws.header_of_a_condition.Goals as goal

pub returns : goal.returns
unfolding header_line spot_text digits
returns c = λ hyps goals. refl
