use Rattle.spx_derives.proofs.SomeFindings as findings
use Rattle.spx_derives.proofs.laws.some_findings.Goals as goal

pub returns : goal.returns
returns c = findings.some_findings
