use Rattle.spx_examples.proofs.Findings.{declared_clean, star_clean}
use Rattle.spx_examples.proofs.flow_laws.what_flows_as_declared_has_no_finding.Goals as goal

pub returns-clause-one_item : goal.returns-clause-one_item
returns-clause-one_item c = declared_clean

pub returns-clause-two_items : goal.returns-clause-two_items
returns-clause-two_items c = star_clean
