use Rattle.spx_naming.proofs.unit.resolve_under.Goals as goal

pub returns-clause-statements : goal.returns-clause-statements
returns-clause-statements c = rw c.in_ok-changed.ensures at c.resolve_body.ensures.statements
