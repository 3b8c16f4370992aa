use Rattle.spx_derives.proofs.derives.compare.Goals as goal

pub findings_at-requires-clause-flow : goal.findings_at-requires-clause-flow
findings_at-requires-clause-flow c sub at =
    let flow = c.requires.flow sub at in
    record { size = flow.size; rho = flow.rho; mu_rows = flow.mu_rows; mu = flow.mu; occurrences = flow.occurrences }

pub findings_at-requires-clause-unset : goal.findings_at-requires-clause-unset
findings_at-requires-clause-unset c sub at = rw c.as_slice.ensures.value (c.in_ok-unset.ensures sub at)
