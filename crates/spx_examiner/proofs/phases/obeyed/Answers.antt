use Rattle.std.proofs.Common.{◌≡◌, Some, ap, sym, ◌∙◌}
use Rattle.spx_examiner.specs.Outcome.{of_rules}
use Rattle.spx_examiner.proofs.phases.obeyed.Goals as goal

pub returns-in-Some-clause-broken : goal.returns-in-Some-clause-broken
returns-in-Some-clause-broken c = λ breach is.
    let same : c.in-Some.breach ≡ breach = cc in
    let (made, visible, typed) = c.in-Ok.ensures.resolved in
    of_rules c.in-Ok.program (record { made = made; visible = visible; typed = typed }) (sym c.in_ok-breach.ensures.first ∙ c.in-Some.is ∙ ap (λ b. Some b) same)
