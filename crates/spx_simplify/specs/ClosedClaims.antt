-- Claims that need no proof.
use Rattle.std.specs.Prelude.{Bool}
use Rattle.spx_term.specs.Goals.{goal_of}
use Rattle.spx_term.specs.Plain.{closes}
use Rattle.spx_term.specs.Steps.{Claim}

-- whether a claim needs no proof
abbrev pub closes_claim : Claim → Bool
closes_claim c = closes c.hyps (goal_of c.goals)
