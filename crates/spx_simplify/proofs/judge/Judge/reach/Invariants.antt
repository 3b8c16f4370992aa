use Rattle.std.proofs.Common.{◌<◌, ◌+◌, length}
use Rattle.spx_simplify.specs.Questions.{Judges, Leads}
use Rattle.spx_simplify.proofs.judge.Judge.reach.Given as goal

abbrev pub invariant-meet : goal.invariant-meet
invariant-meet l = record {
  judges : Judges l.terms l.facts l.self;
  leads : Leads l.facts l.steps l.to l.fn.target;
  within : l.to.0 < length l.facts;
}

abbrev pub decreases-meet : goal.decreases-meet
decreases-meet l = l.self.at.0 + l.to.0

abbrev pub invariant-more : goal.invariant-more
invariant-more l = record {
  judges : Judges l.terms l.facts l.self;
  leads : Leads l.facts l.steps l.self.at l.fn.target;
}

abbrev pub decreases-more : goal.decreases-more
decreases-more l = length l.steps
