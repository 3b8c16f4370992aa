use Rattle.std.proofs.Common.{ℕ, ◌<◌, ◌≤◌, drop, flat_map, length, map, reverse}
use Rattle.spx_core.specs.Commands.{commands}
use Rattle.spx_term.specs.Steps.{Tree}
use Rattle.spx_arena.specs.Claims.{trees_at}
use Rattle.spx_paths.specs.Drafts.{AddsCuts, Builds, BuildsAlternatives, BuildsArms, BuildsCuts, Stands, alternative_cuts, arm_cuts}
use Rattle.spx_paths.specs.Enclosing.{counts}
use Rattle.spx_paths.proofs.draft.Draft.+stmts.Given as goal

abbrev pub invariant-arms-loop-arm : goal.invariant-arms-loop-arm
invariant-arms-loop-arm l = record {
  builds : BuildsArms l.body.program.now l.body.sub.now l.initial.self l.self (reverse (map (λ s. s.now) l.yielded)) l.fn.otherwise l.next.rest l.next.leave l.at;
  cuts : (on out : ℕ → Tree) → Stands l.initial.self l.next.rest on → Stands l.initial.self l.next.leave out
      → AddsCuts l.body.program.now l.body.sub.now l.self l.initial.cuts l.cuts (flat_map (arm_cuts l.body.program.now l.body.sub.now (counts l.next.within.now) on out) (reverse (map (λ s. s.now) l.yielded)));
}

abbrev pub invariant-alternatives-alternatives : goal.invariant-alternatives-alternatives
invariant-alternatives-alternatives l = record {
  within : l.left ≤ length l.alternatives;
  builds : BuildsAlternatives l.body.program.now l.body.sub.now l.initial.self l.self (map (trees_at l.initial.self.steps.terms) (drop l.left l.facts)) (drop l.left l.alternatives) l.next.rest l.next.leave l.at;
  cuts : (on out : ℕ → Tree) → Stands l.initial.self l.next.rest on → Stands l.initial.self l.next.leave out
      → AddsCuts l.body.program.now l.body.sub.now l.self l.initial.cuts l.cuts (flat_map (alternative_cuts l.body.program.now l.body.sub.now (counts l.next.within.now) on out) (drop l.left l.alternatives));
}

abbrev pub decreases-alternatives-alternatives : goal.decreases-alternatives-alternatives
decreases-alternatives-alternatives l = l.left

abbrev pub invariant-stmts-loop-stmt : goal.invariant-stmts-loop-stmt
invariant-stmts-loop-stmt l = record {
  within : l.at.0 < length l.self.steps.nodes;
  builds : Builds l.body.program.now l.body.sub.now l.initial.self l.self (commands (reverse (map (λ s. s.now) l.yielded))) l.next.rest l.next.leave l.at;
  cuts : BuildsCuts l.body.program.now l.body.sub.now (counts l.next.within.now) l.initial.self l.self l.initial.cuts l.cuts (commands (reverse (map (λ s. s.now) l.yielded))) l.next.rest l.next.leave;
}
