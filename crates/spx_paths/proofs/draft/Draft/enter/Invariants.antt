use Rattle.std.proofs.Common.{map, reverse}
use Rattle.spx_steps.specs.Trees.{step_tree}
use Rattle.spx_paths.specs.Drafts.{Lays}
use Rattle.spx_paths.specs.Walks.{entering}
use Rattle.spx_paths.proofs.draft.Draft.enter.Given as goal

abbrev pub invariant-loop-var : goal.invariant-loop-var
invariant-loop-var l = Lays l.initial.self l.self l.at (entering l.body.program.now l.body.sub.now (reverse (map (λ s. s.now) l.yielded)) (step_tree l.initial.self.steps l.fn.first))
