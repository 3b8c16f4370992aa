use Rattle.std.proofs.Common.{map, reverse}
use Rattle.spx_steps.specs.Trees.{step_tree}
use Rattle.spx_paths.specs.Drafts.{Lays}
use Rattle.spx_paths.specs.Walks.{initializing}
use Rattle.spx_paths.proofs.draft.Draft.initialize.Given as goal

abbrev pub invariant-loop-var : goal.invariant-loop-var
invariant-loop-var l = Lays l.initial.self l.self l.at (initializing l.body.program.now (reverse (map (λ s. s.now) l.yielded)) (step_tree l.initial.self.steps l.fn.first))
