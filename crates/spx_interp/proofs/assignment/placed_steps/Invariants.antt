use Rattle.std.proofs.Common.{◌≡◌, ◌++◌, List, drop, map}
use Rattle.spx_term.specs.Parts.{Step}
use Rattle.spx_meaning.specs.Evaluation.{Answer, with_way}
use Rattle.spx_interp.specs.Results.{frame_of}
use Rattle.spx_interp.specs.Ways.{step_of}
use Rattle.spx_interp.proofs.assignment.placed_steps.Given as goal

-- the whole way, from what is left of it
abbrev pub invariant-loop-step : goal.invariant-loop-step
invariant-loop-step l =
    (go : List Step → Answer) → with_way (frame_of l.body) l.turns l.store l.way go ≡ with_way (frame_of l.body) l.turns l.store (drop l.step-index l.way) (λ more. go (map step_of l.steps ++ more))
