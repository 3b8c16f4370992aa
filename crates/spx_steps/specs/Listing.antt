-- Paths that are listed one by one.
use Rattle.std.specs.Prelude.{◌≡◌, List, ◌++◌, map}
use Rattle.spx_term.specs.declared.path.PathStep.{PathStep}
use Rattle.spx_term.specs.Paths.{branches}
use Rattle.spx_term.specs.Steps.{Tree}
use Rattle.spx_steps.specs.declared.listing.Path.{Path}

-- the paths of a tree, each after these steps
unfoldable pub after : List PathStep → Tree → List (List PathStep)
after steps tree = map (λ more. steps ++ more) (branches tree)

abbrev pub steps_in : List Path → List (List PathStep)
steps_in found = map (λ (path : Path). path.steps) found

-- steps of a path were added, so that what is left of a tree stands after them
abbrev pub Walked : (old new : List PathStep) → (Tree → Tree) → Type 0
Walked old new part = (rest : Tree) → after old (part rest) ≡ after new rest
