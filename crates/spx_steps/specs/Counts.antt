-- How many paths there are.
use Rattle.std.specs.Prelude.{◌≡◌, ℕ, ◌+◌, ◌<◌, min, List, [], ◌∷◌, flat_map, length, slice_index}
use Rattle.spx_term.specs.Paths.{branches}
use Rattle.spx_steps.specs.declared.steps.Roots.{Roots}
use Rattle.spx_steps.specs.declared.steps.StepId.{StepId}
use Rattle.spx_steps.specs.declared.steps.Steps.{Steps}
use Rattle.spx_steps.specs.Trees.{root_trees, step_tree}

-- a count that stops at the first number past the most
abbrev pub capped : (most n : ℕ) → ℕ
capped most n = min n (most + 1)

-- how many paths there are from a step
abbrev pub paths_at : Steps → ℕ → ℕ
paths_at s i = length (branches (step_tree s (record { 0 = i })))

-- the counts of the first steps
pub record AreCounts (s : Steps) (most n : ℕ) (counts : List ℕ) : Type 0 where
  pub as_many : length counts ≡ n
  pub each : (i : ℕ) → i < n → slice_index counts i ≡ capped most (paths_at s i)

-- how many there are from several steps
abbrev pub paths_from : Steps → List StepId → ℕ
paths_from s [] = 0
paths_from s (id ∷ ids) = paths_at s id.0 + paths_from s ids

-- how many there are from all roots
abbrev pub path_total : Steps → Roots → ℕ
path_total s r = length (flat_map branches (root_trees s r))
