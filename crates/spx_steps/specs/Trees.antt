-- The trees that steps stand for.
use Rattle.std.specs.Prelude.{◌≡◌, ℕ, ◌<◌, ◌≤◌, List, [], ◌∷◌, ◌++◌, length, map, fold, slice_index_or}
use Rattle.spx_term.specs.declared.term.Term.{Term}
use Rattle.spx_term.specs.Steps.{Tree, Cut, Assume, Assign, Fresh, Split, assume_all, check}
use Rattle.spx_arena.specs.Claims.{AreIds, trees_at}
use Rattle.spx_arena.specs.Sharing.{tree_at, Grows}
use Rattle.spx_steps.specs.declared.steps.Step.{Step}
use Rattle.spx_steps.specs.declared.steps.Step.TheVariants as step
use Rattle.spx_steps.specs.declared.steps.Roots.{Roots}
use Rattle.spx_steps.specs.declared.steps.StepId.{StepId}
use Rattle.spx_steps.specs.declared.steps.Steps.{Steps}

-- the tree of an id
abbrev pub tree_of : List Tree → StepId → Tree
tree_of trees id = slice_index_or trees id.0 Cut

-- the tree of a step
abbrev pub tree_in : List Term → List Tree → Step → Tree
tree_in terms trees step.Cut = Cut
tree_in terms trees (step.Assume fact next) = Assume (tree_at terms fact) (tree_of trees next)
tree_in terms trees (step.Assign name value next) = Assign name (tree_at terms value) (tree_of trees next)
tree_in terms trees (step.Fresh name next) = Fresh name (tree_of trees next)
tree_in terms trees (step.Check kind place goals next) = check kind place (trees_at terms goals) (tree_of trees next)
tree_in terms trees (step.Split first second) = Split (tree_of trees first) (tree_of trees second)

abbrev pub with_tree : List Term → List Tree → Step → List Tree
with_tree terms trees s = trees ++ tree_in terms trees s ∷ []

-- the trees of steps in their order
unfoldable pub trees_of : List Term → List Step → List Tree
trees_of terms = fold (with_tree terms) []

abbrev pub step_at : List Step → ℕ → Step
step_at nodes i = slice_index_or nodes i step.Cut

-- the terms of a step are among the first n, and the steps after it among the first k
abbrev pub Below : (n k : ℕ) → Step → Type 0
Below n k step.Cut = Unit {0}
Below n k (step.Assume fact next) = (fact.0 < n) × (next.0 < k)
Below n k (step.Assign name value next) = (value.0 < n) × (next.0 < k)
Below n k (step.Fresh name next) = next.0 < k
Below n k (step.Check kind place goals next) = AreIds n goals × (next.0 < k)
Below n k (step.Split first second) = (first.0 < k) × (second.0 < k)

-- each step comes after those that follow it
pub record InOrder (s : Steps) : Type 0 where
  pub parts : (i : ℕ) → i < length s.nodes → Below (length s.terms) i (step_at s.nodes i)

abbrev pub step_tree : Steps → StepId → Tree
step_tree s id = tree_of (trees_of s.terms s.nodes) id

abbrev pub step_in : Steps → Step → Tree
step_in s x = tree_in s.terms (trees_of s.terms s.nodes) x

-- ids keep their trees
pub record MoreSteps (old new : Steps) : Type 0 where
  pub terms : Grows old.terms new.terms
  pub more : length old.nodes ≤ length new.nodes
  pub kept : (id : StepId) → id.0 < length old.nodes → step_tree new id ≡ step_tree old id

-- the id has this tree
pub record IsStep (s : Steps) (id : StepId) (t : Tree) : Type 0 where
  pub within : id.0 < length s.nodes
  pub tree : step_tree s id ≡ t

-- steps were added, and no term
pub record AddsStep (old new : Steps) (id : StepId) (t : Tree) : Type 0 where
  pub whole : InOrder new
  pub grown : MoreSteps old new
  pub terms : new.terms ≡ old.terms
  pub made : IsStep new id t

-- ids among the first n
abbrev pub AreSteps : ℕ → List StepId → Type 0
AreSteps n [] = Unit {0}
AreSteps n (id ∷ ids) = (id.0 < n) × AreSteps n ids

-- steps at which paths begin, and what is known there
pub record AreRoots (s : Steps) (r : Roots) : Type 0 where
  pub start : r.start.0 < length s.nodes
  pub known : AreIds (length s.terms) r.known
  pub cuts : AreSteps (length s.nodes) r.cuts

-- the tree from a cut, where this is known
abbrev pub cut_tree : Steps → List Term → StepId → Tree
cut_tree s known id = assume_all known (step_tree s id)

-- the trees from several cuts
abbrev pub cut_trees : Steps → List Term → List StepId → List Tree
cut_trees s known ids = map (cut_tree s known) ids

-- the tree from the start of a body, and those from its cuts
abbrev pub root_trees : Steps → Roots → List Tree
root_trees s r = step_tree s r.start ∷ map (cut_tree s (trees_at s.terms r.known)) r.cuts
