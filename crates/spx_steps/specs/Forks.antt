-- Walks that stop where a path splits, and steps that wait.
use Rattle.std.specs.Prelude.{◌≡◌, ℕ, ◌+◌, ◌<◌, ◌≤◌, List, [], ◌∷◌, ◌++◌, flat_map, length, take, Option, Some, None}
use Rattle.spx_term.specs.declared.term.Term.{Term}
use Rattle.spx_term.specs.Steps.{Tree, Cut, Assume, Assign, Fresh, Prove, Split, Claim}
use Rattle.spx_arena.specs.declared.terms.TermId.{TermId}
use Rattle.spx_arena.specs.Claims.{trees_at}
use Rattle.spx_arena.specs.Facts.{facts_at}
use Rattle.spx_steps.specs.ConditionWalk.{forward}
use Rattle.spx_steps.specs.States.{state_in, AreValues}
use Rattle.spx_steps.specs.Trees.{step_tree}
use Rattle.spx_steps.specs.Walks.{IsBack, Marks, OnlyAdds, Ready, claims_from}
use Rattle.spx_steps.specs.declared.steps.StepId.{StepId}
use Rattle.spx_steps.specs.declared.steps.Steps.{Steps}
use Rattle.spx_steps.specs.declared.walk.Fork.{Fork}
use Rattle.spx_steps.specs.declared.walk.Waiting.{Waiting}
use Rattle.spx_steps.specs.declared.walk.Walk.{Walk}

-- where a tree ends or splits
abbrev pub fork_tree : Steps → Option Fork → Tree
fork_tree s None = Cut
fork_tree s (Some f) = Split (step_tree s f.first) (step_tree s f.second)

-- both steps are there
abbrev pub Leads : Steps → Option Fork → Type 0
Leads s None = Unit {0}
Leads s (Some f) = (f.first.0 < length s.nodes) × (f.second.0 < length s.nodes)

-- how many ends and splits a tree has
abbrev pub ends_in : Tree → ℕ
ends_in Cut = 1
ends_in (Assume t rest) = ends_in rest
ends_in (Assign x t rest) = ends_in rest
ends_in (Fresh x rest) = ends_in rest
ends_in (Prove kind place goals rest) = ends_in rest
ends_in (Split first second) = ends_in first + ends_in second + 1

-- the walk has come from one tree to another
pub record Comes (names : List Term) (old new : Walk) (from at : Tree) : Type 0 where
  pub ready : Ready names new
  pub adds : OnlyAdds old new
  pub same : claims_from old from ≡ claims_from new at
  pub ends : ends_in from ≡ ends_in at

-- the walk has come from a step to where the path ends or splits
pub record StopsAt (s : Steps) (old new : Walk) (from : StepId) (fork : Option Fork) : Type 0 where
  pub comes : Comes s.terms old new (step_tree s from) (fork_tree s fork)
  pub within : Leads s fork

-- a step waits more, with this place of the walk
pub record Waits (w : Walk) (old new : List Waiting) (from : StepId) : Type 0 where
  pub last : Waiting
  pub is : new ≡ old ++ last ∷ []
  pub marks : Marks w last.mark
  pub from_is : last.from ≡ from

-- the last step that waited does so no more, and the walk is back in its place
pub record Resumes (old new : Walk) (before after : List Waiting) (from : StepId) : Type 0 where
  pub last : Waiting
  pub is : before ≡ after ++ last ∷ []
  pub back : IsBack old new last.mark
  pub from_is : last.from ≡ from

-- a walk with these facts can come back to this place
pub record IsMark (s : Steps) (n : ℕ) (lists : List (List TermId)) (keys : List TermId) (w : Waiting) : Type 0 where
  pub values : AreValues n w.mark.values
  pub within : w.mark.at.0 < length lists
  pub here : facts_at lists w.mark.at ≡ take w.mark.count keys
  pub count : w.mark.count ≤ length keys
  pub from : w.from.0 < length s.nodes

-- the same for all that wait, where the first one waits last
abbrev pub AreMarks : Steps → ℕ → List (List TermId) → List TermId → List Waiting → Type 0
AreMarks s n lists keys [] = Unit {0}
AreMarks s n lists keys (w ∷ ws) = IsMark s n lists keys w × AreMarks s n lists (take w.mark.count keys) ws

abbrev pub Marked : Steps → Walk → List Waiting → Type 0
Marked s w ws = AreMarks s (length w.terms) w.facts.lists w.facts.present.keys ws

-- the claims from a step that waits
abbrev pub claims_after : Steps → Walk → Waiting → List Claim
claims_after s w p = forward (state_in w.terms p.mark.values) (trees_at w.terms (facts_at w.facts.lists p.mark.at)) (step_tree s p.from)

abbrev pub left : Steps → Walk → List Waiting → List Claim
left s w ws = flat_map (claims_after s w) ws

-- how many ends and splits all of them have
abbrev pub ends_left : Steps → List Waiting → ℕ
ends_left s [] = 0
ends_left s (w ∷ ws) = ends_in (step_tree s w.from) + ends_left s ws
