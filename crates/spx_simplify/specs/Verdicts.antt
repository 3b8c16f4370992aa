-- What goals come down to.
use Rattle.std.specs.Prelude.{◌≡◌, ℕ, ◌+◌, ◌<◌, ◌≤◌, ◌&&◌, ◌||◌, Bool, List, [], ◌∷◌, ◌++◌, if◌then◌else◌}
use Rattle.spx_term.specs.declared.term.Term.{Term}
use Rattle.spx_term.specs.Conjuncts.{conjuncts}
use Rattle.spx_term.specs.Plain.{is_plain}
use Rattle.spx_term.specs.Sizes.{size_of}
use Rattle.spx_arena.specs.declared.terms.TermId.{TermId}
use Rattle.spx_arena.specs.Sharing.{tree_at}
use Rattle.spx_simplify.specs.declared.goals.Left.{Left}
use Rattle.spx_simplify.specs.declared.goals.Verdict.{Verdict}
use Rattle.spx_simplify.specs.declared.goals.Verdict.TheVariants.{Settled, First, Under}

-- the size of the tree of a goal
abbrev pub size_at : List Term → TermId → ℕ
size_at trees id = size_of (tree_at trees id)

-- the parts of a goal come before it, and are smaller
pub record AreHalves (trees : List Term) (goal a b : TermId) : Type 0 where
  pub first : a.0 < goal.0
  pub second : b.0 < goal.0
  pub smaller : size_at trees a + size_at trees b < size_at trees goal

abbrev pub Parts : List Term → TermId → Verdict → Type 0
Parts trees goal (Settled b) = 0 < size_at trees goal
Parts trees goal (First a l) = AreHalves trees goal a l.goal
Parts trees goal (Under a b) = AreHalves trees goal a b

-- the answer to a goal and then to what is left
abbrev pub continued : List Term → List Term → Left → Bool → Bool
continued trees hyps l b = if l.after then (b && is_plain hyps (tree_at trees l.goal)) else (b || is_plain hyps (tree_at trees l.goal))

-- the answer to a goal and then to all that is left, the last one first
abbrev pub outcome : List Term → List Term → List Left → Bool → Bool
outcome trees hyps [] b = b
outcome trees hyps (l ∷ ls) b = continued trees hyps l (outcome trees hyps ls b)

-- what a goal comes down to under the hypotheses
abbrev pub IsVerdict : List Term → List Term → TermId → Verdict → Type 0
IsVerdict trees hyps goal (Settled b) = b ≡ is_plain hyps (tree_at trees goal)
IsVerdict trees hyps goal (First a l) = continued trees hyps l (is_plain hyps (tree_at trees a)) ≡ is_plain hyps (tree_at trees goal)
IsVerdict trees hyps goal (Under a b) = is_plain (hyps ++ conjuncts (tree_at trees a)) (tree_at trees b) ≡ is_plain hyps (tree_at trees goal)

-- goals among the first n terms
abbrev pub AreLeft : ℕ → List Left → Type 0
AreLeft n [] = Unit {0}
AreLeft n (l ∷ ls) = (l.goal.0 < n) × AreLeft n ls

-- the sizes of all that is left
abbrev pub load : List Term → List Left → ℕ
load trees [] = 0
load trees (l ∷ ls) = load trees ls + size_at trees l.goal

-- the answer is that to all that is left
pub record Ends (left : List Left) (yes : Bool) : Type 0 where
  pub same : (trees hyps : List Term) → outcome trees hyps left yes ≡ yes

-- after this answer some of what is left need not be judged
pub record Drops (old new : List Left) (yes : Bool) : Type 0 where
  pub same : (trees hyps : List Term) → outcome trees hyps old yes ≡ outcome trees hyps new yes
  pub within : (n : ℕ) → AreLeft n old → AreLeft n new
  pub less : (trees : List Term) → load trees new ≤ load trees old

-- after this answer a goal is judged, and then what is left
pub record GoesOn (old new : List Left) (yes : Bool) (goal : TermId) : Type 0 where
  pub same : (trees hyps : List Term) → outcome trees hyps old yes ≡ outcome trees hyps new (is_plain hyps (tree_at trees goal))
  pub within : (n : ℕ) → AreLeft n old → (goal.0 < n) × AreLeft n new
  pub less : (trees : List Term) → load trees new + size_at trees goal ≤ load trees old
