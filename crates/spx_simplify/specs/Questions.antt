-- Questions to the judge, and what it knows.
use Rattle.std.specs.Prelude.{◌≡◌, ℕ, ◌<◌, Bool, List, [], ◌∷◌, ◌++◌, length, map}
use Rattle.spx_term.specs.declared.term.Term.{Term}
use Rattle.spx_term.specs.Folding.{folded}
use Rattle.spx_term.specs.Goals.{goal_of}
use Rattle.spx_term.specs.Plain.{closes}
use Rattle.spx_arena.specs.declared.terms.TermId.{TermId}
use Rattle.spx_arena.specs.declared.claims.SharedClaim.{SharedClaim}
use Rattle.spx_arena.specs.declared.facts.FactsId.{FactsId}
use Rattle.spx_arena.specs.Sharing.{tree_at, Grows}
use Rattle.spx_arena.specs.Facts.{facts_at}
use Rattle.spx_arena.specs.Claims.{AreIds, AreLists, trees_at}
use Rattle.spx_simplify.specs.declared.judge.Question.{Question}
use Rattle.spx_simplify.specs.declared.judge.Step.{Step}
use Rattle.spx_simplify.specs.declared.judge.Judge.{Judge}
use Rattle.spx_simplify.specs.Tables.{Sized, Knows, Undoes}

-- questions over the first n terms and the first k lists of facts
abbrev pub AreQuestions : ℕ → ℕ → List Question → Type 0
AreQuestions n k [] = Unit {0}
AreQuestions n k (q ∷ qs) = (q.facts.0 < k) × (q.goal.0 < n) × AreQuestions n k qs

-- whether the facts of the list make the goal plain
abbrev pub answer : List Term → List (List TermId) → Question → Bool
answer trees lists q = closes (trees_at trees (facts_at lists q.facts)) (tree_at trees q.goal)

-- the folds of the facts of a list
abbrev pub hyps_at : List Term → List (List TermId) → FactsId → List Term
hyps_at trees lists id = map folded (trees_at trees (facts_at lists id))

-- the facts of a list are known, and can be taken back
pub record Judges (trees : List Term) (lists : List (List TermId)) (j : Judge) : Type 0 where
  pub within : j.at.0 < length lists
  pub sized : Sized (length trees) j.known
  pub knows : Knows trees (hyps_at trees lists j.at) j.known
  pub undoes : Undoes trees [] (hyps_at trees lists j.at) j.trail

-- steps lead to a target, the last one from the list `start`
abbrev pub Leads : List (List TermId) → List Step → FactsId → FactsId → Type 0
Leads lists [] start target = target ≡ start
Leads lists (s ∷ ss) start target =
    (s.to ≡ target) × ((s.to.0 < length lists) × ((before : FactsId) × ((facts_at lists s.to ≡ facts_at lists before ++ s.fact ∷ []) × Leads lists ss start before)))

-- the goals of the claims are over the first n terms
abbrev pub AreGoals : ℕ → List SharedClaim → Type 0
AreGoals n [] = Unit {0}
AreGoals n (c ∷ cs) = AreIds n c.goals × AreGoals n cs

-- a question for each of the claims, over trees of which the first n serve
abbrev pub Asks : List Term → ℕ → List SharedClaim → List Question → Type 0
Asks trees n [] [] = Unit {0}
Asks trees n [] (q ∷ qs) = ⊥
Asks trees n (c ∷ cs) [] = ⊥
Asks trees n (c ∷ cs) (q ∷ qs) = (q.facts ≡ c.facts) × ((q.goal.0 < n) × ((tree_at trees q.goal ≡ goal_of (trees_at trees c.goals)) × Asks trees n cs qs))

-- and terms were added for them
pub record Asked (old new : List Term) (list : List SharedClaim) (questions : List Question) : Type 0 where
  pub grown : Grows old new
  pub asks : Asks new (length new) list questions

-- a list has these facts, and all lists are over the terms
pub record HasFacts (trees : List Term) (lists : List (List TermId)) (facts : FactsId) (hyps : List Term) : Type 0 where
  pub all : AreLists (length trees) lists
  pub within : facts.0 < length lists
  pub same : trees_at trees (facts_at lists facts) ≡ hyps
