-- What a step changes of a sequent.
use Rattle.std.specs.Prelude.{◌≡◌, ⊤, Option, Some, None, Result, Ok, Err, List, [], ◌∷◌, ◌++◌, map}
use Rattle.spx_term.specs.declared.condition.Sequent.{Sequent}
use Rattle.spx_term.specs.declared.term.Term.{Term}
use Rattle.spx_kernel.specs.declared.change.Change.{Change}
use Rattle.spx_kernel.specs.declared.change.Changes.{Changes}
use Rattle.spx_kernel.specs.declared.change.Changes.TheVariants as changes
use Rattle.spx_kernel.specs.declared.fault.StepFault.{StepFault}
use Rattle.spx_kernel.specs.declared.fault.StepFault.TheVariants.{DoesNotApply, TooWide, Memory}
use Rattle.spx_kernel.specs.Sequents.{Answer}

-- more hypotheses, which go last
abbrev pub more : List Term → List Term → List Term
more hyps [] = hyps
more hyps (t ∷ ts) = hyps ++ t ∷ ts

-- another goal, if there is one
abbrev pub other : Term → Option Term → Term
other goal None = goal
other goal (Some t) = t

-- the sequent with the change
abbrev pub changed : Sequent → Change → Sequent
changed s c = record { hyps = more s.hyps c.hyps; goal = other s.goal c.goal }

-- all changes, in their order
abbrev pub listed : Changes → List Change
listed changes.None = []
listed (changes.One a) = a ∷ []
listed (changes.Two a b) = a ∷ b ∷ []
listed (changes.Three a b c) = a ∷ b ∷ c ∷ []

-- the change to another goal
abbrev pub change_goal : Term → Change
change_goal t = record { hyps = []; goal = Some t }

-- the change to one more hypothesis
abbrev pub change_hyp : Term → Change
change_hyp t = record { hyps = t ∷ []; goal = None }

-- The changes give the sequents that are left, or the step is refused so; nothing is said where memory runs out.
abbrev pub Leaves : Result Changes StepFault → Sequent → Answer → Type 0
Leaves (Ok cs) s answer = answer ≡ Ok (map (changed s) (listed cs))
Leaves (Err DoesNotApply) s answer = answer ≡ Err DoesNotApply
Leaves (Err TooWide) s answer = answer ≡ Err TooWide
Leaves (Err Memory) s answer = ⊤
