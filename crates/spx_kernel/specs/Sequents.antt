-- Sequents, and when a step from one to others is right.
use Rattle.std.specs.Prelude.{◌≡◌, suc, ℤ, pos, Option, Some, None, Result, Ok, Err, List, [], ◌∷◌, ◌++◌, slice_get}
use Rattle.std.specs.List.{AllByRecursion}
use Rattle.spx_term.specs.declared.condition.Sequent.{Sequent}
use Rattle.spx_term.specs.declared.term.Sort.TheVariants.{Boolean}
use Rattle.spx_term.specs.declared.term.Term.{Term}
use Rattle.spx_term.specs.Sorts.{sort_of}
use Rattle.spx_term.specs.Values.{Types}
use Rattle.spx_term.specs.Meaning.{Valid}
use Rattle.spx_kernel.specs.declared.fault.StepFault.{StepFault}
use Rattle.spx_kernel.specs.declared.fault.StepFault.TheVariants.{DoesNotApply}

-- the sequents that are left, or why the step is refused
abbrev pub Answer : Type 0
Answer = Result (List Sequent) StepFault

-- the step does not apply
abbrev pub refused : Answer
refused = Err DoesNotApply

-- the sequent with one more hypothesis, which goes last
abbrev pub with_hyp : Term → Sequent → Sequent
with_hyp t s = record s { hyps = s.hyps ++ t ∷ [] }

-- with several more
abbrev pub with_hyps : List Term → Sequent → Sequent
with_hyps ts s = record s { hyps = s.hyps ++ ts }

-- with another goal
abbrev pub with_goal : Term → Sequent → Sequent
with_goal t s = record s { goal = t }

-- the hypothesis with a number, counted from 1
abbrev pub hyp_at : Sequent → ℤ → Option Term
hyp_at s (pos (suc n)) = slice_get s.hyps n
hyp_at s _ = None

-- all terms are Boolean
abbrev pub Sorted : Types → Sequent → Type 0
Sorted types s = AllByRecursion (λ h. sort_of types h ≡ Some Boolean) s.hyps × (sort_of types s.goal ≡ Some Boolean)

-- where all hypotheses hold, the goal does
abbrev pub IsValid : Types → Sequent → Type 0
IsValid types s = Valid types s.hyps s.goal

-- where the sequents that are left are valid, so is this one
abbrev pub Leads : Types → Sequent → Answer → Type 0
Leads types s answer = (left : List Sequent) → answer ≡ Ok left → AllByRecursion (IsValid types) left → IsValid types s
