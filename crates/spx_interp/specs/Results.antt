-- What the answers of this crate say of evaluations and runs.
use Rattle.std.specs.Prelude.{◌≡◌, ⊤, ℕ, zero, suc, ℤ, int_le, Bool, true, false, if◌then◌else◌, List, [], ◌∷◌, map, Option, Some, None, Result, Ok, Err}
use Rattle.spx_text.specs.declared.place.Place.{Place}
use Rattle.spx_core.specs.declared.expression.CoreExpr.{CoreExpr}
use Rattle.spx_core.specs.declared.entity.Class.TheVariants.{Integer}
use Rattle.spx_core.specs.declared.function.Span.{Span}
use Rattle.spx_core.specs.declared.part.Indexing.{Indexing}
use Rattle.spx_core.specs.declared.statement.CoreAlternative.{CoreAlternative, out-CoreAlternative}
use Rattle.spx_core.specs.declared.statement.CoreArm.{CoreArm, out-CoreArm}
use Rattle.spx_core.specs.declared.statement.CoreCount.{CoreCount}
use Rattle.spx_core.specs.declared.subprogram.CorePredicate.{CorePredicate}
use Rattle.spx_core.specs.declared.program.Program.{Program}
use Rattle.spx_core.specs.declared.subprogram.Sub.{Sub}
use Rattle.spx_core.specs.Commands.{Command, Skip, Alternatives, Head, Tested, Counted, Endless, alternative, alternatives_of, commands}
use Rattle.spx_term.specs.declared.value.Value.{Value}
use Rattle.spx_term.specs.declared.value.Value.TheVariants.{Truth}
use Rattle.spx_term.specs.Meaning.{as_number, as_truth}
use Rattle.spx_meaning.specs.declared.bad.BadKind.{BadKind}
use Rattle.spx_meaning.specs.declared.bad.BadKind.TheVariants as bad
use Rattle.spx_meaning.specs.declared.bad.Bad.{Bad}
use Rattle.spx_meaning.specs.Stores.{Store, is_within}
use Rattle.spx_meaning.specs.Frames.{Frame, around}
use Rattle.spx_meaning.specs.Evaluation.{Answer, Gives, Fails, Waits, eval}
use Rattle.spx_meaning.specs.Annotations.{truth}
use Rattle.spx_meaning.specs.Runs as runs
use Rattle.spx_meaning.specs.Bits.{is_too_large}
use Rattle.spx_interp.specs.declared.body.Body.{Body}
use Rattle.spx_interp.specs.declared.fault.RunFault.{RunFault}
use Rattle.spx_interp.specs.declared.fault.RunFault.TheVariants.{TooLarge, Memory}
use Rattle.spx_interp.specs.declared.step.Step.{Step}
use Rattle.spx_interp.specs.declared.step.Step.TheVariants as step
use Rattle.spx_interp.specs.declared.stop.Stop.{Stop}
use Rattle.spx_interp.specs.declared.stop.Stop.TheVariants as stop
use Rattle.spx_meaning.specs.Limits.{where_ended, passes, passes_for, passes_in_count, passes_in_predicate, body_passes, call_passes}

abbrev pub frame_of : Body → Frame
frame_of b = around b.program.now b.sub.now b.entry.now

-- the answer that a result of code is
abbrev pub answered : Result Value Bad → Answer
answered (Ok x) = Gives x
answered (Err fault) = Fails fault.kind fault.place

-- the value, if it is a number between these; one that 128 bits do not hold is not
abbrev pub bounded : (first last : ℤ) → BadKind → Place → Option Value → Answer
bounded first last kind place (Some x) = if is_within Integer first last x then Gives x else Fails kind place
bounded first last kind place None = Fails kind place

-- the result is the answer; nothing is said where memory runs out
abbrev pub Answers : Result Value Stop → Answer → Type 0
Answers (Ok x) answer = Gives x ≡ answer
Answers (Err (stop.Failed fault)) answer = Fails fault.kind fault.place ≡ answer
Answers (Err stop.Memory) answer = ⊤

-- the number of an index that lies in the index subtype
abbrev pub InIndex : Result ℤ Stop → Indexing → Place → Value → Type 0
InIndex (Ok i) x place k = (is_within Integer x.index.first x.index.last k ≡ true) × (i ≡ as_number k)
InIndex (Err (stop.Failed fault)) x place k = (is_within Integer x.index.first x.index.last k ≡ false) × (fault.kind ≡ bad.Index) × (fault.place ≡ place)
InIndex (Err stop.Memory) x place k = ⊤

-- the result of a test is the truth of the answer
abbrev pub truth_answered : Result Bool Stop → Answer → Type 0
truth_answered (Ok b) (Gives x) = b ≡ as_truth x
truth_answered (Ok b) (Fails kind place) = ⊥
truth_answered (Ok b) Waits = ⊥
truth_answered (Err (stop.Failed fault)) answer = answer ≡ Fails fault.kind fault.place
truth_answered (Err stop.Memory) answer = ⊤

-- how statements end that want a value which is not there
abbrev pub stopped : Stop → Result Step RunFault
stopped (stop.Failed fault) = Ok (step.Failed fault)
stopped stop.Memory = Err Memory

-- how a run has ended, with the store that it has left
abbrev pub outcome_of : Step → Store → runs.Outcome
outcome_of step.Ended s = runs.Ended s
outcome_of step.Left s = runs.Left s
outcome_of (step.Failed fault) s = runs.Bad fault.kind fault.place
outcome_of step.Later s = runs.Later

abbrev pub has_ended : Step → Bool
has_ended step.Ended = true
has_ended step.Left = false
has_ended (step.Failed fault) = false
has_ended step.Later = false

-- how a loop ends whose body ends so
abbrev pub past_loop : Step → Step
past_loop step.Ended = step.Ended
past_loop step.Left = step.Ended
past_loop (step.Failed fault) = step.Failed fault
past_loop step.Later = step.Later

-- an outcome, if the run does not pass the limit
abbrev pub limited : Bool → runs.Outcome → Option runs.Outcome
limited true outcome = None
limited false outcome = Some outcome

-- the run has ended so, or has passed the limit; nothing is said where memory runs out
abbrev pub Done : Result Step RunFault → Store → Option runs.Outcome → Type 0
Done (Ok step) s outcome = outcome ≡ Some (outcome_of step s)
Done (Err (TooLarge limit)) s outcome = outcome ≡ None
Done (Err Memory) s outcome = ⊤

-- the run of a command under the limit
unfoldable pub ran : Frame → ℕ → Store → Command → Option runs.Outcome
ran f n s c = limited (passes f n s c) (runs.run f n s c)

unfoldable pub ran_for : Value → Frame → ℕ → Store → Alternatives → Option runs.Outcome
ran_for x f n s alternatives = limited (passes_for x f n s alternatives) (runs.run_for x f n s alternatives)

-- ---- loops

-- the test before a turn; a loop without a condition has one that is true
abbrev pub test_of : Frame → ℕ → Store → Head → Answer
test_of f n s (Tested place condition) = eval f n s condition
test_of f n s (Counted c) = Gives (Truth true)
test_of f n s Endless = Gives (Truth true)

-- the outcome is what follows the bounds of a loop
abbrev pub OnBounds : Result Span Stop → Store → ((low high : ℤ) → Store → runs.Outcome) → runs.Outcome → Type 0
OnBounds (Ok span) s go outcome = outcome ≡ go span.first span.last s
OnBounds (Err (stop.Failed fault)) s go outcome = outcome ≡ runs.Bad fault.kind fault.place
OnBounds (Err stop.Memory) s go outcome = ⊤

-- and so is the test
abbrev pub WhereBounds : Result Span Stop → Store → ((low high : ℤ) → Store → Bool) → Bool → Type 0
WhereBounds (Ok span) s test passed = passed ≡ test span.first span.last s
WhereBounds (Err (stop.Failed fault)) s test passed = passed ≡ false
WhereBounds (Err stop.Memory) s test passed = ⊤

-- the last value comes after the first one, or is the first one
abbrev pub IsWay : CoreCount → (first last : ℤ) → Type 0
IsWay c first last = (if c.is_reverse then int_le last first else int_le first last) ≡ true

unfoldable pub ran_count : Frame → CoreCount → Command → (last : ℤ) → ℕ → ℤ → Store → Option runs.Outcome
ran_count f c body last n k s =
    limited (passes_in_count c (λ i t. runs.run f i t body) (λ i t. passes f i t body) last n k s) (runs.counted c (λ i t. runs.run f i t body) last n k s)

-- ---- arms and alternatives

-- the statements of the arm at the position
abbrev pub arm_at : List CoreArm → ℕ → Command
arm_at [] k = Skip
arm_at (arm ∷ arms) zero = commands (out-CoreArm arm).body
arm_at (arm ∷ arms) (suc k) = arm_at arms k

-- the outcome is the run of the arm that was found, or what is done where there is none
abbrev pub OnArm : Result (Option ℕ) Stop → (ℕ → Option runs.Outcome) → Option runs.Outcome → Option runs.Outcome → Type 0
OnArm (Ok (Some k)) arm otherwise outcome = outcome ≡ arm k
OnArm (Ok None) arm otherwise outcome = outcome ≡ otherwise
OnArm (Err (stop.Failed fault)) arm otherwise outcome = outcome ≡ Some (runs.Bad fault.kind fault.place)
OnArm (Err stop.Memory) arm otherwise outcome = ⊤

-- the statements of the alternative at the position
abbrev pub alternative_at : List CoreAlternative → ℕ → Command
alternative_at [] k = Skip
alternative_at (a ∷ rest) zero = commands (out-CoreAlternative a).body
alternative_at (a ∷ rest) (suc k) = alternative_at rest k

abbrev pub ran_alternatives : Value → Frame → ℕ → Store → List CoreAlternative → Option runs.Outcome
ran_alternatives x f n s [] = Some (runs.Ended s)
ran_alternatives x f n s (a ∷ rest) = ran_for x f n s (alternatives_of (alternative a) (map alternative rest))

-- ---- annotations

-- what an annotation computes, if 128 bits hold its numbers; nothing is said where memory runs out
abbrev pub Computes : {A : Type 0} → Result A RunFault → Option A → Type 0
Computes (Ok x) found = Some x ≡ found
Computes (Err (TooLarge limit)) found = None ≡ found
Computes (Err Memory) found = ⊤

-- an annotation that is false is bad, if 128 bits hold its numbers
abbrev pub looked_at : Frame → Store → BadKind → Place → CoreExpr → Option runs.Outcome
looked_at f s kind place annotation = limited (is_too_large f s annotation) (runs.demand (truth f s annotation) kind place s)

abbrev pub predicate_looked_at : Frame → Store → BadKind → Option CorePredicate → Option runs.Outcome
predicate_looked_at f s kind (Some predicate) = looked_at f s kind predicate.place predicate.condition
predicate_looked_at f s kind None = Some (runs.Ended s)

-- ---- bodies

-- what is looked at after the statements
abbrev pub body_ended : Frame → Store → Option runs.Outcome
body_ended f t =
    limited
    (where_ended (runs.demand (runs.exports_set f.sub t) bad.Unset f.sub.end t) (λ u. passes_in_predicate f f.sub.post u))
    (runs.then_do (runs.demand (runs.exports_set f.sub t) bad.Unset f.sub.end t) (λ u. runs.demand_post f f.sub.post u))

unfoldable pub body_ran : Frame → ℕ → Option runs.Outcome
body_ran f n = limited (body_passes f n) (runs.run_body f n)

abbrev pub call_ran : Program → ℕ → Sub → Store → Option runs.Outcome
call_ran p n sub s = limited (call_passes p n sub s) (runs.call p n sub s)
