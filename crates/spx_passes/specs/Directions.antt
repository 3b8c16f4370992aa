-- Both ways over statements.
use Rattle.std.specs.Prelude.{◌≡◌, ◌==◌, ◌≢◌, ◌↔◌, ℕ, ◌<◌, Bool, not, List, [], length}
use Rattle.std.specs.List.{IsDistinct}
use Rattle.spx_text.specs.declared.place.Place.{Place}
use Rattle.spx_core.specs.declared.entity.VarId.{VarId}
use Rattle.spx_core.specs.Effects.{Effect, Read, has_exit, sets}
use Rattle.spx_core.specs.Marks.{Occurs}
use Rattle.spx_rows.specs.Relations.{Matrix, Holds}
use Rattle.spx_lower.specs.declared.item.Head.{Head}
use Rattle.spx_lower.specs.declared.item.Head.TheVariants as head
use Rattle.spx_passes.specs.declared.direction.Direction.{Direction}
use Rattle.spx_passes.specs.declared.direction.Direction.TheVariants as direction
use Rattle.spx_passes.specs.declared.occurrence.Occurrence.{Occurrence}
use Rattle.spx_passes.specs.declared.frame.Frame.{Frame}
use Rattle.spx_passes.specs.Occurrences.{AreRows}
use Rattle.spx_passes.specs.Loops.{OneTurn, read_points}
use Rattle.spx_passes.specs.Points.{ComesTo, Ends, FlowTo, MarkTo, Takes, reached, size_of}
use Rattle.spx_passes.specs.Positions.{Covers, Stands}
use Rattle.spx_passes.specs.Steps.{Spreads, StepsBack, StepsForward}

abbrev pub forward : Direction
forward = direction.Forward

abbrev pub backward : Direction
backward = direction.Backward

-- one statement more, on the side to which the pass goes
abbrev pub Steps : Direction → Frame → Effect → (old new : Matrix) → (before after : List Occurrence) → Type 0
Steps direction.Forward frame e old new before after = StepsForward frame e old new before after
Steps direction.Backward frame e old new before after = StepsBack frame e old new before after

-- statements have been gone over, from each point to itself
abbrev pub Turned : Direction → Frame → Effect → (turn : Matrix) (inner : List Occurrence) → Type 0
Turned direction.Forward frame e turn inner = OneTurn frame (λ y z. FlowTo e z y) (λ p z. ComesTo e z p) (λ p. Occurs e p) turn inner
Turned direction.Backward frame e turn inner = OneTurn frame (λ x z. FlowTo e x z) (λ p z. MarkTo e p z) (λ p. Occurs e p) turn inner

-- ---- arms

-- the rows with which an arm begins
abbrev pub ArmBegins : Direction → Frame → Bool → (rows start : Matrix) → Type 0
ArmBegins direction.Forward frame l rows start = (length start ≡ length rows) × ((a b : ℕ) → Holds start a b ↔ Holds rows a b)
ArmBegins direction.Backward frame l rows start = (length start ≡ length rows) × Takes frame (λ x z. Ends l x z) rows start

-- and those with which it ends
abbrev pub ArmEnds : Direction → Frame → Bool → (finish end : Matrix) → Type 0
ArmEnds direction.Forward frame l finish end = (length end ≡ length finish) × Takes frame (λ x z. Ends l z x) finish end
ArmEnds direction.Backward frame l finish end = end ≡ finish

-- what a test reads is listed, and comes to the targets or to conditions of exits
abbrev pub Tests : Direction → Frame → Bool → (VarId → Bool) → List Read → Place → (rows old new : Matrix) → (before after : List Occurrence) → Type 0
Tests direction.Forward frame l f reads place rows old new before after = Spreads frame (read_points reads) (reached l f) place rows old new before after
Tests direction.Backward frame l f reads place rows old new before after = Spreads frame (reached l f) (read_points reads) place rows old new before after

-- ---- loops

-- each point leads to itself
abbrev pub IsIdentity : Frame → Matrix → Type 0
IsIdentity frame m = (length m ≡ size_of frame) × ((a b : ℕ) → Holds m a b ↔ ((a < size_of frame) × (a ≡ b)))

-- but nothing leads on from the variable
abbrev pub IsKept : Frame → VarId → Matrix → Type 0
IsKept frame v m = (to : ℕ) → Stands frame.vars to v → (itself : Matrix) × IsIdentity frame itself × (length m ≡ length itself) × ((a b : ℕ) → Holds m a b ↔ ((to ≢ a) × Holds itself a b))

-- the rows with which one turn begins
abbrev pub TurnBegins : Direction → Frame → Head → Matrix → Type 0
TurnBegins direction.Forward frame h start = IsIdentity frame start
TurnBegins direction.Backward frame (head.Tested reads place) start = IsIdentity frame start
TurnBegins direction.Backward frame (head.Counted parameter bounds place) start = IsKept frame parameter start
TurnBegins direction.Backward frame head.Endless start = IsIdentity frame start

-- one turn has been gone over, and there are rows and occurrences for the whole loop
pub record Ready (frame : Frame) (one : Matrix) (within : List Occurrence) (m : Matrix) (list : List Occurrence) : Type 0 where
  pub once : IsDistinct ◌==◌ frame.vars
  pub turn : length one ≡ size_of frame
  pub inner : AreRows (size_of frame) within
  pub size : length m ≡ size_of frame
  pub rows : AreRows (size_of frame) list

-- A loop whose body has been gone over once, from rows that are as `Begins` says, is gone over.
abbrev pub Closes : Direction → Frame → (Begins : Matrix → Type 0) → (loop : Effect → Effect) → (VarId → Bool) → (stays : Bool) → (turn : Matrix) (inner : List Occurrence) (old new : Matrix) (before after : List Occurrence) → Type 0
Closes d frame Begins loop f stays turn inner old new before after =
    (body : Effect) (start : Matrix) → Covers frame (loop body) → ((v : VarId) → f v ≡ sets v body) → stays ≡ not (has_exit body) → Begins start → Steps d frame body start turn [] inner → Steps d frame (loop body) old new before after
