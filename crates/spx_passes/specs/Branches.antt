-- A pass over the arms of a branch, from the last to the first.
use Rattle.std.specs.Prelude.{◌≡◌, ℕ, ◌||◌, ◌++◌, List, length}
use Rattle.spx_core.specs.declared.entity.VarId.{VarId}
use Rattle.spx_core.specs.Effects.{Effect, Read, chosen, sets}
use Rattle.spx_core.specs.Mirror.VarSets.{holds}
use Rattle.spx_rows.specs.Relations.{Matrix}
use Rattle.spx_lower.specs.Meaning.{Test, branch}
use Rattle.spx_passes.specs.declared.occurrence.Occurrence.{Occurrence}
use Rattle.spx_passes.specs.declared.frame.Frame.{Frame}
use Rattle.spx_passes.specs.Occurrences.{AreRows}
use Rattle.spx_passes.specs.Points.{size_of}

-- One arm is before others: what the pass made of the others it makes of the arm and them, and the targets of the others become those of all.
pub record ArmPass (Steps : Effect → Matrix → (before after : List Occurrence) → Type 0) (frame : Frame) (arm : Test) (selector : List Read) (ends new_ends : Matrix) (others all : List ℕ) (before after : List Occurrence) : Type 0 where
  pub size : length new_ends ≡ length ends
  pub rows : AreRows (size_of frame) after
  pub targets : (v : VarId) → holds all v ≡ (sets v arm.done || holds others v)
  pub steps : (b : Effect) (start : List Occurrence) → ((v : VarId) → holds others v ≡ sets v b) → Steps b ends start before → Steps (chosen arm.is_exit (arm.reads ++ selector) arm.done b arm.place) new_ends start after

-- What is done has been gone over, and these are its targets.
pub record Done (Steps : Effect → Matrix → (before after : List Occurrence) → Type 0) (e : Effect) (ends : Matrix) (all : List ℕ) (before after : List Occurrence) : Type 0 where
  pub targets : (v : VarId) → holds all v ≡ sets v e
  pub steps : Steps e ends before after

-- Arms are before others.
pub record Arms (Steps : Effect → Matrix → (before after : List Occurrence) → Type 0) (frame : Frame) (selector : List Read) (arms : List Test) (ends new_ends : Matrix) (others all : List ℕ) (before after : List Occurrence) : Type 0 where
  pub size : length new_ends ≡ length ends
  pub rows : AreRows (size_of frame) after
  pub done : (b : Effect) (start : List Occurrence) → Done Steps b ends others start before → Done Steps (branch selector b arms) new_ends all start after
