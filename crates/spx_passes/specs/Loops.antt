-- The turns of a loop.
use Rattle.std.specs.Prelude.{◌≡◌, ◌↔◌, ◌⊎◌, ℕ, ◌<◌, Bool, Option, Some, None, List, [], length}
use Rattle.spx_text.specs.declared.place.Place.{Place}
use Rattle.spx_core.specs.declared.entity.VarId.{VarId}
use Rattle.spx_core.specs.Effects.{Read, assign, is_read}
use Rattle.spx_rows.specs.Relations.{Matrix, Holds, Star}
use Rattle.spx_passes.specs.declared.occurrence.Occurrence.{Occurrence}
use Rattle.spx_passes.specs.declared.frame.Frame.{Frame}
use Rattle.spx_passes.specs.Occurrences.{AreRows, Lists, Relates}
use Rattle.spx_passes.specs.Points.{Point, FlowTo, Shows, StandsAt, Takes, on_variables, size_of}
use Rattle.spx_passes.specs.Steps.{Spreads}

-- Each of the occurrences is added with the union of the rows that m has at what it is listed with.
pub record Carries (n : ℕ) (m : Matrix) (inner before after : List Occurrence) : Type 0 where
  pub rows : AreRows n after
  pub related : (p : Place) (q : ℕ) → Relates after p q ↔ (Relates before p q ⊎ ((k : ℕ) × Relates inner p k × Holds m k q))
  pub listed : (p : Place) → Lists after p ↔ (Lists before p ⊎ Lists inner p)

-- one turn, between whose points R leads, and the occurrences in it, from which M leads
pub record OneTurn (frame : Frame) (R : Point → Point → Type 0) (M : Place → Point → Type 0) (O : Place → Type 0) (turn : Matrix) (inner : List Occurrence) : Type 0 where
  pub size : length turn ≡ size_of frame
  pub rows : AreRows (size_of frame) inner
  pub shows : Shows frame R turn
  pub related : (p : Place) (k : ℕ) → Relates inner p k ↔ ((z : Point) × StandsAt frame k z × M p z)
  pub listed : (p : Place) → Lists inner p ↔ O p

-- some number of turns, and then the last matrix; the occurrences in a turn are carried through both
pub record Turns (turn : Matrix) (inner : List Occurrence) (last head : Matrix) (before after : List Occurrence) : Type 0 where
  pub size : length head ≡ length last
  pub pairs : (a b : ℕ) → Holds head a b ↔ ((a < length turn) × (v : ℕ) × Star (Holds turn) a v × Holds last v b)
  pub carried : Carries (length last) head inner before after

-- ---- loops over a parameter

-- What some number of turns has led to, or leads on from; where no bounds are written, there is one turn more.
abbrev pub Begun : Option (List Read) → (turn rest : ℕ → ℕ → Type 0) → ℕ → ℕ → Type 0
Begun (Some reads) turn rest a b = rest a b
Begun None turn rest a b = (v : ℕ) × turn a v × rest v b

-- the variables that are read
abbrev pub read_points : List Read → Point → Bool
read_points reads x = on_variables (λ v. is_read v reads) x

-- Bounds stand before the turns of a loop: the parameter comes from what they read, and, where they are written, this comes to the points of `to`.
abbrev pub Enters : Frame → VarId → Option (List Read) → (to : Point → Bool) → Place → (past head new : Matrix) → (before after : List Occurrence) → Type 0
Enters frame parameter (Some reads) to place past head new before after =
    (mid : Matrix) × (length mid ≡ length head) × Takes frame (FlowTo (assign (Some parameter) reads place)) head mid × Spreads frame to (read_points reads) place past mid new before after
Enters frame parameter None to place past head new before after =
    (length new ≡ length head) × Takes frame (FlowTo (assign (Some parameter) [] place)) head new × (after ≡ before)

-- A loop over a parameter is left: what its bounds read, where they are written, comes to the points of `to`.
abbrev pub IsLeft : Frame → Option (List Read) → (to : Point → Bool) → Place → (state old new : Matrix) → (before after : List Occurrence) → Type 0
IsLeft frame (Some reads) to place state old new before after = Spreads frame (read_points reads) to place state old new before after
IsLeft frame None to place state old new before after = (new ≡ old) × (after ≡ before)
