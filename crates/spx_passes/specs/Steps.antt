-- The steps of both passes.
use Rattle.std.specs.Prelude.{◌≡◌, ◌==◌, ◌↔◌, ◌⊎◌, ℕ, Bool, IsTrue, List, length}
use Rattle.std.specs.List.{IsDistinct}
use Rattle.spx_text.specs.declared.place.Place.{Place}
use Rattle.spx_core.specs.Effects.{Effect}
use Rattle.spx_core.specs.Marks.{Occurs}
use Rattle.spx_rows.specs.Relations.{Matrix, Holds}
use Rattle.spx_passes.specs.declared.occurrence.Occurrence.{Occurrence}
use Rattle.spx_passes.specs.declared.frame.Frame.{Frame}
use Rattle.spx_passes.specs.Occurrences.{AreRows, Lists, Relates}
use Rattle.spx_passes.specs.Points.{Point, ComesTo, FlowTo, Leads, MarkTo, StandsAt, Takes, size_of}
use Rattle.spx_passes.specs.Positions.{Covers}

-- The matrix has become that of one step more, between whose points R leads, and the occurrences of the step are added: from them M leads.
pub record Moves (frame : Frame) (R : Point → Point → Type 0) (M : Place → Point → Type 0) (O : Place → Type 0) (old new : Matrix) (before after : List Occurrence) : Type 0 where
  pub size : length new ≡ length old
  pub rows : AreRows (size_of frame) after
  pub pairs : Takes frame R old new
  pub marks : (p : Place) (q : ℕ) → Relates after p q ↔ (Relates before p q ⊎ Leads frame (M p) old q)
  pub listed : (p : Place) → Lists after p ↔ (Lists before p ⊎ O p)

-- One statement more stands before the others: the flows and marks of the others have become those of all.
abbrev pub StepsBack : Frame → Effect → (old new : Matrix) → (before after : List Occurrence) → Type 0
StepsBack frame e old new before after = Moves frame (FlowTo e) (MarkTo e) (Occurs e) old new before after

-- One statement more stands after the others: the row of each point is the union of the rows of those that flow to it, and each occurrence is added with
-- the union of the rows of what it reads.
abbrev pub StepsForward : Frame → Effect → (old new : Matrix) → (before after : List Occurrence) → Type 0
StepsForward frame e old new before after = Moves frame (λ y z. FlowTo e z y) (λ p z. ComesTo e z p) (Occurs e) old new before after

-- what covers statements, rows of all points, and occurrences
pub record Goes (frame : Frame) (e : Effect) (m : Matrix) (list : List Occurrence) : Type 0 where
  pub covers : Covers frame e
  pub size : length m ≡ size_of frame
  pub rows : AreRows (size_of frame) list

-- rows of all points, those that are made of them, and occurrences
pub record Beside (frame : Frame) (m made : Matrix) (list : List Occurrence) : Type 0 where
  pub once : IsDistinct ◌==◌ frame.vars
  pub size : length m ≡ size_of frame
  pub ends : length made ≡ size_of frame
  pub rows : AreRows (size_of frame) list

-- An occurrence is listed with the union of the rows that the points of `from` have in m, and this is added to the rows of the points of `to`.
pub record Spreads (frame : Frame) (from to : Point → Bool) (place : Place) (m old new : Matrix) (before after : List Occurrence) : Type 0 where
  pub size : length new ≡ length old
  pub rows : AreRows (size_of frame) after
  pub pairs : (p q : ℕ) (x : Point) → StandsAt frame p x → Holds new p q ↔ (Holds old p q ⊎ (IsTrue (to x) × Leads frame (λ z. IsTrue (from z)) m q))
  pub related : (p : Place) (q : ℕ) → Relates after p q ↔ (Relates before p q ⊎ ((place ≡ p) × Leads frame (λ z. IsTrue (from z)) m q))
  pub listed : (p : Place) → Lists after p ↔ (Lists before p ⊎ (place ≡ p))
