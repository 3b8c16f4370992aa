-- Both ways over statements, by cases on the way.
use Rattle.std.proofs.Common.{◌≡◌, ◌↔◌, ◌⊎◌, ℕ, Bool, false, List, [], ◌++◌, length, refl, sym, subst}
use Rattle.std.specs.Prelude.{◌==◌, ◌||◌}
use Rattle.std.specs.List.{IsDistinct}
use Rattle.spx_text.specs.declared.place.Place.{Place}
use Rattle.spx_core.specs.declared.entity.VarId.{VarId}
use Rattle.spx_core.specs.Effects.{Effect, Read, nothing, observe, choose, sets}
use Rattle.spx_core.specs.Mirror.VarSets.{holds}
use Rattle.spx_rows.specs.Relations.{Matrix, Holds}
use Rattle.spx_lower.specs.declared.item.Head.TheVariants as head
use Rattle.spx_passes.specs.declared.direction.Direction.{Direction}
use Rattle.spx_passes.specs.declared.direction.Direction.TheVariants as direction
use Rattle.spx_passes.specs.declared.occurrence.Occurrence.{Occurrence}
use Rattle.spx_passes.specs.declared.frame.Frame.{Frame}
use Rattle.spx_passes.specs.Branches.{ArmPass, Done}
use Rattle.spx_passes.specs.Directions.{ArmBegins, ArmEnds, IsIdentity, Steps, Tests, TurnBegins, Turned}
use Rattle.spx_passes.specs.Occurrences.{AreRows}
use Rattle.spx_passes.specs.Points.{size_of}
use Rattle.spx_passes.specs.Positions.{Covers}
use Rattle.spx_passes.proofs.PassLaws.{back_arm, back_copied, back_last, back_null, back_observed, back_turn, forward_arm, forward_copied, forward_last, forward_null, forward_observed, forward_turn}

pub steps_size : (d : Direction) (frame : Frame) (e : Effect) (old new : Matrix) (before after : List Occurrence) → Steps d frame e old new before after → length new ≡ length old
steps_size direction.Forward frame e old new before after steps = steps.size
steps_size direction.Backward frame e old new before after steps = steps.size

pub steps_rows : (d : Direction) (frame : Frame) (e : Effect) (old new : Matrix) (before after : List Occurrence) → Steps d frame e old new before after → AreRows (size_of frame) after
steps_rows direction.Forward frame e old new before after steps = steps.rows
steps_rows direction.Backward frame e old new before after steps = steps.rows

pub over_null : (d : Direction) (frame : Frame) (m : Matrix) (list : List Occurrence) → IsDistinct ◌==◌ frame.vars → AreRows (size_of frame) list → Steps d frame nothing m m list list
over_null direction.Forward frame m list once rows = forward_null frame m m list once rows refl (λ a b. (λ h. h, λ h. h))
over_null direction.Backward frame m list once rows = back_null frame m m list once rows refl (λ a b. (λ h. h, λ h. h))

pub over_observed : (d : Direction) (frame : Frame) (values : List Read) (m : Matrix) (list : List Occurrence) → IsDistinct ◌==◌ frame.vars → AreRows (size_of frame) list → Steps d frame (observe values) m m list list
over_observed direction.Forward frame values m list once rows = forward_observed frame values m list once rows
over_observed direction.Backward frame values m list once rows = back_observed frame values m list once rows

pub over_copied : (d : Direction) (frame : Frame) (e : Effect) (rows copy new : Matrix) (before after : List Occurrence) → IsDistinct ◌==◌ frame.vars → length copy ≡ length rows → ((a b : ℕ) → Holds copy a b ↔ Holds rows a b) → Steps d frame e copy new before after
    → Steps d frame e rows new before after
over_copied direction.Forward frame e rows copy new before after once size same steps = forward_copied frame e rows copy new before after once size same steps
over_copied direction.Backward frame e rows copy new before after once size same steps = back_copied frame e rows copy new before after once size same steps

pub tests_size : (d : Direction) (frame : Frame) (l : Bool) (f : VarId → Bool) (reads : List Read) (place : Place) (rows old new : Matrix) (before after : List Occurrence) → Tests d frame l f reads place rows old new before after → length new ≡ length old
tests_size direction.Forward frame l f reads place rows old new before after test = test.size
tests_size direction.Backward frame l f reads place rows old new before after test = test.size

pub over_turned : (d : Direction) (frame : Frame) (e : Effect) (start turn : Matrix) (inner : List Occurrence) → IsIdentity frame start → Steps d frame e start turn [] inner → Turned d frame e turn inner
over_turned direction.Forward frame e start turn inner itself steps = forward_turn frame e start turn inner itself.0 itself.1 steps
over_turned direction.Backward frame e start turn inner itself steps = back_turn frame e start turn inner itself.0 itself.1 steps

-- ---- arms

module _ (frame : Frame) (once : IsDistinct ◌==◌ frame.vars) (l : Bool) (own selector : List Read) (a : Effect) (place : Place) (covers : Covers frame a) (rows ends joined new : Matrix) (others all : List ℕ) (before mid after : List Occurrence)
    (size : length joined ≡ length ends) (known : (v : VarId) → holds all v ≡ (sets v a || holds others v)) where
  pub arm_passed : (d : Direction) (start finish end : Matrix) → ArmBegins d frame l rows start → Steps d frame a start finish before mid → ArmEnds d frame l finish end → ((p q : ℕ) → Holds joined p q ↔ (Holds ends p q ⊎ Holds end p q))
      → Tests d frame l (λ v. holds all v) (own ++ selector) place rows joined new mid after → ArmPass (λ e. Steps d frame e rows) frame (record { place = place; reads = own; is_exit = l; done = a }) selector ends new others all before after
  arm_passed direction.Forward start finish end begins pass leaves union test =
      forward_arm frame once l own selector a place rows ends joined new others all before mid after size known covers finish end (forward_copied frame a rows start finish before mid once begins.0 begins.1 pass) leaves.0 leaves.1 union test
  arm_passed direction.Backward start finish end begins pass leaves union test =
      back_arm frame once l own selector a place rows ends joined new others all before mid after size known start finish begins.0 begins.1 pass (λ p q. (
        λ h. subst (λ m. Holds ends p q ⊎ Holds m p q) leaves ((union p q).0 h),
        λ h. (union p q).1 (subst (λ m. Holds ends p q ⊎ Holds m p q) (sym leaves) h),
      )) test

-- the selector is read where no test is true
pub last_passed : (d : Direction) (frame : Frame) (tests : List Read) (a : Effect) (place : Place) (rows joined new : Matrix) (all : List ℕ) (before mid after : List Occurrence) → ((v : VarId) → holds all v ≡ sets v a) → Steps d frame a rows joined before mid
    → Tests d frame false (λ v. holds all v) tests place rows joined new mid after → Done (λ e. Steps d frame e rows) (choose tests a a place) new all before after
last_passed direction.Forward frame tests a place rows joined new all before mid after known pass test = forward_last frame tests a place rows joined new all before mid after known pass test
last_passed direction.Backward frame tests a place rows joined new all before mid after known pass test = back_last frame tests a place rows joined new all before mid after known pass test

-- ---- loops

pub begins_tested : (d : Direction) (frame : Frame) (reads : List Read) (place : Place) (start : Matrix) → TurnBegins d frame (head.Tested reads place) start → IsIdentity frame start
begins_tested direction.Forward frame reads place start begins = begins
begins_tested direction.Backward frame reads place start begins = begins
