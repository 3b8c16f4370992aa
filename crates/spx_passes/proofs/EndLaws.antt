-- What a pass ends with: one turn is the whole body, of which the variables are kept.
use Rattle.std.proofs.Common.{◌≡◌, ◌↔◌, ℕ, ◌<◌, List, length, subst}
use Rattle.std.proofs.lemmas.Option.{slice_get_within}
use Rattle.spx_text.specs.declared.place.Place.{Place}
use Rattle.spx_core.specs.declared.entity.VarId.{VarId}
use Rattle.spx_core.specs.Marks.{Lambda, Occurs}
use Rattle.spx_core.specs.Effects.{Effect}
use Rattle.spx_rows.specs.Relations.{Matrix, Holds}
use Rattle.spx_passes.specs.declared.occurrence.Occurrence.{Occurrence}
use Rattle.spx_passes.specs.declared.frame.Frame.{Frame}
use Rattle.spx_passes.specs.Occurrences.{AreRows, LeadOn, Lists, Relates}
use Rattle.spx_passes.specs.Positions.{Stands}
use Rattle.spx_passes.specs.Points.{At, ComesTo, FlowTo, MarkTo}
use Rattle.spx_passes.specs.Loops.{OneTurn}
use Rattle.spx_passes.proofs.PointLaws.{one_point}

pub leads_on : (frame : Frame) (e : Effect) (flow rho : Matrix) (inner mu : List Occurrence) → OneTurn frame (λ x z. FlowTo e x z) (λ p z. MarkTo e p z) (λ p. Occurs e p) flow inner → length rho ≡ length frame.vars
    → ((a b : ℕ) → a < length frame.vars → b < length frame.vars → Holds rho a b ↔ Holds flow a b) → AreRows (length frame.vars) mu → ((p : Place) (b : ℕ) → b < length frame.vars → Relates mu p b ↔ Relates inner p b)
    → ((p : Place) → Lists mu p ↔ Lists inner p) → LeadOn frame.vars e rho mu
leads_on frame e flow rho inner mu turn size pairs rows related listed = record {
  size = size;
  rho = λ a b x y at_x at_y.
      let cut = pairs a b (slice_get_within frame.vars a x.0 at_x) (slice_get_within frame.vars b y.0 at_y) in (
        λ h. let k = (turn.shows a b (At x) at_x).0 (cut.0 h) in subst (FlowTo e (At x)) (one_point frame b k.0 (At y) k.1 at_y) k.2,
        λ h. cut.1 ((turn.shows a b (At x) at_x).1 (At y, at_y, h)),
      );
  mu_rows = rows;
  mu = λ p b y at.
      let cut = related p b (slice_get_within frame.vars b y.0 at) in (
        λ h. let k = (turn.related p b).0 (cut.0 h) in subst (MarkTo e p) (one_point frame b k.0 (At y) k.1 at) k.2,
        λ h. cut.1 ((turn.related p b).1 (At y, at, h)),
      );
  occurrences = λ p. (λ h. (turn.listed p).0 ((listed p).0 h), λ h. (listed p).1 ((turn.listed p).1 h));
}

pub comes_from_start : (frame : Frame) (e : Effect) (flow : Matrix) (inner list : List Occurrence) → OneTurn frame (λ y z. FlowTo e z y) (λ p z. ComesTo e z p) (λ p. Occurs e p) flow inner
    → ((p : Place) (b : ℕ) → b < length frame.vars → Relates list p b ↔ Relates inner p b) → (p : Place) (a : ℕ) (x : VarId) → Stands frame.vars a x → Relates list p a ↔ Lambda e x p
comes_from_start frame e flow inner list turn related p a x at =
    let cut = related p a (slice_get_within frame.vars a x.0 at) in (
      λ h. let k = (turn.related p a).0 (cut.0 h) in subst (λ z. ComesTo e z p) (one_point frame a k.0 (At x) k.1 at) k.2,
      λ h. cut.1 ((turn.related p a).1 (At x, at, h)),
    )
