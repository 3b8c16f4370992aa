-- Assignments, and variables that are gone, between points.
use Rattle.std.proofs.Common.{◌≡◌, ◌≢◌, ◌↔◌, ◌⊎◌, ℕ, ◌<◌, true, List, [], ◌∷◌, ◌++◌, length, Option, Some, None, All, refl, sym, ap, ◌∙◌, subst, inl, inr, ⊎_elim}
use Rattle.std.specs.Prelude.{◌==◌, Contains, IsTrue}
use Rattle.std.specs.List.{IsDistinct}
use Rattle.std.specs.Option.{option_and_then}
use Rattle.std.proofs.lemmas.Bool.{both_ways, cases_Bool, eqb-true}
use Rattle.std.proofs.lemmas.List.Elements.{All-push}
use Rattle.spx_text.specs.declared.place.Place.{Place}
use Rattle.spx_core.specs.declared.entity.VarId.{VarId}
use Rattle.spx_core.specs.Uses.{is_same}
use Rattle.spx_core.specs.Effects.{Effect, Read, assign}
use Rattle.spx_core.specs.Mirror.VarSets.{place_in_set}
use Rattle.spx_core.specs.Marks.{Occurs}
use Rattle.spx_core.proofs.Callers.Variables.{same_itself, same_var}
use Rattle.spx_rows.specs.Relations.{Matrix, Gains, Has, Holds, Of}
use Rattle.spx_passes.specs.declared.occurrence.Occurrence.{Occurrence}
use Rattle.spx_passes.specs.declared.frame.Frame.{Frame}
use Rattle.spx_passes.specs.Points.{Point, At, Leaving, Testing, ComesTo, FlowTo, KeptTo, Leads, MarkTo, Other, Places, StandsAt, Takes, size_of}
use Rattle.spx_passes.specs.Positions.{Covers, Stands}
use Rattle.spx_passes.specs.Occurrences.{AreRows}
use Rattle.spx_passes.specs.Loops.{OneTurn, read_points}
use Rattle.spx_passes.specs.Steps.{Moves}
use Rattle.spx_passes.proofs.CountForms.{Gone}
use Rattle.spx_passes.proofs.Forms.{assign_comes, assign_idle, assign_marks, assign_occurs}
use Rattle.spx_passes.proofs.Moves.{moves_as, moves_same}
use Rattle.spx_passes.proofs.Occurrences.{lists_push, none_listed, none_related, relates_push}
use Rattle.spx_passes.proofs.PointLaws.{one_place_of, one_point, rows_led, within_size}
use Rattle.spx_passes.proofs.PositionLaws.{place_stands, target_placed}

-- ---- what flows where

module _ (v : VarId) where
  the_same : (w : VarId) → is_same w (Some v) ≡ true → At w ≡ At v
  the_same w is = ap At (sym (same_var v w (eqb-true v.0 w.0 is)))

  is_the_same : (w : VarId) → At w ≡ At v → is_same w (Some v) ≡ true
  is_the_same w e = subst (λ x. is_same x (Some v) ≡ true) (sym (at_var w v e)) (same_itself v)
    where
      at_var : (a b : VarId) → At a ≡ At b → a ≡ b
      at_var a b e = cc

  module _ (values : List Read) (place : Place) where
    assign_split : (x z : Point) → FlowTo (assign (Some v) values place) x z ↔ ((IsTrue (read_points values x) × (z ≡ At v)) ⊎ (Other v z × (x ≡ z)))
    assign_split (At u) (At w) = (
      λ h. ⊎_elim (λ q. inl (q.1, the_same w q.0)) (λ q. inr (q.0, ap At q.1)) h,
      λ h. ⊎_elim (λ q. inl (is_the_same w q.1, q.0)) (λ q. inr (q.0, let e = q.1 in cc)) h,
    )
    assign_split (At u) (Leaving w) = (λ h. absurd h, λ h. absurd (⊎_elim (λ q. let e = q.1 in cc) (λ q. let e = q.1 in cc) h))
    assign_split (At u) Testing = (λ h. absurd h, λ h. absurd (⊎_elim (λ q. let e = q.1 in cc) (λ q. let e = q.1 in cc) h))
    assign_split (Leaving u) z = (
      λ h. inr (subst (Other v) h refl, h),
      λ h. ⊎_elim (λ q. absurd (let is = q.0 in cc)) (λ q. q.1) h,
    )
    assign_split Testing z = (
      λ h. inr (subst (Other v) h refl, h),
      λ h. ⊎_elim (λ q. absurd (let is = q.0 in cc)) (λ q. q.1) h,
    )

    mark_split : (p : Place) (z : Point) → MarkTo (assign (Some v) values place) p z ↔ ((place ≡ p) × (z ≡ At v))
    mark_split p (At w) = (λ h. (h.0, the_same w h.1), λ h. (h.0, is_the_same w h.1))
    mark_split p (Leaving w) = (λ h. absurd h, λ h. absurd (let e = h.1 in cc))
    mark_split p Testing = (λ h. absurd h, λ h. absurd (let e = h.1 in cc))

    comes_split : (p : Place) (z : Point) → ComesTo (assign (Some v) values place) z p ↔ ((place ≡ p) × IsTrue (read_points values z))
    comes_split p (At u) = (λ h. (h.1, h.2), λ h. (refl, h.0, h.1))
    comes_split p (Leaving u) = (λ h. absurd h, λ h. absurd (let is = h.1 in cc))
    comes_split p Testing = (λ h. absurd h, λ h. absurd (let is = h.1 in cc))

  kept_split : (e : Effect) (x z : Point) → KeptTo v e x z ↔ ((Other v z × FlowTo e x z) ⊎ ((x ≡ At v) × (z ≡ At v)))
  kept_split e (At u) (At w) = (
    λ h. ⊎_elim (λ q. inr (ap At q.1 ∙ the_same w q.0, the_same w q.0)) (λ q. inl q) h,
    λ h. ⊎_elim (λ q. inr q) (λ q. inl (is_the_same w q.1, let d = q.0 in let e = q.1 in cc)) h,
  )
  kept_split e (At u) (Leaving w) = (λ h. inl (refl, h), λ h. ⊎_elim (λ q. q.1) (λ q. absurd (let e = q.1 in cc)) h)
  kept_split e (At u) Testing = (λ h. inl (refl, h), λ h. ⊎_elim (λ q. q.1) (λ q. absurd (let e = q.1 in cc)) h)
  kept_split e (Leaving u) z = (λ h. inl (subst (Other v) h refl, h), λ h. ⊎_elim (λ q. q.1) (λ q. absurd (let e = q.0 in cc)) h)
  kept_split e Testing z = (λ h. inl (subst (Other v) h refl, h), λ h. ⊎_elim (λ q. q.1) (λ q. absurd (let e = q.0 in cc)) h)

-- ---- a variable at a position

module _ (frame : Frame) (once : IsDistinct ◌==◌ frame.vars) (v : VarId) (to : ℕ) (at : Stands frame.vars to v) where
  point_at : (a : ℕ) (x : Point) → StandsAt frame a x → to ≡ a → x ≡ At v
  point_at a x stands e = one_point frame a x (At v) stands (subst (λ j. Stands frame.vars j v) e at)

  at_point : (a : ℕ) (x : Point) → StandsAt frame a x → x ≡ At v → to ≡ a
  at_point a x stands e = one_place_of frame to a (At v) once at (subst (StandsAt frame a) e stands)

  other_of : (a : ℕ) (x : Point) → StandsAt frame a x → to ≢ a → Other v x
  other_of a (At u) stands differ = ⊎_elim (λ is. absurd (differ (at_point a (At u) stands (the_same v u is)))) (λ is. is) (cases_Bool (is_same u (Some v)))
  other_of a (Leaving u) stands differ = refl
  other_of a Testing stands differ = refl

  differ_of : (a : ℕ) (x : Point) → StandsAt frame a x → Other v x → to ≢ a
  differ_of a x stands other e = both_ways (is_same v (Some v)) (subst (Other v) (point_at a x stands e) other) (same_itself v)

  same_row : (m : Matrix) (a b c : ℕ) (x z : Point) → StandsAt frame a x → StandsAt frame c z → x ≡ z → Holds m c b → Holds m a b
  same_row m a b c x z at_x at_z e h = subst (λ k. Holds m k b) (one_place_of frame c a x once (subst (StandsAt frame c) (sym e) at_z) at_x) h

  -- its row is empty
  pub takes_gone : (old new : Matrix) → ((a b : ℕ) → Holds new a b ↔ ((to ≢ a) × Holds old a b)) → Takes frame (Gone v) old new
  takes_gone old new clear a b x stands = (
    λ h. let k = (clear a b).0 h in (a, x, stands, (other_of a x stands k.0, refl), k.1),
    λ h. let k = h.3 in (clear a b).1 (differ_of a x stands k.0, same_row old a b h.0 x h.1 stands h.2 k.1 h.4),
  )

  module _ (values : List Read) (place : Place) (from : List ℕ) (within : All (λ j. j < size_of frame) from) (exact : Places frame from (read_points values)) (old new : Matrix) where
    pub takes_back : ((a b : ℕ) → Holds new a b ↔ ((Contains from a × Holds old to b) ⊎ ((to ≢ a) × Holds old a b))) → Takes frame (λ x z. FlowTo (assign (Some v) values place) x z) old new
    takes_back spread a b x stands = (
      λ h. ⊎_elim
          (λ q. (to, At v, at, (assign_split v values place x (At v)).1 (inl ((exact a x stands).0 q.0, refl)), q.1))
          (λ q. (a, x, stands, (assign_split v values place x x).1 (inr (other_of a x stands q.0, refl)), q.1))
          ((spread a b).0 h),
      λ h. (spread a b).1 (⊎_elim
          (λ q. inl ((exact a x stands).1 q.0, subst (λ k. Holds old k b) (sym (at_point h.0 h.1 h.2 q.1)) h.4))
          (λ q. inr (differ_of a x stands (subst (Other v) (sym q.1) q.0), same_row old a b h.0 x h.1 stands h.2 q.1 h.4))
          ((assign_split v values place x h.1).0 h.3)),
    )

    pub takes_forward : ((a b : ℕ) → Holds new a b ↔ (((to ≡ a) × Of from old b) ⊎ ((to ≢ a) × Holds old a b))) → Takes frame (λ y z. FlowTo (assign (Some v) values place) z y) old new
    takes_forward pairs a b y stands = (
      λ h. ⊎_elim
          (λ q. let k = (rows_led frame (read_points values) from within exact old b).0 q.1 in (k.0, k.1, k.2, (assign_split v values place k.1 y).1 (inl (k.3, point_at a y stands q.0)), k.4))
          (λ q. (a, y, stands, (assign_split v values place y y).1 (inr (other_of a y stands q.0, refl)), q.1))
          ((pairs a b).0 h),
      λ h. (pairs a b).1 (⊎_elim
          (λ q. inl (at_point a y stands q.1, (h.0, (exact h.0 h.1 h.2).1 q.0, h.4)))
          (λ q. inr (differ_of a y stands q.0, same_row old a b h.0 y h.1 stands h.2 (sym q.1) h.4))
          ((assign_split v values place h.1 y).0 h.3)),
    )

  -- ---- turns that keep the variable

  module _ (e : Effect) (itself : Matrix) (same : (a b : ℕ) → Holds itself a b ↔ ((a < size_of frame) × (a ≡ b))) where
    module _ (start one turn : Matrix) (inner : List Occurrence) (size : length turn ≡ size_of frame) (clear : (a b : ℕ) → Holds start a b ↔ ((to ≢ a) × Holds itself a b))
        (pass : Moves frame (λ x z. FlowTo e x z) (λ p z. MarkTo e p z) (λ p. Occurs e p) start one [] inner) (own : Gains one turn (λ a b. (to ≡ a) × (to ≡ b))) where
      led_on : (N : Point → Type 0) (b : ℕ) → Leads frame N start b ↔ ((z : Point) × StandsAt frame b z × (Other v z × N z))
      led_on N b = (
        λ h. let c = (clear h.0 b).0 h.4 in (h.1, subst (λ k. StandsAt frame k h.1) ((same h.0 b).0 c.1).1 h.2, (other_of h.0 h.1 h.2 c.0, h.3)),
        λ h. let k = h.2 in (b, h.0, h.1, k.1, (clear b b).1 (differ_of b h.0 h.1 k.0, (same b b).1 (within_size frame b h.0 h.1, refl))),
      )

      pub kept_back : OneTurn frame (λ x z. KeptTo v e x z) (λ p z. Other v z × MarkTo e p z) (λ p. Occurs e p) turn inner
      kept_back = record {
        size = size;
        rows = pass.rows;
        shows = λ a b x stands. (
          λ h. ⊎_elim
              (λ flow. let k = (led_on (λ z. FlowTo e x z) b).0 ((pass.pairs a b x stands).0 flow) in (k.0, k.1, (kept_split v e x k.0).1 (inl k.2)))
              (λ q. (At v, subst (λ k. Stands frame.vars k v) q.1 at, (kept_split v e x (At v)).1 (inr (point_at a x stands q.0, refl))))
              ((own a b).0 h),
          λ h. (own a b).1 (⊎_elim
              (λ flow. inl ((pass.pairs a b x stands).1 ((led_on (λ z. FlowTo e x z) b).1 (h.0, h.1, flow))))
              (λ q. inr (at_point a x stands q.0, at_point b h.0 h.1 q.1))
              ((kept_split v e x h.0).0 h.2)),
        );
        related = λ p k. (
          λ h. ⊎_elim (λ none. absurd (none_related p k none)) (λ q. (led_on (λ z. MarkTo e p z) k).0 q) ((pass.marks p k).0 h),
          λ h. (pass.marks p k).1 (inr ((led_on (λ z. MarkTo e p z) k).1 h)),
        );
        listed = λ p. (λ h. ⊎_elim (λ none. absurd (none_listed p none)) (λ q. q) ((pass.listed p).0 h), λ h. (pass.listed p).1 (inr h));
      }

  pub kept_forward : (e : Effect) (one mid turn : Matrix) (inner : List Occurrence) → OneTurn frame (λ y z. FlowTo e z y) (λ p z. ComesTo e z p) (λ p. Occurs e p) one inner → length turn ≡ length one → ((a b : ℕ) → Holds mid a b ↔ ((to ≢ a) × Holds one a b))
      → Gains mid turn (λ a b. (to ≡ a) × (to ≡ b)) → OneTurn frame (λ y z. KeptTo v e z y) (λ p z. ComesTo e z p) (λ p. Occurs e p) turn inner
  kept_forward e one mid turn inner pass size clear own = record {
    size = size ∙ pass.size;
    rows = pass.rows;
    shows = λ a b y stands. (
      λ h. ⊎_elim
          (λ flow. let c = (clear a b).0 flow in let k = (pass.shows a b y stands).0 c.1 in (k.0, k.1, (kept_split v e k.0 y).1 (inl (other_of a y stands c.0, k.2))))
          (λ q. (At v, subst (λ k. Stands frame.vars k v) q.1 at, (kept_split v e (At v) y).1 (inr (refl, point_at a y stands q.0))))
          ((own a b).0 h),
      λ h. (own a b).1 (⊎_elim
          (λ flow. inl ((clear a b).1 (differ_of a y stands flow.0, (pass.shows a b y stands).1 (h.0, h.1, flow.1))))
          (λ q. inr (at_point a y stands q.1, at_point b h.0 h.1 q.0))
          ((kept_split v e h.0 y).0 h.2)),
    );
    related = pass.related;
    listed = pass.listed;
  }

-- ---- assignments

-- the target, as it is found
pub assigned_back : (frame : Frame) (target : Option VarId) (values : List Read) (place : Place) (to : ℕ) (old new : Matrix) (before : List Occurrence) (o : Occurrence) (from : List ℕ) → Covers frame (assign target values place) → AreRows (size_of frame) before
    → Some to ≡ option_and_then (place_in_set frame.vars) target → length old ≡ size_of frame → length new ≡ length old → All (λ j. j < size_of frame) from → Places frame from (read_points values)
    → ((a b : ℕ) → Holds new a b ↔ ((Contains from a × Holds old to b) ⊎ ((to ≢ a) × Holds old a b))) → (length o.vars ≡ length old) × ((w : ℕ) → Has o.vars w ↔ Holds old to w) → o.place ≡ place
    → Moves frame (λ x z. FlowTo (assign target values place) x z) (λ p z. MarkTo (assign target values place) p z) (λ p. Occurs (assign target values place) p) old new before (before ++ o ∷ [])
assigned_back frame (Some v) values place to old new before o from covers rows is fits size within exact spread row here =
    let at = place_stands frame.vars v to (sym is) in record {
      size = size;
      rows = All-push (λ (q : Occurrence). length q.vars ≡ size_of frame) before o rows (row.0 ∙ fits);
      pairs = takes_back frame covers.once v to at values place from within exact old new spread;
      marks = λ p b. (
        λ h. ⊎_elim (λ q. inl q) (λ q. inr (to, At v, at, (mark_split v values place p (At v)).1 (sym here ∙ q.0, refl), (row.1 b).0 q.1)) ((relates_push before o p b).0 h),
        λ h. (relates_push before o p b).1 (⊎_elim
            (λ q. inl q)
            (λ q.
            let k = (mark_split v values place p q.1).0 q.3 in
            inr (here ∙ k.0, (row.1 b).1 (subst (λ j. Holds old j b) (sym (at_point frame covers.once v to at q.0 q.1 q.2 k.1)) q.4)))
            h),
      );
      listed = λ p. (
        λ h. ⊎_elim (λ q. inl q) (λ q. inr (refl, sym here ∙ q)) ((lists_push before o p).0 h),
        λ h. (lists_push before o p).1 (⊎_elim (λ q. inl q) (λ q. inr (here ∙ q.1)) h),
      );
    }
assigned_back frame None values place to old new before o from covers rows is fits size within exact spread row here = absurd cc

pub assigned_forward : (frame : Frame) (target : Option VarId) (values : List Read) (place : Place) (to : ℕ) (old new : Matrix) (before : List Occurrence) (o : Occurrence) (from : List ℕ) → Covers frame (assign target values place) → AreRows (size_of frame) before
    → Some to ≡ option_and_then (place_in_set frame.vars) target → length old ≡ size_of frame → length new ≡ length old → All (λ j. j < size_of frame) from → Places frame from (read_points values)
    → ((a b : ℕ) → Holds new a b ↔ (((to ≡ a) × Of from old b) ⊎ ((to ≢ a) × Holds old a b))) → (length o.vars ≡ length new) × ((w : ℕ) → Has o.vars w ↔ Holds new to w) → o.place ≡ place
    → Moves frame (λ y z. FlowTo (assign target values place) z y) (λ p z. ComesTo (assign target values place) z p) (λ p. Occurs (assign target values place) p) old new before (before ++ o ∷ [])
assigned_forward frame (Some v) values place to old new before o from covers rows is fits size within exact pairs row here =
    let at = place_stands frame.vars v to (sym is) in
    let takes = takes_forward frame covers.once v to at values place from within exact old new pairs in record {
      size = size;
      rows = All-push (λ (q : Occurrence). length q.vars ≡ size_of frame) before o rows (row.0 ∙ size ∙ fits);
      pairs = takes;
      marks = λ p b. (
        λ h. ⊎_elim
            (λ q. inl q)
            (λ q.
            let k = ⊎_elim (λ k. (rows_led frame (read_points values) from within exact old b).0 k.1) (λ k. absurd (k.0 refl)) ((pairs to b).0 ((row.1 b).0 q.1)) in
            inr (k.0, k.1, k.2, (comes_split v values place p k.1).1 (sym here ∙ q.0, k.3), k.4))
            ((relates_push before o p b).0 h),
        λ h. (relates_push before o p b).1 (⊎_elim
            (λ q. inl q)
            (λ q.
            let k = (comes_split v values place p q.1).0 q.3 in
            inr (here ∙ k.0, (row.1 b).1 ((pairs to b).1 (inl (refl, (q.0, (exact q.0 q.1 q.2).1 k.1, q.4))))))
            h),
      );
      listed = λ p. (
        λ h. ⊎_elim (λ q. inl q) (λ q. inr (refl, sym here ∙ q)) ((lists_push before o p).0 h),
        λ h. (lists_push before o p).1 (⊎_elim (λ q. inl q) (λ q. inr (here ∙ q.1)) h),
      );
    }
assigned_forward frame None values place to old new before o from covers rows is fits size within exact pairs row here = absurd cc

-- no target, or none that is found
pub unassigned_back : (frame : Frame) (target : Option VarId) (values : List Read) (place : Place) (m : Matrix) (list : List Occurrence) → Covers frame (assign target values place) → AreRows (size_of frame) list → None ≡ option_and_then (place_in_set frame.vars) target
    → Moves frame (λ x z. FlowTo (assign target values place) x z) (λ p z. MarkTo (assign target values place) p z) (λ p. Occurs (assign target values place) p) m m list list
unassigned_back frame (Some v) values place m list covers rows none = absurd (target_placed frame (assign (Some v) values place) v covers (same_itself v) (sym none))
unassigned_back frame None values place m list covers rows none =
    moves_as frame (λ x z. x ≡ z) (λ x z. FlowTo (assign None values place) x z) (λ p z. ⊥) (λ p z. MarkTo (assign None values place) p z) (λ p. ⊥) (λ p. Occurs (assign None values place) p) m m list list
    (assign_idle values place) (assign_marks values place) (assign_occurs values place) (moves_same frame covers.once m list rows)

pub unassigned_forward : (frame : Frame) (target : Option VarId) (values : List Read) (place : Place) (m : Matrix) (list : List Occurrence) → Covers frame (assign target values place) → AreRows (size_of frame) list → None ≡ option_and_then (place_in_set frame.vars) target
    → Moves frame (λ y z. FlowTo (assign target values place) z y) (λ p z. ComesTo (assign target values place) z p) (λ p. Occurs (assign target values place) p) m m list list
unassigned_forward frame (Some v) values place m list covers rows none = absurd (target_placed frame (assign (Some v) values place) v covers (same_itself v) (sym none))
unassigned_forward frame None values place m list covers rows none =
    moves_as frame (λ x z. x ≡ z) (λ y z. FlowTo (assign None values place) z y) (λ p z. ⊥) (λ p z. ComesTo (assign None values place) z p) (λ p. ⊥) (λ p. Occurs (assign None values place) p) m m list list
    (λ x z. let k = assign_idle values place z x in (λ h. k.0 (sym h), λ h. sym (k.1 h))) (assign_comes values place) (assign_occurs values place) (moves_same frame covers.once m list rows)

-- the row of a variable is cleared in a copy
pub takes_cleared : (frame : Frame) → IsDistinct ◌==◌ frame.vars → (v : VarId) (to : ℕ) → Stands frame.vars to v → (old copy new : Matrix) → ((a b : ℕ) → Holds copy a b ↔ Holds old a b) → ((a b : ℕ) → Holds new a b ↔ ((to ≢ a) × Holds copy a b)) → Takes frame (Gone v) old new
takes_cleared frame once v to at old copy new same clear =
    takes_gone frame once v to at old new (λ a b. (λ h. let k = (clear a b).0 h in (k.0, (same a b).0 k.1), λ h. (clear a b).1 (h.0, (same a b).1 h.1)))

-- where the target is found it has a row
pub placed_within : (frame : Frame) (m : Matrix) (target : Option VarId) (to : ℕ) → length m ≡ size_of frame → Some to ≡ option_and_then (place_in_set frame.vars) target → to < length m
placed_within frame m (Some v) to size is = subst (λ n. to < n) (sym size) (within_size frame to (At v) (place_stands frame.vars v to (sym is)))
placed_within frame m None to size is = absurd cc

pub stands_in_rows : (frame : Frame) (m : Matrix) (to : ℕ) (v : VarId) → length m ≡ size_of frame → Stands frame.vars to v → to < length m
stands_in_rows frame m to v size at = subst (λ n. to < n) (sym size) (within_size frame to (At v) at)

-- in a copy, the row of a variable is set from what is read
pub forward_given : (frame : Frame) → IsDistinct ◌==◌ frame.vars → (v : VarId) (to : ℕ) → Stands frame.vars to v → (values : List Read) (place : Place) (from : List ℕ) → All (λ j. j < size_of frame) from → Places frame from (read_points values) → (old copy new : Matrix)
    → ((a b : ℕ) → Holds copy a b ↔ Holds old a b) → ((a b : ℕ) → Holds new a b ↔ (((to ≡ a) × Of from copy b) ⊎ ((to ≢ a) × Holds copy a b))) → Takes frame (λ y z. FlowTo (assign (Some v) values place) z y) old new
forward_given frame once v to at values place from within exact old copy new same pairs =
    takes_forward frame once v to at values place from within exact old new (λ a b. (
      λ h. ⊎_elim (λ q. let k = q.1 in inl (q.0, (k.0, k.1, (same k.0 b).0 k.2))) (λ q. inr (q.0, (same a b).0 q.1)) ((pairs a b).0 h),
      λ h. (pairs a b).1 (⊎_elim (λ q. let k = q.1 in inl (q.0, (k.0, k.1, (same k.0 b).1 k.2))) (λ q. inr (q.0, (same a b).1 q.1)) h),
    ))
