-- Both passes over arms, statements in a row and loops.
use Rattle.std.proofs.Common.{◌≡◌, ◌↔◌, ◌⊎◌, ℕ, ◌<◌, ◌+◌, ◌-◌, Bool, true, false, List, [], ◌∷◌, ◌++◌, drop, get_or, length, arith, refl, sym, ap, ◌∙◌, subst, inl, ⊎_elim}
use Rattle.std.specs.Prelude.{◌==◌, ◌||◌}
use Rattle.std.specs.List.{IsDistinct}
use Rattle.std.proofs.lemmas.List.{drop_all, drop_more}
use Rattle.spx_text.specs.declared.place.Place.{Place}
use Rattle.spx_core.specs.declared.entity.VarId.{VarId}
use Rattle.spx_core.specs.Effects.{Effect, Read, nothing, next, choose, observe, chosen, sets}
use Rattle.spx_core.specs.Marks.{Occurs}
use Rattle.spx_core.specs.Mirror.VarSets.{holds}
use Rattle.spx_core.proofs.Callers.FlowLaws.{sets_chosen}
use Rattle.spx_rows.specs.Relations.{Matrix, Holds}
use Rattle.spx_passes.specs.declared.occurrence.Occurrence.{Occurrence}
use Rattle.spx_passes.specs.declared.frame.Frame.{Frame}
use Rattle.spx_lower.specs.Meaning.{Test, branch}
use Rattle.spx_passes.specs.Branches.{ArmPass, Arms, Done}
use Rattle.spx_passes.specs.Occurrences.{AreRows}
use Rattle.spx_passes.specs.Loops.{OneTurn, read_points}
use Rattle.spx_passes.specs.Points.{Point, At, Leaving, Testing, ComesTo, Ends, FlowTo, MarkTo, StandsAt, Takes, reached, size_of}
use Rattle.spx_passes.specs.Positions.{Covers}
use Rattle.spx_passes.specs.Steps.{Spreads, StepsBack, StepsForward}
use Rattle.spx_passes.proofs.Forms.{comes_chosen, comes_next, flow_chosen, flow_chosen_turned, flow_next, flow_next_turned, mark_chosen, mark_next, nothing_comes, nothing_idle, nothing_marks, observe_comes, observe_idle, observe_marks, occurs_chosen, occurs_next, occurs_next_turned}
use Rattle.spx_passes.proofs.Moves.{moves_after, moves_again, moves_as, moves_before, moves_copy, moves_or, moves_read, moves_same, moves_then, takes_same, turn_passed}
use Rattle.spx_passes.proofs.PointLaws.{flow_from, flow_on}
use Rattle.spx_passes.proofs.TargetLaws.{or_same}

-- ---- what is left of a list

-- what is left of a list, where some is
pub left_from : {X : Type 0} (xs : List X) (k : ℕ) (x : X) → k < length xs → x ≡ get_or xs k x → drop k xs ≡ x ∷ drop (k + 1) xs
left_from xs k x within is = drop_more xs k x within ∙ ap (λ y. y ∷ drop (k + 1) xs) (sym is)

-- the last element
pub left_last : {X : Type 0} (xs : List X) (k : ℕ) (x : X) → k + 1 ≡ length xs → x ≡ get_or xs k x → drop k xs ≡ x ∷ []
left_last xs k x end is =
    let within : k < length xs = omega arith in
    left_from xs k x within is ∙ ap (λ rest. x ∷ rest) (drop_all (k + 1) xs (omega arith))

-- what is left of a list from one element earlier on
pub left_of : {X : Type 0} (xs : List X) (k : ℕ) (x : X) → 0 < k → k - 1 < length xs → x ≡ get_or xs (k - 1) x → drop (k - 1) xs ≡ x ∷ drop k xs
left_of xs k x some within is =
    let e : k - 1 + 1 ≡ k = omega arith in
    left_from xs (k - 1) x within is ∙ ap (λ n. x ∷ drop n xs) e

-- ---- arms

module _ (Steps : Effect → Matrix → (before after : List Occurrence) → Type 0) (frame : Frame) where
  -- one arm, where the others are done already
  pub arms_more : (selector : List Read) (arm : Test) (arms : List Test) (ends mid new : Matrix) (targets others all : List ℕ) (before list after : List Occurrence) → Arms Steps frame selector arms ends mid targets others before list →
      ArmPass Steps frame arm selector mid new others all list after → Arms Steps frame selector (arm ∷ arms) ends new targets all before after
  arms_more selector arm arms ends mid new targets others all before list after done one = record {
    size = one.size ∙ done.size;
    rows = one.rows;
    done = λ b start first.
        let rest = done.done b start first in
        record {
          targets = λ v. one.targets v ∙ ap (λ t. sets v arm.done || t) (rest.targets v) ∙ sym (sets_chosen v arm.is_exit (arm.reads ++ selector) arm.done (branch selector b arms) arm.place);
          steps = one.steps (branch selector b arms) start rest.targets rest.steps;
        };
  }

  pub arms_none : (selector : List Read) (ends : Matrix) (targets : List ℕ) (before : List Occurrence) → AreRows (size_of frame) before → Arms Steps frame selector [] ends ends targets targets before before
  arms_none selector ends targets before rows = record { size = refl; rows = rows; done = λ b start first. first }

-- ---- one arm, in both passes

ends_from : (frame : Frame) (l : Bool) (c : ℕ) (y z : Point) → StandsAt frame c z → Ends l y z → (k : ℕ) × StandsAt frame k y
ends_from frame false c y z at e = (c, subst (StandsAt frame c) (sym e) at)
ends_from frame true c (At v) z at e = let left = subst (StandsAt frame c) (sym e) at in (left.1, left.2)
ends_from frame true c (Leaving v) z at e = absurd e
ends_from frame true c Testing z at e = absurd e

module _ (frame : Frame) (once : IsDistinct ◌==◌ frame.vars) (l : Bool) (own selector : List Read) (a : Effect) (place : Place) (rho ends joined new : Matrix) (others all : List ℕ) (before mid after : List Occurrence) (size : length joined ≡ length ends)
    (known : (v : VarId) → holds all v ≡ (sets v a || holds others v)) where
  pub back_arm : (begin start : Matrix) → length begin ≡ length rho → Takes frame (λ x z. Ends l x z) rho begin → StepsBack frame a begin start before mid → ((p q : ℕ) → Holds joined p q ↔ (Holds ends p q ⊎ Holds start p q))
      → Spreads frame (reached l (λ v. holds all v)) (read_points (own ++ selector)) place rho joined new mid after → ArmPass (λ e. StepsBack frame e rho) frame (record { place = place; reads = own; is_exit = l; done = a }) selector ends new others all before after
  back_arm begin start long takes pass union test = record {
    size = test.size ∙ size;
    rows = test.rows;
    targets = known;
    steps = λ b first h rest.
        let way = moves_before frame (λ x z. Ends l x z) (λ x z. FlowTo a x z) (λ p z. MarkTo a p z) (λ p. Occurs a p) rho begin start before mid (ends_from frame l) long takes pass in
        let both = moves_or frame (λ x z. FlowTo b x z) _ (λ p z. MarkTo b p z) _ (λ p. Occurs b p) _ rho ends start joined first before mid rest way size union in
        let read = moves_read frame _ _ _ (reached l (λ v. holds all v)) (read_points (own ++ selector)) place rho joined new first mid after both test in
        let set = λ (v : VarId). known v ∙ ap (λ t. sets v a || t) (h v) in
        moves_as frame _ (λ x z. FlowTo (chosen l (own ++ selector) a b place) x z) _ (λ p z. MarkTo (chosen l (own ++ selector) a b place) p z) _ (λ p. Occurs (chosen l (own ++ selector) a b place) p) rho new first after
        (flow_chosen (own ++ selector) a b place (λ v. holds all v) set l) (mark_chosen (own ++ selector) a b place (λ v. holds all v) set l) (occurs_chosen (own ++ selector) a b place l) read;
  }

  pub forward_arm : Covers frame a → (finish end : Matrix) → StepsForward frame a rho finish before mid → length end ≡ length finish → Takes frame (λ x z. Ends l z x) finish end → ((p q : ℕ) → Holds joined p q ↔ (Holds ends p q ⊎ Holds end p q))
      → Spreads frame (read_points (own ++ selector)) (reached l (λ v. holds all v)) place rho joined new mid after → ArmPass (λ e. StepsForward frame e rho) frame (record { place = place; reads = own; is_exit = l; done = a }) selector ends new others all before after
  forward_arm covers finish end pass long takes union test = record {
    size = test.size ∙ size;
    rows = test.rows;
    targets = known;
    steps = λ b first h rest.
        let way = moves_after frame (λ y z. FlowTo a z y) (λ x z. Ends l z x) (λ p z. ComesTo a z p) (λ p. Occurs a p) rho finish end before mid (λ c y z at flow. flow_on frame a covers c z y at flow) pass long takes in
        let both = moves_or frame (λ y z. FlowTo b z y) _ (λ p z. ComesTo b z p) _ (λ p. Occurs b p) _ rho ends end joined first before mid rest way size union in
        let read = moves_read frame _ _ _ (read_points (own ++ selector)) (reached l (λ v. holds all v)) place rho joined new first mid after both test in
        let set = λ (v : VarId). known v ∙ ap (λ t. sets v a || t) (h v) in
        moves_as frame _ (λ y z. FlowTo (chosen l (own ++ selector) a b place) z y) _ (λ p z. ComesTo (chosen l (own ++ selector) a b place) z p) _ (λ p. Occurs (chosen l (own ++ selector) a b place) p) rho new first after
        (flow_chosen_turned (own ++ selector) a b place (λ v. holds all v) set l) (comes_chosen (own ++ selector) a b place l) (occurs_chosen (own ++ selector) a b place l) read;
  }

-- the last alternative, which is both arms
twice : (m : Matrix) (p q : ℕ) → Holds m p q ↔ (Holds m p q ⊎ Holds m p q)
twice m p q = (λ h. inl h, λ h. ⊎_elim (λ one. one) (λ two. two) h)

module _ (frame : Frame) (tests : List Read) (a : Effect) (place : Place) (rho joined new : Matrix) (all : List ℕ) (before mid after : List Occurrence) (known : (v : VarId) → holds all v ≡ sets v a) where
  pub back_last : StepsBack frame a rho joined before mid → Spreads frame (reached false (λ v. holds all v)) (read_points tests) place rho joined new mid after → Done (λ e. StepsBack frame e rho) (choose tests a a place) new all before after
  back_last pass test =
      let again = moves_again frame (λ x z. FlowTo a x z) (λ p z. MarkTo a p z) (λ p. Occurs a p) rho joined before mid pass in
      let way = moves_as frame (λ x z. FlowTo a x z) (λ x z. (y : Point) × FlowTo a x y × Ends false y z) (λ p z. MarkTo a p z) (λ p z. (y : Point) × MarkTo a p y × Ends false y z) (λ p. Occurs a p) (λ p. Occurs a p) rho joined mid mid
      (λ x z. (λ h. (z, h, refl), λ h. subst (FlowTo a x) h.2 h.1)) (λ p z. (λ h. (z, h, refl), λ h. subst (MarkTo a p) h.2 h.1)) (λ p. (λ h. h, λ h. h)) again in
      let both = moves_or frame (λ x z. FlowTo a x z) _ (λ p z. MarkTo a p z) _ (λ p. Occurs a p) _ rho joined joined joined before mid mid pass way refl (twice joined) in
      let read = moves_read frame _ _ _ (reached false (λ v. holds all v)) (read_points tests) place rho joined new before mid after both test in
      let set = λ (v : VarId). known v ∙ sym (or_same (sets v a)) in record {
        targets = set;
        steps = moves_as frame _ (λ x z. FlowTo (choose tests a a place) x z) _ (λ p z. MarkTo (choose tests a a place) p z) _ (λ p. Occurs (choose tests a a place) p) rho new before after
            (flow_chosen tests a a place (λ v. holds all v) set false) (mark_chosen tests a a place (λ v. holds all v) set false) (occurs_chosen tests a a place false) read;
      }

  pub forward_last : StepsForward frame a rho joined before mid → Spreads frame (read_points tests) (reached false (λ v. holds all v)) place rho joined new mid after → Done (λ e. StepsForward frame e rho) (choose tests a a place) new all before after
  forward_last pass test =
      let again = moves_again frame (λ y z. FlowTo a z y) (λ p z. ComesTo a z p) (λ p. Occurs a p) rho joined before mid pass in
      let way = moves_as frame (λ y z. FlowTo a z y) (λ x z. (y : Point) × Ends false y x × FlowTo a z y) (λ p z. ComesTo a z p) (λ p z. ComesTo a z p) (λ p. Occurs a p) (λ p. Occurs a p) rho joined mid mid
      (λ x z. (λ h. (x, refl, h), λ h. subst (FlowTo a z) h.1 h.2)) (λ p z. (λ h. h, λ h. h)) (λ p. (λ h. h, λ h. h)) again in
      let both = moves_or frame (λ y z. FlowTo a z y) _ (λ p z. ComesTo a z p) _ (λ p. Occurs a p) _ rho joined joined joined before mid mid pass way refl (twice joined) in
      let read = moves_read frame _ _ _ (read_points tests) (reached false (λ v. holds all v)) place rho joined new before mid after both test in
      let set = λ (v : VarId). known v ∙ sym (or_same (sets v a)) in record {
        targets = set;
        steps = moves_as frame _ (λ y z. FlowTo (choose tests a a place) z y) _ (λ p z. ComesTo (choose tests a a place) z p) _ (λ p. Occurs (choose tests a a place) p) rho new before after
            (flow_chosen_turned tests a a place (λ v. holds all v) set false) (comes_chosen tests a a place false) (occurs_chosen tests a a place false) read;
      }

-- ---- statements that do nothing

pub back_null : (frame : Frame) (rho new : Matrix) (mu : List Occurrence) → IsDistinct ◌==◌ frame.vars → AreRows (size_of frame) mu → length new ≡ length rho → ((a b : ℕ) → Holds new a b ↔ Holds rho a b) → StepsBack frame nothing rho new mu mu
back_null frame rho new mu once rows size same =
    moves_as frame (λ x z. x ≡ z) (λ x z. FlowTo nothing x z) (λ p z. ⊥) (λ p z. MarkTo nothing p z) (λ p. ⊥) (λ p. Occurs nothing p) rho new mu mu nothing_idle nothing_marks (λ p. (λ h. h, λ h. h))
    (moves_copy frame once rho new mu rows size same)

pub forward_null : (frame : Frame) (state new : Matrix) (list : List Occurrence) → IsDistinct ◌==◌ frame.vars → AreRows (size_of frame) list → length new ≡ length state → ((a b : ℕ) → Holds new a b ↔ Holds state a b) → StepsForward frame nothing state new list list
forward_null frame state new list once rows size same =
    moves_as frame (λ x z. x ≡ z) (λ y z. FlowTo nothing z y) (λ p z. ⊥) (λ p z. ComesTo nothing z p) (λ p. ⊥) (λ p. Occurs nothing p) state new list list
    (λ x z. let k = nothing_idle z x in (λ h. k.0 (sym h), λ h. sym (k.1 h))) nothing_comes (λ p. (λ h. h, λ h. h)) (moves_copy frame once state new list rows size same)

pub back_observed : (frame : Frame) (values : List Read) (rho : Matrix) (mu : List Occurrence) → IsDistinct ◌==◌ frame.vars → AreRows (size_of frame) mu → StepsBack frame (observe values) rho rho mu mu
back_observed frame values rho mu once rows =
    moves_as frame (λ x z. x ≡ z) (λ x z. FlowTo (observe values) x z) (λ p z. ⊥) (λ p z. MarkTo (observe values) p z) (λ p. ⊥) (λ p. Occurs (observe values) p) rho rho mu mu (observe_idle values) (observe_marks values) (λ p. (λ h. h, λ h. h))
    (moves_same frame once rho mu rows)

pub forward_observed : (frame : Frame) (values : List Read) (state : Matrix) (list : List Occurrence) → IsDistinct ◌==◌ frame.vars → AreRows (size_of frame) list → StepsForward frame (observe values) state state list list
forward_observed frame values state list once rows =
    moves_as frame (λ x z. x ≡ z) (λ y z. FlowTo (observe values) z y) (λ p z. ⊥) (λ p z. ComesTo (observe values) z p) (λ p. ⊥) (λ p. Occurs (observe values) p) state state list list
    (λ x z. let k = observe_idle values z x in (λ h. k.0 (sym h), λ h. sym (k.1 h))) (observe_comes values) (λ p. (λ h. h, λ h. h)) (moves_same frame once state list rows)

-- a pass may begin with a copy
pub back_copied : (frame : Frame) (e : Effect) (rho copy new : Matrix) (before after : List Occurrence) → IsDistinct ◌==◌ frame.vars → length copy ≡ length rho → ((a b : ℕ) → Holds copy a b ↔ Holds rho a b) → StepsBack frame e copy new before after → StepsBack frame e rho new before after
back_copied frame e rho copy new before after once size same step =
    moves_as frame _ (λ x z. FlowTo e x z) _ (λ p z. MarkTo e p z) _ (λ p. Occurs e p) rho new before after (λ x z. (λ h. subst (FlowTo e x) h.2 h.1, λ h. (z, h, refl))) (λ p z. (λ h. subst (MarkTo e p) h.2 h.1, λ h. (z, h, refl))) (λ p. (λ h. h, λ h. h))
    (moves_before frame (λ x z. x ≡ z) (λ x z. FlowTo e x z) (λ p z. MarkTo e p z) (λ p. Occurs e p) rho copy new before after (λ c y z at is. (c, subst (StandsAt frame c) (sym is) at)) size (takes_same frame once rho copy same) step)

pub forward_copied : (frame : Frame) (e : Effect) (state copy new : Matrix) (before after : List Occurrence) → IsDistinct ◌==◌ frame.vars → length copy ≡ length state → ((a b : ℕ) → Holds copy a b ↔ Holds state a b) → StepsForward frame e copy new before after → StepsForward frame e state new before after
forward_copied frame e state copy new before after once size same step =
    moves_as frame _ (λ y z. FlowTo e z y) _ (λ p z. ComesTo e z p) _ (λ p. Occurs e p) state new before after (λ x z. (λ h. subst (λ t. FlowTo e t x) h.2 h.1, λ h. (z, h, refl))) (λ p z. (λ h. subst (λ t. ComesTo e t p) h.2 h.1, λ h. (z, h, refl))) (λ p. (λ h. h, λ h. h))
    (moves_before frame (λ x z. x ≡ z) (λ y z. FlowTo e z y) (λ p z. ComesTo e z p) (λ p. Occurs e p) state copy new before after (λ c y z at is. (c, subst (StandsAt frame c) (sym is) at)) size (takes_same frame once state copy same) step)

-- ---- statements one after another

-- one statement more is before the others
pub back_next : (frame : Frame) (e d : Effect) (old mid new : Matrix) (start before after : List Occurrence) → Covers frame d → StepsBack frame d old mid start before → StepsBack frame e mid new before after → StepsBack frame (next e d) old new start after
back_next frame e d old mid new start before after covers others step =
    moves_as frame _ (λ x z. FlowTo (next e d) x z) _ (λ p z. MarkTo (next e d) p z) _ (λ p. Occurs (next e d) p) old new start after (flow_next e d) (mark_next e d) (occurs_next_turned e d)
    (moves_then frame (λ x z. FlowTo d x z) (λ x z. FlowTo e x z) (λ p z. MarkTo d p z) (λ p z. MarkTo e p z) (λ p. Occurs d p) (λ p. Occurs e p) old mid new start before after (flow_from frame d covers) others step)

-- one statement more is after the others
pub forward_next : (frame : Frame) (d e : Effect) (old mid new : Matrix) (start before after : List Occurrence) → Covers frame d → StepsForward frame d old mid start before → StepsForward frame e mid new before after → StepsForward frame (next d e) old new start after
forward_next frame d e old mid new start before after covers first second =
    moves_as frame _ (λ y z. FlowTo (next d e) z y) _ (λ p z. ComesTo (next d e) z p) _ (λ p. Occurs (next d e) p) old new start after (flow_next_turned d e) (comes_next d e) (occurs_next d e)
    (moves_then frame (λ y z. FlowTo d z y) (λ y z. FlowTo e z y) (λ p z. ComesTo d z p) (λ p z. ComesTo e z p) (λ p. Occurs d p) (λ p. Occurs e p) old mid new start before after (λ c y z at flow. flow_on frame d covers c z y at flow) first second)

-- what is left to go over, from here, makes the whole from the start
pub record Led (frame : Frame) (all left : Effect) (start state : Matrix) (before list : List Occurrence) : Type 0 where
  pub size : length state ≡ size_of frame
  pub rows : AreRows (size_of frame) list
  pub rest : (new : Matrix) (after : List Occurrence) → StepsForward frame left state new list after → StepsForward frame all start new before after

pub led_start : (frame : Frame) (all : Effect) (start : Matrix) (before : List Occurrence) → length start ≡ size_of frame → AreRows (size_of frame) before → Led frame all all start start before before
led_start frame all start before size rows = record { size = size; rows = rows; rest = λ new after steps. steps }

pub led_next : (frame : Frame) (all one left : Effect) (start old new : Matrix) (before list after : List Occurrence) → Covers frame one → Led frame all (next one left) start old before list → StepsForward frame one old new list after →
    Led frame all left start new before after
led_next frame all one left start old new before list after covers led step = record {
  size = step.size ∙ led.size;
  rows = step.rows;
  rest = λ last end steps. led.rest last end (forward_next frame one left old new last list after end covers step steps);
}

pub led_end : (frame : Frame) (all : Effect) (start state : Matrix) (before list : List Occurrence) → IsDistinct ◌==◌ frame.vars → Led frame all nothing start state before list → StepsForward frame all start state before list
led_end frame all start state before list once led = led.rest state list (forward_null frame state state list once led.rows refl (λ a b. (λ h. h, λ h. h)))

-- ---- one turn

pub back_turn : (frame : Frame) (e : Effect) (start turn : Matrix) (inner : List Occurrence) → length start ≡ size_of frame → ((a b : ℕ) → Holds start a b ↔ ((a < size_of frame) × (a ≡ b))) → StepsBack frame e start turn [] inner
    → OneTurn frame (λ x z. FlowTo e x z) (λ p z. MarkTo e p z) (λ p. Occurs e p) turn inner
back_turn frame e start turn inner size itself pass = turn_passed frame (λ x z. FlowTo e x z) (λ p z. MarkTo e p z) (λ p. Occurs e p) start turn inner size itself pass

pub forward_turn : (frame : Frame) (e : Effect) (start turn : Matrix) (inner : List Occurrence) → length start ≡ size_of frame → ((a b : ℕ) → Holds start a b ↔ ((a < size_of frame) × (a ≡ b))) → StepsForward frame e start turn [] inner
    → OneTurn frame (λ y z. FlowTo e z y) (λ p z. ComesTo e z p) (λ p. Occurs e p) turn inner
forward_turn frame e start turn inner size itself pass = turn_passed frame (λ y z. FlowTo e z y) (λ p z. ComesTo e z p) (λ p. Occurs e p) start turn inner size itself pass
