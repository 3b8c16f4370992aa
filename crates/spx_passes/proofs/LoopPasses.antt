-- Both passes over loops.
use Rattle.std.proofs.Common.{◌≡◌, ◌↔◌, ◌⊎◌, ℕ, ◌<◌, ◌≤◌, ◌+◌, Bool, true, false, not, List, [], length, Option, Some, None, ap₂, refl, sym, ◌∙◌, subst, inl, inr, ⊎_elim}
use Rattle.std.specs.Prelude.{◌==◌, ◌||◌, IsTrue}
use Rattle.std.specs.List.{IsDistinct}
use Rattle.std.proofs.lemmas.Bool.{or_left, or_right}
use Rattle.spx_text.specs.declared.place.Place.{Place}
use Rattle.spx_core.specs.declared.entity.VarId.{VarId}
use Rattle.spx_core.specs.Uses.{is_same}
use Rattle.spx_core.specs.Effects.{Effect, Read, nothing, assign, next, choose, observe, count, endless, exit, has_exit, is_read, reads, reads_in, repeat, sets}
use Rattle.spx_core.specs.Marks.{Occurs}
use Rattle.spx_core.specs.Mirror.VarSets.{holds, place_in_set}
use Rattle.spx_rows.specs.Relations.{Matrix, Holds}
use Rattle.spx_passes.specs.declared.occurrence.Occurrence.{Occurrence}
use Rattle.spx_passes.specs.declared.frame.Frame.{Frame}
use Rattle.spx_passes.specs.Occurrences.{AreRows}
use Rattle.spx_passes.specs.Loops.{Begun, Enters, IsLeft, OneTurn, Turns, read_points}
use Rattle.spx_passes.specs.Points.{Point, At, Leaving, Testing, ComesTo, FlowTo, IsVariable, KeptTo, MarkTo, Other, Out, Past, Rounds, StandsAt, Takes, on_variables, size_of}
use Rattle.spx_passes.specs.Positions.{Covers, Stands, exits_in}
use Rattle.spx_passes.specs.Steps.{Moves, Spreads, StepsBack, StepsForward}
use Rattle.spx_passes.proofs.CountForms.{CountOut, Gone, TurnsOut, count_comes_all, count_comes_bounded, count_flow, count_flow_turned, count_marks_all, count_marks_bounded}
use Rattle.spx_passes.proofs.LoopForms.{HasExits, WhileOut, endless_comes, endless_flow, endless_flow_turned, endless_marks, while_comes, while_flow, while_flow_turned, while_marks}
use Rattle.spx_passes.proofs.Moves.{From, from_rounds, from_then, moves_after, moves_as, moves_before, moves_past, moves_pure, moves_read, moves_spread, moves_then, moves_turned, takes_then, takes_turn}
use Rattle.spx_passes.proofs.PointLaws.{flow_from, flow_on, kept_from, kept_on, leaves_exits, mark_leaves_exits, mark_tests_exits, tests_exits}
use Rattle.spx_passes.proofs.PositionLaws.{held_stands, target_placed}
use Rattle.spx_core.proofs.Callers.Variables.{same_itself}

-- ---- parts of a loop

pub turn_covered : (frame : Frame) (tests : List Read) (body : Effect) (place : Place) → Covers frame (repeat tests body place) → Covers frame body
turn_covered frame tests body place covers = record { once = covers.once; targets = covers.targets; read = λ v h. covers.read v (or_right (is_read v tests) (reads v body) h); exits = covers.exits }

pub headless_covered : (frame : Frame) (body : Effect) → Covers frame (endless body) → Covers frame body
headless_covered frame body covers = record { once = covers.once; targets = covers.targets; read = covers.read; exits = covers.exits }

pub counted_covered : (frame : Frame) (parameter : VarId) (bounds : Option (List Read)) (body : Effect) (place : Place) → Covers frame (count parameter bounds body place) → Covers frame body
counted_covered frame parameter bounds body place covers = record {
  once = covers.once;
  targets = λ v h. covers.targets v (or_right (is_same v (Some parameter)) (sets v body) h);
  read = λ v h. covers.read v (or_right (is_read v (reads_in bounds)) (reads v body) h);
  exits = covers.exits;
}

has_exits_of : (frame : Frame) (body : Effect) → Covers frame body → HasExits frame.has_exits body
has_exits_of frame body covers = record {
  lefts = λ u w h. covers.exits (leaves_exits body u w h);
  tests = λ u h. covers.exits (tests_exits body u h);
  mark_lefts = λ p w h. covers.exits (mark_leaves_exits body p w h);
  mark_tests = λ p h. covers.exits (mark_tests_exits body p h);
}

-- ---- points that have a position

out_from : (frame : Frame) (stays : Bool) (f : VarId → Bool) (c : ℕ) (y z : Point) → StandsAt frame c z → Out frame.has_exits stays f y z → (k : ℕ) × StandsAt frame k y
out_from frame stays f c (At v) (At w) at o = (c, subst (Stands frame.vars c) (sym o.1) at)
out_from frame stays f c (Leaving v) (At w) at o = (length frame.vars + c, (o.0, c, subst (Stands frame.vars c) (sym o.1) at, refl))
out_from frame stays f c Testing (At w) at o = (length frame.vars + length frame.vars, (o.0, refl))
out_from frame stays f c (At v) (Leaving w) at o = absurd o
out_from frame stays f c (Leaving v) (Leaving w) at o = absurd o
out_from frame stays f c Testing (Leaving w) at o = absurd o
out_from frame stays f c (At v) Testing at o = absurd o
out_from frame stays f c (Leaving v) Testing at o = absurd o
out_from frame stays f c Testing Testing at o = absurd o

gone_from : (frame : Frame) (parameter : VarId) → From frame (Gone parameter)
gone_from frame parameter c y z at h = (c, subst (StandsAt frame c) (sym h.1) at)

variable_from : (frame : Frame) → From frame (λ y z. IsVariable y × (y ≡ z))
variable_from frame c y z at h = (c, subst (StandsAt frame c) (sym h.1) at)

read_from : (frame : Frame) (e : Effect) (tests : List Read) → ((v : VarId) → is_read v tests ≡ true → holds frame.vars v ≡ true) → (y : Point) → IsTrue (read_points tests y) → (k : ℕ) × StandsAt frame k y
read_from frame e tests within (At v) read = held_stands frame.vars v (within v read)
read_from frame e tests within (Leaving v) read = absurd cc
read_from frame e tests within Testing read = absurd cc

-- what is read at an occurrence is added to rows that no occurrence came before
moves_read_first : (frame : Frame) (R : Point → Point → Type 0) (f g : Point → Bool) (place : Place) (old joined new : Matrix) (start after : List Occurrence) → AreRows (size_of frame) start → length joined ≡ length old → Takes frame R old joined
    → Spreads frame f g place old joined new start after → Moves frame (λ x z. R x z ⊎ (IsTrue (g x) × IsTrue (f z))) (λ p z. (place ≡ p) × IsTrue (f z)) (λ p. place ≡ p) old new start after
moves_read_first frame R f g place old joined new start after rows size takes test =
    moves_as frame _ (λ x z. R x z ⊎ (IsTrue (g x) × IsTrue (f z))) _ (λ p z. (place ≡ p) × IsTrue (f z)) _ (λ p. place ≡ p) old new start after
    (λ x z. (λ h. h, λ h. h)) (λ p z. (λ h. ⊎_elim (λ none. absurd none) (λ k. k) h, λ h. inr h)) (λ p. (λ h. ⊎_elim (λ none. absurd none) (λ k. k) h, λ h. inr h))
    (moves_read frame R (λ p z. ⊥) (λ p. ⊥) f g place old joined new start start after (moves_pure frame R old joined start rows size takes) test)

-- the same pairs once more
moves_equal : (frame : Frame) (R : Point → Point → Type 0) (M : Place → Point → Type 0) (O : Place → Type 0) (old mid new : Matrix) (before after : List Occurrence) → Moves frame R M O old mid before after → length new ≡ length mid
    → ((a b : ℕ) → Holds new a b ↔ Holds mid a b) → Moves frame R M O old new before after
moves_equal frame R M O old mid new before after move size same = record {
  size = size ∙ move.size;
  rows = move.rows;
  pairs = λ a b x at. (λ h. (move.pairs a b x at).0 ((same a b).0 h), λ h. (same a b).1 ((move.pairs a b x at).1 h));
  marks = move.marks;
  listed = move.listed;
}

-- the row of a variable is cleared
moves_cleared : (frame : Frame) (parameter : VarId) (R : Point → Point → Type 0) (M : Place → Point → Type 0) (O : Place → Type 0) (old mid new : Matrix) (before after : List Occurrence) → Moves frame R M O old mid before after → length new ≡ length mid
    → Takes frame (Gone parameter) mid new → Moves frame (λ x z. (y : Point) × Gone parameter x y × R y z) M O old new before after
moves_cleared frame parameter R M O old mid new before after move size gone = record {
  size = size ∙ move.size;
  rows = move.rows;
  pairs = λ a b x at. (
    λ h. let k = (gone a b x at).0 h in let l = (move.pairs k.0 b k.1 k.2).0 k.4 in (l.0, l.1, l.2, (k.1, k.3, l.3), l.4),
    λ h.
        let g = h.3.1 in
        let there = subst (StandsAt frame a) g.1 at in
        (gone a b x at).1 (a, h.3.0, there, g, (move.pairs a b h.3.0 there).1 (h.0, h.1, h.2, h.3.2, h.4)),
  );
  marks = move.marks;
  listed = move.listed;
}

abbrev pub Replaced : Frame → (old head new : Matrix) → Type 0
Replaced frame old head new = (a b : ℕ) → Holds new a b ↔ (((a < length frame.vars) × Holds head a b) ⊎ ((length frame.vars ≤ a) × Holds old a b))

-- ---- a loop with a condition

module _ (frame : Frame) (tests : List Read) (body : Effect) (place : Place) (covers : Covers frame (repeat tests body place)) (f : VarId → Bool) (known : (v : VarId) → f v ≡ sets v body) (turn : Matrix) (inner : List Occurrence) where
  pub back_while : (rho first last head new : Matrix) (before mid after : List Occurrence) → AreRows (size_of frame) before → length rho ≡ size_of frame → length first ≡ size_of frame
      → Takes frame (λ x z. Out frame.has_exits true f x z) rho first → Spreads frame (on_variables f) (read_points tests) place rho first last before mid
      → OneTurn frame (λ x z. FlowTo body x z) (λ p z. MarkTo body p z) (λ p. Occurs body p) turn inner → Turns turn inner last head mid after → length new ≡ length rho → Replaced frame rho head new
      → StepsBack frame (repeat tests body place) rho new before after
  back_while rho first last head new before mid after rows size long out test one turns same replaced =
      let inside = turn_covered frame tests body place covers in
      let exits = has_exits_of frame body inside in
      let tested = moves_read_first frame (λ x z. Out frame.has_exits true f x z) (on_variables f) (read_points tests) place rho first last before mid rows (long ∙ sym size) out test in
      let turned = moves_turned frame covers.once (λ x z. FlowTo body x z) (flow_on frame body inside) (flow_from frame body inside) (λ p z. MarkTo body p z) (λ p. Occurs body p) turn inner one last head mid after (test.size ∙ long) turns in
      let both = moves_then frame (WhileOut tests frame.has_exits f) _ _ _ _ _ rho last head before mid after
      (λ c y z at h. ⊎_elim (λ o. out_from frame true f c y z at o) (λ t. read_from frame body tests (λ v is. covers.read v (or_left (is_read v tests) (reads v body) is)) y t.0) h) tested turned in
      let past = moves_past frame covers.once _ _ _ rho head new before after both same replaced in
      moves_as frame _ (λ x z. FlowTo (repeat tests body place) x z) _ (λ p z. MarkTo (repeat tests body place) p z) _ (λ p. Occurs (repeat tests body place) p) rho new before after
      (while_flow body frame.has_exits exits f known tests place) (while_marks body frame.has_exits exits f known tests place) (λ p. (λ h. h, λ h. h)) past

  pub forward_while : (state first head start ends new : Matrix) (before mid after : List Occurrence) → AreRows (size_of frame) before → length state ≡ size_of frame → length first ≡ size_of frame → length start ≡ size_of frame
      → Takes frame (λ x z. IsVariable x × (x ≡ z)) state first → OneTurn frame (λ y z. FlowTo body z y) (λ p z. ComesTo body z p) (λ p. Occurs body p) turn inner → Turns turn inner first head before mid
      → Takes frame (λ x z. Out frame.has_exits true f z x) head start → Spreads frame (read_points tests) (on_variables f) place head start ends mid after → length new ≡ length state → Replaced frame state ends new
      → StepsForward frame (repeat tests body place) state new before after
  forward_while state first head start ends new before mid after rows size long wide vars one turns out test same replaced =
      let inside = turn_covered frame tests body place covers in
      let exits = has_exits_of frame body inside in
      let on = λ (c : ℕ) (x y : Point) (at : StandsAt frame c x) (flow : FlowTo body y x). flow_from frame body inside c y x at flow in
      let from = λ (c : ℕ) (y z : Point) (at : StandsAt frame c z) (flow : FlowTo body z y). flow_on frame body inside c z y at flow in
      let turned = moves_turned frame covers.once (λ y z. FlowTo body z y) on from (λ p z. ComesTo body z p) (λ p. Occurs body p) turn inner one first head before mid long turns in
      let begun = moves_before frame (λ x z. IsVariable x × (x ≡ z)) _ _ _ state first head before mid (variable_from frame) (long ∙ sym size) vars turned in
      let tested = moves_read_first frame (λ x z. Out frame.has_exits true f z x) (read_points tests) (on_variables f) place head start ends mid after turned.rows (wide ∙ sym (turned.size ∙ long)) out test in
      let both = moves_then frame _ _ _ _ _ _ state head ends before mid after
      (from_then frame (λ x z. IsVariable x × (x ≡ z)) (Rounds (λ y z. FlowTo body z y)) (variable_from frame) (from_rounds frame covers.once (λ y z. FlowTo body z y) on from)) begun tested in
      let past = moves_past frame covers.once _ _ _ state ends new before after both same replaced in
      moves_as frame _ (λ y z. FlowTo (repeat tests body place) z y) _ (λ p z. ComesTo (repeat tests body place) z p) _ (λ p. Occurs (repeat tests body place) p) state new before after
      (λ x z. let k = while_flow_turned body frame.has_exits exits f known tests place x z in (λ h. k.0 (swapped x z h), λ h. swapped_back x z (k.1 h)))
      (while_comes body frame.has_exits exits f known tests place) (λ p. (λ h. ⊎_elim (λ occurs. inr occurs) (λ is. inl is) h, λ h. ⊎_elim (λ is. inr is) (λ occurs. inl occurs) h)) past
    where
      swapped : (x z : Point) → Past (λ x z. (y : Point) × (Out frame.has_exits true f y x ⊎ (IsTrue (on_variables f x) × IsTrue (read_points tests y))) × ((v : Point) × Rounds (λ y z. FlowTo body z y) y v × (IsVariable v × (v ≡ z)))) x z
          → Past (λ x z. (y : Point) × WhileOut tests frame.has_exits f y x × ((v : Point) × Rounds (λ a b. FlowTo body b a) y v × (IsVariable v × (v ≡ z)))) x z
      swapped (At w) z h = (h.0, ⊎_elim (λ o. inl o) (λ t. inr (t.1, t.0)) h.1, h.2)
      swapped (Leaving w) z h = h
      swapped Testing z h = h

      swapped_back : (x z : Point) → Past (λ x z. (y : Point) × WhileOut tests frame.has_exits f y x × ((v : Point) × Rounds (λ a b. FlowTo body b a) y v × (IsVariable v × (v ≡ z)))) x z
          → Past (λ x z. (y : Point) × (Out frame.has_exits true f y x ⊎ (IsTrue (on_variables f x) × IsTrue (read_points tests y))) × ((v : Point) × Rounds (λ y z. FlowTo body z y) y v × (IsVariable v × (v ≡ z)))) x z
      swapped_back (At w) z h = (h.0, ⊎_elim (λ o. inl o) (λ t. inr (t.1, t.0)) h.1, h.2)
      swapped_back (Leaving w) z h = h
      swapped_back Testing z h = h

-- ---- a loop of no head

module _ (frame : Frame) (body : Effect) (covers : Covers frame (endless body)) (f : VarId → Bool) (known : (v : VarId) → f v ≡ sets v body) (stays : Bool) (headless : stays ≡ not (has_exit body)) (turn : Matrix) (inner : List Occurrence) where
  pub back_endless : (rho last head new : Matrix) (before after : List Occurrence) → length rho ≡ size_of frame → length last ≡ size_of frame → Takes frame (λ x z. Out frame.has_exits stays f x z) rho last
      → OneTurn frame (λ x z. FlowTo body x z) (λ p z. MarkTo body p z) (λ p. Occurs body p) turn inner → Turns turn inner last head before after → length new ≡ length rho → Replaced frame rho head new
      → StepsBack frame (endless body) rho new before after
  back_endless rho last head new before after size long out one turns same replaced =
      let inside = headless_covered frame body covers in
      let exits = has_exits_of frame body inside in
      let turned = moves_turned frame covers.once (λ x z. FlowTo body x z) (flow_on frame body inside) (flow_from frame body inside) (λ p z. MarkTo body p z) (λ p. Occurs body p) turn inner one last head before after long turns in
      let both = moves_before frame (λ x z. Out frame.has_exits stays f x z) _ _ _ rho last head before after (out_from frame stays f) (long ∙ sym size) out turned in
      let past = moves_past frame covers.once _ _ _ rho head new before after both same replaced in
      moves_as frame _ (λ x z. FlowTo (endless body) x z) _ (λ p z. MarkTo (endless body) p z) _ (λ p. Occurs (endless body) p) rho new before after
      (endless_flow body frame.has_exits exits f known stays headless) (endless_marks body frame.has_exits exits f known stays headless) (λ p. (λ h. h, λ h. h)) past

  pub forward_endless : (state first head ends new : Matrix) (before after : List Occurrence) → length state ≡ size_of frame → length first ≡ size_of frame → length ends ≡ size_of frame
      → Takes frame (λ x z. IsVariable x × (x ≡ z)) state first → OneTurn frame (λ y z. FlowTo body z y) (λ p z. ComesTo body z p) (λ p. Occurs body p) turn inner → Turns turn inner first head before after
      → Takes frame (λ x z. Out frame.has_exits stays f z x) head ends → length new ≡ length state → Replaced frame state ends new → StepsForward frame (endless body) state new before after
  forward_endless state first head ends new before after size long wide vars one turns out same replaced =
      let inside = headless_covered frame body covers in
      let exits = has_exits_of frame body inside in
      let on = λ (c : ℕ) (x y : Point) (at : StandsAt frame c x) (flow : FlowTo body y x). flow_from frame body inside c y x at flow in
      let from = λ (c : ℕ) (y z : Point) (at : StandsAt frame c z) (flow : FlowTo body z y). flow_on frame body inside c z y at flow in
      let turned = moves_turned frame covers.once (λ y z. FlowTo body z y) on from (λ p z. ComesTo body z p) (λ p. Occurs body p) turn inner one first head before after long turns in
      let begun = moves_before frame (λ x z. IsVariable x × (x ≡ z)) _ _ _ state first head before after (variable_from frame) (long ∙ sym size) vars turned in
      let both = moves_after frame _ (λ x z. Out frame.has_exits stays f z x) _ _ state head ends before after
      (from_then frame (λ x z. IsVariable x × (x ≡ z)) (Rounds (λ y z. FlowTo body z y)) (variable_from frame) (from_rounds frame covers.once (λ y z. FlowTo body z y) on from)) begun (wide ∙ sym (turned.size ∙ long)) out in
      let past = moves_past frame covers.once _ _ _ state ends new before after both same replaced in
      moves_as frame _ (λ y z. FlowTo (endless body) z y) _ (λ p z. ComesTo (endless body) z p) _ (λ p. Occurs (endless body) p) state new before after
      (endless_flow_turned body frame.has_exits exits f known stays headless) (endless_comes body frame.has_exits exits f known stays headless) (λ p. (λ h. h, λ h. h)) past

-- ---- a loop over a parameter

module _ (frame : Frame) (parameter : VarId) (body : Effect) (place : Place) (f : VarId → Bool) (known : (v : VarId) → f v ≡ sets v body) (to : ℕ) (at : Stands frame.vars to parameter) (turn : Matrix) (inner : List Occurrence) where
  module _ (once : IsDistinct ◌==◌ frame.vars) (inside : Covers frame body) where
    out_gone : From frame (λ x z. (y : Point) × Out frame.has_exits true f x y × Gone parameter y z)
    out_gone = from_then frame (Gone parameter) (λ x z. Out frame.has_exits true f x z) (gone_from frame parameter) (out_from frame true f)

    turns_gone : From frame (λ x z. (y : Point) × Rounds (λ x z. KeptTo parameter body x z) x y × CountOut parameter frame.has_exits f y z)
    turns_gone =
        from_then frame (CountOut parameter frame.has_exits f) (Rounds (λ x z. KeptTo parameter body x z)) out_gone (from_rounds frame once (λ x z. KeptTo parameter body x z) (kept_on frame body inside parameter) (kept_from frame body inside parameter))

  pub back_count : (bounds : Option (List Read)) → Covers frame (count parameter bounds body place) → (rho past last rest head entered new : Matrix) (before mid after : List Occurrence) → length rho ≡ size_of frame → length past ≡ length rho → length last ≡ size_of frame
      → Takes frame (Gone parameter) rho past → Takes frame (λ x z. Out frame.has_exits true f x z) past last
      → OneTurn frame (λ x z. KeptTo parameter body x z) (λ p z. Other parameter z × MarkTo body p z) (λ p. Occurs body p) turn inner → Turns turn inner last rest before mid
      → length head ≡ length rest → ((a b : ℕ) → Holds head a b ↔ Begun bounds (Holds turn) (Holds rest) a b) → Enters frame parameter bounds (on_variables f) place past head entered mid after → length new ≡ length rho → Replaced frame rho entered new
      → StepsBack frame (count parameter bounds body place) rho new before after
  back_count (Some written) covers rho past last rest head entered new before mid after size same_size long gone out one turns wide begun enters same replaced =
      let inside = counted_covered frame parameter (Some written) body place covers in
      let exits = has_exits_of frame body inside in
      let outside = takes_then frame (Gone parameter) (λ x z. Out frame.has_exits true f x z) rho past last (gone_from frame parameter) gone out in
      let turned = moves_turned frame covers.once (λ x z. KeptTo parameter body x z) (kept_on frame body inside parameter) (kept_from frame body inside parameter) (λ p z. Other parameter z × MarkTo body p z) (λ p. Occurs body p) turn inner one last rest before mid long turns in
      let counted = moves_before frame (CountOut parameter frame.has_exits f) _ _ _ rho last rest before mid (out_gone covers.once inside) (long ∙ sym size) outside turned in
      let headed = moves_equal frame _ _ _ rho rest head before mid counted wide begun in
      let started = moves_after frame _ (FlowTo (assign (Some parameter) written place)) _ _ rho head enters.0 before mid (turns_gone covers.once inside) headed enters.1 enters.2 in
      let read = moves_spread frame _ (Gone parameter) _ _ (on_variables f) (read_points written) place rho past enters.0 entered before mid after (gone_from frame parameter) gone started enters.3 in
      let ends = moves_past frame covers.once _ _ _ rho entered new before after read same replaced in
      moves_as frame _ (λ x z. FlowTo (count parameter (Some written) body place) x z) _ (λ p z. MarkTo (count parameter (Some written) body place) p z) _ (λ p. Occurs (count parameter (Some written) body place) p) rho new before after
      (count_flow parameter body place frame.has_exits exits f known (Some written)) (count_marks_bounded parameter body place frame.has_exits exits f known written)
      (λ p. (λ h. ⊎_elim (λ occurs. inr occurs) (λ is. inl (refl, is)) h, λ h. ⊎_elim (λ is. inr is.1) (λ occurs. inl occurs) h)) ends
  back_count None covers rho past last rest head entered new before mid after size same_size long gone out one turns wide begun enters same replaced =
      let inside = counted_covered frame parameter None body place covers in
      let exits = has_exits_of frame body inside in
      let on = kept_on frame body inside parameter in
      let from = kept_from frame body inside parameter in
      let outside = takes_then frame (Gone parameter) (λ x z. Out frame.has_exits true f x z) rho past last (gone_from frame parameter) gone out in
      let turned = moves_turned frame covers.once (λ x z. KeptTo parameter body x z) on from (λ p z. Other parameter z × MarkTo body p z) (λ p. Occurs body p) turn inner one last rest before mid long turns in
      let counted = moves_before frame (CountOut parameter frame.has_exits f) _ _ _ rho last rest before mid (out_gone covers.once inside) (long ∙ sym size) outside turned in
      let once_more = takes_turn frame covers.once (λ x z. KeptTo parameter body x z) on from (λ p z. Other parameter z × MarkTo body p z) (λ p. Occurs body p) turn inner one rest head begun in
      let headed = moves_after frame _ (λ x z. KeptTo parameter body x z) _ _ rho rest head before mid (turns_gone covers.once inside) counted wide once_more in
      let started = moves_after frame _ (FlowTo (assign (Some parameter) [] place)) _ _ rho head entered before mid
      (from_then frame (TurnsOut parameter body frame.has_exits f) (λ x z. KeptTo parameter body x z) (turns_gone covers.once inside) from) headed enters.0 enters.1 in
      let ends = moves_past frame covers.once _ _ _ rho entered new before mid started same replaced in
      subst (StepsBack frame (count parameter None body place) rho new before) (sym enters.2)
      (moves_as frame _ (λ x z. FlowTo (count parameter None body place) x z) _ (λ p z. MarkTo (count parameter None body place) p z) _ (λ p. Occurs (count parameter None body place) p) rho new before mid
      (count_flow parameter body place frame.has_exits exits f known None) (count_marks_all parameter body place frame.has_exits exits f known)
      (λ p. (λ h. inr h, λ h. ⊎_elim (λ is. absurd (let none = is.0 in cc)) (λ occurs. occurs) h)) ends)

  start_covered : (bounds : Option (List Read)) → Covers frame (count parameter bounds body place) → Covers frame (assign (Some parameter) (reads_in bounds) place)
  start_covered bounds covers = record {
    once = covers.once;
    targets = λ v h. covers.targets v (or_left (is_same v (Some parameter)) (sets v body) h);
    read = λ v h. covers.read v (or_left (is_read v (reads_in bounds)) (reads v body) h);
    exits = λ h. absurd cc;
  }

  pub forward_count : (bounds : Option (List Read)) → Covers frame (count parameter bounds body place) → (state vars first head last start ends cleared new : Matrix) (before mid after : List Occurrence) → length state ≡ size_of frame → length vars ≡ size_of frame
      → length first ≡ size_of frame → length start ≡ size_of frame → Takes frame (λ x z. IsVariable x × (x ≡ z)) state vars → Takes frame (λ y z. FlowTo (assign (Some parameter) (reads_in bounds) place) z y) vars first
      → OneTurn frame (λ y z. KeptTo parameter body z y) (λ p z. ComesTo body z p) (λ p. Occurs body p) turn inner → Turns turn inner first head before mid → length last ≡ length head
      → ((a b : ℕ) → Holds last a b ↔ Begun bounds (Holds turn) (Holds head) a b) → Takes frame (λ x z. Out frame.has_exits true f z x) last start → IsLeft frame bounds (on_variables f) place state start ends mid after
      → length cleared ≡ length ends → Takes frame (Gone parameter) ends cleared → length new ≡ length state → Replaced frame state cleared new → StepsForward frame (count parameter bounds body place) state new before after
  forward_count (Some written) covers state vars first head last start ends cleared new before mid after size vars_size long start_size variables given one turns wide begun out left cleared_size gone same replaced =
      let inside = counted_covered frame parameter (Some written) body place covers in
      let exits = has_exits_of frame body inside in
      let on = λ (c : ℕ) (x y : Point) (at : StandsAt frame c x) (turn : KeptTo parameter body y x). kept_from frame body inside parameter c y x at turn in
      let from = λ (c : ℕ) (y z : Point) (at : StandsAt frame c z) (turn : KeptTo parameter body z y). kept_on frame body inside parameter c z y at turn in
      let assigned = λ (c : ℕ) (y z : Point) (at : StandsAt frame c z) (flow : FlowTo (assign (Some parameter) written place) z y). flow_on frame (assign (Some parameter) written place) (start_covered (Some written) covers) c z y at flow in
      let entry = takes_then frame (λ x z. IsVariable x × (x ≡ z)) (λ y z. FlowTo (assign (Some parameter) written place) z y) state vars first (variable_from frame) variables given in
      let entry_from = from_then frame (λ x z. IsVariable x × (x ≡ z)) (λ y z. FlowTo (assign (Some parameter) written place) z y) (variable_from frame) assigned in
      let turned = moves_turned frame covers.once (λ y z. KeptTo parameter body z y) on from (λ p z. ComesTo body z p) (λ p. Occurs body p) turn inner one first head before mid long turns in
      let headed = moves_before frame _ _ _ _ state first head before mid entry_from (long ∙ sym size) entry turned in
      let more = moves_equal frame _ _ _ state head last before mid headed wide begun in
      let head_from = from_then frame _ (Rounds (λ y z. KeptTo parameter body z y)) entry_from (from_rounds frame covers.once (λ y z. KeptTo parameter body z y) on from) in
      let ended = moves_after frame _ (λ x z. Out frame.has_exits true f z x) _ _ state last start before mid head_from more (start_size ∙ sym (wide ∙ turned.size ∙ long)) out in
      let read = moves_read frame _ _ _ (read_points written) (on_variables f) place state start ends before mid after ended left in
      let without = moves_cleared frame parameter _ _ _ state ends cleared before after read cleared_size gone in
      let past = moves_past frame covers.once _ _ _ state cleared new before after without same replaced in
      moves_as frame _ (λ y z. FlowTo (count parameter (Some written) body place) z y) _ (λ p z. ComesTo (count parameter (Some written) body place) z p) _ (λ p. Occurs (count parameter (Some written) body place) p) state new before after
      (count_flow_turned parameter body place frame.has_exits exits f known (Some written)) (count_comes_bounded parameter body place frame.has_exits exits f known written)
      (λ p. (λ h. ⊎_elim (λ occurs. inr occurs) (λ is. inl (refl, is)) h, λ h. ⊎_elim (λ is. inr is.1) (λ occurs. inl occurs) h)) past
  forward_count None covers state vars first head last start ends cleared new before mid after size vars_size long start_size variables given one turns wide begun out left cleared_size gone same replaced =
      let inside = counted_covered frame parameter None body place covers in
      let exits = has_exits_of frame body inside in
      let on = λ (c : ℕ) (x y : Point) (at : StandsAt frame c x) (turn : KeptTo parameter body y x). kept_from frame body inside parameter c y x at turn in
      let from = λ (c : ℕ) (y z : Point) (at : StandsAt frame c z) (turn : KeptTo parameter body z y). kept_on frame body inside parameter c z y at turn in
      let assigned = λ (c : ℕ) (y z : Point) (at : StandsAt frame c z) (flow : FlowTo (assign (Some parameter) [] place) z y). flow_on frame (assign (Some parameter) [] place) (start_covered None covers) c z y at flow in
      let entry = takes_then frame (λ x z. IsVariable x × (x ≡ z)) (λ y z. FlowTo (assign (Some parameter) [] place) z y) state vars first (variable_from frame) variables given in
      let entry_from = from_then frame (λ x z. IsVariable x × (x ≡ z)) (λ y z. FlowTo (assign (Some parameter) [] place) z y) (variable_from frame) assigned in
      let turned = moves_turned frame covers.once (λ y z. KeptTo parameter body z y) on from (λ p z. ComesTo body z p) (λ p. Occurs body p) turn inner one first head before mid long turns in
      let headed = moves_before frame _ _ _ _ state first head before mid entry_from (long ∙ sym size) entry turned in
      let head_from = from_then frame _ (Rounds (λ y z. KeptTo parameter body z y)) entry_from (from_rounds frame covers.once (λ y z. KeptTo parameter body z y) on from) in
      let once_more = takes_turn frame covers.once (λ y z. KeptTo parameter body z y) on from (λ p z. ComesTo body z p) (λ p. Occurs body p) turn inner one head last begun in
      let more = moves_after frame _ (λ y z. KeptTo parameter body z y) _ _ state head last before mid head_from headed wide once_more in
      let ended = moves_after frame _ (λ x z. Out frame.has_exits true f z x) _ _ state last start before mid (from_then frame _ (λ y z. KeptTo parameter body z y) head_from from) more (start_size ∙ sym (wide ∙ turned.size ∙ long)) out in
      let left_size = subst (λ m. length cleared ≡ length m) left.0 cleared_size in
      let without = moves_cleared frame parameter _ _ _ state start cleared before mid ended left_size (subst (λ m. Takes frame (Gone parameter) m cleared) left.0 gone) in
      let past = moves_past frame covers.once _ _ _ state cleared new before mid without same replaced in
      subst (StepsForward frame (count parameter None body place) state new before) (sym left.1)
      (moves_as frame _ (λ y z. FlowTo (count parameter None body place) z y) _ (λ p z. ComesTo (count parameter None body place) z p) _ (λ p. Occurs (count parameter None body place) p) state new before mid
      (count_flow_turned parameter body place frame.has_exits exits f known None) (count_comes_all parameter body place frame.has_exits exits f known)
      (λ p. (λ h. inr h, λ h. ⊎_elim (λ is. absurd (let none = is.0 in cc)) (λ occurs. occurs) h)) past)

-- exits from the loop around statements
pub shallow : (e : Effect) → exits_in false e ≡ has_exit e
shallow nothing = refl
shallow (assign target values place) = refl
shallow (next a b) = ap₂ ◌||◌ (shallow a) (shallow b)
shallow (choose tests a b place) = ap₂ ◌||◌ (shallow a) (shallow b)
shallow (observe values) = refl
shallow (repeat tests body place) = refl
shallow (count parameter bounds body place) = refl
shallow (endless body) = refl
shallow (exit tests a b place) = refl

pub parameter_placed : (frame : Frame) (parameter : VarId) (bounds : Option (List Read)) (body : Effect) (place : Place) → Covers frame (count parameter bounds body place) → place_in_set frame.vars parameter ≡ None → ⊥
parameter_placed frame parameter bounds body place covers none =
    target_placed frame (count parameter bounds body place) parameter covers (or_left (is_same parameter (Some parameter)) (sets parameter body) (same_itself parameter)) none
