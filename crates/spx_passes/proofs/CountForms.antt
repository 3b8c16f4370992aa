-- What loops over a parameter do between points.
use Rattle.std.proofs.Common.{◌≡◌, ◌↔◌, ◌⊎◌, Bool, true, false, List, refl, sym, ◌∙◌, subst, inl, inr, ⊎_elim, Option, Some, None}
use Rattle.std.specs.Prelude.{IsTrue}
use Rattle.spx_text.specs.declared.place.Place.{Place}
use Rattle.spx_core.specs.declared.entity.VarId.{VarId}
use Rattle.spx_core.specs.Uses.{is_same}
use Rattle.spx_core.specs.Effects.{Effect, Read, assign, count, reads_in, sets}
use Rattle.spx_core.specs.Flow.{MayFlow, Leaves, ExitTests, Exited, Given, Keeping, Steps, Turned, stay, advance}
use Rattle.spx_core.specs.Marks.{Lambda, Mu, MuLeaves, MuTests}
use Rattle.spx_passes.specs.Points.{Point, At, Leaving, Testing, ComesTo, FlowTo, IsVariable, KeptTo, MarkTo, Other, Out, Past, Rounds, halt, round, on_variables}
use Rattle.spx_passes.specs.Loops.{read_points}
use Rattle.spx_passes.proofs.Moves.{rounds_turned}
use Rattle.spx_passes.proofs.Forms.{left_stays, loop_left, ran, steps_rounds, test_stays}
use Rattle.spx_passes.proofs.LoopForms.{HasExits, LoopMark, loop_marks, out_left, out_test}

-- turns and one more are one and then turns
rounds_first : {R : Point → Point → Type 0} {x y : Point} → Rounds R x y → (z : Point) → R y z → (v : Point) × R x v × Rounds R v z
rounds_first halt z last = (z, last, halt)
rounds_first (round {y = v} r rest) z last = let k = rounds_first rest z last in (v, r, round k.1 k.2)

rounds_last : {R : Point → Point → Type 0} {y z : Point} → Rounds R y z → (x : Point) → R x y → (v : Point) × Rounds R x v × R v z
rounds_last halt x first = (x, halt, first)
rounds_last (round {x = y} r rest) x first = let k = rounds_last rest y r in (k.0, round first k.1, k.2)

abbrev pub Gone : VarId → Point → Point → Type 0
Gone parameter y z = Other parameter y × (y ≡ z)

-- out of the loop, where the parameter is gone
abbrev pub CountOut : VarId → Bool → (VarId → Bool) → Point → Point → Type 0
CountOut parameter has f y z = (v : Point) × Out has true f y v × Gone parameter v z

-- some number of turns, and out
abbrev pub TurnsOut : VarId → Effect → Bool → (VarId → Bool) → Point → Point → Type 0
TurnsOut parameter body has f x z = (y : Point) × Rounds (λ x z. KeptTo parameter body x z) x y × CountOut parameter has f y z

abbrev pub Begins : Option (List Read) → VarId → Effect → Bool → (VarId → Bool) → Point → Point → Type 0
Begins (Some reads) parameter body has f x z = TurnsOut parameter body has f x z
Begins None parameter body has f x z = (y : Point) × KeptTo parameter body x y × TurnsOut parameter body has f y z

abbrev pub Starts : Option (List Read) → Place → VarId → Effect → Bool → (VarId → Bool) → Point → Point → Type 0
Starts bounds place parameter body has f x z = (y : Point) × FlowTo (assign (Some parameter) (reads_in bounds) place) x y × Begins bounds parameter body has f y z

-- what bounds read, where they are written, comes to all that is set
abbrev pub Counts : Option (List Read) → Place → VarId → Effect → Bool → (VarId → Bool) → Point → Point → Type 0
Counts (Some reads) place parameter body has f x z =
    Starts (Some reads) place parameter body has f x z ⊎ (IsTrue (read_points reads x) × (y : Point) × IsTrue (on_variables f y) × Gone parameter y z)
Counts None place parameter body has f x z = Starts None place parameter body has f x z

module _ (parameter : VarId) (body : Effect) (place : Place) (has : Bool) (exits : HasExits has body) (f : VarId → Bool) (known : (v : VarId) → f v ≡ sets v body) where
  abbrev pub Left : VarId → VarId → Type 0
  Left u w = Exited (Steps (Keeping parameter (MayFlow body))) (Leaves body) (ExitTests body) (sets w body) u w

  as_left : (u w : VarId) → Exited (Steps (Keeping parameter (MayFlow body))) (Leaves body) (ExitTests body) (f w) u w → Left u w
  as_left u w q = subst (λ b. Exited (Steps (Keeping parameter (MayFlow body))) (Leaves body) (ExitTests body) b u w) (known w) q

  of_left : (u w : VarId) → Left u w → Exited (Steps (Keeping parameter (MayFlow body))) (Leaves body) (ExitTests body) (f w) u w
  of_left u w q = subst (λ b. Exited (Steps (Keeping parameter (MayFlow body))) (Leaves body) (ExitTests body) b u w) (sym (known w)) q

  abbrev pub Over : VarId → VarId → Type 0
  Over u w = (is_same w (Some parameter) ≡ false) × (Steps (Keeping parameter (MayFlow body)) u w ⊎ Left u w)

  out_at : (y : Point) (w : VarId) → CountOut parameter has f y (At w) → (is_same w (Some parameter) ≡ false) × Out has true f y (At w)
  out_at y w h = let k = h.2 in (subst (Other parameter) k.1 k.0, subst (Out has true f y) k.1 h.1)

  count_core : (u w : VarId) → TurnsOut parameter body has f (At u) (At w) ↔ Over u w
  count_core u w =
      let left = loop_left (Keeping parameter (MayFlow body)) (Leaves body) (ExitTests body) has true f exits.lefts exits.tests u w in (
        λ h. let o = out_at h.0 w h.2 in (o.0, ⊎_elim (λ s. inl s.1) (λ q. inr (as_left u w q)) (left.0 (h.0, h.1, o.1))),
        λ h. let k = left.1 (⊎_elim (λ s. inl (refl, s)) (λ q. inr (of_left u w q)) h.1) in (k.0, k.1, (At w, k.2, (h.0, refl))),
      )

  count_left : (y : Point) (w : VarId) → ¬ CountOut parameter has f y (Leaving w)
  count_left y w h = let k = h.2 in out_left has true f y w (subst (Out has true f y) k.1 h.1)

  count_test : (y : Point) → ¬ CountOut parameter has f y Testing
  count_test y h = let k = h.2 in out_test has true f y (subst (Out has true f y) k.1 h.1)

  -- ---- where the loop begins

  -- one turn, or an exit in it
  begun_by : (u w : VarId) (y : Point) → KeptTo parameter body (At u) y → TurnsOut parameter body has f y (At w)
      → (is_same w (Some parameter) ≡ false) × (Turned None (Keeping parameter (MayFlow body)) u w ⊎ Left u w)
  begun_by u w (At v) turn h =
      let k = (count_core v w).0 h in
      (k.0, ⊎_elim (λ s. inl (v, turn, s)) (λ q. inr (q.0, advance turn q.1, q.2)) k.1)
  begun_by u w (Leaving v) left h =
      let same = left_stays (Keeping parameter (MayFlow body)) (Leaves body) (ExitTests body) h.1 v refl in
      let o = out_at (Leaving v) w (subst (λ y. CountOut parameter has f y (At w)) (sym same) h.2) in
      (o.0, inr (u, stay, inl (let e = o.1 in subst (Leaves body u) e.1 left)))
  begun_by u w Testing test h =
      let same = test_stays (Keeping parameter (MayFlow body)) (Leaves body) (ExitTests body) h.1 refl in
      let o = out_at Testing w (subst (λ y. CountOut parameter has f y (At w)) (sym same) h.2) in
      (o.0, inr (u, stay, inr (let e = o.1 in sym (known w) ∙ e.1, test)))

  exit_first : {u x : VarId} → Steps (Keeping parameter (MayFlow body)) u x → (w : VarId) → is_same w (Some parameter) ≡ false → (Leaves body x w ⊎ (IsTrue (sets w body) × ExitTests body x)) → Begins None parameter body has f (At u) (At w)
  exit_first (stay {u = u}) w other h =
      ⊎_elim (λ l. (Leaving w, l, (Leaving w, halt, (At w, (exits.lefts u w l, refl), (other, refl)))))
      (λ t. (Testing, t.1, (Testing, halt, (At w, (exits.tests u t.1, known w ∙ t.0), (other, refl))))) h
  exit_first (advance {v = v} {w = x} turn rest) w other h = (At v, turn, (count_core v w).1 (other, inr (x, rest, h)))

  begun_core : (bounds : Option (List Read)) (u w : VarId) → Begins bounds parameter body has f (At u) (At w) ↔ ((is_same w (Some parameter) ≡ false) × (Turned bounds (Keeping parameter (MayFlow body)) u w ⊎ Left u w))
  begun_core (Some reads) u w = count_core u w
  begun_core None u w = (
    λ h. begun_by u w h.0 h.1 h.2,
    λ h. ⊎_elim (λ s. (At s.0, s.1, (count_core s.0 w).1 (h.0, inl s.2))) (λ q. exit_first q.1 w h.0 q.2) h.1,
  )

  begins_left : (bounds : Option (List Read)) (y : Point) (w : VarId) → ¬ Begins bounds parameter body has f y (Leaving w)
  begins_left (Some reads) y w h = count_left h.0 w h.2
  begins_left None y w h = let k = h.2 in count_left k.0 w k.2

  begins_test : (bounds : Option (List Read)) (y : Point) → ¬ Begins bounds parameter body has f y Testing
  begins_test (Some reads) y h = count_test h.0 h.2
  begins_test None y h = let k = h.2 in count_test k.0 k.2

  abbrev pub Started : Option (List Read) → VarId → VarId → Type 0
  Started bounds u w = (x : VarId) × Given (Some parameter) (reads_in bounds) u x × (Turned bounds (Keeping parameter (MayFlow body)) x w ⊎ Left x w)

  starts_by : (bounds : Option (List Read)) (u w : VarId) (y : Point) → FlowTo (assign (Some parameter) (reads_in bounds) place) (At u) y → Begins bounds parameter body has f y (At w)
      → (is_same w (Some parameter) ≡ false) × Started bounds u w
  starts_by bounds u w (At v) given h = let k = (begun_core bounds v w).0 h in (k.0, (v, given, k.1))
  starts_by bounds u w (Leaving v) given h = absurd given
  starts_by bounds u w Testing given h = absurd given

  starts_core : (bounds : Option (List Read)) (u w : VarId) → Starts bounds place parameter body has f (At u) (At w) ↔ ((is_same w (Some parameter) ≡ false) × Started bounds u w)
  starts_core bounds u w = (
    λ h. starts_by bounds u w h.0 h.1 h.2,
    λ h. let k = h.1 in (At k.0, k.1, (begun_core bounds k.0 w).1 (h.0, k.2)),
  )

  -- ---- the flow, backward

  gone_set : (y : Point) (w : VarId) → IsTrue (on_variables f y) → Gone parameter y (At w) → (is_same w (Some parameter) ≡ false) × IsTrue (sets w body)
  gone_set y w set h = (subst (Other parameter) h.1 h.0, sym (known w) ∙ subst (λ x. IsTrue (on_variables f x)) h.1 set)

  counts_core : (bounds : Option (List Read)) (u w : VarId) → Counts bounds place parameter body has f (At u) (At w) ↔ MayFlow (count parameter bounds body place) u w
  counts_core (Some reads) u w = (
    λ h. ⊎_elim
        (λ s. let k = (starts_core (Some reads) u w).0 s in (k.0, inl k.1))
        (λ q. let k = gone_set q.1 w q.2 q.3 in (k.0, inr (k.1, q.0)))
        h,
    λ h. ⊎_elim (λ s. inl ((starts_core (Some reads) u w).1 (h.0, s))) (λ q. inr (q.1, At w, known w ∙ q.0, (h.0, refl))) h.1,
  )
  counts_core None u w = (
    λ h. let k = (starts_core None u w).0 h in (k.0, inl k.1),
    λ h. ⊎_elim (λ s. (starts_core None u w).1 (h.0, s)) (λ q. absurd (let is = q.1 in cc)) h.1,
  )

  counts_left : (bounds : Option (List Read)) (x : Point) (w : VarId) → ¬ Counts bounds place parameter body has f x (Leaving w)
  counts_left (Some reads) x w h =
      ⊎_elim (λ s. begins_left (Some reads) s.0 w s.2) (λ q. absurd (let k = q.3 in let is = subst (λ y. IsTrue (on_variables f y)) k.1 q.2 in cc)) h
  counts_left None x w h = begins_left None h.0 w h.2

  counts_test : (bounds : Option (List Read)) (x : Point) → ¬ Counts bounds place parameter body has f x Testing
  counts_test (Some reads) x h =
      ⊎_elim (λ s. begins_test (Some reads) s.0 s.2) (λ q. absurd (let k = q.3 in let is = subst (λ y. IsTrue (on_variables f y)) k.1 q.2 in cc)) h
  counts_test None x h = begins_test None h.0 h.2

  pub count_flow : (bounds : Option (List Read)) (x z : Point) → Past (Counts bounds place parameter body has f) x z ↔ FlowTo (count parameter bounds body place) x z
  count_flow bounds (At u) (At w) = counts_core bounds u w
  count_flow bounds (At u) (Leaving w) = (λ h. absurd (counts_left bounds (At u) w h), λ h. absurd h)
  count_flow bounds (At u) Testing = (λ h. absurd (counts_test bounds (At u) h), λ h. absurd h)
  count_flow bounds (Leaving u) z = (λ h. h, λ h. h)
  count_flow bounds Testing z = (λ h. h, λ h. h)

  -- ---- marks, backward

  abbrev pub Turning : Place → Point → Type 0
  Turning p z = Other parameter z × MarkTo body p z

  out_leaving : (v w : VarId) → CountOut parameter has f (Leaving v) (At w) ↔ (IsTrue has × ((v ≡ w) × (is_same w (Some parameter) ≡ false)))
  out_leaving v w = (λ h. let o = out_at (Leaving v) w h in let e = o.1 in (e.0, (e.1, o.0)), λ h. (At w, (h.0, h.1.0), (h.1.1, refl)))

  out_testing : (w : VarId) → CountOut parameter has f Testing (At w) ↔ (IsTrue has × (IsTrue (f w) × (is_same w (Some parameter) ≡ false)))
  out_testing w = (λ h. let o = out_at Testing w h in let e = o.1 in (e.0, (e.1, o.0)), λ h. (At w, (h.0, h.1.0), (h.1.1, refl)))

  turn_marks : (p : Place) (z : Point) → ((y : Point) × ((x : Point) × Turning p x × Rounds (λ x z. KeptTo parameter body x z) x y) × CountOut parameter has f y z) ↔ LoopMark Turning Over (λ w. is_same w (Some parameter) ≡ false) f p z
  turn_marks =
      loop_marks (Keeping parameter (MayFlow body)) (Leaves body) (ExitTests body) (CountOut parameter has f) Over count_core count_left count_test Turning has f (λ p w m. exits.mark_lefts p w m.1) (λ p m. exits.mark_tests p m.1)
      (λ w. is_same w (Some parameter) ≡ false) out_leaving out_testing

  abbrev pub CountMark : Option (List Read) → Place → Point → Type 0
  CountMark (Some reads) p z = LoopMark Turning Over (λ w. is_same w (Some parameter) ≡ false) f p z ⊎ ((place ≡ p) × (y : Point) × IsTrue (on_variables f y) × Gone parameter y z)
  CountMark None p z = LoopMark Turning Over (λ w. is_same w (Some parameter) ≡ false) f p z

  inner_to : (bounds : Option (List Read)) (p : Place) (w : VarId) → LoopMark Turning Over (λ w. is_same w (Some parameter) ≡ false) f p (At w) → Mu (count parameter bounds body place) p w
  inner_to bounds p w h =
      ⊎_elim
      (λ q. let m = q.1 in let o = q.2 in (o.0, inr (inl (q.0, m.1, m.0, o.1))))
      (λ q. (q.0, inr (inr (⊎_elim (λ l. inl l.1) (λ t. let m = t.1 in inr (sym (known w) ∙ t.0, m.1)) q.1))))
      h

  inner_by : (p : Place) (w : VarId) → is_same w (Some parameter) ≡ false
      → ((v : VarId) × Mu body p v × (is_same v (Some parameter) ≡ false) × (Steps (Keeping parameter (MayFlow body)) v w ⊎ Left v w)) ⊎ (MuLeaves body p w ⊎ (IsTrue (sets w body) × MuTests body p))
      → LoopMark Turning Over (λ w. is_same w (Some parameter) ≡ false) f p (At w)
  inner_by p w other h =
      ⊎_elim (λ q. inl (q.0, (q.2, q.1), (other, q.3))) (λ q. inr (other, ⊎_elim (λ l. inl (refl, l)) (λ t. inr (known w ∙ t.0, (refl, t.1))) q)) h

  count_mark : (bounds : Option (List Read)) (p : Place) (z : Point) → CountMark bounds p z ↔ MarkTo (count parameter bounds body place) p z
  count_mark (Some reads) p (At w) = (
    λ h. ⊎_elim (λ k. inner_to (Some reads) p w k) (λ q. let k = gone_set q.1 w q.2 q.3 in (k.0, inl (refl, q.0, k.1))) h,
    λ h. ⊎_elim (λ b. inr (b.1, At w, known w ∙ b.2, (h.0, refl))) (λ k. inl (inner_by p w h.0 k)) h.1,
  )
  count_mark None p (At w) = (
    λ h. inner_to None p w h,
    λ h. ⊎_elim (λ b. absurd (let is = b.0 in cc)) (λ k. inner_by p w h.0 k) h.1,
  )
  count_mark (Some reads) p (Leaving w) = (
    λ h. ⊎_elim (λ k. k) (λ q. absurd (let k = q.3 in let is = subst (λ y. IsTrue (on_variables f y)) k.1 q.2 in cc)) h,
    λ h. absurd h,
  )
  count_mark None p (Leaving w) = (λ h. h, λ h. h)
  count_mark (Some reads) p Testing = (
    λ h. ⊎_elim (λ k. k) (λ q. absurd (let k = q.3 in let is = subst (λ y. IsTrue (on_variables f y)) k.1 q.2 in cc)) h,
    λ h. absurd h,
  )
  count_mark None p Testing = (λ h. h, λ h. h)

  pub count_marks_bounded : (reads : List Read) (p : Place) (z : Point) → (((y : Point) × ((x : Point) × Turning p x × Rounds (λ x z. KeptTo parameter body x z) x y) × CountOut parameter has f y z)
      ⊎ ((place ≡ p) × (y : Point) × IsTrue (on_variables f y) × Gone parameter y z)) ↔ MarkTo (count parameter (Some reads) body place) p z
  count_marks_bounded reads p z = (
    λ h. (count_mark (Some reads) p z).0 (⊎_elim (λ k. inl ((turn_marks p z).0 k)) (λ q. inr q) h),
    λ h. ⊎_elim (λ k. inl ((turn_marks p z).1 k)) (λ q. inr q) ((count_mark (Some reads) p z).1 h),
  )

  pub count_marks_all : (p : Place) (z : Point) → ((y : Point) × ((x : Point) × Turning p x × Rounds (λ x z. KeptTo parameter body x z) x y) × CountOut parameter has f y z) ↔ MarkTo (count parameter None body place) p z
  count_marks_all p z = (λ h. (count_mark None p z).0 ((turn_marks p z).0 h), λ h. (turn_marks p z).1 ((count_mark None p z).1 h))

  -- ---- forward

  -- what has come to where the loop begins, to its head, to its last head, and to where it is left
  abbrev pub Entry : Option (List Read) → Point → Point → Type 0
  Entry bounds x z = (y : Point) × FlowTo (assign (Some parameter) (reads_in bounds) place) y x × (IsVariable y × (y ≡ z))

  abbrev pub HeadOf : Option (List Read) → Point → Point → Type 0
  HeadOf bounds x z = (y : Point) × Rounds (λ a b. KeptTo parameter body b a) x y × Entry bounds y z

  abbrev pub LastOf : Option (List Read) → Point → Point → Type 0
  LastOf (Some reads) x z = HeadOf (Some reads) x z
  LastOf None x z = (y : Point) × KeptTo parameter body y x × HeadOf None y z

  abbrev pub EndOf : Option (List Read) → Point → Point → Type 0
  EndOf bounds x z = (y : Point) × Out has true f y x × LastOf bounds y z

  abbrev pub LeftOf : Option (List Read) → Point → Point → Type 0
  LeftOf (Some reads) x z = EndOf (Some reads) x z ⊎ (IsTrue (on_variables f x) × IsTrue (read_points reads z))
  LeftOf None x z = EndOf None x z

  abbrev pub CountsFrom : Option (List Read) → Point → Point → Type 0
  CountsFrom bounds x z = (y : Point) × Gone parameter x y × LeftOf bounds y z

  entry_at : (bounds : Option (List Read)) (y : Point) (u : VarId) → Entry bounds y (At u) → FlowTo (assign (Some parameter) (reads_in bounds) place) (At u) y
  entry_at bounds y u h = let k = h.2 in subst (λ t. FlowTo (assign (Some parameter) (reads_in bounds) place) t y) k.1 h.1

  entry_past : (bounds : Option (List Read)) (y : Point) (u : VarId) → ¬ Entry bounds y (Leaving u)
  entry_past bounds y u h = let k = h.2 in subst IsVariable k.1 k.0

  entry_test : (bounds : Option (List Read)) (y : Point) → ¬ Entry bounds y Testing
  entry_test bounds y h = let k = h.2 in subst IsVariable k.1 k.0

  end_by : (bounds : Option (List Read)) (u w : VarId) → is_same w (Some parameter) ≡ false → EndOf bounds (At w) (At u) → Starts bounds place parameter body has f (At u) (At w)
  end_by (Some reads) u w other h = let l = h.2 in (l.0, entry_at (Some reads) l.0 u l.2, (h.0, rounds_turned l.1, (At w, h.1, (other, refl))))
  end_by None u w other h =
      let l = h.2 in
      let m = l.2 in
      let k = rounds_first (rounds_turned m.1) h.0 l.1 in
      (m.0, entry_at None m.0 u m.2, (k.0, k.1, (h.0, k.2, (At w, h.1, (other, refl)))))

  end_of : (bounds : Option (List Read)) (u w : VarId) → Starts bounds place parameter body has f (At u) (At w) → EndOf bounds (At w) (At u)
  end_of (Some reads) u w s =
      let t = s.2 in
      let o = out_at t.0 w t.2 in
      (t.0, o.1, (s.0, rounds_turned t.1, (At u, s.1, (tt, refl))))
  end_of None u w s =
      let t = s.2 in
      let r = t.2 in
      let o = out_at r.0 w r.2 in
      let k = rounds_last r.1 s.0 t.1 in
      (r.0, o.1, (k.0, k.2, (s.0, rounds_turned k.1, (At u, s.1, (tt, refl)))))

  from_core : (bounds : Option (List Read)) (u w : VarId) → CountsFrom bounds (At w) (At u) ↔ MayFlow (count parameter bounds body place) u w
  from_core (Some reads) u w = (
    λ h.
        let o = h.1 in
        ⊎_elim
        (λ e. let k = (starts_core (Some reads) u w).0 (end_by (Some reads) u w o.0 e) in (k.0, inl k.1))
        (λ q. (o.0, inr (sym (known w) ∙ q.0, q.1)))
        (subst (λ y. LeftOf (Some reads) y (At u)) (sym o.1) h.2),
    λ h. (At w, (h.0, refl), ⊎_elim (λ s. inl (end_of (Some reads) u w ((starts_core (Some reads) u w).1 (h.0, s)))) (λ q. inr (known w ∙ q.0, q.1)) h.1),
  )
  from_core None u w = (
    λ h.
        let o = h.1 in
        let k = (starts_core None u w).0 (end_by None u w o.0 (subst (λ y. LeftOf None y (At u)) (sym o.1) h.2)) in
        (k.0, inl k.1),
    λ h. (At w, (h.0, refl), ⊎_elim (λ s. end_of None u w ((starts_core None u w).1 (h.0, s))) (λ q. absurd (let is = q.1 in cc)) h.1),
  )

  last_past : (bounds : Option (List Read)) (y : Point) (u : VarId) → ¬ LastOf bounds y (Leaving u)
  last_past (Some reads) y u h = entry_past (Some reads) h.0 u h.2
  last_past None y u h = let k = h.2 in entry_past None k.0 u k.2

  last_test : (bounds : Option (List Read)) (y : Point) → ¬ LastOf bounds y Testing
  last_test (Some reads) y h = entry_test (Some reads) h.0 h.2
  last_test None y h = let k = h.2 in entry_test None k.0 k.2

  left_past : (bounds : Option (List Read)) (y : Point) (u : VarId) → ¬ LeftOf bounds y (Leaving u)
  left_past (Some reads) y u h = ⊎_elim (λ e. last_past (Some reads) e.0 u e.2) (λ q. absurd (let is = q.1 in cc)) h
  left_past None y u h = last_past None h.0 u h.2

  left_test : (bounds : Option (List Read)) (y : Point) → ¬ LeftOf bounds y Testing
  left_test (Some reads) y h = ⊎_elim (λ e. last_test (Some reads) e.0 e.2) (λ q. absurd (let is = q.1 in cc)) h
  left_test None y h = last_test None h.0 h.2

  pub count_flow_turned : (bounds : Option (List Read)) (x z : Point) → Past (CountsFrom bounds) x z ↔ FlowTo (count parameter bounds body place) z x
  count_flow_turned bounds (At w) (At u) = from_core bounds u w
  count_flow_turned bounds (At w) (Leaving u) = (λ h. absurd (left_past bounds h.0 u h.2), λ h. absurd cc)
  count_flow_turned bounds (At w) Testing = (λ h. absurd (left_test bounds h.0 h.2), λ h. absurd cc)
  count_flow_turned bounds (Leaving w) (At u) = (λ h. absurd cc, λ h. absurd h)
  count_flow_turned bounds (Leaving w) (Leaving u) = (λ h. sym h, λ h. sym h)
  count_flow_turned bounds (Leaving w) Testing = (λ h. absurd cc, λ h. absurd cc)
  count_flow_turned bounds Testing (At u) = (λ h. absurd cc, λ h. absurd h)
  count_flow_turned bounds Testing (Leaving u) = (λ h. absurd cc, λ h. absurd cc)
  count_flow_turned bounds Testing Testing = (λ h. refl, λ h. refl)

  -- ---- what comes to occurrences

  abbrev pub TurnComes : Option (List Read) → Place → Point → Type 0
  TurnComes bounds p z = (y : Point) × ((x : Point) × ComesTo body x p × Rounds (λ a b. KeptTo parameter body b a) x y) × Entry bounds y z

  turn_by : (bounds : Option (List Read)) (p : Place) (u : VarId) (x y : Point) → ComesTo body x p → Rounds (λ a b. KeptTo parameter body b a) x y → FlowTo (assign (Some parameter) (reads_in bounds) place) (At u) y
      → Lambda (count parameter bounds body place) u p
  turn_by bounds p u (At v) (At w) m rounds given = inr (w, v, given, ran (Keeping parameter (MayFlow body)) (Leaves body) (ExitTests body) (rounds_turned rounds) w refl, m)
  turn_by bounds p u (At v) (Leaving w) m rounds given = absurd given
  turn_by bounds p u (At v) Testing m rounds given = absurd given
  turn_by bounds p u (Leaving v) y m rounds given = absurd m
  turn_by bounds p u Testing y m rounds given = absurd m

  comes_by : (bounds : Option (List Read)) (p : Place) (u : VarId) → TurnComes bounds p (At u) → Lambda (count parameter bounds body place) u p
  comes_by bounds p u h = let k = h.1 in turn_by bounds p u k.0 h.0 k.1 k.2 (entry_at bounds h.0 u h.2)

  comes_of : (bounds : Option (List Read)) (p : Place) (u : VarId) → ((x : VarId) × (v : VarId) × Given (Some parameter) (reads_in bounds) u x × Steps (Keeping parameter (MayFlow body)) x v × Lambda body v p) → TurnComes bounds p (At u)
  comes_of bounds p u h = (At h.0, (At h.1, h.4, rounds_turned (steps_rounds (Keeping parameter (MayFlow body)) (Leaves body) (ExitTests body) h.3)), (At u, h.2, (tt, refl)))

  pub count_comes_bounded : (reads : List Read) (p : Place) (z : Point) → (TurnComes (Some reads) p z ⊎ ((place ≡ p) × IsTrue (read_points reads z))) ↔ ComesTo (count parameter (Some reads) body place) z p
  count_comes_bounded reads p (At u) = (
    λ h. ⊎_elim (λ k. comes_by (Some reads) p u k) (λ q. inl q) h,
    λ h. ⊎_elim (λ q. inr q) (λ k. inl (comes_of (Some reads) p u k)) h,
  )
  count_comes_bounded reads p (Leaving u) = (λ h. absurd (⊎_elim (λ k. entry_past (Some reads) k.0 u k.2) (λ q. absurd (let is = q.1 in cc)) h), λ h. absurd h)
  count_comes_bounded reads p Testing = (λ h. absurd (⊎_elim (λ k. entry_test (Some reads) k.0 k.2) (λ q. absurd (let is = q.1 in cc)) h), λ h. absurd h)

  pub count_comes_all : (p : Place) (z : Point) → TurnComes None p z ↔ ComesTo (count parameter None body place) z p
  count_comes_all p (At u) = (
    λ h. comes_by None p u h,
    λ h. ⊎_elim (λ q. absurd (let is = q.1 in cc)) (λ k. comes_of None p u k) h,
  )
  count_comes_all p (Leaving u) = (λ h. absurd (entry_past None h.0 u h.2), λ h. absurd h)
  count_comes_all p Testing = (λ h. absurd (entry_test None h.0 h.2), λ h. absurd h)
