-- What loops do between points.
use Rattle.std.proofs.Common.{◌≡◌, ◌↔◌, ◌⊎◌, Bool, true, false, not, List, refl, sym, ap, ◌∙◌, subst, inl, inr, ⊎_elim}
use Rattle.std.specs.Prelude.{⊤, IsTrue}
use Rattle.spx_text.specs.declared.place.Place.{Place}
use Rattle.spx_core.specs.declared.entity.VarId.{VarId}
use Rattle.spx_core.specs.Effects.{Effect, Read, endless, repeat, has_exit, sets}
use Rattle.spx_core.specs.Flow.{MayFlow, Leaves, ExitTests, Exited, Steps}
use Rattle.spx_core.specs.Marks.{Lambda, MuLeaves, MuTests}
use Rattle.spx_passes.specs.Points.{Point, At, Leaving, Testing, Between, ComesTo, FlowTo, IsVariable, MarkTo, Out, Past, Rounds, halt, on_variables}
use Rattle.spx_passes.specs.Loops.{read_points}
use Rattle.spx_passes.proofs.Moves.{rounds_turned}
use Rattle.spx_passes.proofs.Forms.{left_stays, loop_left, ran, steps_rounds, test_stays}

not_true : (b : Bool) → not b ≡ true → b ≡ false
not_true true h = absurd cc
not_true false h = refl

pub out_left : (has stays : Bool) (f : VarId → Bool) (y : Point) (w : VarId) → Out has stays f y (Leaving w) → ⊥
out_left has stays f (At v) w h = h
out_left has stays f (Leaving v) w h = h
out_left has stays f Testing w h = h

pub out_test : (has stays : Bool) (f : VarId → Bool) (y : Point) → Out has stays f y Testing → ⊥
out_test has stays f (At v) h = h
out_test has stays f (Leaving v) h = h
out_test has stays f Testing h = h

-- a loop e over its body, of which a turn goes by B: rounds lead to a point, and from there E leads out
module _ (e : Effect) (R L : VarId → VarId → Type 0) (T : VarId → Type 0) (E : Point → Point → Type 0)
    (core : (u w : VarId) → ((y : Point) × Rounds (λ x z. Between R L T x z) (At u) y × E y (At w)) ↔ MayFlow e u w) (none_left : (y : Point) (w : VarId) → ¬ E y (Leaving w)) (none_test : (y : Point) → ¬ E y Testing)
    (lefts : (u w : VarId) → ¬ Leaves e u w) (tests : (u : VarId) → ¬ ExitTests e u) where
  pub loop_flow : (x z : Point) → Past (λ x z. (y : Point) × Rounds (λ x z. Between R L T x z) x y × E y z) x z ↔ FlowTo e x z
  loop_flow (At u) (At w) = core u w
  loop_flow (At u) (Leaving w) = (λ h. absurd (none_left h.0 w h.2), λ h. absurd (lefts u w h))
  loop_flow (At u) Testing = (λ h. absurd (none_test h.0 h.2), λ h. absurd (tests u h))
  loop_flow (Leaving u) z = (λ h. h, λ h. h)
  loop_flow Testing z = (λ h. h, λ h. h)

  pub loop_flow_turned : (x z : Point) → Past (λ x z. (y : Point) × E y x × ((v : Point) × Rounds (λ a b. Between R L T b a) y v × (IsVariable v × (v ≡ z)))) x z ↔ FlowTo e z x
  loop_flow_turned (At w) (At u) = (
    λ h. let k = h.2 in (core u w).0 (h.0, rounds_turned (subst (Rounds (λ a b. Between R L T b a) h.0) k.2.1 k.1), h.1),
    λ h. let k = (core u w).1 h in (k.0, k.2, (At u, rounds_turned k.1, (tt, refl))),
  )
  loop_flow_turned (At w) (Leaving u) = (λ h. absurd (let k = h.2 in subst IsVariable k.2.1 k.2.0), λ h. absurd cc)
  loop_flow_turned (At w) Testing = (λ h. absurd (let k = h.2 in subst IsVariable k.2.1 k.2.0), λ h. absurd cc)
  loop_flow_turned (Leaving w) (At u) = (λ h. absurd cc, λ h. absurd (lefts u w h))
  loop_flow_turned (Leaving w) (Leaving u) = (λ h. sym h, λ h. sym h)
  loop_flow_turned (Leaving w) Testing = (λ h. absurd cc, λ h. absurd cc)
  loop_flow_turned Testing (At u) = (λ h. absurd cc, λ h. absurd (tests u h))
  loop_flow_turned Testing (Leaving u) = (λ h. absurd cc, λ h. absurd cc)
  loop_flow_turned Testing Testing = (λ h. refl, λ h. refl)

-- what comes to occurrences in turns
abbrev pub Within : (VarId → VarId → Type 0) → Effect → Point → Place → Type 0
Within R body (At u) p = (v : VarId) × Steps R u v × Lambda body v p
Within R body (Leaving u) p = ⊥
Within R body Testing p = ⊥

module _ (R L : VarId → VarId → Type 0) (T : VarId → Type 0) (body : Effect) where
  comes_first : (p : Place) (y : Point) (u : VarId) → ComesTo body y p → Rounds (λ a b. Between R L T b a) y (At u) → (v : VarId) × Steps R u v × Lambda body v p
  comes_first p (At v) u m rounds = (v, ran R L T (rounds_turned rounds) u refl, m)
  comes_first p (Leaving v) u m rounds = absurd m
  comes_first p Testing u m rounds = absurd m

  pub loop_comes : (p : Place) (z : Point) → ((y : Point) × ((x : Point) × ComesTo body x p × Rounds (λ a b. Between R L T b a) x y) × (IsVariable y × (y ≡ z))) ↔ Within R body z p
  loop_comes p (At u) = (
    λ h. let k = h.1 in comes_first p k.0 u k.1 (subst (Rounds (λ a b. Between R L T b a) k.0) h.2.1 k.2),
    λ h. (At u, (At h.0, h.2, rounds_turned (steps_rounds R L T h.1)), (tt, refl)),
  )
  loop_comes p (Leaving u) = (λ h. absurd (subst IsVariable h.2.1 h.2.0), λ h. absurd h)
  loop_comes p Testing = (λ h. absurd (subst IsVariable h.2.1 h.2.0), λ h. absurd h)

-- where occurrences in turns, from which M leads, lead to through X, and at exits
abbrev pub LoopMark : (M : Place → Point → Type 0) → (X : VarId → VarId → Type 0) → (past : VarId → Type 0) → (VarId → Bool) → Place → Point → Type 0
LoopMark M X past f p (At w) = ((v : VarId) × M p (At v) × X v w) ⊎ (past w × (M p (Leaving w) ⊎ (IsTrue (f w) × M p Testing)))
LoopMark M X past f p (Leaving w) = ⊥
LoopMark M X past f p Testing = ⊥

module _ (R L : VarId → VarId → Type 0) (T : VarId → Type 0) (E : Point → Point → Type 0) (X : VarId → VarId → Type 0)
    (core : (u w : VarId) → ((y : Point) × Rounds (λ x z. Between R L T x z) (At u) y × E y (At w)) ↔ X u w) (none_left : (y : Point) (w : VarId) → ¬ E y (Leaving w)) (none_test : (y : Point) → ¬ E y Testing)
    (M : Place → Point → Type 0) (has : Bool) (f : VarId → Bool) (mark_lefts : (p : Place) (w : VarId) → M p (Leaving w) → IsTrue has) (mark_tests : (p : Place) → M p Testing → IsTrue has)
    (past : VarId → Type 0) (e_left : (v w : VarId) → E (Leaving v) (At w) ↔ (IsTrue has × ((v ≡ w) × past w))) (e_test : (w : VarId) → E Testing (At w) ↔ (IsTrue has × (IsTrue (f w) × past w))) where
  mark_by : (p : Place) (x y : Point) (w : VarId) → M p x → Rounds (λ x z. Between R L T x z) x y → E y (At w) → LoopMark M X past f p (At w)
  mark_by p (At v) y w m rounds o = inl (v, m, (core v w).0 (y, rounds, o))
  mark_by p (Leaving v) y w m rounds o =
      let k = (e_left v w).0 (subst (λ t. E t (At w)) (sym (left_stays R L T rounds v refl)) o) in
      inr (k.1.1, inl (subst (λ x. M p (Leaving x)) k.1.0 m))
  mark_by p Testing y w m rounds o =
      let k = (e_test w).0 (subst (λ t. E t (At w)) (sym (test_stays R L T rounds refl)) o) in
      inr (k.1.1, inr (k.1.0, m))

  pub loop_marks : (p : Place) (z : Point) → ((y : Point) × ((x : Point) × M p x × Rounds (λ x z. Between R L T x z) x y) × E y z) ↔ LoopMark M X past f p z
  loop_marks p (At w) = (
    λ h. let k = h.1 in mark_by p k.0 h.0 w k.1 k.2 h.2,
    λ h. ⊎_elim
        (λ q. let k = (core q.0 w).1 q.2 in (k.0, (At q.0, q.1, k.1), k.2))
        (λ q. ⊎_elim
        (λ l. (Leaving w, (Leaving w, l, halt), (e_left w w).1 (mark_lefts p w l, (refl, q.0))))
        (λ t. (Testing, (Testing, t.1, halt), (e_test w).1 (mark_tests p t.1, (t.0, q.0))))
        q.1)
        h,
  )
  loop_marks p (Leaving w) = (λ h. absurd (none_left h.0 w h.2), λ h. absurd h)
  loop_marks p Testing = (λ h. absurd (none_test h.0 h.2), λ h. absurd h)

-- ---- a loop with a condition, and one with no head

abbrev pub WhileOut : List Read → Bool → (VarId → Bool) → Point → Point → Type 0
WhileOut tests has f y z = Out has true f y z ⊎ (IsTrue (read_points tests y) × IsTrue (on_variables f z))

-- what leads to an exit shows that there is one
pub record HasExits (has : Bool) (body : Effect) : Type 0 where
  pub lefts : (u w : VarId) → Leaves body u w → IsTrue has
  pub tests : (u : VarId) → ExitTests body u → IsTrue has
  pub mark_lefts : (p : Place) (w : VarId) → MuLeaves body p w → IsTrue has
  pub mark_tests : (p : Place) → MuTests body p → IsTrue has

module _ (body : Effect) (has : Bool) (exits : HasExits has body) (f : VarId → Bool) (known : (v : VarId) → f v ≡ sets v body) where
  -- ---- while

  module _ (tests : List Read) (place : Place) where
    while_read : (u w : VarId) (y : Point) → Rounds (λ x z. FlowTo body x z) (At u) y → IsTrue (read_points tests y) → IsTrue (f w) → MayFlow (repeat tests body place) u w
    while_read u w (At v) rounds read set = inl (inr (sym (known w) ∙ set, v, ran (MayFlow body) (Leaves body) (ExitTests body) rounds u refl, read))
    while_read u w (Leaving v) rounds read set = absurd cc
    while_read u w Testing rounds read set = absurd cc

    while_core : (u w : VarId) → ((y : Point) × Rounds (λ x z. FlowTo body x z) (At u) y × WhileOut tests has f y (At w)) ↔ MayFlow (repeat tests body place) u w
    while_core u w =
        let left = loop_left (MayFlow body) (Leaves body) (ExitTests body) has true f exits.lefts exits.tests u w in (
          λ h. ⊎_elim
              (λ o. ⊎_elim
              (λ s. inl (inl s.1))
              (λ q. inr (subst (λ b. Exited (Steps (MayFlow body)) (Leaves body) (ExitTests body) b u w) (known w) q))
              (left.0 (h.0, h.1, o)))
              (λ t. while_read u w h.0 h.1 t.0 t.1)
              h.2,
          λ h. ⊎_elim
              (λ head. ⊎_elim
              (λ s. let k = left.1 (inl (refl, s)) in (k.0, k.1, inl k.2))
              (λ q. (At q.1, steps_rounds (MayFlow body) (Leaves body) (ExitTests body) q.2, inr (q.3, known w ∙ q.0)))
              head)
              (λ q. let k = left.1 (inr (subst (λ b. Exited (Steps (MayFlow body)) (Leaves body) (ExitTests body) b u w) (sym (known w)) q)) in (k.0, k.1, inl k.2))
              h,
        )

    while_left : (y : Point) (w : VarId) → ¬ WhileOut tests has f y (Leaving w)
    while_left y w h = ⊎_elim (λ o. out_left has true f y w o) (λ t. absurd (let is = t.1 in cc)) h

    while_test : (y : Point) → ¬ WhileOut tests has f y Testing
    while_test y h = ⊎_elim (λ o. out_test has true f y o) (λ t. absurd (let is = t.1 in cc)) h

    pub while_flow : (x z : Point) → Past (λ x z. (y : Point) × Rounds (λ x z. FlowTo body x z) x y × WhileOut tests has f y z) x z ↔ FlowTo (repeat tests body place) x z
    while_flow = loop_flow (repeat tests body place) (MayFlow body) (Leaves body) (ExitTests body) (WhileOut tests has f) while_core while_left while_test (λ u w h. h) (λ u h. h)

    pub while_flow_turned : (x z : Point) → Past (λ x z. (y : Point) × WhileOut tests has f y x × ((v : Point) × Rounds (λ a b. FlowTo body b a) y v × (IsVariable v × (v ≡ z)))) x z ↔ FlowTo (repeat tests body place) z x
    while_flow_turned = loop_flow_turned (repeat tests body place) (MayFlow body) (Leaves body) (ExitTests body) (WhileOut tests has f) while_core while_left while_test (λ u w h. h) (λ u h. h)

    while_leaving : (v w : VarId) → WhileOut tests has f (Leaving v) (At w) ↔ (IsTrue has × ((v ≡ w) × ⊤))
    while_leaving v w = (λ h. ⊎_elim (λ o. (o.0, (o.1, tt))) (λ t. absurd (let is = t.0 in cc)) h, λ h. inl (h.0, h.1.0))

    while_testing : (w : VarId) → WhileOut tests has f Testing (At w) ↔ (IsTrue has × (IsTrue (f w) × ⊤))
    while_testing w = (λ h. ⊎_elim (λ o. (o.0, (o.1, tt))) (λ t. absurd (let is = t.0 in cc)) h, λ h. inl (h.0, h.1.0))

    while_inner : (p : Place) (z : Point) → ((y : Point) × ((x : Point) × MarkTo body p x × Rounds (λ x z. FlowTo body x z) x y) × WhileOut tests has f y z) ↔ LoopMark (λ p z. MarkTo body p z) (MayFlow (repeat tests body place)) (λ w. ⊤) f p z
    while_inner =
        loop_marks (MayFlow body) (Leaves body) (ExitTests body) (WhileOut tests has f) (MayFlow (repeat tests body place)) while_core while_left while_test (λ p z. MarkTo body p z) has f exits.mark_lefts exits.mark_tests
        (λ w. ⊤) while_leaving while_testing

    while_mark : (p : Place) (z : Point) → (((place ≡ p) × IsTrue (on_variables f z)) ⊎ LoopMark (λ p z. MarkTo body p z) (MayFlow (repeat tests body place)) (λ w. ⊤) f p z) ↔ MarkTo (repeat tests body place) p z
    while_mark p (At w) = (
      λ h. ⊎_elim
          (λ t. inl (t.0, sym (known w) ∙ t.1))
          (λ k. inr (⊎_elim (λ q. inl q) (λ q. inr (⊎_elim (λ l. inl l) (λ t. inr (sym (known w) ∙ t.0, t.1)) q.1)) k))
          h,
      λ h. ⊎_elim
          (λ t. inl (t.0, known w ∙ t.1))
          (λ k. inr (⊎_elim (λ q. inl q) (λ q. inr (tt, ⊎_elim (λ l. inl l) (λ t. inr (known w ∙ t.0, t.1)) q)) k))
          h,
    )
    while_mark p (Leaving w) = (λ h. ⊎_elim (λ t. absurd (let is = t.1 in cc)) (λ k. k) h, λ h. absurd h)
    while_mark p Testing = (λ h. ⊎_elim (λ t. absurd (let is = t.1 in cc)) (λ k. k) h, λ h. absurd h)

    pub while_marks : (p : Place) (z : Point) → (((place ≡ p) × IsTrue (on_variables f z)) ⊎ ((y : Point) × ((x : Point) × MarkTo body p x × Rounds (λ x z. FlowTo body x z) x y) × WhileOut tests has f y z)) ↔ MarkTo (repeat tests body place) p z
    while_marks p z = (
      λ h. (while_mark p z).0 (⊎_elim (λ t. inl t) (λ k. inr ((while_inner p z).0 k)) h),
      λ h. ⊎_elim (λ t. inl t) (λ k. inr ((while_inner p z).1 k)) ((while_mark p z).1 h),
    )

    -- what comes to the condition, and to occurrences in turns
    tested_first : (p : Place) (y : Point) (u : VarId) → ((place ≡ p) × IsTrue (read_points tests y)) → Rounds (λ a b. FlowTo body b a) y (At u) → Lambda (repeat tests body place) u p
    tested_first p (At v) u t rounds = (v, ran (MayFlow body) (Leaves body) (ExitTests body) (rounds_turned rounds) u refl, inl t)
    tested_first p (Leaving v) u t rounds = absurd (let is = t.1 in cc)
    tested_first p Testing u t rounds = absurd (let is = t.1 in cc)

    while_comes_in : (p : Place) (z : Point) → ((y : Point) × ((x : Point) × ComesTo body x p × Rounds (λ a b. FlowTo body b a) x y) × (IsVariable y × (y ≡ z))) ↔ Within (MayFlow body) body z p
    while_comes_in = loop_comes (MayFlow body) (Leaves body) (ExitTests body) body

    pub while_comes : (p : Place) (z : Point) → (((y : Point) × ((x : Point) × ComesTo body x p × Rounds (λ a b. FlowTo body b a) x y) × (IsVariable y × (y ≡ z)))
        ⊎ ((y : Point) × ((place ≡ p) × IsTrue (read_points tests y)) × ((v : Point) × Rounds (λ a b. FlowTo body b a) y v × (IsVariable v × (v ≡ z))))) ↔ ComesTo (repeat tests body place) z p
    while_comes p (At u) = (
      λ h. ⊎_elim
          (λ m. let k = (while_comes_in p (At u)).0 m in (k.0, k.1, inr k.2))
          (λ q. let k = q.2 in tested_first p q.0 u q.1 (subst (Rounds (λ a b. FlowTo body b a) q.0) k.2.1 k.1))
          h,
      λ h. ⊎_elim
          (λ t. inr (At h.0, t, (At u, rounds_turned (steps_rounds (MayFlow body) (Leaves body) (ExitTests body) h.1), (tt, refl))))
          (λ l. inl ((while_comes_in p (At u)).1 (h.0, h.1, l)))
          h.2,
    )
    while_comes p (Leaving u) = (λ h. absurd (⊎_elim (λ m. subst IsVariable m.2.1 m.2.0) (λ q. let k = q.2 in subst IsVariable k.2.1 k.2.0) h), λ h. absurd h)
    while_comes p Testing = (λ h. absurd (⊎_elim (λ m. subst IsVariable m.2.1 m.2.0) (λ q. let k = q.2 in subst IsVariable k.2.1 k.2.0) h), λ h. absurd h)

  -- ---- no head

  module _ (stays : Bool) (headless : stays ≡ not (has_exit body)) where
    endless_core : (u w : VarId) → ((y : Point) × Rounds (λ x z. FlowTo body x z) (At u) y × Out has stays f y (At w)) ↔ MayFlow (endless body) u w
    endless_core u w =
        let left = loop_left (MayFlow body) (Leaves body) (ExitTests body) has stays f exits.lefts exits.tests u w in (
          λ h. ⊎_elim
              (λ s. inl (not_true (has_exit body) (sym headless ∙ s.0), s.1))
              (λ q. inr (subst (λ b. Exited (Steps (MayFlow body)) (Leaves body) (ExitTests body) b u w) (known w) q))
              (left.0 h),
          λ h. left.1 (⊎_elim
              (λ s. inl (headless ∙ ap not s.0, s.1))
              (λ q. inr (subst (λ b. Exited (Steps (MayFlow body)) (Leaves body) (ExitTests body) b u w) (sym (known w)) q))
              h),
        )

    pub endless_flow : (x z : Point) → Past (λ x z. (y : Point) × Rounds (λ x z. FlowTo body x z) x y × Out has stays f y z) x z ↔ FlowTo (endless body) x z
    endless_flow = loop_flow (endless body) (MayFlow body) (Leaves body) (ExitTests body) (λ y z. Out has stays f y z) endless_core (out_left has stays f) (out_test has stays f) (λ u w h. h) (λ u h. h)

    pub endless_flow_turned : (x z : Point) → Past (λ x z. (y : Point) × Out has stays f y x × ((v : Point) × Rounds (λ a b. FlowTo body b a) y v × (IsVariable v × (v ≡ z)))) x z ↔ FlowTo (endless body) z x
    endless_flow_turned = loop_flow_turned (endless body) (MayFlow body) (Leaves body) (ExitTests body) (λ y z. Out has stays f y z) endless_core (out_left has stays f) (out_test has stays f) (λ u w h. h) (λ u h. h)

    endless_inner : (p : Place) (z : Point) → ((y : Point) × ((x : Point) × MarkTo body p x × Rounds (λ x z. FlowTo body x z) x y) × Out has stays f y z) ↔ LoopMark (λ p z. MarkTo body p z) (MayFlow (endless body)) (λ w. ⊤) f p z
    endless_inner =
        loop_marks (MayFlow body) (Leaves body) (ExitTests body) (λ y z. Out has stays f y z) (MayFlow (endless body)) endless_core (out_left has stays f) (out_test has stays f) (λ p z. MarkTo body p z) has f exits.mark_lefts exits.mark_tests
        (λ w. ⊤) (λ v w. (λ h. (h.0, (h.1, tt)), λ h. (h.0, h.1.0))) (λ w. (λ h. (h.0, (h.1, tt)), λ h. (h.0, h.1.0)))

    endless_mark : (p : Place) (z : Point) → LoopMark (λ p z. MarkTo body p z) (MayFlow (endless body)) (λ w. ⊤) f p z ↔ MarkTo (endless body) p z
    endless_mark p (At w) = (
      λ h. ⊎_elim (λ q. inl q) (λ q. inr (⊎_elim (λ l. inl l) (λ t. inr (sym (known w) ∙ t.0, t.1)) q.1)) h,
      λ h. ⊎_elim (λ q. inl q) (λ q. inr (tt, ⊎_elim (λ l. inl l) (λ t. inr (known w ∙ t.0, t.1)) q)) h,
    )
    endless_mark p (Leaving w) = (λ h. h, λ h. h)
    endless_mark p Testing = (λ h. h, λ h. h)

    pub endless_marks : (p : Place) (z : Point) → ((y : Point) × ((x : Point) × MarkTo body p x × Rounds (λ x z. FlowTo body x z) x y) × Out has stays f y z) ↔ MarkTo (endless body) p z
    endless_marks p z = (λ h. (endless_mark p z).0 ((endless_inner p z).0 h), λ h. (endless_inner p z).1 ((endless_mark p z).1 h))

    endless_come : (p : Place) (z : Point) → Within (MayFlow body) body z p ↔ ComesTo (endless body) z p
    endless_come p (At u) = (λ h. h, λ h. h)
    endless_come p (Leaving u) = (λ h. h, λ h. h)
    endless_come p Testing = (λ h. h, λ h. h)

    pub endless_comes : (p : Place) (z : Point) → ((y : Point) × ((x : Point) × ComesTo body x p × Rounds (λ a b. FlowTo body b a) x y) × (IsVariable y × (y ≡ z))) ↔ ComesTo (endless body) z p
    endless_comes p z =
        let k = loop_comes (MayFlow body) (Leaves body) (ExitTests body) body p z in
        (λ h. (endless_come p z).0 (k.0 h), λ h. k.1 ((endless_come p z).1 h))
