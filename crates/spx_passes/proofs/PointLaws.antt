-- Points by their position.
use Rattle.std.proofs.Common.{◌≡◌, ◌↔◌, ◌⊎◌, ℕ, ◌<◌, ◌≤◌, ◌+◌, ◌-◌, Bool, true, false, List, length, All, refl, sym, ap, ◌∙◌, subst, inl, inr, ⊎_elim, arith}
use Rattle.std.specs.Prelude.{◌==◌, ◌||◌, if◌then◌else◌, Contains, IsTrue}
use Rattle.std.specs.List.{IsDistinct}
use Rattle.std.proofs.lemmas.Bool.{both_ways, cases_Bool, cases_lt, or_left, or_parts, or_right}
use Rattle.std.proofs.lemmas.List.Elements.{All-contains, All-weaker}
use Rattle.std.proofs.lemmas.Option.{slice_get_within}
use Rattle.spx_text.specs.declared.place.Place.{Place}
use Rattle.spx_core.specs.declared.entity.VarId.{VarId}
use Rattle.spx_core.specs.Effects.{Effect, nothing, assign, next, choose, observe, repeat, count, endless, exit, is_read, reads, sets}
use Rattle.spx_core.specs.Flow.{MayFlow, Leaves, ExitTests, stay}
use Rattle.spx_core.specs.Marks.{MuLeaves, MuTests}
use Rattle.spx_rows.specs.Relations.{Matrix, Of}
use Rattle.spx_passes.specs.declared.frame.Frame.{Frame}
use Rattle.spx_passes.specs.Points.{Point, At, Leaving, Testing, FlowTo, KeptTo, Leads, Places, StandsAt, on_variables, size_of}
use Rattle.spx_passes.specs.Positions.{Covers, Stands, exits_in}
use Rattle.spx_core.proofs.Callers.FlowLaws.{keeps, leaves_keep, unread}
use Rattle.spx_passes.proofs.PositionLaws.{held_stands, one_place, one_var, stands_within}

-- ---- positions

pub size_with : (frame : Frame) → frame.has_exits ≡ true → size_of frame ≡ (length frame.vars + length frame.vars) + 1
size_with frame is = ap (λ b. if b then (length frame.vars + length frame.vars) + 1 else length frame.vars) is

pub size_without : (frame : Frame) → frame.has_exits ≡ false → size_of frame ≡ length frame.vars
size_without frame is = ap (λ b. if b then (length frame.vars + length frame.vars) + 1 else length frame.vars) is

pub vars_fit : (frame : Frame) → length frame.vars ≤ size_of frame
vars_fit frame =
    ⊎_elim (λ is. let e = size_with frame is in omega (arith, e)) (λ is. let e = size_without frame is in omega (arith, e)) (cases_Bool frame.has_exits)

pub within_size : (frame : Frame) (k : ℕ) (x : Point) → StandsAt frame k x → k < size_of frame
within_size frame k (At v) at = let less = slice_get_within frame.vars k v.0 at in let fit = vars_fit frame in omega (arith, less, fit)
within_size frame k (Leaving v) at =
    let e = at.3 in
    let less = slice_get_within frame.vars at.1 v.0 at.2 in
    let size = size_with frame at.0 in
    omega (arith, e, less, size)
within_size frame k Testing at = let e = at.1 in let size = size_with frame at.0 in omega (arith, e, size)

-- a point stands at one position
pub one_place_of : (frame : Frame) (j k : ℕ) (x : Point) → IsDistinct ◌==◌ frame.vars → StandsAt frame j x → StandsAt frame k x → j ≡ k
one_place_of frame j k (At v) once a b = one_place frame.vars j k v once a b
one_place_of frame j k (Leaving v) once a b = a.3 ∙ ap (λ i. length frame.vars + i) (one_place frame.vars a.1 b.1 v once a.2 b.2) ∙ sym b.3
one_place_of frame j k Testing once a b = a.1 ∙ sym b.1

-- at a position stands one point
pub one_point : (frame : Frame) (k : ℕ) (x y : Point) → StandsAt frame k x → StandsAt frame k y → x ≡ y
one_point frame k (At v) (At w) a b = ap At (one_var frame.vars k v w a b)
one_point frame k (At v) (Leaving w) a b = absurd (let less = slice_get_within frame.vars k v.0 a in let e = b.3 in omega (arith, less, e))
one_point frame k (At v) Testing a b = absurd (let less = slice_get_within frame.vars k v.0 a in let e = b.1 in omega (arith, less, e))
one_point frame k (Leaving v) (At w) a b = absurd (let less = slice_get_within frame.vars k w.0 b in let e = a.3 in omega (arith, less, e))
one_point frame k (Leaving v) (Leaving w) a b =
    let d = a.3 in
    let e = b.3 in
    let same : b.1 ≡ a.1 = omega (arith, d, e) in
    ap Leaving (one_var frame.vars a.1 v w a.2 (subst (λ j. Stands frame.vars j w) same b.2))
one_point frame k (Leaving v) Testing a b =
    absurd (let less = slice_get_within frame.vars a.1 v.0 a.2 in let d = a.3 in let e = b.1 in omega (arith, less, d, e))
one_point frame k Testing (At w) a b = absurd (let less = slice_get_within frame.vars k w.0 b in let e = a.1 in omega (arith, less, e))
one_point frame k Testing (Leaving w) a b =
    absurd (let less = slice_get_within frame.vars b.1 w.0 b.2 in let d = b.3 in let e = a.1 in omega (arith, less, d, e))
one_point frame k Testing Testing a b = refl

-- at each position stands a point
point_past : (frame : Frame) (k : ℕ) → length frame.vars ≤ k → k < size_of frame → frame.has_exits ≡ true → (k < length frame.vars + length frame.vars) ⊎ (length frame.vars + length frame.vars ≤ k) → (x : Point) × StandsAt frame k x
point_past frame k past less is (inl left) =
    let j : ℕ = k - length frame.vars in
    let e : k ≡ length frame.vars + j = omega (arith, past) in
    let within : j < length frame.vars = omega (arith, past, left) in
    let v = stands_within frame.vars j within in
    (Leaving v.0, (is, j, v.1, e))
point_past frame k past less is (inr last) = let size = size_with frame is in (Testing, (is, omega (arith, less, last, size)))

point_in : (frame : Frame) (k : ℕ) → k < size_of frame → (k < length frame.vars) ⊎ (length frame.vars ≤ k) → (x : Point) × StandsAt frame k x
point_in frame k less (inl first) = let v = stands_within frame.vars k first in (At v.0, v.1)
point_in frame k less (inr past) =
    ⊎_elim (λ is. point_past frame k past less is (cases_lt k (length frame.vars + length frame.vars)))
    (λ none. absurd (let size = size_without frame none in omega (arith, past, less, size)))
    (cases_Bool frame.has_exits)

pub points_within : (frame : Frame) (k : ℕ) → k < size_of frame → (x : Point) × StandsAt frame k x
points_within frame k less = point_in frame k less (cases_lt k (length frame.vars))

-- the rows at these positions are those of the points of f
pub rows_led : (frame : Frame) (f : Point → Bool) (from : List ℕ) → All (λ j. j < size_of frame) from → Places frame from f → (m : Matrix) (a : ℕ) → Of from m a ↔ Leads frame (λ z. IsTrue (f z)) m a
rows_led frame f from within exact m a = (
  λ h.
      let one = points_within frame h.0 (All-contains (λ j. j < size_of frame) from h.0 within h.1) in
      (h.0, one.0, one.1, (exact h.0 one.0 one.1).0 h.1, h.2),
  λ h. (h.0, (exact h.0 h.1 h.2).1 h.3, h.4),
)

-- positions of variables, as those of points
pub places_of : (frame : Frame) (f : VarId → Bool) (list : List ℕ) → All (λ j. j < length frame.vars) list → ((k : ℕ) (v : VarId) → Stands frame.vars k v → Contains list k ↔ IsTrue (f v)) → Places frame list (on_variables f)
places_of frame f list within exact k (At v) at = exact k v at
places_of frame f list within exact k (Leaving v) at = (
  λ c. absurd (let less = All-contains (λ j. j < length frame.vars) list k within c in let e = at.3 in omega (arith, less, e)),
  λ h. absurd cc,
)
places_of frame f list within exact k Testing at = (
  λ c. absurd (let less = All-contains (λ j. j < length frame.vars) list k within c in let e = at.1 in omega (arith, less, e)),
  λ h. absurd cc,
)

pub all_within : (frame : Frame) (list : List ℕ) → All (λ j. j < length frame.vars) list → All (λ j. j < size_of frame) list
all_within frame list within = All-weaker (λ j. j < length frame.vars) (λ j. j < size_of frame) (λ j less. let fit = vars_fit frame in omega (arith, less, fit)) list within

-- ---- exits

pub leaves_exits : (e : Effect) (u w : VarId) → Leaves e u w → exits_in true e ≡ true
leaves_exits nothing u w h = absurd h
leaves_exits (assign target values place) u w h = absurd h
leaves_exits (next a b) u w h =
    ⊎_elim (λ one. or_left (exits_in true a) (exits_in true b) (leaves_exits a u w one)) (λ two. or_right (exits_in true a) (exits_in true b) (leaves_exits b two.0 w two.2)) h
leaves_exits (choose tests a b place) u w h =
    ⊎_elim (λ one. or_left (exits_in true a) (exits_in true b) (leaves_exits a u w one)) (λ two. or_right (exits_in true a) (exits_in true b) (leaves_exits b u w two)) h
leaves_exits (observe values) u w h = absurd h
leaves_exits (repeat tests body place) u w h = absurd h
leaves_exits (count parameter bounds body place) u w h = absurd h
leaves_exits (endless body) u w h = absurd h
leaves_exits (exit tests a b place) u w h = refl

pub tests_exits : (e : Effect) (u : VarId) → ExitTests e u → exits_in true e ≡ true
tests_exits nothing u h = absurd h
tests_exits (assign target values place) u h = absurd h
tests_exits (next a b) u h =
    ⊎_elim (λ one. or_left (exits_in true a) (exits_in true b) (tests_exits a u one)) (λ two. or_right (exits_in true a) (exits_in true b) (tests_exits b two.0 two.2)) h
tests_exits (choose tests a b place) u h =
    ⊎_elim (λ one. or_left (exits_in true a) (exits_in true b) (tests_exits a u one)) (λ two. or_right (exits_in true a) (exits_in true b) (tests_exits b u two)) h
tests_exits (observe values) u h = absurd h
tests_exits (repeat tests body place) u h = absurd h
tests_exits (count parameter bounds body place) u h = absurd h
tests_exits (endless body) u h = absurd h
tests_exits (exit tests a b place) u h = refl

-- what is not read comes to no condition of an exit
unread_tests : (e : Effect) (u : VarId) → reads u e ≡ false → ¬ ExitTests e u
unread_tests nothing u none h = h
unread_tests (assign target values place) u none h = h
unread_tests (next a b) u none h =
    let parts = or_parts (reads u a) (reads u b) none in
    ⊎_elim (λ one. unread_tests a u parts.0 one) (λ two. unread_tests b u parts.1 (subst (ExitTests b) (sym (unread a u two.0 parts.0 two.1)) two.2)) h
unread_tests (choose tests a b place) u none h =
    let arms = or_parts (reads u a) (reads u b) (or_parts (is_read u tests) (reads u a || reads u b) none).1 in
    ⊎_elim (λ one. unread_tests a u arms.0 one) (λ two. unread_tests b u arms.1 two) h
unread_tests (observe values) u none h = h
unread_tests (repeat tests body place) u none h = h
unread_tests (count parameter bounds body place) u none h = h
unread_tests (endless body) u none h = h
unread_tests (exit tests a b place) u none h =
    let parts = or_parts (is_read u tests) (reads u a || reads u b) none in
    ⊎_elim (λ read. both_ways (is_read u tests) parts.0 read) (λ two. unread_tests b u (or_parts (reads u a) (reads u b) parts.1).1 two) h

-- ---- points that have a position

module _ (frame : Frame) (e : Effect) (covers : Covers frame e) where
  on_variable : (a : ℕ) (u w : VarId) → Stands frame.vars a u → MayFlow e u w → (k : ℕ) × Stands frame.vars k w
  on_variable a u w at flow = ⊎_elim (λ is. held_stands frame.vars w (covers.targets w is)) (λ none. (a, subst (Stands frame.vars a) ((keeps e u w none).0 flow) at)) (cases_Bool (sets w e))

  on_left : (a : ℕ) (u w : VarId) → Stands frame.vars a u → Leaves e u w → (k : ℕ) × StandsAt frame k (Leaving w)
  on_left a u w at left =
      let j = ⊎_elim {C = (k : ℕ) × Stands frame.vars k w} (λ is. held_stands frame.vars w (covers.targets w is)) (λ none. (a, subst (Stands frame.vars a) (leaves_keep e u w none left) at)) (cases_Bool (sets w e)) in
      (length frame.vars + j.0, (covers.exits (leaves_exits e u w left), j.0, j.1, refl))

  on_tests : (u : VarId) → ExitTests e u → (k : ℕ) × StandsAt frame k Testing
  on_tests u test = (length frame.vars + length frame.vars, (covers.exits (tests_exits e u test), refl))

  from_variable : (b : ℕ) (u w : VarId) → Stands frame.vars b w → MayFlow e u w → (k : ℕ) × Stands frame.vars k u
  from_variable b u w at flow = ⊎_elim (λ is. held_stands frame.vars u (covers.read u is)) (λ none. (b, subst (Stands frame.vars b) (sym (unread e u w none flow)) at)) (cases_Bool (reads u e))

  from_left : (b : ℕ) (u w : VarId) → Stands frame.vars b w → Leaves e u w → (k : ℕ) × Stands frame.vars k u
  from_left b u w at left =
      ⊎_elim (λ is. held_stands frame.vars u (covers.read u is)) (λ none. (b, subst (Stands frame.vars b) (sym (unread (endless e) u w none (inr (u, stay, inl left)))) at)) (cases_Bool (reads u e))

  from_tests : (u : VarId) → ExitTests e u → (k : ℕ) × Stands frame.vars k u
  from_tests u test = ⊎_elim (λ is. held_stands frame.vars u (covers.read u is)) (λ none. absurd (unread_tests e u none test)) (cases_Bool (reads u e))

  pub flow_on : (c : ℕ) (x z : Point) → StandsAt frame c x → FlowTo e x z → (k : ℕ) × StandsAt frame k z
  flow_on c (At u) (At w) at flow = on_variable c u w at flow
  flow_on c (At u) (Leaving w) at left = on_left c u w at left
  flow_on c (At u) Testing at test = on_tests u test
  flow_on c (Leaving u) z at same = (c, subst (StandsAt frame c) same at)
  flow_on c Testing z at same = (c, subst (StandsAt frame c) same at)

  pub flow_from : (c : ℕ) (x z : Point) → StandsAt frame c z → FlowTo e x z → (k : ℕ) × StandsAt frame k x
  flow_from c (At u) (At w) at flow = from_variable c u w at flow
  flow_from c (At u) (Leaving w) at left = from_left at.1 u w at.2 left
  flow_from c (At u) Testing at test = from_tests u test
  flow_from c (Leaving u) z at same = (c, subst (StandsAt frame c) (sym same) at)
  flow_from c Testing z at same = (c, subst (StandsAt frame c) (sym same) at)

  -- the same of turns that keep a parameter
  pub kept_on : (parameter : VarId) (c : ℕ) (x z : Point) → StandsAt frame c x → KeptTo parameter e x z → (k : ℕ) × StandsAt frame k z
  kept_on parameter c (At u) (At w) at turn = ⊎_elim (λ kept. (c, subst (Stands frame.vars c) kept.1 at)) (λ flow. on_variable c u w at flow.1) turn
  kept_on parameter c (At u) (Leaving w) at left = on_left c u w at left
  kept_on parameter c (At u) Testing at test = on_tests u test
  kept_on parameter c (Leaving u) z at same = (c, subst (StandsAt frame c) same at)
  kept_on parameter c Testing z at same = (c, subst (StandsAt frame c) same at)

  pub kept_from : (parameter : VarId) (c : ℕ) (x z : Point) → StandsAt frame c z → KeptTo parameter e x z → (k : ℕ) × StandsAt frame k x
  kept_from parameter c (At u) (At w) at turn = ⊎_elim (λ kept. (c, subst (Stands frame.vars c) (sym kept.1) at)) (λ flow. from_variable c u w at flow.1) turn
  kept_from parameter c (At u) (Leaving w) at left = from_left at.1 u w at.2 left
  kept_from parameter c (At u) Testing at test = from_tests u test
  kept_from parameter c (Leaving u) z at same = (c, subst (StandsAt frame c) (sym same) at)
  kept_from parameter c Testing z at same = (c, subst (StandsAt frame c) (sym same) at)

-- what comes from an occurrence to where a loop is left shows that there is an exit
pub mark_leaves_exits : (e : Effect) (p : Place) (w : VarId) → MuLeaves e p w → exits_in true e ≡ true
mark_leaves_exits nothing p w h = absurd h
mark_leaves_exits (assign target values place) p w h = absurd h
mark_leaves_exits (next a b) p w h =
    ⊎_elim (λ one. or_left (exits_in true a) (exits_in true b) (mark_leaves_exits a p w one))
    (λ more. or_right (exits_in true a) (exits_in true b) (⊎_elim (λ q. leaves_exits b q.0 w q.2) (λ two. mark_leaves_exits b p w two) more)) h
mark_leaves_exits (choose tests a b place) p w h =
    ⊎_elim (λ one. or_left (exits_in true a) (exits_in true b) (mark_leaves_exits a p w one)) (λ two. or_right (exits_in true a) (exits_in true b) (mark_leaves_exits b p w two)) h
mark_leaves_exits (observe values) p w h = absurd h
mark_leaves_exits (repeat tests body place) p w h = absurd h
mark_leaves_exits (count parameter bounds body place) p w h = absurd h
mark_leaves_exits (endless body) p w h = absurd h
mark_leaves_exits (exit tests a b place) p w h = refl

pub mark_tests_exits : (e : Effect) (p : Place) → MuTests e p → exits_in true e ≡ true
mark_tests_exits nothing p h = absurd h
mark_tests_exits (assign target values place) p h = absurd h
mark_tests_exits (next a b) p h =
    ⊎_elim (λ one. or_left (exits_in true a) (exits_in true b) (mark_tests_exits a p one))
    (λ more. or_right (exits_in true a) (exits_in true b) (⊎_elim (λ q. tests_exits b q.0 q.2) (λ two. mark_tests_exits b p two) more)) h
mark_tests_exits (choose tests a b place) p h =
    ⊎_elim (λ one. or_left (exits_in true a) (exits_in true b) (mark_tests_exits a p one)) (λ two. or_right (exits_in true a) (exits_in true b) (mark_tests_exits b p two)) h
mark_tests_exits (observe values) p h = absurd h
mark_tests_exits (repeat tests body place) p h = absurd h
mark_tests_exits (count parameter bounds body place) p h = absurd h
mark_tests_exits (endless body) p h = absurd h
mark_tests_exits (exit tests a b place) p h = refl
