-- What each form of statement does between points.
use Rattle.std.proofs.Common.{◌≡◌, ◌↔◌, ◌⊎◌, Bool, true, false, List, refl, sym, ap, ◌∙◌, subst, inl, inr, ⊎_elim, None}
use Rattle.std.specs.Prelude.{◌||◌, IsTrue}
use Rattle.spx_text.specs.declared.place.Place.{Place}
use Rattle.spx_core.specs.declared.entity.VarId.{VarId}
use Rattle.spx_core.specs.Effects.{Effect, Read, nothing, assign, next, choose, observe, exit, chosen, sets}
use Rattle.spx_core.specs.Flow.{MayFlow, Leaves, ExitTests, Exited, Steps, stay, advance}
use Rattle.spx_core.specs.Marks.{Mu, MuLeaves, Occurs}
use Rattle.spx_passes.specs.Points.{Point, At, Leaving, Testing, Between, ComesTo, Ends, FlowTo, MarkTo, Out, Rounds, halt, round, is_testing, on_variables, reached}
use Rattle.spx_passes.specs.Loops.{read_points}
use Rattle.spx_passes.proofs.Moves.{rounds_on}

at_same : (v w : VarId) → At v ≡ At w → v ≡ w
at_same v w e = cc

left_same : (v w : VarId) → Leaving v ≡ Leaving w → v ≡ w
left_same v w e = cc

-- ---- statements that do nothing

pub flow_idle : (e : Effect) → ((u w : VarId) → MayFlow e u w ↔ (u ≡ w)) → ((u w : VarId) → ¬ Leaves e u w) → ((u : VarId) → ¬ ExitTests e u) → (x z : Point) → (x ≡ z) ↔ FlowTo e x z
flow_idle e itself left test (At u) (At w) = (λ h. (itself u w).1 (at_same u w h), λ h. ap At ((itself u w).0 h))
flow_idle e itself left test (At u) (Leaving w) = (λ h. absurd cc, λ h. absurd (left u w h))
flow_idle e itself left test (At u) Testing = (λ h. absurd cc, λ h. absurd (test u h))
flow_idle e itself left test (Leaving u) z = (λ h. h, λ h. h)
flow_idle e itself left test Testing z = (λ h. h, λ h. h)

pub nothing_idle : (x z : Point) → (x ≡ z) ↔ FlowTo nothing x z
nothing_idle = flow_idle nothing (λ u w. (λ h. h, λ h. h)) (λ u w h. h) (λ u h. h)

pub observe_idle : (values : List Read) (x z : Point) → (x ≡ z) ↔ FlowTo (observe values) x z
observe_idle values = flow_idle (observe values) (λ u w. (λ h. h, λ h. h)) (λ u w h. h) (λ u h. h)

no_target : (u w : VarId) (values : List Read) (place : Place) → MayFlow (assign None values place) u w ↔ (u ≡ w)
no_target u w values place = (λ h. ⊎_elim (λ q. absurd cc) (λ q. q.1) h, λ h. inr (refl, h))

pub assign_idle : (values : List Read) (place : Place) (x z : Point) → (x ≡ z) ↔ FlowTo (assign None values place) x z
assign_idle values place = flow_idle (assign None values place) (λ u w. no_target u w values place) (λ u w h. h) (λ u h. h)

pub nothing_marks : (p : Place) (z : Point) → ⊥ ↔ MarkTo nothing p z
nothing_marks p (At w) = (λ h. h, λ h. h)
nothing_marks p (Leaving w) = (λ h. h, λ h. h)
nothing_marks p Testing = (λ h. h, λ h. h)

pub observe_marks : (values : List Read) (p : Place) (z : Point) → ⊥ ↔ MarkTo (observe values) p z
observe_marks values p (At w) = (λ h. h, λ h. h)
observe_marks values p (Leaving w) = (λ h. h, λ h. h)
observe_marks values p Testing = (λ h. h, λ h. h)

pub assign_marks : (values : List Read) (place p : Place) (z : Point) → ⊥ ↔ MarkTo (assign None values place) p z
assign_marks values place p (At w) = (λ h. absurd h, λ h. absurd (let is = h.1 in cc))
assign_marks values place p (Leaving w) = (λ h. h, λ h. h)
assign_marks values place p Testing = (λ h. h, λ h. h)

pub nothing_comes : (p : Place) (z : Point) → ⊥ ↔ ComesTo nothing z p
nothing_comes p (At w) = (λ h. h, λ h. h)
nothing_comes p (Leaving w) = (λ h. h, λ h. h)
nothing_comes p Testing = (λ h. h, λ h. h)

pub observe_comes : (values : List Read) (p : Place) (z : Point) → ⊥ ↔ ComesTo (observe values) z p
observe_comes values p (At w) = (λ h. h, λ h. h)
observe_comes values p (Leaving w) = (λ h. h, λ h. h)
observe_comes values p Testing = (λ h. h, λ h. h)

pub assign_comes : (values : List Read) (place p : Place) (z : Point) → ⊥ ↔ ComesTo (assign None values place) z p
assign_comes values place p (At w) = (λ h. absurd h, λ h. absurd (let is = h.0 in cc))
assign_comes values place p (Leaving w) = (λ h. h, λ h. h)
assign_comes values place p Testing = (λ h. h, λ h. h)

pub assign_occurs : (values : List Read) (place p : Place) → ⊥ ↔ Occurs (assign None values place) p
assign_occurs values place p = (λ h. absurd h, λ h. absurd (let is = h.0 in cc))

-- ---- statements one after another

module _ (a b : Effect) where
  next_to : (x y z : Point) → FlowTo a x y → FlowTo b y z → FlowTo (next a b) x z
  next_to (At u) (At v) (At w) f g = (v, f, g)
  next_to (At u) (At v) (Leaving w) f g = inr (v, f, g)
  next_to (At u) (At v) Testing f g = inr (v, f, g)
  next_to (At u) (Leaving v) (At w) f g = absurd cc
  next_to (At u) (Leaving v) (Leaving w) f g = inl (subst (Leaves a u) (left_same v w g) f)
  next_to (At u) (Leaving v) Testing f g = absurd cc
  next_to (At u) Testing (At w) f g = absurd cc
  next_to (At u) Testing (Leaving w) f g = absurd cc
  next_to (At u) Testing Testing f g = inl f
  next_to (Leaving u) y z f g = subst (λ t. FlowTo b t z) (sym f) g
  next_to Testing y z f g = subst (λ t. FlowTo b t z) (sym f) g

  next_by : (x z : Point) → FlowTo (next a b) x z → (y : Point) × FlowTo a x y × FlowTo b y z
  next_by (At u) (At w) h = (At h.0, h.1, h.2)
  next_by (At u) (Leaving w) h = ⊎_elim (λ one. (Leaving w, one, refl)) (λ two. (At two.0, two.1, two.2)) h
  next_by (At u) Testing h = ⊎_elim (λ one. (Testing, one, refl)) (λ two. (At two.0, two.1, two.2)) h
  next_by (Leaving u) z h = (Leaving u, refl, h)
  next_by Testing z h = (Testing, refl, h)

  pub flow_next : (x z : Point) → ((y : Point) × FlowTo a x y × FlowTo b y z) ↔ FlowTo (next a b) x z
  flow_next x z = (λ h. next_to x h.0 z h.1 h.2, λ h. next_by x z h)

  pub flow_next_turned : (x z : Point) → ((y : Point) × FlowTo b y x × FlowTo a z y) ↔ FlowTo (next a b) z x
  flow_next_turned x z = (λ h. next_to z h.0 x h.2 h.1, λ h. let k = next_by z x h in (k.0, k.2, k.1))

  mark_to : (p : Place) (y z : Point) → MarkTo a p y → FlowTo b y z → MarkTo (next a b) p z
  mark_to p (At v) (At w) m f = inl (v, m, f)
  mark_to p (At v) (Leaving w) m f = inr (inl (v, m, f))
  mark_to p (At v) Testing m f = inr (inl (v, m, f))
  mark_to p (Leaving v) (At w) m f = absurd cc
  mark_to p (Leaving v) (Leaving w) m f = inl (subst (MuLeaves a p) (left_same v w f) m)
  mark_to p (Leaving v) Testing m f = absurd cc
  mark_to p Testing (At w) m f = absurd cc
  mark_to p Testing (Leaving w) m f = absurd cc
  mark_to p Testing Testing m f = inl m

  mark_later : (p : Place) (z : Point) → MarkTo b p z → MarkTo (next a b) p z
  mark_later p (At w) m = inr m
  mark_later p (Leaving w) m = inr (inr m)
  mark_later p Testing m = inr (inr m)

  mark_by : (p : Place) (z : Point) → MarkTo (next a b) p z → MarkTo b p z ⊎ ((y : Point) × MarkTo a p y × FlowTo b y z)
  mark_by p (At w) h = ⊎_elim (λ q. inr (At q.0, q.1, q.2)) (λ m. inl m) h
  mark_by p (Leaving w) h = ⊎_elim (λ m. inr (Leaving w, m, refl)) (λ more. ⊎_elim (λ q. inr (At q.0, q.1, q.2)) (λ m. inl m) more) h
  mark_by p Testing h = ⊎_elim (λ m. inr (Testing, m, refl)) (λ more. ⊎_elim (λ q. inr (At q.0, q.1, q.2)) (λ m. inl m) more) h

  pub mark_next : (p : Place) (z : Point) → (MarkTo b p z ⊎ ((y : Point) × MarkTo a p y × FlowTo b y z)) ↔ MarkTo (next a b) p z
  mark_next p z = (λ h. ⊎_elim (λ m. mark_later p z m) (λ q. mark_to p q.0 z q.1 q.2) h, λ h. mark_by p z h)

  comes_later : (z y : Point) (p : Place) → ComesTo b y p → FlowTo a z y → ComesTo (next a b) z p
  comes_later (At u) (At v) p m f = inr (v, f, m)
  comes_later (At u) (Leaving v) p m f = absurd m
  comes_later (At u) Testing p m f = absurd m
  comes_later (Leaving u) y p m f = subst (λ t. ComesTo b t p) (sym f) m
  comes_later Testing y p m f = subst (λ t. ComesTo b t p) (sym f) m

  comes_first : (z : Point) (p : Place) → ComesTo a z p → ComesTo (next a b) z p
  comes_first (At u) p m = inl m
  comes_first (Leaving u) p m = m
  comes_first Testing p m = m

  comes_by : (z : Point) (p : Place) → ComesTo (next a b) z p → ComesTo a z p ⊎ ((y : Point) × ComesTo b y p × FlowTo a z y)
  comes_by (At u) p h = ⊎_elim (λ m. inl m) (λ q. inr (At q.0, q.2, q.1)) h
  comes_by (Leaving u) p h = absurd h
  comes_by Testing p h = absurd h

  pub comes_next : (p : Place) (z : Point) → (ComesTo a z p ⊎ ((y : Point) × ComesTo b y p × FlowTo a z y)) ↔ ComesTo (next a b) z p
  comes_next p z = (λ h. ⊎_elim (λ m. comes_first z p m) (λ q. comes_later z q.0 p q.1 q.2) h, λ h. comes_by z p h)

  pub occurs_next : (p : Place) → (Occurs a p ⊎ Occurs b p) ↔ Occurs (next a b) p
  occurs_next p = (λ h. h, λ h. h)

  pub occurs_next_turned : (p : Place) → (Occurs b p ⊎ Occurs a p) ↔ Occurs (next a b) p
  occurs_next_turned p = (λ h. ⊎_elim (λ m. inr m) (λ m. inl m) h, λ h. ⊎_elim (λ m. inr m) (λ m. inl m) h)

-- ---- an arm

module _ (tests : List Read) (a b : Effect) (place : Place) (f : VarId → Bool) (known : (v : VarId) → f v ≡ (sets v a || sets v b)) where
  -- the other arm, or this one to its end, or what the condition reads
  abbrev pub Ways : Bool → Point → Point → Type 0
  Ways l x z = FlowTo b x z ⊎ (((y : Point) × FlowTo a x y × Ends l y z) ⊎ (IsTrue (read_points tests x) × IsTrue (reached l f z)))

  ended : (y z : Point) → Ends true y z → (v : VarId) × (y ≡ At v) × (Leaving v ≡ z)
  ended (At v) z e = (v, refl, e)
  ended (Leaving v) z e = absurd e
  ended Testing z e = absurd e

  choose_by : (x z : Point) → FlowTo (choose tests a b place) x z → Ways false x z
  choose_by (At u) (At w) h = ⊎_elim (λ one. inr (inl (At w, one, refl))) (λ more. ⊎_elim (λ two. inl two) (λ read. inr (inr (read.1, known w ∙ read.0))) more) h
  choose_by (At u) (Leaving w) h = ⊎_elim (λ one. inr (inl (Leaving w, one, refl))) (λ two. inl two) h
  choose_by (At u) Testing h = ⊎_elim (λ one. inr (inl (Testing, one, refl))) (λ two. inl two) h
  choose_by (Leaving u) z h = inl h
  choose_by Testing z h = inl h

  choose_first : (x z : Point) → FlowTo a x z → FlowTo (choose tests a b place) x z
  choose_first (At u) (At w) one = inl one
  choose_first (At u) (Leaving w) one = inl one
  choose_first (At u) Testing one = inl one
  choose_first (Leaving u) z h = h
  choose_first Testing z h = h

  choose_second : (x z : Point) → FlowTo b x z → FlowTo (choose tests a b place) x z
  choose_second (At u) (At w) two = inr (inl two)
  choose_second (At u) (Leaving w) two = inr two
  choose_second (At u) Testing two = inr two
  choose_second (Leaving u) z h = h
  choose_second Testing z h = h

  choose_read : (x z : Point) → IsTrue (read_points tests x) → IsTrue (on_variables f z) → FlowTo (choose tests a b place) x z
  choose_read (At u) (At w) read set = inr (inr (sym (known w) ∙ set, read))
  choose_read (At u) (Leaving w) read set = absurd cc
  choose_read (At u) Testing read set = absurd cc
  choose_read (Leaving u) z read set = absurd cc
  choose_read Testing z read set = absurd cc

  exit_by : (x z : Point) → FlowTo (exit tests a b place) x z → Ways true x z
  exit_by (At u) (At w) h = inl h
  exit_by (At u) (Leaving w) h = ⊎_elim (λ one. inr (inl (At w, one, refl))) (λ two. inl two) h
  exit_by (At u) Testing h = ⊎_elim (λ read. inr (inr (read, refl))) (λ two. inl two) h
  exit_by (Leaving u) z h = inl h
  exit_by Testing z h = inl h

  exit_second : (x z : Point) → FlowTo b x z → FlowTo (exit tests a b place) x z
  exit_second (At u) (At w) two = two
  exit_second (At u) (Leaving w) two = inr two
  exit_second (At u) Testing two = inr two
  exit_second (Leaving u) z h = h
  exit_second Testing z h = h

  exit_at : (x : Point) (v : VarId) → FlowTo a x (At v) → FlowTo (exit tests a b place) x (Leaving v)
  exit_at (At u) v one = inl one
  exit_at (Leaving u) v one = absurd cc
  exit_at Testing v one = absurd cc

  exit_first : (x y z : Point) → FlowTo a x y → Ends true y z → FlowTo (exit tests a b place) x z
  exit_first x y z one e =
      let k = ended y z e in
      subst (FlowTo (exit tests a b place) x) k.2 (exit_at x k.0 (subst (FlowTo a x) k.1 one))

  exit_read : (x z : Point) → IsTrue (read_points tests x) → IsTrue (is_testing z) → FlowTo (exit tests a b place) x z
  exit_read (At u) (At w) read test = absurd cc
  exit_read (At u) (Leaving w) read test = absurd cc
  exit_read (At u) Testing read test = inl read
  exit_read (Leaving u) z read test = absurd cc
  exit_read Testing z read test = absurd cc

  ways_to : (l : Bool) (x z : Point) → Ways l x z → FlowTo (chosen l tests a b place) x z
  ways_to false x z h =
      ⊎_elim (λ two. choose_second x z two)
      (λ more. ⊎_elim (λ one. choose_first x z (subst (FlowTo a x) one.2 one.1)) (λ read. choose_read x z read.0 read.1) more) h
  ways_to true x z h = ⊎_elim (λ two. exit_second x z two) (λ more. ⊎_elim (λ one. exit_first x one.0 z one.1 one.2) (λ read. exit_read x z read.0 read.1) more) h

  ways_by : (l : Bool) (x z : Point) → FlowTo (chosen l tests a b place) x z → Ways l x z
  ways_by false x z h = choose_by x z h
  ways_by true x z h = exit_by x z h

  pub flow_chosen : (l : Bool) (x z : Point) → ((FlowTo b x z ⊎ ((y : Point) × FlowTo a x y × Ends l y z)) ⊎ (IsTrue (read_points tests x) × IsTrue (reached l f z))) ↔ FlowTo (chosen l tests a b place) x z
  flow_chosen l x z = (
    λ h. ways_to l x z (⊎_elim (λ arms. ⊎_elim (λ two. inl two) (λ one. inr (inl one)) arms) (λ read. inr (inr read)) h),
    λ h. ⊎_elim (λ two. inl (inl two)) (λ more. ⊎_elim (λ one. inl (inr one)) (λ read. inr read) more) (ways_by l x z h),
  )

  pub flow_chosen_turned : (l : Bool) (x z : Point) → ((FlowTo b z x ⊎ ((y : Point) × Ends l y x × FlowTo a z y)) ⊎ (IsTrue (reached l f x) × IsTrue (read_points tests z))) ↔ FlowTo (chosen l tests a b place) z x
  flow_chosen_turned l x z = (
    λ h. ways_to l z x (⊎_elim (λ arms. ⊎_elim (λ two. inl two) (λ one. inr (inl (one.0, one.2, one.1))) arms) (λ read. inr (inr (read.1, read.0))) h),
    λ h. ⊎_elim (λ two. inl (inl two)) (λ more. ⊎_elim (λ one. inl (inr (one.0, one.2, one.1))) (λ read. inr (read.1, read.0)) more) (ways_by l z x h),
  )

  -- ---- its marks

  abbrev pub Marks : Bool → Place → Point → Type 0
  Marks l p z = MarkTo b p z ⊎ (((y : Point) × MarkTo a p y × Ends l y z) ⊎ ((place ≡ p) × IsTrue (reached l f z)))

  marks_by : (l : Bool) (p : Place) (z : Point) → MarkTo (chosen l tests a b place) p z → Marks l p z
  marks_by false p (At w) h = ⊎_elim (λ read. inr (inr (read.0, known w ∙ read.1))) (λ arms. ⊎_elim (λ one. inr (inl (At w, one, refl))) (λ two. inl two) arms) h
  marks_by false p (Leaving w) h = ⊎_elim (λ one. inr (inl (Leaving w, one, refl))) (λ two. inl two) h
  marks_by false p Testing h = ⊎_elim (λ one. inr (inl (Testing, one, refl))) (λ two. inl two) h
  marks_by true p (At w) h = inl h
  marks_by true p (Leaving w) h = ⊎_elim (λ one. inr (inl (At w, one, refl))) (λ two. inl two) h
  marks_by true p Testing h = ⊎_elim (λ is. inr (inr (is, refl))) (λ two. inl two) h

  marks_to : (l : Bool) (p : Place) (z : Point) → Marks l p z → MarkTo (chosen l tests a b place) p z
  marks_to false p (At w) h = ⊎_elim (λ two. inr (inr two)) (λ more. ⊎_elim (λ one. inr (inl (subst (MarkTo a p) one.2 one.1))) (λ read. inl (read.0, sym (known w) ∙ read.1)) more) h
  marks_to false p (Leaving w) h = ⊎_elim (λ two. inr two) (λ more. ⊎_elim (λ one. inl (subst (MarkTo a p) one.2 one.1)) (λ read. absurd (let is = read.1 in cc)) more) h
  marks_to false p Testing h = ⊎_elim (λ two. inr two) (λ more. ⊎_elim (λ one. inl (subst (MarkTo a p) one.2 one.1)) (λ read. absurd (let is = read.1 in cc)) more) h
  marks_to true p (At w) h =
      ⊎_elim (λ two. two) (λ more. ⊎_elim (λ one. absurd (let k = ended one.0 (At w) one.2 in let e = k.2 in cc)) (λ read. absurd (let is = read.1 in cc)) more) h
  marks_to true p (Leaving w) h =
      ⊎_elim (λ two. inr two)
      (λ more. ⊎_elim
      (λ one. let k = ended one.0 (Leaving w) one.2 in inl (subst (Mu a p) (left_same k.0 w k.2) (subst (MarkTo a p) k.1 one.1)))
      (λ read. absurd (let is = read.1 in cc))
      more)
      h
  marks_to true p Testing h =
      ⊎_elim (λ two. inr two) (λ more. ⊎_elim (λ one. absurd (let k = ended one.0 Testing one.2 in let e = k.2 in cc)) (λ read. inl read.0) more) h

  pub mark_chosen : (l : Bool) (p : Place) (z : Point) → ((MarkTo b p z ⊎ ((y : Point) × MarkTo a p y × Ends l y z)) ⊎ ((place ≡ p) × IsTrue (reached l f z))) ↔ MarkTo (chosen l tests a b place) p z
  mark_chosen l p z = (
    λ h. marks_to l p z (⊎_elim (λ arms. ⊎_elim (λ two. inl two) (λ one. inr (inl one)) arms) (λ read. inr (inr read)) h),
    λ h. ⊎_elim (λ two. inl (inl two)) (λ more. ⊎_elim (λ one. inl (inr one)) (λ read. inr read) more) (marks_by l p z h),
  )

-- what comes to occurrences, and where they stand
module _ (tests : List Read) (a b : Effect) (place : Place) where
  comes_to : (z : Point) (p : Place) → ((place ≡ p) × IsTrue (read_points tests z)) ⊎ (ComesTo a z p ⊎ ComesTo b z p) → (l : Bool) → ComesTo (chosen l tests a b place) z p
  comes_to (At u) p h false = h
  comes_to (At u) p h true = h
  comes_to (Leaving u) p h false = ⊎_elim (λ read. absurd (let is = read.1 in cc)) (λ more. ⊎_elim (λ m. m) (λ m. m) more) h
  comes_to (Leaving u) p h true = ⊎_elim (λ read. absurd (let is = read.1 in cc)) (λ more. ⊎_elim (λ m. m) (λ m. m) more) h
  comes_to Testing p h false = ⊎_elim (λ read. absurd (let is = read.1 in cc)) (λ more. ⊎_elim (λ m. m) (λ m. m) more) h
  comes_to Testing p h true = ⊎_elim (λ read. absurd (let is = read.1 in cc)) (λ more. ⊎_elim (λ m. m) (λ m. m) more) h

  comes_from : (z : Point) (p : Place) (l : Bool) → ComesTo (chosen l tests a b place) z p → ((place ≡ p) × IsTrue (read_points tests z)) ⊎ (ComesTo a z p ⊎ ComesTo b z p)
  comes_from (At u) p false h = h
  comes_from (At u) p true h = h
  comes_from (Leaving u) p false h = absurd h
  comes_from (Leaving u) p true h = absurd h
  comes_from Testing p false h = absurd h
  comes_from Testing p true h = absurd h

  pub comes_chosen : (l : Bool) (p : Place) (z : Point) → ((ComesTo b z p ⊎ ComesTo a z p) ⊎ ((place ≡ p) × IsTrue (read_points tests z))) ↔ ComesTo (chosen l tests a b place) z p
  comes_chosen l p z = (
    λ h. comes_to z p (⊎_elim (λ arms. inr (⊎_elim (λ two. inr two) (λ one. inl one) arms)) (λ read. inl read) h) l,
    λ h. ⊎_elim (λ read. inr read) (λ arms. inl (⊎_elim (λ one. inr one) (λ two. inl two) arms)) (comes_from z p l h),
  )

  occurs_to : (p : Place) (l : Bool) → (place ≡ p) ⊎ (Occurs a p ⊎ Occurs b p) → Occurs (chosen l tests a b place) p
  occurs_to p false h = h
  occurs_to p true h = h

  occurs_from : (p : Place) (l : Bool) → Occurs (chosen l tests a b place) p → (place ≡ p) ⊎ (Occurs a p ⊎ Occurs b p)
  occurs_from p false h = h
  occurs_from p true h = h

  pub occurs_chosen : (l : Bool) (p : Place) → ((Occurs b p ⊎ Occurs a p) ⊎ (place ≡ p)) ↔ Occurs (chosen l tests a b place) p
  occurs_chosen l p = (
    λ h. occurs_to p l (⊎_elim (λ arms. inr (⊎_elim (λ two. inr two) (λ one. inl one) arms)) (λ is. inl is) h),
    λ h. ⊎_elim (λ is. inr is) (λ arms. inl (⊎_elim (λ one. inr one) (λ two. inl two) arms)) (occurs_from p l h),
  )

-- ---- turns

module _ (R L : VarId → VarId → Type 0) (T : VarId → Type 0) where
  -- what turns lead to from a variable
  abbrev pub Ran : VarId → Point → Type 0
  Ran u (At w) = Steps R u w
  Ran u (Leaving w) = (v : VarId) × Steps R u v × L v w
  Ran u Testing = (v : VarId) × Steps R u v × T v

  pub left_stays : {x z : Point} → Rounds (λ x z. Between R L T x z) x z → (u : VarId) → Leaving u ≡ x → Leaving u ≡ z
  left_stays halt u e = e
  left_stays (round {x = x} {y = y} r rest) u e = left_stays rest u (subst (λ t. Between R L T t y) (sym e) r)

  pub test_stays : {x z : Point} → Rounds (λ x z. Between R L T x z) x z → Testing ≡ x → Testing ≡ z
  test_stays halt e = e
  test_stays (round {x = x} {y = y} r rest) e = test_stays rest (subst (λ t. Between R L T t y) (sym e) r)

  after_turn : (u v : VarId) → R u v → (z : Point) → Ran v z → Ran u z
  after_turn u v r (At w) s = advance r s
  after_turn u v r (Leaving w) s = (s.0, advance r s.1, s.2)
  after_turn u v r Testing s = (s.0, advance r s.1, s.2)

  first_turn : (u : VarId) (y z : Point) → Between R L T (At u) y → Rounds (λ x z. Between R L T x z) y z → ((v : VarId) → At v ≡ y → Ran v z) → Ran u z
  first_turn u (At v) z r rest more = after_turn u v r z (more v refl)
  first_turn u (Leaving v) z r rest more = subst (Ran u) (left_stays rest v refl) (u, stay, r)
  first_turn u Testing z r rest more = subst (Ran u) (test_stays rest refl) (u, stay, r)

  pub ran : {x z : Point} → Rounds (λ x z. Between R L T x z) x z → (u : VarId) → At u ≡ x → Ran u z
  ran (halt {x = x}) u e = subst (Ran u) e stay
  ran (round {x = x} {y = y} {z = z} r rest) u e = first_turn u y z (subst (λ t. Between R L T t y) (sym e) r) rest (λ v same. ran rest v same)

  pub steps_rounds : {u w : VarId} → Steps R u w → Rounds (λ x z. Between R L T x z) (At u) (At w)
  steps_rounds stay = halt
  steps_rounds (advance r rest) = round r (steps_rounds rest)

  pub rounds_left : (u v w : VarId) → Steps R u v → L v w → Rounds (λ x z. Between R L T x z) (At u) (Leaving w)
  rounds_left u v w s l = rounds_on (steps_rounds s) (round l halt)

  pub rounds_test : (u v : VarId) → Steps R u v → T v → Rounds (λ x z. Between R L T x z) (At u) Testing
  rounds_test u v s t = rounds_on (steps_rounds s) (round t halt)

  -- the ways out of a loop whose turns these are
  module _ (has stays : Bool) (f : VarId → Bool) (lefts : (v w : VarId) → L v w → IsTrue has) (tests : (v : VarId) → T v → IsTrue has) where
    abbrev pub LeftAt : VarId → VarId → Type 0
    LeftAt u w = (IsTrue stays × Steps R u w) ⊎ Exited (Steps R) L T (f w) u w

    out_of : (u w : VarId) (y : Point) → Rounds (λ x z. Between R L T x z) (At u) y → Out has stays f y (At w) → LeftAt u w
    out_of u w (At v) rounds o = inl (o.0, subst (Steps R u) o.1 (ran rounds u refl))
    out_of u w (Leaving v) rounds o = let q = ran rounds u refl in inr (q.0, q.1, inl (subst (L q.0) o.1 q.2))
    out_of u w Testing rounds o = let q = ran rounds u refl in inr (q.0, q.1, inr (o.1, q.2))

    pub loop_left : (u w : VarId) → ((y : Point) × Rounds (λ x z. Between R L T x z) (At u) y × Out has stays f y (At w)) ↔ LeftAt u w
    loop_left u w = (
      λ h. out_of u w h.0 h.1 h.2,
      λ h. ⊎_elim
          (λ s. (At w, steps_rounds s.1, (s.0, refl)))
          (λ q. ⊎_elim (λ l. (Leaving w, rounds_left u q.0 w q.1 l, (lefts q.0 w l, refl))) (λ t. (Testing, rounds_test u q.0 q.1 t.1, (tests q.0 t.1, t.0))) q.2)
          h,
    )
