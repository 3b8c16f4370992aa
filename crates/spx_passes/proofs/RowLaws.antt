-- The rows of arms, of exits and of the ways out of a loop.
use Rattle.std.proofs.Common.{◌≡◌, ◌≢◌, ◌↔◌, ◌⊎◌, ℕ, ◌<◌, ◌≤◌, ◌+◌, Bool, true, false, List, [], ◌∷◌, ◌++◌, length, All, arith, refl, sym, ap, ◌∙◌, subst, inl, inr, ⊎_elim}
use Rattle.std.specs.Prelude.{◌==◌, Contains, IsTrue}
use Rattle.std.specs.List.{IsDistinct}
use Rattle.std.proofs.lemmas.Bool.{cases_lt}
use Rattle.std.proofs.lemmas.List.Elements.{All-cons, All-nil, All-push, Contains-push, Contains-push_cases}
use Rattle.std.proofs.lemmas.Option.{slice_get_within}
use Rattle.spx_text.specs.declared.place.Place.{Place}
use Rattle.spx_core.specs.declared.entity.VarId.{VarId}
use Rattle.spx_rows.specs.Relations.{Matrix, Gains, Has, Holds, Of, Star, stop, go_on}
use Rattle.spx_passes.specs.declared.occurrence.Occurrence.{Occurrence}
use Rattle.spx_passes.specs.declared.frame.Frame.{Frame}
use Rattle.spx_passes.specs.Occurrences.{AreRows}
use Rattle.spx_passes.specs.Points.{Point, At, Leaving, Testing, Ends, IsVariable, Leads, Out, Places, StandsAt, Takes, is_testing, on_variables, size_of}
use Rattle.spx_passes.specs.Positions.{Stands}
use Rattle.spx_passes.specs.Steps.{Spreads}
use Rattle.spx_passes.proofs.Occurrences.{lists_push, relates_push}
use Rattle.spx_passes.proofs.PointLaws.{one_place_of, rows_led, size_with}
use Rattle.spx_passes.proofs.PositionLaws.{one_place}

-- ---- rows that are moved

-- numbers from `from` on stand with those from `to` on
abbrev pub Moved : (from to count : ℕ) → Matrix → Matrix → Type 0
Moved from to count rows new = (a b : ℕ) → Holds new a b ↔ ((k : ℕ) × (k < count) × (from + k ≡ a) × Holds rows (to + k) b)

pub moved_none : (from to : ℕ) (rows new : Matrix) → ((a b : ℕ) → ¬ Holds new a b) → Moved from to 0 rows new
moved_none from to rows new none a b = (λ h. absurd (none a b h), λ h. absurd (let less = h.1 in omega (arith, less)))

pub moved_more : (from to k : ℕ) (rows old new : Matrix) → Moved from to k rows old → Gains old new (λ a b. (from + k ≡ a) × Holds rows (to + k) b) → Moved from to (k + 1) rows new
moved_more from to k rows old new before added a b = (
  λ h. ⊎_elim (λ earlier. let j = (before a b).0 earlier in let less = j.1 in (j.0, omega (arith, less), j.2, j.3)) (λ q. (k, omega arith, q.0, q.1)) ((added a b).0 h),
  λ h. (added a b).1 (⊎_elim
      (λ less. inl ((before a b).1 (h.0, less, h.2, h.3)))
      (λ past. let less = h.1 in let same : h.0 ≡ k = omega (arith, less, past) in inr (subst (λ j. from + j ≡ a) same h.2, subst (λ j. Holds rows (to + j) b) same h.3))
      (cases_lt h.0 k)),
)

module _ (frame : Frame) (once : IsDistinct ◌==◌ frame.vars) (rows new : Matrix) where
  variable_at : (a b : ℕ) (x : Point) → StandsAt frame a x → a < length frame.vars → Holds rows a b → Leads frame (λ z. IsVariable x × (x ≡ z)) rows b
  variable_at a b (At v) at less h = (a, At v, at, (tt, refl), h)
  variable_at a b (Leaving v) at less h = absurd (let e = at.3 in omega (arith, e, less))
  variable_at a b Testing at less h = absurd (let e = at.1 in omega (arith, e, less))

  variable_within : (a : ℕ) (x : Point) → StandsAt frame a x → IsVariable x → a < length frame.vars
  variable_within a (At v) at is = slice_get_within frame.vars a v.0 at
  variable_within a (Leaving v) at is = absurd is
  variable_within a Testing at is = absurd is

  pub takes_variables : Moved 0 0 (length frame.vars) rows new → Takes frame (λ x z. IsVariable x × (x ≡ z)) rows new
  takes_variables moved a b x at = (
    λ h.
        let k = (moved a b).0 h in
        let e = k.2 in
        let less = k.1 in
        let same : k.0 ≡ a = omega (arith, e) in
        let here : 0 + k.0 ≡ a = e in
        variable_at a b x at (subst (λ j. j < length frame.vars) same less) (subst (λ j. Holds rows j b) here k.3),
    λ h.
        let is = h.3 in
        let same = one_place_of frame h.0 a x once (subst (StandsAt frame h.0) (sym is.1) h.2) at in
        let here : 0 + a ≡ a = omega arith in
        (moved a b).1 (a, variable_within a x at is.0, here, subst (λ j. Holds rows j b) (same ∙ sym here) h.4),
  )

  module _ (exits : IsTrue frame.has_exits) where
    pub takes_left : Moved 0 (length frame.vars) (length frame.vars) rows new → Takes frame (λ x z. Ends true x z) rows new
    takes_left moved a b (At v) at = (
      λ h.
          let k = (moved a b).0 h in
          let e = k.2 in
          let same : k.0 ≡ a = omega (arith, e) in
          (length frame.vars + k.0, Leaving v, (exits, k.0, subst (λ j. Stands frame.vars j v) (sym same) at, refl), refl, k.3),
      λ h.
          let left = subst (StandsAt frame h.0) (sym h.3) h.2 in
          let same = one_place frame.vars left.1 a v once left.2 at in
          let here : 0 + a ≡ a = omega arith in
          (moved a b).1 (a, slice_get_within frame.vars a v.0 at, here, subst (λ j. Holds rows j b) (left.3 ∙ ap (λ j. length frame.vars + j) same) h.4),
    )
    takes_left moved a b (Leaving v) at = (
      λ h. absurd (let k = (moved a b).0 h in let less = k.1 in let e = k.2 in let d = at.3 in omega (arith, less, e, d)),
      λ h. absurd h.3,
    )
    takes_left moved a b Testing at = (
      λ h. absurd (let k = (moved a b).0 h in let less = k.1 in let e = k.2 in let d = at.1 in omega (arith, less, e, d)),
      λ h. absurd h.3,
    )

    left_of_end : (z : Point) (v : VarId) → Ends true z (Leaving v) → z ≡ At v
    left_of_end (At w) v e = cc
    left_of_end (Leaving w) v e = absurd e
    left_of_end Testing v e = absurd e

    no_end_at : (z : Point) (v : VarId) → ¬ Ends true z (At v)
    no_end_at (At w) v e = absurd cc
    no_end_at (Leaving w) v e = e
    no_end_at Testing v e = e

    no_end_test : (z : Point) → ¬ Ends true z Testing
    no_end_test (At w) e = absurd cc
    no_end_test (Leaving w) e = e
    no_end_test Testing e = e

    pub takes_as_left : Moved (length frame.vars) 0 (length frame.vars) rows new → Takes frame (λ x z. Ends true z x) rows new
    takes_as_left moved a b (At v) at = (
      λ h. absurd (let k = (moved a b).0 h in let e = k.2 in let less = slice_get_within frame.vars a v.0 at in omega (arith, e, less)),
      λ h. absurd (no_end_at h.1 v h.3),
    )
    takes_as_left moved a b (Leaving v) at = (
      λ h.
          let k = (moved a b).0 h in
          let e = k.2 in
          let d = at.3 in
          let same : at.1 ≡ k.0 = omega (arith, e, d) in
          let here : 0 + k.0 ≡ k.0 = omega arith in
          (k.0, At v, subst (λ j. Stands frame.vars j v) same at.2, refl, subst (λ j. Holds rows j b) here k.3),
      λ h.
          let z = left_of_end h.1 v h.3 in
          let same = one_place frame.vars h.0 at.1 v once (subst (StandsAt frame h.0) z h.2) at.2 in
          let here : 0 + at.1 ≡ at.1 = omega arith in
          (moved a b).1 (at.1, slice_get_within frame.vars at.1 v.0 at.2, sym at.3, subst (λ j. Holds rows j b) (same ∙ sym here) h.4),
    )
    takes_as_left moved a b Testing at = (
      λ h. absurd (let k = (moved a b).0 h in let less = k.1 in let e = k.2 in let d = at.1 in omega (arith, less, e, d)),
      λ h. absurd (no_end_test h.1 h.3),
    )

  pub takes_copy : ((a b : ℕ) → Holds new a b ↔ Holds rows a b) → Takes frame (λ x z. Ends false x z) rows new
  takes_copy same a b x at = (
    λ h. (a, x, at, refl, (same a b).0 h),
    λ h. (same a b).1 (subst (λ k. Holds rows k b) (one_place_of frame h.0 a x once (subst (StandsAt frame h.0) (sym h.3) h.2) at) h.4),
  )

pub takes_itself : (frame : Frame) → IsDistinct ◌==◌ frame.vars → (rows : Matrix) → Takes frame (λ x z. Ends false z x) rows rows
takes_itself frame once rows a b x at = (
  λ h. (a, x, at, refl, h),
  λ h. subst (λ k. Holds rows k b) (one_place_of frame h.0 a x once (subst (StandsAt frame h.0) h.3 h.2) at) h.4,
)

-- ---- the position of conditions

pub testing_places : (frame : Frame) → IsTrue frame.has_exits → Places frame ((length frame.vars + length frame.vars) ∷ []) is_testing
testing_places frame exits k (At v) at = (
  λ c. absurd (let e = only k c in let less = slice_get_within frame.vars k v.0 at in omega (arith, e, less)),
  λ h. absurd cc,
)
  where
    only : (k : ℕ) → Contains ((length frame.vars + length frame.vars) ∷ []) k → k ≡ length frame.vars + length frame.vars
    only k c = ⊎_elim (λ none. absurd (omega (arith, none.1))) (λ e. sym e) (Contains-push_cases [] (length frame.vars + length frame.vars) k c)
testing_places frame exits k (Leaving v) at = (
  λ c. absurd (let e = only k c in let d = at.3 in let less = slice_get_within frame.vars at.1 v.0 at.2 in omega (arith, e, d, less)),
  λ h. absurd cc,
)
  where
    only : (k : ℕ) → Contains ((length frame.vars + length frame.vars) ∷ []) k → k ≡ length frame.vars + length frame.vars
    only k c = ⊎_elim (λ none. absurd (omega (arith, none.1))) (λ e. sym e) (Contains-push_cases [] (length frame.vars + length frame.vars) k c)
testing_places frame exits k Testing at = (λ c. refl, λ h. subst (Contains ((length frame.vars + length frame.vars) ∷ [])) (sym at.1) (Contains-push [] (length frame.vars + length frame.vars)))

pub testing_within : (frame : Frame) → IsTrue frame.has_exits → All (λ k. k < size_of frame) ((length frame.vars + length frame.vars) ∷ [])
testing_within frame exits =
    let size = size_with frame exits in
    All-cons (λ k. k < size_of frame) (length frame.vars + length frame.vars) [] (omega (arith, size)) (All-nil (λ k. k < size_of frame))

-- ---- what is read at an occurrence

pub spreads : (frame : Frame) (f g : Point → Bool) (place : Place) (m old new : Matrix) (before : List Occurrence) (froms tos : List ℕ) (o : Occurrence) → All (λ j. j < size_of frame) froms → Places frame froms f → Places frame tos g
    → length new ≡ length old → Gains old new (λ p q. Contains tos p × Of froms m q) → AreRows (size_of frame) before → length o.vars ≡ size_of frame → ((q : ℕ) → Has o.vars q ↔ Of froms m q) → o.place ≡ place
    → Spreads frame f g place m old new before (before ++ o ∷ [])
spreads frame f g place m old new before froms tos o within exact_from exact_to size added rows long row here = record {
  size = size;
  rows = All-push (λ (q : Occurrence). length q.vars ≡ size_of frame) before o rows long;
  pairs = λ p q x at. (
    λ h. ⊎_elim (λ old. inl old) (λ k. inr ((exact_to p x at).0 k.0, (union q).0 k.1)) ((added p q).0 h),
    λ h. (added p q).1 (⊎_elim (λ old. inl old) (λ k. inr ((exact_to p x at).1 k.0, (union q).1 k.1)) h),
  );
  related = λ p q. (
    λ h. ⊎_elim (λ old. inl old) (λ k. inr (sym here ∙ k.0, (union q).0 ((row q).0 k.1))) ((relates_push before o p q).0 h),
    λ h. (relates_push before o p q).1 (⊎_elim (λ old. inl old) (λ k. inr (here ∙ k.0, (row q).1 ((union q).1 k.1))) h),
  );
  listed = λ p. (
    λ h. ⊎_elim (λ old. inl old) (λ is. inr (sym here ∙ is)) ((lists_push before o p).0 h),
    λ h. (lists_push before o p).1 (⊎_elim (λ old. inl old) (λ is. inr (here ∙ is)) h),
  );
}
  where
    union : (q : ℕ) → Of froms m q ↔ Leads frame (λ z. IsTrue (f z)) m q
    union = rows_led frame f froms within exact_from m

-- ---- the ways out of a loop

abbrev pub OutParts : (stays : Bool) → (VarId → Bool) → Point → Point → Type 0
OutParts stays f x z = (IsTrue stays × IsVariable x × (x ≡ z)) ⊎ (Ends true z x ⊎ (IsTrue (is_testing x) × IsTrue (on_variables f z)))

out_split : (has stays : Bool) (f : VarId → Bool) (x z : Point) → IsTrue has → Out has stays f x z ↔ OutParts stays f x z
out_split has stays f (At v) (At w) is = (λ h. inl (h.0, tt, ap At h.1), λ h. ⊎_elim (λ q. (q.0, let e = q.2 in cc)) (λ more. ⊎_elim (λ e. absurd cc) (λ q. absurd (let t = q.0 in cc)) more) h)
out_split has stays f (Leaving v) (At w) is = (
  λ h. inr (inl (ap Leaving (sym h.1))),
  λ h. ⊎_elim (λ q. absurd q.1) (λ more. ⊎_elim (λ e. (is, let d = e in cc)) (λ q. absurd (let t = q.0 in cc)) more) h,
)
out_split has stays f Testing (At w) is = (λ h. inr (inr (refl, h.1)), λ h. ⊎_elim (λ q. absurd q.1) (λ more. ⊎_elim (λ e. absurd cc) (λ q. (is, q.1)) more) h)
out_split has stays f (At v) (Leaving w) is = (λ h. absurd h, λ h. ⊎_elim (λ q. absurd (let e = q.2 in cc)) (λ more. ⊎_elim (λ e. e) (λ q. absurd (let t = q.0 in cc)) more) h)
out_split has stays f (Leaving v) (Leaving w) is = (λ h. absurd h, λ h. ⊎_elim (λ q. absurd q.1) (λ more. ⊎_elim (λ e. e) (λ q. absurd (let t = q.0 in cc)) more) h)
out_split has stays f Testing (Leaving w) is = (λ h. absurd h, λ h. ⊎_elim (λ q. absurd q.1) (λ more. ⊎_elim (λ e. e) (λ q. absurd (let t = q.1 in cc)) more) h)
out_split has stays f (At v) Testing is = (λ h. absurd h, λ h. ⊎_elim (λ q. absurd (let e = q.2 in cc)) (λ more. ⊎_elim (λ e. e) (λ q. absurd (let t = q.0 in cc)) more) h)
out_split has stays f (Leaving v) Testing is = (λ h. absurd h, λ h. ⊎_elim (λ q. absurd q.1) (λ more. ⊎_elim (λ e. e) (λ q. absurd (let t = q.0 in cc)) more) h)
out_split has stays f Testing Testing is = (λ h. absurd h, λ h. ⊎_elim (λ q. absurd q.1) (λ more. ⊎_elim (λ e. e) (λ q. absurd (let t = q.1 in cc)) more) h)

-- where there are no exits
out_plain : (has stays : Bool) (f : VarId → Bool) (x z : Point) → has ≡ false → Out has stays f x z ↔ (IsTrue stays × IsVariable x × (x ≡ z))
out_plain has stays f (At v) (At w) none = (λ h. (h.0, tt, ap At h.1), λ h. (h.0, let e = h.2 in cc))
out_plain has stays f (Leaving v) (At w) none = (λ h. absurd (let is = h.0 in cc), λ h. absurd h.1)
out_plain has stays f Testing (At w) none = (λ h. absurd (let is = h.0 in cc), λ h. absurd h.1)
out_plain has stays f (At v) (Leaving w) none = (λ h. absurd h, λ h. absurd (let e = h.2 in cc))
out_plain has stays f (Leaving v) (Leaving w) none = (λ h. absurd h, λ h. absurd h.1)
out_plain has stays f Testing (Leaving w) none = (λ h. absurd h, λ h. absurd h.1)
out_plain has stays f (At v) Testing none = (λ h. absurd h, λ h. absurd (let e = h.2 in cc))
out_plain has stays f (Leaving v) Testing none = (λ h. absurd h, λ h. absurd h.1)
out_plain has stays f Testing Testing none = (λ h. absurd h, λ h. absurd h.1)

turned_variable : (x z : Point) → IsVariable x → x ≡ z → IsVariable z
turned_variable x z is e = subst IsVariable e is

module _ (frame : Frame) (stays : Bool) (f : VarId → Bool) (rows head : Matrix) (first : Takes frame (λ x z. IsTrue stays × IsVariable x × (x ≡ z)) rows head) where
  pub takes_out_plain : frame.has_exits ≡ false → Takes frame (λ x z. Out frame.has_exits stays f x z) rows head
  takes_out_plain none a b x at = (
    λ h. let k = (first a b x at).0 h in (k.0, k.1, k.2, (out_plain frame.has_exits stays f x k.1 none).1 k.3, k.4),
    λ h. (first a b x at).1 (h.0, h.1, h.2, (out_plain frame.has_exits stays f x h.1 none).0 h.3, h.4),
  )

  pub takes_in_plain : frame.has_exits ≡ false → Takes frame (λ x z. Out frame.has_exits stays f z x) rows head
  takes_in_plain none a b x at = (
    λ h.
        let k = (first a b x at).0 h in
        let q = k.3 in
        (k.0, k.1, k.2, (out_plain frame.has_exits stays f k.1 x none).1 (q.0, turned_variable x k.1 q.1 q.2, sym q.2), k.4),
    λ h.
        let q = (out_plain frame.has_exits stays f h.1 x none).0 h.3 in
        (first a b x at).1 (h.0, h.1, h.2, (q.0, turned_variable h.1 x q.1 q.2, sym q.2), h.4),
  )

  module _ (exits : IsTrue frame.has_exits) (left mid new : Matrix) (union : Gains head mid (Holds left)) (froms tos : List ℕ) (within : All (λ j. j < size_of frame) froms) (added : Gains mid new (λ p q. Contains tos p × Of froms rows q)) where
    pub takes_out : Takes frame (λ x z. Ends true z x) rows left → Places frame tos is_testing → Places frame froms (on_variables f) → Takes frame (λ x z. Out frame.has_exits stays f x z) rows new
    takes_out ended tests set a b x at = (
      λ h. ⊎_elim
          (λ earlier. ⊎_elim
          (λ l. let k = (first a b x at).0 l in (k.0, k.1, k.2, (out_split frame.has_exits stays f x k.1 exits).1 (inl k.3), k.4))
          (λ r. let k = (ended a b x at).0 r in (k.0, k.1, k.2, (out_split frame.has_exits stays f x k.1 exits).1 (inr (inl k.3)), k.4))
          ((union a b).0 earlier))
          (λ q.
          let k = (rows_led frame (on_variables f) froms within set rows b).0 q.1 in
          (k.0, k.1, k.2, (out_split frame.has_exits stays f x k.1 exits).1 (inr (inr ((tests a x at).0 q.0, k.3))), k.4))
          ((added a b).0 h),
      λ h. (added a b).1 (⊎_elim
          (λ l. inl ((union a b).1 (inl ((first a b x at).1 (h.0, h.1, h.2, l, h.4)))))
          (λ more. ⊎_elim
          (λ r. inl ((union a b).1 (inr ((ended a b x at).1 (h.0, h.1, h.2, r, h.4)))))
          (λ q. inr ((tests a x at).1 q.0, (rows_led frame (on_variables f) froms within set rows b).1 (h.0, h.1, h.2, q.1, h.4)))
          more)
          ((out_split frame.has_exits stays f x h.1 exits).0 h.3)),
    )

    pub takes_in : Takes frame (λ x z. Ends true x z) rows left → Places frame froms is_testing → Places frame tos (on_variables f) → Takes frame (λ x z. Out frame.has_exits stays f z x) rows new
    takes_in ended tests set a b x at = (
      λ h. ⊎_elim
          (λ earlier. ⊎_elim
          (λ l.
          let k = (first a b x at).0 l in
          let q = k.3 in
          (k.0, k.1, k.2, (out_split frame.has_exits stays f k.1 x exits).1 (inl (q.0, turned_variable x k.1 q.1 q.2, sym q.2)), k.4))
          (λ r. let k = (ended a b x at).0 r in (k.0, k.1, k.2, (out_split frame.has_exits stays f k.1 x exits).1 (inr (inl k.3)), k.4))
          ((union a b).0 earlier))
          (λ q.
          let k = (rows_led frame is_testing froms within tests rows b).0 q.1 in
          (k.0, k.1, k.2, (out_split frame.has_exits stays f k.1 x exits).1 (inr (inr (k.3, (set a x at).0 q.0))), k.4))
          ((added a b).0 h),
      λ h. (added a b).1 (⊎_elim
          (λ l. inl ((union a b).1 (inl ((first a b x at).1 (h.0, h.1, h.2, (l.0, turned_variable h.1 x l.1 l.2, sym l.2), h.4)))))
          (λ more. ⊎_elim
          (λ r. inl ((union a b).1 (inr ((ended a b x at).1 (h.0, h.1, h.2, r, h.4)))))
          (λ q. inr ((set a x at).1 q.1, (rows_led frame is_testing froms within tests rows b).1 (h.0, h.1, h.2, q.0, h.4)))
          more)
          ((out_split frame.has_exits stays f h.1 x exits).0 h.3)),
    )

-- any number of pairs of the same
pub star_same : (m n : Matrix) → ((a b : ℕ) → Holds m a b → Holds n a b) → {a b : ℕ} → Star (Holds m) a b → Star (Holds n) a b
star_same m n same stop = stop
star_same m n same (go_on {u = u} {v = v} r rest) = go_on (same u v r) (star_same m n same rest)

-- ---- rows that are replaced one after another

abbrev pub ReplacedBelow : ℕ → (old head new : Matrix) → Type 0
ReplacedBelow count old head new = (a b : ℕ) → Holds new a b ↔ (((a < count) × Holds head a b) ⊎ ((count ≤ a) × Holds old a b))

pub replace_none : (old head : Matrix) → ReplacedBelow 0 old head old
replace_none old head a b = (λ h. inr (omega arith, h), λ h. ⊎_elim (λ q. absurd (let less = q.0 in omega (arith, less))) (λ q. q.1) h)

pub replace_more : (k : ℕ) (old head mid cleared new : Matrix) → ReplacedBelow k old head mid → ((a b : ℕ) → Holds cleared a b ↔ ((k ≢ a) × Holds mid a b)) → Gains cleared new (λ a b. (k ≡ a) × Holds head k b) → ReplacedBelow (k + 1) old head new
replace_more k old head mid cleared new before clear added a b = (
  λ h. ⊎_elim
      (λ kept.
      let c = (clear a b).0 kept in
      ⊎_elim (λ q. let less = q.0 in inl (omega (arith, less), q.1)) (λ q. inr (above k a c.0 q.0, q.1)) ((before a b).0 c.1))
      (λ q. let e = q.0 in inl (omega (arith, e), subst (λ j. Holds head j b) e q.1))
      ((added a b).0 h),
  λ h. (added a b).1 (⊎_elim
      (λ q. ⊎_elim
      (λ less. inl ((clear a b).1 ((λ e. omega (arith, e, less)), (before a b).1 (inl (less, q.1)))))
      (λ past. let less = q.0 in let same : a ≡ k = omega (arith, less, past) in inr (sym same, subst (λ j. Holds head j b) same q.1))
      (cases_lt a k))
      (λ q. let past = q.0 in inl ((clear a b).1 ((λ e. omega (arith, e, past)), (before a b).1 (inr (omega (arith, past), q.1)))))
      h),
)
  where
    above : (k a : ℕ) → k ≢ a → k ≤ a → k + 1 ≤ a
    above k a differ le = ⊎_elim (λ less. omega (arith, less)) (λ past. absurd (differ (omega (arith, le, past)))) (cases_lt k a)

-- ---- the rows of variables, if any

pub takes_head : (frame : Frame) (stays : Bool) (rows kept : Matrix) → stays ≡ true → Takes frame (λ x z. IsVariable x × (x ≡ z)) rows kept → Takes frame (λ x z. IsTrue stays × IsVariable x × (x ≡ z)) rows kept
takes_head frame stays rows kept is takes a b x at = (
  λ h. let k = (takes a b x at).0 h in let q = k.3 in (k.0, k.1, k.2, (is, q.0, q.1), k.4),
  λ h. let q = h.3 in (takes a b x at).1 (h.0, h.1, h.2, (q.1, q.2), h.4),
)

pub takes_nothing : (frame : Frame) (stays : Bool) (rows none : Matrix) → stays ≡ false → ((a b : ℕ) → ¬ Holds none a b) → Takes frame (λ x z. IsTrue stays × IsVariable x × (x ≡ z)) rows none
takes_nothing frame stays rows none is empty a b x at = (λ h. absurd (empty a b h), λ h. absurd (let q = h.3 in let stay = q.0 in cc))
