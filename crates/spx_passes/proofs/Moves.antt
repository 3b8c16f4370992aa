-- How steps of a pass are put together.
use Rattle.std.proofs.Common.{◌≡◌, ◌↔◌, ◌⊎◌, ℕ, ◌<◌, ◌≤◌, Bool, List, [], length, refl, sym, ◌∙◌, subst, inl, inr, ⊎_elim, arith}
use Rattle.std.specs.Prelude.{◌==◌, IsTrue}
use Rattle.std.specs.List.{IsDistinct}
use Rattle.spx_text.specs.declared.place.Place.{Place}
use Rattle.spx_rows.specs.Relations.{Matrix, Holds, Star, stop, go_on}
use Rattle.spx_passes.specs.declared.occurrence.Occurrence.{Occurrence}
use Rattle.spx_passes.specs.declared.frame.Frame.{Frame}
use Rattle.spx_passes.specs.Points.{Point, Leads, Past, Rounds, StandsAt, Takes, At, Leaving, Testing, halt, round, size_of}
use Rattle.spx_passes.specs.Occurrences.{AreRows}
use Rattle.spx_passes.specs.Loops.{OneTurn, Turns}
use Rattle.spx_passes.specs.Steps.{Moves, Spreads}
use Rattle.std.proofs.lemmas.Option.{slice_get_within}
use Rattle.spx_passes.proofs.Occurrences.{none_listed, none_related}
use Rattle.spx_passes.proofs.PointLaws.{one_place_of, within_size}

-- a point that leads to one that has a position has one
abbrev pub From : Frame → (Point → Point → Type 0) → Type 0
From frame R = (c : ℕ) (y z : Point) → StandsAt frame c z → R y z → (k : ℕ) × StandsAt frame k y

module _ (frame : Frame) (once : IsDistinct ◌==◌ frame.vars) where
  pub takes_same : (old new : Matrix) → ((a b : ℕ) → Holds new a b ↔ Holds old a b) → Takes frame (λ x z. x ≡ z) old new
  takes_same old new same a b x at = (
    λ h. (a, x, at, refl, (same a b).0 h),
    λ h. (same a b).1 (subst (λ k. Holds old k b) (one_place_of frame h.0 a x once (subst (StandsAt frame h.0) (sym h.3) h.2) at) h.4),
  )

  -- a step that does nothing, on a copy or not
  pub moves_copy : (old new : Matrix) (list : List Occurrence) → AreRows (size_of frame) list → length new ≡ length old → ((a b : ℕ) → Holds new a b ↔ Holds old a b) → Moves frame (λ x z. x ≡ z) (λ p z. ⊥) (λ p. ⊥) old new list list
  moves_copy old new list rows size same = record {
    size = size;
    rows = rows;
    pairs = takes_same old new same;
    marks = λ p q. (λ h. inl h, λ h. ⊎_elim (λ old. old) (λ k. absurd k.3) h);
    listed = λ p. (λ h. inl h, λ h. ⊎_elim (λ old. old) (λ k. absurd k) h);
  }

  pub moves_same : (old : Matrix) (list : List Occurrence) → AreRows (size_of frame) list → Moves frame (λ x z. x ≡ z) (λ p z. ⊥) (λ p. ⊥) old old list list
  moves_same old list rows = moves_copy old old list rows refl (λ a b. (λ h. h, λ h. h))

  -- past a loop the rows of other points than variables are the old ones
  pub moves_past : (R : Point → Point → Type 0) (M : Place → Point → Type 0) (O : Place → Type 0) (old head new : Matrix) (before after : List Occurrence) → Moves frame R M O old head before after → length new ≡ length old →
      ((a b : ℕ) → Holds new a b ↔ (((a < length frame.vars) × Holds head a b) ⊎ ((length frame.vars ≤ a) × Holds old a b))) → Moves frame (Past R) M O old new before after
  moves_past R M O old head new before after move size replaced = record {
    size = size;
    rows = move.rows;
    pairs = pairs;
    marks = move.marks;
    listed = move.listed;
  }
    where
      kept : (a b : ℕ) (x : Point) → StandsAt frame a x → length frame.vars ≤ a → Holds new a b ↔ Leads frame (λ z. x ≡ z) old b
      kept a b x at past = (
        λ h. (a, x, at, refl, ⊎_elim (λ head. absurd (let less = head.0 in omega (arith, less, past))) (λ old. old.1) ((replaced a b).0 h)),
        λ h. (replaced a b).1 (inr (past, subst (λ k. Holds old k b) (one_place_of frame h.0 a x once (subst (StandsAt frame h.0) (sym h.3) h.2) at) h.4)),
      )

      pairs : (a b : ℕ) (x : Point) → StandsAt frame a x → Holds new a b ↔ Leads frame (Past R x) old b
      pairs a b (At v) at =
          let less = slice_get_within frame.vars a v.0 at in (
            λ h. ⊎_elim (λ head. (move.pairs a b (At v) at).0 head.1) (λ old. absurd (let past = old.0 in omega (arith, less, past))) ((replaced a b).0 h),
            λ h. (replaced a b).1 (inl (less, (move.pairs a b (At v) at).1 h)),
          )
      pairs a b (Leaving v) at = let e = at.3 in kept a b (Leaving v) at (omega (arith, e))
      pairs a b Testing at = let e = at.1 in kept a b Testing at (omega (arith, e))

-- a step that adds no occurrence
pub moves_pure : (frame : Frame) (R : Point → Point → Type 0) (old new : Matrix) (list : List Occurrence) → AreRows (size_of frame) list → length new ≡ length old → Takes frame R old new → Moves frame R (λ p z. ⊥) (λ p. ⊥) old new list list
moves_pure frame R old new list rows size takes = record {
  size = size;
  rows = rows;
  pairs = takes;
  marks = λ p q. (λ h. inl h, λ h. ⊎_elim (λ old. old) (λ k. absurd k.3) h);
  listed = λ p. (λ h. inl h, λ h. ⊎_elim (λ old. old) (λ k. absurd k) h);
}

-- what leads on is the same in other words
pub moves_as : (frame : Frame) (R S : Point → Point → Type 0) (M N : Place → Point → Type 0) (O Q : Place → Type 0) (old new : Matrix) (before after : List Occurrence) → ((x z : Point) → R x z ↔ S x z) → ((p : Place) (z : Point) → M p z ↔ N p z)
    → ((p : Place) → O p ↔ Q p) → Moves frame R M O old new before after → Moves frame S N Q old new before after
moves_as frame R S M N O Q old new before after same_pairs same_marks same_places move = record {
  size = move.size;
  rows = move.rows;
  pairs = λ a b x at. (
    λ h. let k = (move.pairs a b x at).0 h in (k.0, k.1, k.2, (same_pairs x k.1).0 k.3, k.4),
    λ h. (move.pairs a b x at).1 (h.0, h.1, h.2, (same_pairs x h.1).1 h.3, h.4),
  );
  marks = λ p q. (
    λ h. ⊎_elim (λ old. inl old) (λ k. inr (k.0, k.1, k.2, (same_marks p k.1).0 k.3, k.4)) ((move.marks p q).0 h),
    λ h. (move.marks p q).1 (⊎_elim (λ old. inl old) (λ k. inr (k.0, k.1, k.2, (same_marks p k.1).1 k.3, k.4)) h),
  );
  listed = λ p. (
    λ h. ⊎_elim (λ old. inl old) (λ k. inr ((same_places p).0 k)) ((move.listed p).0 h),
    λ h. (move.listed p).1 (⊎_elim (λ old. inl old) (λ k. inr ((same_places p).1 k)) h),
  );
}

-- one step and then another
pub moves_then : (frame : Frame) (R S : Point → Point → Type 0) (M N : Place → Point → Type 0) (O Q : Place → Type 0) (old mid new : Matrix) (start before after : List Occurrence) → From frame R → Moves frame R M O old mid start before → Moves frame S N Q mid new before after
    → Moves frame (λ x z. (y : Point) × S x y × R y z) (λ p z. M p z ⊎ ((y : Point) × N p y × R y z)) (λ p. O p ⊎ Q p) old new start after
moves_then frame R S M N O Q old mid new start before after from first second = record {
  size = second.size ∙ first.size;
  rows = second.rows;
  pairs = λ a b x at. (
    λ h. let k = (second.pairs a b x at).0 h in let l = (first.pairs k.0 b k.1 k.2).0 k.4 in (l.0, l.1, l.2, (k.1, k.3, l.3), l.4),
    λ h. let k = from h.0 h.3.0 h.1 h.2 h.3.2 in (second.pairs a b x at).1 (k.0, h.3.0, k.1, h.3.1, (first.pairs k.0 b h.3.0 k.1).1 (h.0, h.1, h.2, h.3.2, h.4)),
  );
  marks = λ p q. (
    λ h. ⊎_elim
        (λ earlier. ⊎_elim (λ old. inl old) (λ k. inr (k.0, k.1, k.2, inl k.3, k.4)) ((first.marks p q).0 earlier))
        (λ k. let l = (first.pairs k.0 q k.1 k.2).0 k.4 in inr (l.0, l.1, l.2, inr (k.1, k.3, l.3), l.4))
        ((second.marks p q).0 h),
    λ h. (second.marks p q).1 (⊎_elim
        (λ old. inl ((first.marks p q).1 (inl old)))
        (λ k. ⊎_elim
        (λ mark. inl ((first.marks p q).1 (inr (k.0, k.1, k.2, mark, k.4))))
        (λ on. let y = from k.0 on.0 k.1 k.2 on.2 in inr (y.0, on.0, y.1, on.1, (first.pairs y.0 q on.0 y.1).1 (k.0, k.1, k.2, on.2, k.4)))
        k.3)
        h),
  );
  listed = λ p. (
    λ h. ⊎_elim (λ earlier. ⊎_elim (λ old. inl old) (λ one. inr (inl one)) ((first.listed p).0 earlier)) (λ two. inr (inr two)) ((second.listed p).0 h),
    λ h. (second.listed p).1 (⊎_elim (λ old. inl ((first.listed p).1 (inl old))) (λ k. ⊎_elim (λ one. inl ((first.listed p).1 (inr one))) (λ two. inr two) k) h),
  );
}

-- two ways
pub moves_or : (frame : Frame) (R S : Point → Point → Type 0) (M N : Place → Point → Type 0) (O Q : Place → Type 0) (old one two joined : Matrix) (start before after : List Occurrence) → Moves frame R M O old one start before → Moves frame S N Q old two before after
    → length joined ≡ length one → ((p q : ℕ) → Holds joined p q ↔ (Holds one p q ⊎ Holds two p q)) → Moves frame (λ x z. R x z ⊎ S x z) (λ p z. M p z ⊎ N p z) (λ p. O p ⊎ Q p) old joined start after
moves_or frame R S M N O Q old one two joined start before after first second size union = record {
  size = size ∙ first.size;
  rows = second.rows;
  pairs = λ a b x at. (
    λ h. ⊎_elim
        (λ l. let k = (first.pairs a b x at).0 l in (k.0, k.1, k.2, inl k.3, k.4))
        (λ r. let k = (second.pairs a b x at).0 r in (k.0, k.1, k.2, inr k.3, k.4))
        ((union a b).0 h),
    λ h. (union a b).1 (⊎_elim
        (λ l. inl ((first.pairs a b x at).1 (h.0, h.1, h.2, l, h.4)))
        (λ r. inr ((second.pairs a b x at).1 (h.0, h.1, h.2, r, h.4)))
        h.3),
  );
  marks = λ p q. (
    λ h. ⊎_elim
        (λ earlier. ⊎_elim (λ old. inl old) (λ k. inr (k.0, k.1, k.2, inl k.3, k.4)) ((first.marks p q).0 earlier))
        (λ k. inr (k.0, k.1, k.2, inr k.3, k.4))
        ((second.marks p q).0 h),
    λ h. (second.marks p q).1 (⊎_elim
        (λ old. inl ((first.marks p q).1 (inl old)))
        (λ k. ⊎_elim (λ l. inl ((first.marks p q).1 (inr (k.0, k.1, k.2, l, k.4)))) (λ r. inr (k.0, k.1, k.2, r, k.4)) k.3)
        h),
  );
  listed = λ p. (
    λ h. ⊎_elim (λ earlier. ⊎_elim (λ old. inl old) (λ l. inr (inl l)) ((first.listed p).0 earlier)) (λ r. inr (inr r)) ((second.listed p).0 h),
    λ h. (second.listed p).1 (⊎_elim (λ old. inl ((first.listed p).1 (inl old))) (λ k. ⊎_elim (λ l. inl ((first.listed p).1 (inr l))) (λ r. inr r) k) h),
  );
}

-- what is read at an occurrence is added to rows
pub moves_spread : (frame : Frame) (R P : Point → Point → Type 0) (M : Place → Point → Type 0) (O : Place → Type 0) (f g : Point → Bool) (place : Place) (old m joined new : Matrix) (start before after : List Occurrence) → From frame P → Takes frame P old m
    → Moves frame R M O old joined start before → Spreads frame f g place m joined new before after
    → Moves frame (λ x z. R x z ⊎ (IsTrue (g x) × (y : Point) × IsTrue (f y) × P y z)) (λ p z. M p z ⊎ ((place ≡ p) × (y : Point) × IsTrue (f y) × P y z)) (λ p. O p ⊎ (place ≡ p)) old new start after
moves_spread frame R P M O f g place old m joined new start before after from takes move test = record {
  size = test.size ∙ move.size;
  rows = test.rows;
  pairs = λ a b x at. (
    λ h. ⊎_elim
        (λ earlier. let k = (move.pairs a b x at).0 earlier in (k.0, k.1, k.2, inl k.3, k.4))
        (λ read. let k = read.1 in let l = (takes k.0 b k.1 k.2).0 k.4 in (l.0, l.1, l.2, inr (read.0, k.1, k.3, l.3), l.4))
        ((test.pairs a b x at).0 h),
    λ h. (test.pairs a b x at).1 (⊎_elim
        (λ earlier. inl ((move.pairs a b x at).1 (h.0, h.1, h.2, earlier, h.4)))
        (λ read. let k = from h.0 read.1 h.1 h.2 read.3 in inr (read.0, (k.0, read.1, k.1, read.2, (takes k.0 b read.1 k.1).1 (h.0, h.1, h.2, read.3, h.4))))
        h.3),
  );
  marks = λ p q. (
    λ h. ⊎_elim
        (λ earlier. ⊎_elim (λ old. inl old) (λ k. inr (k.0, k.1, k.2, inl k.3, k.4)) ((move.marks p q).0 earlier))
        (λ read. let k = read.1 in let l = (takes k.0 q k.1 k.2).0 k.4 in inr (l.0, l.1, l.2, inr (read.0, k.1, k.3, l.3), l.4))
        ((test.related p q).0 h),
    λ h. (test.related p q).1 (⊎_elim
        (λ old. inl ((move.marks p q).1 (inl old)))
        (λ k. ⊎_elim
        (λ mark. inl ((move.marks p q).1 (inr (k.0, k.1, k.2, mark, k.4))))
        (λ read. let l = from k.0 read.1 k.1 k.2 read.3 in inr (read.0, (l.0, read.1, l.1, read.2, (takes l.0 q read.1 l.1).1 (k.0, k.1, k.2, read.3, k.4))))
        k.3)
        h),
  );
  listed = λ p. (
    λ h. ⊎_elim (λ earlier. ⊎_elim (λ old. inl old) (λ one. inr (inl one)) ((move.listed p).0 earlier)) (λ is. inr (inr is)) ((test.listed p).0 h),
    λ h. (test.listed p).1 (⊎_elim (λ old. inl ((move.listed p).1 (inl old))) (λ k. ⊎_elim (λ one. inl ((move.listed p).1 (inr one))) (λ is. inr is) k) h),
  );
}

-- the same where it is read in the old matrix
pub moves_read : (frame : Frame) (R : Point → Point → Type 0) (M : Place → Point → Type 0) (O : Place → Type 0) (f g : Point → Bool) (place : Place) (old joined new : Matrix) (start before after : List Occurrence) → Moves frame R M O old joined start before
    → Spreads frame f g place old joined new before after → Moves frame (λ x z. R x z ⊎ (IsTrue (g x) × IsTrue (f z))) (λ p z. M p z ⊎ ((place ≡ p) × IsTrue (f z))) (λ p. O p ⊎ (place ≡ p)) old new start after
moves_read frame R M O f g place old joined new start before after move test = record {
  size = test.size ∙ move.size;
  rows = test.rows;
  pairs = λ a b x at. (
    λ h. ⊎_elim
        (λ earlier. let k = (move.pairs a b x at).0 earlier in (k.0, k.1, k.2, inl k.3, k.4))
        (λ read. let k = read.1 in (k.0, k.1, k.2, inr (read.0, k.3), k.4))
        ((test.pairs a b x at).0 h),
    λ h. (test.pairs a b x at).1 (⊎_elim
        (λ earlier. inl ((move.pairs a b x at).1 (h.0, h.1, h.2, earlier, h.4)))
        (λ read. inr (read.0, (h.0, h.1, h.2, read.1, h.4)))
        h.3),
  );
  marks = λ p q. (
    λ h. ⊎_elim
        (λ earlier. ⊎_elim (λ old. inl old) (λ k. inr (k.0, k.1, k.2, inl k.3, k.4)) ((move.marks p q).0 earlier))
        (λ read. let k = read.1 in inr (k.0, k.1, k.2, inr (read.0, k.3), k.4))
        ((test.related p q).0 h),
    λ h. (test.related p q).1 (⊎_elim
        (λ old. inl ((move.marks p q).1 (inl old)))
        (λ k. ⊎_elim
        (λ mark. inl ((move.marks p q).1 (inr (k.0, k.1, k.2, mark, k.4))))
        (λ read. inr (read.0, (k.0, k.1, k.2, read.1, k.4)))
        k.3)
        h),
  );
  listed = λ p. (
    λ h. ⊎_elim (λ earlier. ⊎_elim (λ old. inl old) (λ one. inr (inl one)) ((move.listed p).0 earlier)) (λ is. inr (inr is)) ((test.listed p).0 h),
    λ h. (test.listed p).1 (⊎_elim (λ old. inl ((move.listed p).1 (inl old))) (λ k. ⊎_elim (λ one. inl ((move.listed p).1 (inr one))) (λ is. inr is) k) h),
  );
}

-- ---- steps that add no occurrence

pub takes_then : (frame : Frame) (R S : Point → Point → Type 0) (old mid new : Matrix) → From frame R → Takes frame R old mid → Takes frame S mid new → Takes frame (λ x z. (y : Point) × S x y × R y z) old new
takes_then frame R S old mid new from first second a b x at = (
  λ h. let k = (second a b x at).0 h in let l = (first k.0 b k.1 k.2).0 k.4 in (l.0, l.1, l.2, (k.1, k.3, l.3), l.4),
  λ h. let k = from h.0 h.3.0 h.1 h.2 h.3.2 in (second a b x at).1 (k.0, h.3.0, k.1, h.3.1, (first k.0 b h.3.0 k.1).1 (h.0, h.1, h.2, h.3.2, h.4)),
)

pub from_then : (frame : Frame) (R S : Point → Point → Type 0) → From frame R → From frame S → From frame (λ x z. (y : Point) × S x y × R y z)
from_then frame R S first second c x z at h = let k = first c h.0 z at h.2 in second k.0 x h.0 k.1 h.1

-- before a step
pub moves_before : (frame : Frame) (R S : Point → Point → Type 0) (N : Place → Point → Type 0) (Q : Place → Type 0) (old mid new : Matrix) (before after : List Occurrence) → From frame R → length mid ≡ length old → Takes frame R old mid
    → Moves frame S N Q mid new before after → Moves frame (λ x z. (y : Point) × S x y × R y z) (λ p z. (y : Point) × N p y × R y z) Q old new before after
moves_before frame R S N Q old mid new before after from size first second = record {
  size = second.size ∙ size;
  rows = second.rows;
  pairs = takes_then frame R S old mid new from first second.pairs;
  marks = λ p q. (
    λ h. ⊎_elim (λ old. inl old) (λ k. let l = (first k.0 q k.1 k.2).0 k.4 in inr (l.0, l.1, l.2, (k.1, k.3, l.3), l.4)) ((second.marks p q).0 h),
    λ h. (second.marks p q).1 (⊎_elim
        (λ old. inl old)
        (λ k. let y = from k.0 k.3.0 k.1 k.2 k.3.2 in inr (y.0, k.3.0, y.1, k.3.1, (first y.0 q k.3.0 y.1).1 (k.0, k.1, k.2, k.3.2, k.4)))
        h),
  );
  listed = second.listed;
}

-- after a step
pub moves_after : (frame : Frame) (R S : Point → Point → Type 0) (M : Place → Point → Type 0) (O : Place → Type 0) (old mid new : Matrix) (before after : List Occurrence) → From frame R → Moves frame R M O old mid before after → length new ≡ length mid
    → Takes frame S mid new → Moves frame (λ x z. (y : Point) × S x y × R y z) M O old new before after
moves_after frame R S M O old mid new before after from first size second = record {
  size = size ∙ first.size;
  rows = first.rows;
  pairs = takes_then frame R S old mid new from first.pairs second;
  marks = first.marks;
  listed = first.listed;
}

-- what has been gone over may be gone over again
pub moves_again : (frame : Frame) (R : Point → Point → Type 0) (M : Place → Point → Type 0) (O : Place → Type 0) (old new : Matrix) (before after : List Occurrence) → Moves frame R M O old new before after → Moves frame R M O old new after after
moves_again frame R M O old new before after move = record {
  size = move.size;
  rows = move.rows;
  pairs = move.pairs;
  marks = λ p q. (λ h. inl h, λ h. ⊎_elim (λ old. old) (λ k. (move.marks p q).1 (inr k)) h);
  listed = λ p. (λ h. inl h, λ h. ⊎_elim (λ old. old) (λ k. (move.listed p).1 (inr k)) h);
}

-- ---- turns

pub rounds_on : {R : Point → Point → Type 0} {x y z : Point} → Rounds R x y → Rounds R y z → Rounds R x z
rounds_on halt more = more
rounds_on (round r rest) more = round r (rounds_on rest more)

-- the other way round
pub rounds_turned : {R : Point → Point → Type 0} {x z : Point} → Rounds R x z → Rounds (λ a b. R b a) z x
rounds_turned halt = halt
rounds_turned (round r rest) = rounds_on (rounds_turned rest) (round r halt)

-- a pass that starts at the identity, with no occurrences, is one turn
pub turn_passed : (frame : Frame) (R : Point → Point → Type 0) (M : Place → Point → Type 0) (O : Place → Type 0) (start turn : Matrix) (inner : List Occurrence) → length start ≡ size_of frame → ((a b : ℕ) → Holds start a b ↔ ((a < size_of frame) × (a ≡ b)))
    → Moves frame R M O start turn [] inner → OneTurn frame R M O turn inner
turn_passed frame R M O start turn inner size itself move = record {
  size = move.size ∙ size;
  rows = move.rows;
  shows = λ a b x at. (λ h. (led (R x) b).0 ((move.pairs a b x at).0 h), λ h. (move.pairs a b x at).1 ((led (R x) b).1 h));
  related = λ p k. (
    λ h. ⊎_elim (λ none. absurd (none_related p k none)) (λ q. (led (M p) k).0 q) ((move.marks p k).0 h),
    λ h. (move.marks p k).1 (inr ((led (M p) k).1 h)),
  );
  listed = λ p. (λ h. ⊎_elim (λ none. absurd (none_listed p none)) (λ q. q) ((move.listed p).0 h), λ h. (move.listed p).1 (inr h));
}
  where
    led : (N : Point → Type 0) (b : ℕ) → Leads frame N start b ↔ ((z : Point) × StandsAt frame b z × N z)
    led N b = (
      λ h. (h.1, subst (λ k. StandsAt frame k h.1) ((itself h.0 b).0 h.4).1 h.2, h.3),
      λ h. (b, h.0, h.1, h.2, (itself b b).1 (within_size frame b h.0 h.1, refl)),
    )

-- a point that has a position leads to ones that have one
abbrev pub On : Frame → (Point → Point → Type 0) → Type 0
On frame R = (c : ℕ) (x y : Point) → StandsAt frame c x → R x y → (k : ℕ) × StandsAt frame k y

module _ (frame : Frame) (once : IsDistinct ◌==◌ frame.vars) (R : Point → Point → Type 0) (on : On frame R) (from : From frame R) where
  rounds_from : {y z : Point} → Rounds R y z → (c : ℕ) → StandsAt frame c z → (k : ℕ) × StandsAt frame k y
  rounds_from halt c at = (c, at)
  rounds_from (round {x = y} {y = v} r rest) c at = let k = rounds_from rest c at in from k.0 y v k.1 r

  pub from_rounds : From frame (Rounds R)
  from_rounds c y z at rounds = rounds_from rounds c at

  module _ (M : Place → Point → Type 0) (O : Place → Type 0) (turn : Matrix) (inner : List Occurrence) (one : OneTurn frame R M O turn inner) where
    to_rounds : {a b : ℕ} → Star (Holds turn) a b → (x : Point) → StandsAt frame a x → (z : Point) × StandsAt frame b z × Rounds R x z
    to_rounds stop x at = (x, at, halt)
    to_rounds (go_on {u = a} {v = k} r rest) x at =
        let first = (one.shows a k x at).0 r in
        let others = to_rounds rest first.0 first.1 in
        (others.0, others.1, round first.2 others.2)

    of_rounds : {x z : Point} → Rounds R x z → (a b : ℕ) → StandsAt frame a x → StandsAt frame b z → Star (Holds turn) a b
    of_rounds (halt {x = x}) a b at end = subst (Star (Holds turn) a) (one_place_of frame a b x once at end) stop
    of_rounds (round {x = x} {y = v} r rest) a b at end =
        let k = on a x v at r in
        go_on ((one.shows a k.0 x at).1 (v, k.1, r)) (of_rounds rest k.0 b k.1 end)

    -- some number of turns, after which the last matrix stands
    pub moves_turned : (last head : Matrix) (before after : List Occurrence) → length last ≡ size_of frame → Turns turn inner last head before after
        → Moves frame (Rounds R) (λ p z. (y : Point) × M p y × Rounds R y z) O last head before after
    moves_turned last head before after long turns = record {
      size = turns.size;
      rows = subst (λ n. AreRows n after) long turns.carried.rows;
      pairs = pairs;
      marks = λ p q. (
        λ h. ⊎_elim
            (λ old. inl old)
            (λ k.
            let y = (one.related p k.0).0 k.1 in
            let l = (pairs k.0 q y.0 y.1).0 k.2 in
            inr (l.0, l.1, l.2, (y.0, y.2, l.3), l.4))
            ((turns.carried.related p q).0 h),
        λ h. (turns.carried.related p q).1 (⊎_elim
            (λ old. inl old)
            (λ k.
            let y = rounds_from k.3.2 k.0 k.2 in
            inr (y.0, (one.related p y.0).1 (k.3.0, y.1, k.3.1), (pairs y.0 q k.3.0 y.1).1 (k.0, k.1, k.2, k.3.2, k.4)))
            h),
      );
      listed = λ p. (
        λ h. ⊎_elim (λ old. inl old) (λ k. inr ((one.listed p).0 k)) ((turns.carried.listed p).0 h),
        λ h. (turns.carried.listed p).1 (⊎_elim (λ old. inl old) (λ k. inr ((one.listed p).1 k)) h),
      );
    }
      where
        pairs : (a b : ℕ) (x : Point) → StandsAt frame a x → Holds head a b ↔ Leads frame (Rounds R x) last b
        pairs a b x at = (
          λ h.
              let k = (turns.pairs a b).0 h in
              let l = to_rounds k.2 x at in
              (k.1, l.0, l.1, l.2, k.3),
          λ h. (turns.pairs a b).1 (subst (λ n. a < n) (sym one.size) (within_size frame a x at), h.0, of_rounds h.3 a h.0 at h.2, h.4),
        )

    -- one turn more
    pub takes_turn : (rest head : Matrix) → ((a b : ℕ) → Holds head a b ↔ ((v : ℕ) × Holds turn a v × Holds rest v b)) → Takes frame R rest head
    takes_turn rest head made a b x at = (
      λ h. let k = (made a b).0 h in let l = (one.shows a k.0 x at).0 k.1 in (k.0, l.0, l.1, l.2, k.2),
      λ h. (made a b).1 (h.0, (one.shows a h.0 x at).1 (h.1, h.2, h.3), h.4),
    )
