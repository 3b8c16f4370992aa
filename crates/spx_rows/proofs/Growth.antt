-- Relations to which a loop adds pairs.
use Rattle.std.proofs.Common.{◌≡◌, ◌≢◌, ap, ℕ, ◌<◌, ◌≤◌, ◌+◌, ◌*◌, ◌/◌, ◌⊎◌, ◌↔◌, inl, inr, Bool, List, length, get_or, refl, sym, ◌∙◌, subst, ⊎_elim, arith}
use Rattle.std.specs.Prelude.{Contains}
use Rattle.std.proofs.lemmas.Bool.{cases_eq, cases_lt}
use Rattle.std.proofs.lemmas.List.{get_or_default}
use Rattle.std.proofs.lemmas.List.Elements.{Contains-get_or}
use Rattle.spx_rows.specs.Relations.{Rel, Matrix, Has, Holds, Gains, Of, Then}
use Rattle.spx_rows.proofs.Callers.Pairs.{row_within}

-- a loop adds at each k the pairs of Q k
pub record Grown (start now : Matrix) (i : ℕ) (Q : ℕ → Rel) : Type 0 where
  pub size : length now ≡ length start
  pub pairs : Gains start now (λ a b. (k : ℕ) × (k < i) × Q k a b)

pub below_or_at : (k i : ℕ) → k < i + 1 → (k < i) ⊎ (k ≡ i)
below_or_at k i lt = grind arith

-- the pairs of the first are there, and what the second leads on to from them through a number before i
pub record Composes (first second start now : Matrix) (i : ℕ) : Type 0 where
  pub size : length now ≡ length start
  pub pairs : Gains start now (λ a b. Holds first a b ⊎ ((k : ℕ) × (k < i) × Holds first a k × Holds second k b))

pub composes_start : (first second start now : Matrix) → length now ≡ length start → Gains start now (Holds first) → Composes first second start now 0
composes_start first second start now e gains = record {
  size = e;
  pairs = λ a b. (λ h. ⊎_elim (λ p. inl p) (λ p. inr (inl p)) ((gains a b).0 h), λ h. (gains a b).1 (⊎_elim (λ p. inl p) (λ p. ⊎_elim (λ q. inr q) (λ q. absurd (omega (arith, q.1))) p) h));
}

module _ (first second start now : Matrix) (i : ℕ) (g : Composes first second start now i) where
  pub composes_more : (next : Matrix) → length next ≡ length now → Gains now next (λ a b. Holds first a i × Holds second i b) → Composes first second start next (i + 1)
  composes_more next e gains = record {
    size = e ∙ g.size;
    pairs = λ a b. (
      λ h. ⊎_elim
          (λ p. ⊎_elim (λ q. inl q) (λ q. inr (⊎_elim (λ r. inl r) (λ r. inr (r.0, omega (arith, r.1), r.2, r.3)) q)) ((g.pairs a b).0 p))
          (λ p. inr (inr (i, omega arith, p.0, p.1)))
          ((gains a b).0 h),
      λ h. (gains a b).1 (⊎_elim (λ p. inl ((g.pairs a b).1 (inl p))) (λ p. ⊎_elim (λ q. inl ((g.pairs a b).1 (inr (inl q)))) (λ q. ⊎_elim
          (λ less. inl ((g.pairs a b).1 (inr (inr (q.0, less, q.2, q.3)))))
          (λ is. inr (subst (λ k. Holds first a k) is q.2, subst (λ k. Holds second k b) is q.3))
          (below_or_at q.0 i q.1)) p) h),
    );
  }

  -- a number that leads on to itself alone adds nothing
  pub composes_skip : ((w : ℕ) → Holds second i w → i ≡ w) → Composes first second start now (i + 1)
  composes_skip alone = composes_more now refl (λ a b. (λ h. inl h, λ h. ⊎_elim (λ p. p) (λ p. (g.pairs a b).1 (inr (inl (subst (λ k. Holds first a k) (alone b p.1) p.0)))) h))

  pub composes_all : length second ≤ i → ((a b : ℕ) → Holds first a b → Holds second b b) → Gains start now (Then (Holds first) (Holds second))
  composes_all past kept a b = (
    λ h. ⊎_elim (λ p. inl p) (λ p. inr (⊎_elim (λ q. (b, q, kept a b q)) (λ q. (q.0, q.2, q.3)) p)) ((g.pairs a b).0 h),
    λ h. (g.pairs a b).1 (⊎_elim (λ p. inl p) (λ p. let lt = row_within second p.0 b p.2 in inr (inr (p.0, omega arith, p.1, p.2))) h),
  )

-- row `to` has the old rows before i, and its own old row where it is one of those read; the other rows are as they were
pub record Gathered (from : List ℕ) (to : ℕ) (old now : Matrix) (i : ℕ) : Type 0 where
  pub size : length now ≡ length old
  pub here : (b : ℕ) → Holds now to b ↔ ((Contains from to × Holds old to b) ⊎ ((k : ℕ) × (k < i) × Holds old (get_or from k 0) b))
  pub kept : (a b : ℕ) → to ≢ a → Holds now a b ↔ Holds old a b

pub gathered_kept : (from : List ℕ) (to : ℕ) (m : Matrix) → Contains from to → Gathered from to m m 0
gathered_kept from to m c = record { size = refl; here = λ b. (λ h. inl (c, h), λ h. ⊎_elim (λ p. p.1) (λ p. absurd (omega (arith, p.1))) h); kept = λ a b ne. (λ h. h, λ h. h) }

pub gathered_clear : (from : List ℕ) (to : ℕ) (old now : Matrix) → (Contains from to → ⊥) → length now ≡ length old → ((a b : ℕ) → Holds now a b ↔ ((to ≢ a) × Holds old a b)) → Gathered from to old now 0
gathered_clear from to old now none e h = record {
  size = e;
  here = λ b. (λ p. absurd (((h to b).0 p).0 refl), λ p. ⊎_elim (λ q. absurd (none q.0)) (λ q. absurd (omega (arith, q.1))) p);
  kept = λ a b ne. (λ p. ((h a b).0 p).1, λ p. (h a b).1 (ne, p));
}

pub gathered_more : (from : List ℕ) (to : ℕ) (old now next : Matrix) (i x : ℕ) → i < length from → x ≡ get_or from i 0 → Gathered from to old now i → length next ≡ length now → Gains now next (λ a b. (to ≡ a) × Holds now x b) → Gathered from to old next (i + 1)
gathered_more from to old now next i x lt at g e gains = record {
  size = e ∙ g.size;
  here = λ b. (
    λ h. ⊎_elim (λ p. wider b ((g.here b).0 p)) (λ p. ⊎_elim
        (λ is. wider b ((g.here b).0 (subst (λ y. Holds now y b) (sym is) p.1)))
        (λ ne. inr (i, omega arith, subst (λ y. Holds old y b) at ((g.kept x b ne).0 p.1)))
        (cases_eq to x)) ((gains to b).0 h),
    λ h. (gains to b).1 (⊎_elim (λ p. inl ((g.here b).1 (inl p))) (λ p. ⊎_elim
        (λ less. inl ((g.here b).1 (inr (p.0, less, p.2))))
        (λ is. new b (subst (λ y. Holds old y b) (ap (λ k. get_or from k 0) is ∙ sym at) p.2))
        (below_or_at p.0 i p.1)) h),
  );
  kept = λ a b ne. (λ h. ⊎_elim (λ p. (g.kept a b ne).0 p) (λ p. absurd (ne p.0)) ((gains a b).0 h), λ h. (gains a b).1 (inl ((g.kept a b ne).1 h)));
}
  where
    wider : (b : ℕ) → (Contains from to × Holds old to b) ⊎ ((k : ℕ) × (k < i) × Holds old (get_or from k 0) b) → (Contains from to × Holds old to b) ⊎ ((k : ℕ) × (k < i + 1) × Holds old (get_or from k 0) b)
    wider b h = ⊎_elim (λ p. inl p) (λ p. inr (p.0, omega (arith, p.1), p.2)) h

    new : (b : ℕ) → Holds old x b → Holds now to b ⊎ ((to ≡ to) × Holds now x b)
    new b h = ⊎_elim
        (λ is. inl ((g.here b).1 (inl (subst (λ y. Contains from y) (sym at ∙ sym is) (Contains-get_or from i 0 lt), subst (λ y. Holds old y b) (sym is) h))))
        (λ ne. inr (refl, (g.kept x b ne).1 h))
        (cases_eq to x)

pub gathered_all : (from : List ℕ) (to : ℕ) (old now : Matrix) → Gathered from to old now (length from) → (a b : ℕ) → Holds now a b ↔ (((to ≡ a) × Of from old b) ⊎ ((to ≢ a) × Holds old a b))
gathered_all from to old now g a b = (
  λ h. ⊎_elim
      (λ is. inl (is, ⊎_elim (λ p. (to, p.0, p.1)) (λ p. (get_or from p.0 0, Contains-get_or from p.0 0 p.1, p.2)) ((g.here b).0 (subst (λ y. Holds now y b) (sym is) h))))
      (λ ne. inr (ne, (g.kept a b ne).0 h))
      (cases_eq to a),
  λ h. ⊎_elim
      (λ p. subst (λ y. Holds now y b) p.0 ((g.here b).1 (inr (p.1.1.0, p.1.1.1, subst (λ y. Holds old y b) (sym p.1.1.2 ∙ get_or_default from p.1.1.0 p.1.0 0 p.1.1.1) p.1.2))))
      (λ p. (g.kept a b p.0).1 p.1)
      h,
)

-- a single row has the rows before i
pub record Unites (from : List ℕ) (m : Matrix) (row : List Bool) (i : ℕ) : Type 0 where
  pub size : length row ≡ length m
  pub here : (w : ℕ) → Has row w ↔ ((k : ℕ) × (k < i) × Holds m (get_or from k 0) w)

pub unites_more : (from : List ℕ) (m : Matrix) (row next : List Bool) (i x : ℕ) → i < length from → x ≡ get_or from i x → Unites from m row i → length next ≡ length row → ((w : ℕ) → Has next w ↔ (Has row w ⊎ Holds m x w)) → Unites from m next (i + 1)
unites_more from m row next i x lt at g e gains =
    let is : x ≡ get_or from i 0 = at ∙ get_or_default from i x 0 lt in record {
      size = e ∙ g.size;
      here = λ w. (
        λ h. ⊎_elim (λ p. let q = (g.here w).0 p in (q.0, omega (arith, q.1), q.2)) (λ p. (i, omega arith, subst (λ y. Holds m y w) is p)) ((gains w).0 h),
        λ h. (gains w).1 (⊎_elim
            (λ less. inl ((g.here w).1 (h.0, less, h.2)))
            (λ same. inr (subst (λ y. Holds m y w) (ap (λ k. get_or from k 0) same ∙ sym is) h.2))
            (below_or_at h.0 i h.1)),
      );
    }

pub unites_all : (from : List ℕ) (m : Matrix) (row : List Bool) (i : ℕ) → length from ≤ i → i ≤ length from → Unites from m row i → (w : ℕ) → Has row w ↔ Of from m w
unites_all from m row i past within g w = (
  λ h. let q = (g.here w).0 h in let lt : q.0 < length from = omega (arith, q.1) in (get_or from q.0 0, Contains-get_or from q.0 0 lt, q.2),
  λ h. (g.here w).1 (h.1.0, omega (arith, h.1.1), subst (λ y. Holds m y w) (sym h.1.2 ∙ get_or_default from h.1.0 h.0 0 h.1.1) h.2),
)

-- a loop adds to a row of so many numbers at each k those of Q k
pub record Collected (many : ℕ) (row : List Bool) (i : ℕ) (Q : ℕ → ℕ → Type 0) : Type 0 where
  pub size : length row ≡ many
  pub numbers : (w : ℕ) → Has row w ↔ ((k : ℕ) × (k < i) × Q k w)

-- the same for a row that has something before
pub record Joined (start now : List Bool) (i : ℕ) (Q : ℕ → ℕ → Type 0) : Type 0 where
  pub size : length now ≡ length start
  pub numbers : (w : ℕ) → Has now w ↔ (Has start w ⊎ ((k : ℕ) × (k < i) × Q k w))

-- a loop over words has gone over one word more, or past a word that has nothing
module _ (many at : ℕ) (row : List Bool) (P : ℕ → Type 0) (R : ℕ → ℕ → Type 0) (g : Collected many row (64 * at) (λ k w. P k × R k w)) where
  pub collected_word : (next : List Bool) → length next ≡ length row → ((w : ℕ) → Has next w ↔ (Has row w ⊎ ((k : ℕ) × (k / 64 ≡ at) × P k × R k w))) →
      Collected many next (64 * (at + 1)) (λ k w. P k × R k w)
  collected_word next e gains = record {
    size = e ∙ g.size;
    numbers = λ w. (
      λ h. ⊎_elim (λ p. let q = (g.numbers w).0 p in (q.0, omega (arith, q.1), q.2)) (λ p. (p.0, omega (arith, p.1), (p.2, p.3))) ((gains w).0 h),
      λ h. (gains w).1 (⊎_elim
          (λ less. inl ((g.numbers w).1 (h.0, less, h.2)))
          (λ past. inr (h.0, omega (arith, h.1, past), h.2.0, h.2.1))
          (cases_lt h.0 (64 * at))),
    );
  }

  pub collected_skip : ((k : ℕ) → k / 64 ≡ at → P k → ⊥) → Collected many row (64 * (at + 1)) (λ k w. P k × R k w)
  collected_skip none = collected_word row refl (λ w. (λ h. inl h, λ h. ⊎_elim (λ p. p) (λ p. absurd (none p.0 p.1 p.2)) h))
