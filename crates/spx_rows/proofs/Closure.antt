-- How a relation is closed, through one number after another.
use Rattle.std.proofs.Common.{◌≡◌, ℕ, ◌<◌, ◌+◌, ◌⊎◌, ◌↔◌, inl, inr, length, refl, sym, ◌∙◌, subst, ⊎_elim, arith}
use Rattle.spx_rows.specs.Relations.{Matrix, Holds, Gains, Star, stop, go_on, Through}
use Rattle.spx_rows.proofs.Callers.Pairs.{row_within, star_append}
use Rattle.spx_rows.proofs.Growth.{below_or_at}

-- `now` is closed through each number below k
pub record Closing (start now : Matrix) (k : ℕ) : Type 0 where
  pub size : length now ≡ length start
  pub keeps : (a b : ℕ) → Holds start a b → Holds now a b
  pub leads : (a b : ℕ) → Holds now a b → Star (Holds start) a b
  pub loops : (a : ℕ) → a < k → Holds now a a
  pub through : (a j b : ℕ) → j < k → Holds now a j → Holds now j b → Holds now a b

pub closing_start : (m : Matrix) → Closing m m 0
closing_start m = record { size = refl; keeps = λ a b h. h; leads = λ a b h. go_on h stop; loops = λ a lt. absurd (omega (arith, lt)); through = λ a j b lt. absurd (omega (arith, lt)) }

pub closing_more : (start m m1 m2 : Matrix) (k : ℕ) → Closing start m k → Gains m m1 (λ a b. (k ≡ a) × (k ≡ b)) → Through m1 m2 k (length m1) → length m1 ≡ length m → Closing start m2 (k + 1)
closing_more start m m1 m2 k g adds t e = record {
  size = t.size ∙ e ∙ g.size;
  keeps = λ a b h. t.keeps a b (kept a b (g.keeps a b h));
  leads = λ a b h. ⊎_elim (λ q. leads1 a b q) (λ q. star_append (leads1 a k q.0) (leads1 k b q.1)) (t.from a b h);
  loops = λ a lt. ⊎_elim
      (λ less. t.keeps a a (kept a a (g.loops a less)))
      (λ at. subst (λ x. Holds m2 x x) (sym at) (t.keeps k k ((adds k k).1 (inr (refl, refl)))))
      (below_or_at a k lt);
  through = λ a j b lt p q. ⊎_elim
      (λ less. meet a j b less (t.from a j p) (t.from j b q))
      (λ at. let ak = to_k a (subst (λ x. Holds m2 a x) at p) in t.done a b (row_within m1 a k ak) ak (from_k b (subst (λ x. Holds m2 x b) at q)))
      (below_or_at j k lt);
}
  where
    kept : (a b : ℕ) → Holds m a b → Holds m1 a b
    kept a b h = (adds a b).1 (inl h)

    leads1 : (a b : ℕ) → Holds m1 a b → Star (Holds start) a b
    leads1 a b h = ⊎_elim (λ q. g.leads a b q) (λ q. subst (λ x. Star (Holds start) a x) (sym q.0 ∙ q.1) stop) ((adds a b).0 h)

    to_k : (a : ℕ) → Holds m2 a k → Holds m1 a k
    to_k a h = ⊎_elim (λ q. q) (λ q. q.0) (t.from a k h)

    from_k : (b : ℕ) → Holds m2 k b → Holds m1 k b
    from_k b h = ⊎_elim (λ q. q) (λ q. q.1) (t.from k b h)

    -- the pair added at k leads through no number below k
    through1 : (a j b : ℕ) → j < k → Holds m1 a j → Holds m1 j b → Holds m1 a b
    through1 a j b lt p q = ⊎_elim
        (λ p'. ⊎_elim (λ q'. kept a b (g.through a j b lt p' q')) (λ q'. absurd (omega (arith, lt, q'.0))) ((adds j b).0 q))
        (λ p'. absurd (omega (arith, lt, p'.1)))
        ((adds a j).0 p)

    add : (a b : ℕ) → Holds m1 a k → Holds m1 k b → Holds m2 a b
    add a b p q = t.done a b (row_within m1 a k p) p q

    meet : (a j b : ℕ) → j < k → Holds m1 a j ⊎ (Holds m1 a k × Holds m1 k j) → Holds m1 j b ⊎ (Holds m1 j k × Holds m1 k b) → Holds m2 a b
    meet a j b lt (inl p) (inl q) = t.keeps a b (through1 a j b lt p q)
    meet a j b lt (inl p) (inr q) = add a b (through1 a j k lt p q.0) q.1
    meet a j b lt (inr p) (inl q) = add a b p.0 (through1 k j b lt p.1 q)
    meet a j b lt (inr p) (inr q) = add a b p.0 q.1

-- what is closed through every number has each chain of its pairs
pub closed : (start now : Matrix) → Closing start now (length start) → (a b : ℕ) → Holds now a b ↔ ((a < length start) × Star (Holds start) a b)
closed start now g a b = (λ h. (subst (λ n. a < n) g.size (row_within now a b h), g.leads a b h), λ h. chain h.1 h.0)
  where
    chain : {u w : ℕ} → Star (Holds start) u w → u < length start → Holds now u w
    chain stop un = g.loops _ un
    chain (go_on r stop) un = g.keeps _ _ r
    chain (go_on {u = u} {v = v} {w = w} r (go_on {v = x} s p)) un = let vn = row_within start v x s in g.through u v w vn (g.keeps u v r) (chain (go_on s p) vn)
