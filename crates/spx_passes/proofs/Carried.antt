-- Occurrences that are carried through a matrix.
use Rattle.std.proofs.Common.{◌≡◌, ◌↔◌, ℕ, List, [], ◌∷◌, ◌++◌, length, sym, ◌∙◌, inl, inr, ⊎_elim}
use Rattle.std.proofs.lemmas.List.Elements.{All-push}
use Rattle.spx_rows.specs.Relations.{Matrix, Has, Holds}
use Rattle.spx_passes.specs.declared.occurrence.Occurrence.{Occurrence}
use Rattle.spx_passes.specs.Occurrences.{AreRows}
use Rattle.spx_passes.specs.Loops.{Carries}
use Rattle.spx_passes.proofs.Occurrences.{lists_push, none_listed, none_related, relates_push}

module _ (n : ℕ) (m : Matrix) where
  pub carries_none : (before : List Occurrence) → AreRows n before → Carries n m [] before before
  carries_none before rows = record {
    rows = rows;
    related = λ p q. (λ h. inl h, λ h. ⊎_elim (λ old. old) (λ k. absurd (none_related p k.0 k.1)) h);
    listed = λ p. (λ h. inl h, λ h. ⊎_elim (λ old. old) (λ q. absurd (none_listed p q)) h);
  }

  pub carries_more : (inner before mid : List Occurrence) (o new : Occurrence) → Carries n m inner before mid → length new.vars ≡ n → ((q : ℕ) → Has new.vars q ↔ ((k : ℕ) × Has o.vars k × Holds m k q)) → new.place ≡ o.place →
      Carries n m (inner ++ o ∷ []) before (mid ++ new ∷ [])
  carries_more inner before mid o new others long row here = record {
    rows = All-push (λ (x : Occurrence). length x.vars ≡ n) mid new others.rows long;
    related = λ p q. (
      λ h. ⊎_elim
          (λ earlier. ⊎_elim (λ old. inl old) (λ k. inr (k.0, (relates_push inner o p k.0).1 (inl k.1), k.2)) ((others.related p q).0 earlier))
          (λ last. let k = (row q).0 last.1 in inr (k.0, (relates_push inner o p k.0).1 (inr (sym here ∙ last.0, k.1)), k.2))
          ((relates_push mid new p q).0 h),
      λ h. (relates_push mid new p q).1 (⊎_elim
          (λ old. inl ((others.related p q).1 (inl old)))
          (λ k. ⊎_elim
          (λ earlier. inl ((others.related p q).1 (inr (k.0, earlier, k.2))))
          (λ last. inr (here ∙ last.0, (row q).1 (k.0, last.1, k.2)))
          ((relates_push inner o p k.0).0 k.1))
          h),
    );
    listed = λ p. (
      λ h. ⊎_elim
          (λ earlier. ⊎_elim (λ old. inl old) (λ one. inr ((lists_push inner o p).1 (inl one))) ((others.listed p).0 earlier))
          (λ last. inr ((lists_push inner o p).1 (inr (sym here ∙ last))))
          ((lists_push mid new p).0 h),
      λ h. (lists_push mid new p).1 (⊎_elim
          (λ old. inl ((others.listed p).1 (inl old)))
          (λ k. ⊎_elim (λ earlier. inl ((others.listed p).1 (inr earlier))) (λ last. inr (here ∙ last)) ((lists_push inner o p).0 k))
          h),
    );
  }
