-- Lists of occurrences.
use Rattle.std.proofs.Common.{◌≡◌, ◌↔◌, ◌⊎◌, ℕ, List, [], ◌∷◌, ◌++◌, sym, ap, ◌∙◌, subst, inl, inr, ⊎_elim, arith}
use Rattle.std.specs.Prelude.{Contains}
use Rattle.std.proofs.lemmas.List.Elements.{Contains-append_left, Contains-push, Contains-push_cases}
use Rattle.spx_text.specs.declared.place.Place.{Place}
use Rattle.spx_rows.specs.Relations.{Has}
use Rattle.spx_passes.specs.declared.occurrence.Occurrence.{Occurrence}
use Rattle.spx_passes.specs.Occurrences.{Lists, Relates}

-- no occurrence is listed in the empty list
none_in : (o : Occurrence) → Contains [] o → ⊥
none_in o c = absurd (omega (arith, c.1))

pub none_listed : (p : Place) → Lists [] p → ⊥
none_listed p h = none_in h.0 h.1

pub none_related : (p : Place) (w : ℕ) → Relates [] p w → ⊥
none_related p w h = none_in h.0 h.1

-- one more occurrence
pub lists_push : (list : List Occurrence) (o : Occurrence) (p : Place) → Lists (list ++ o ∷ []) p ↔ (Lists list p ⊎ (o.place ≡ p))
lists_push list o p = (
  λ h. ⊎_elim (λ old. inl (h.0, old, h.2)) (λ e. inr (ap (λ (x : Occurrence). x.place) e ∙ h.2)) (Contains-push_cases list o h.0 h.1),
  λ h. ⊎_elim (λ old. (old.0, Contains-append_left list (o ∷ []) old.0 old.1, old.2)) (λ e. (o, Contains-push list o, e)) h,
)

pub relates_push : (list : List Occurrence) (o : Occurrence) (p : Place) (w : ℕ) → Relates (list ++ o ∷ []) p w ↔ (Relates list p w ⊎ ((o.place ≡ p) × Has o.vars w))
relates_push list o p w = (
  λ h. ⊎_elim (λ old. inl (h.0, old, h.2, h.3)) (λ e. inr (ap (λ (x : Occurrence). x.place) e ∙ h.2, subst (λ (x : Occurrence). Has x.vars w) (sym e) h.3)) (Contains-push_cases list o h.0 h.1),
  λ h. ⊎_elim (λ old. (old.0, Contains-append_left list (o ∷ []) old.0 old.1, old.2, old.3)) (λ e. (o, Contains-push list o, e.0, e.1)) h,
)
