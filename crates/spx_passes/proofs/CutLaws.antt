-- The numbers below a bound, in rows and lists of occurrences.
use Rattle.std.proofs.Common.{◌≡◌, ◌↔◌, ◌⊎◌, ℕ, ◌<◌, ◌+◌, Bool, List, [], ◌∷◌, ◌++◌, length, arith, sym, ◌∙◌, subst, inl, inr, ⊎_elim}
use Rattle.std.proofs.lemmas.Bool.{cases_lt}
use Rattle.std.proofs.lemmas.List.Elements.{All-push}
use Rattle.spx_text.specs.declared.place.Place.{Place}
use Rattle.spx_rows.specs.Relations.{Matrix, Has, Holds}
use Rattle.spx_passes.specs.declared.occurrence.Occurrence.{Occurrence}
use Rattle.spx_passes.specs.Occurrences.{AreRows, Lists, Relates}
use Rattle.spx_passes.proofs.Occurrences.{lists_push, none_related, relates_push}

-- ---- a row

abbrev pub FirstOf : (b : ℕ) → (row cut : List Bool) → Type 0
FirstOf b row cut = (x : ℕ) → Has cut x ↔ ((x < b) × Has row x)

-- ---- a row of a matrix

abbrev pub RowGained : (row b : ℕ) → (rows initial cut : Matrix) → Type 0
RowGained row b rows initial cut = (x y : ℕ) → Holds cut x y ↔ (Holds initial x y ⊎ ((row ≡ x) × (y < b) × Holds rows row y))

-- ---- a matrix

abbrev pub RowsCut : (a count : ℕ) → (rows cut : Matrix) → Type 0
RowsCut a count rows cut = (x y : ℕ) → Holds cut x y ↔ ((x < a) × (y < count) × Holds rows x y)

pub rows_none : (count : ℕ) (rows cut : Matrix) → ((x y : ℕ) → ¬ Holds cut x y) → RowsCut 0 count rows cut
rows_none count rows cut none x y = (λ h. absurd (none x y h), λ h. absurd (let less = h.0 in omega (arith, less)))

pub rows_more : (a count : ℕ) (rows old new : Matrix) → RowsCut a count rows old → ((x y : ℕ) → Holds new x y ↔ (Holds old x y ⊎ ((a ≡ x) × (y < count) × Holds rows a y))) → RowsCut (a + 1) count rows new
rows_more a count rows old new before added x y = (
  λ h. ⊎_elim
      (λ earlier. let k = (before x y).0 earlier in let less = k.0 in (omega (arith, less), k.1, k.2))
      (λ k. let e = k.0 in (omega (arith, e), k.1, subst (λ j. Holds rows j y) e k.2))
      ((added x y).0 h),
  λ h. (added x y).1 (⊎_elim
      (λ less. inl ((before x y).1 (less, h.1, h.2)))
      (λ past. let less = h.0 in let same : x ≡ a = omega (arith, less, past) in inr (sym same, h.1, subst (λ j. Holds rows j y) same h.2))
      (cases_lt x a)),
)

-- ---- occurrences

pub record ListCut (count : ℕ) (list cut : List Occurrence) : Type 0 where
  pub rows : AreRows count cut
  pub related : (p : Place) (b : ℕ) → Relates cut p b ↔ ((b < count) × Relates list p b)
  pub listed : (p : Place) → Lists cut p ↔ Lists list p

pub list_none : (count : ℕ) → AreRows count [] → ListCut count [] []
list_none count rows = record { rows = rows; related = λ p b. (λ h. absurd (none_related p b h), λ h. absurd (none_related p b h.1)); listed = λ p. (λ h. h, λ h. h) }

pub list_more : (count : ℕ) (list cut : List Occurrence) (o new : Occurrence) → ListCut count list cut → length new.vars ≡ count → ((b : ℕ) → Has new.vars b ↔ ((b < count) × Has o.vars b)) → new.place ≡ o.place → ListCut count (list ++ o ∷ []) (cut ++ new ∷ [])
list_more count list cut o new before long row here = record {
  rows = All-push (λ (x : Occurrence). length x.vars ≡ count) cut new before.rows long;
  related = λ p b. (
    λ h. ⊎_elim
        (λ earlier. let k = (before.related p b).0 earlier in (k.0, (relates_push list o p b).1 (inl k.1)))
        (λ last. let k = (row b).0 last.1 in (k.0, (relates_push list o p b).1 (inr (sym here ∙ last.0, k.1))))
        ((relates_push cut new p b).0 h),
    λ h. (relates_push cut new p b).1 (⊎_elim
        (λ earlier. inl ((before.related p b).1 (h.0, earlier)))
        (λ last. inr (here ∙ last.0, (row b).1 (h.0, last.1)))
        ((relates_push list o p b).0 h.1)),
  );
  listed = λ p. (
    λ h. ⊎_elim (λ earlier. (lists_push list o p).1 (inl ((before.listed p).0 earlier))) (λ last. (lists_push list o p).1 (inr (sym here ∙ last))) ((lists_push cut new p).0 h),
    λ h. (lists_push cut new p).1 (⊎_elim (λ earlier. inl ((before.listed p).1 earlier)) (λ last. inr (here ∙ last)) ((lists_push list o p).0 h)),
  );
}
