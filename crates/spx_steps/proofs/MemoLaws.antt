-- The table of what terms were made into.
use Rattle.std.proofs.Common.{◌≡◌, ℕ, ◌+◌, ◌<◌, Bool, true, false, cond, List, [], ◌∷◌, length, get_or, set, map, zero, suc, Option, Some, None, refl, sym, ap, ◌∙◌, subst, arith, eqb, true≢false, get_or-set_other, get_or-set_same, slice_set}
use Rattle.std.proofs.lemmas.Bool.Decides.{Decides-eqb}
use Rattle.std.proofs.lemmas.List.{length-map, length-set}
use Rattle.spx_arena.specs.declared.terms.TermId.{TermId}
use Rattle.spx_steps.specs.declared.memo.Entry.{Entry}
use Rattle.spx_steps.specs.Entries.{made_in, table_of, turn_at, NoneLater}
use Rattle.spx_steps.specs.Memos.{id_eq, known, IsMade, IsNew, NothingKnown}
use Rattle.spx_steps.proofs.SharedIds.{id_eq-Decides}

-- ---- what is known
by_turn : (turn : ℕ) (e : Entry) (b : Bool) → eqb e.turn turn ≡ b → e.turn < turn → made_in turn e ≡ None
by_turn turn e true is w = absurd (let same = (Decides-eqb e.turn turn).0 is in omega (arith, same, w))
by_turn turn e false is w = ap (λ b. cond b (Some e.into) None) is

none_in : (turn : ℕ) (es : List Entry) (i : ℕ) → ((j : ℕ) → turn_at es j < turn) → get_or (table_of turn es) i None ≡ None
none_in turn [] i all = refl
none_in turn (e ∷ es) zero all = by_turn turn e (eqb e.turn turn) refl (all zero)
none_in turn (e ∷ es) (suc i) all = none_in turn es i (λ j. all (suc j))

pub nothing_new : {n : ℕ} (turn : ℕ) (es : List Entry) → 0 < turn → IsNew n es → NothingKnown n (table_of turn es)
nothing_new turn es w is = record { count_is = length-map es (made_in turn) ∙ is.count_is; none = λ id. none_in turn es id.0 (λ j. let z = is.turns j in omega (arith, z, w)) }

pub new_of : {n k : ℕ} {es : List Entry} → k ≡ n → IsNew k es → IsNew n es
new_of {n} {k} {es} is new = subst (λ i. IsNew i es) is new

pub nothing_clear : (turn next : ℕ) (es new : List Entry) (memo : List (Option TermId)) → 0 < next → table_of turn es ≡ memo → IsNew (length es) new → NothingKnown (length memo) (table_of next new)
nothing_clear turn next es new memo w view is =
    nothing_new next new w (new_of (sym (length-map es (made_in turn)) ∙ ap length view) is)

pub nothing_next : (turn next : ℕ) (es : List Entry) (memo : List (Option TermId)) → next ≡ turn + 1 → NoneLater turn es → table_of turn es ≡ memo → NothingKnown (length memo) (table_of next es)
nothing_next turn next es memo is later view = record {
  count_is = length-map es (made_in next) ∙ sym (length-map es (made_in turn)) ∙ ap length view;
  none = λ id. none_in next es id.0 (λ j. let z = later.turns j in omega (arith, z, is));
}

by_equal : (turn : ℕ) (e : Entry) (b : Bool) → e.turn ≡ turn → eqb e.turn turn ≡ b → made_in turn e ≡ Some e.into
by_equal turn e true same is = ap (λ b. cond b (Some e.into) None) is
by_equal turn e false same is = absurd (true≢false (sym ((Decides-eqb e.turn turn).1 same) ∙ is))

map_set : {A B : Type 0} (f : A → B) (xs : List A) (i : ℕ) (y : A) → map f (set xs i y) ≡ set (map f xs) i (f y)
map_set f [] i y = refl
map_set f (x ∷ xs) zero y = refl
map_set f (x ∷ xs) (suc i) y = ap (λ ys. f x ∷ ys) (map_set f xs i y)

pub one_made : (turn : ℕ) (es new : List Entry) (memo : List (Option TermId)) (id into : TermId) → table_of turn es ≡ memo → id.0 < length memo → new ≡ slice_set es id.0 (record { turn = turn; into = into }) → IsMade memo (table_of turn new) id into
one_made turn es new memo id into view w is = record {
  count = ap length as_set ∙ length-set memo id.0 (Some into);
  at = λ x. ap (λ (m : List (Option TermId)). known m x) as_set ∙ by_place x (id_eq x id) refl;
}
  where
    e : Entry
    e = record { turn = turn; into = into }

    as_set : table_of turn new ≡ set memo id.0 (Some into)
    as_set =
        ap (table_of turn) is ∙ map_set (made_in turn) es id.0 (record { turn = turn; into = into })
        ∙ (λ i. set (view i) id.0 (by_equal turn (record { turn = turn; into = into }) (eqb turn turn) refl refl i))

    by_place : (x : TermId) (b : Bool) → id_eq x id ≡ b → known (set memo id.0 (Some into)) x ≡ cond b (Some into) (known memo x)
    by_place x true same =
        ap (λ (y : TermId). known (set memo id.0 (Some into)) y) ((id_eq-Decides x id).0 same) ∙ get_or-set_same memo id.0 (Some into) None w
    by_place x false same =
        get_or-set_other memo id.0 x.0 (Some into) None (λ p. true≢false (sym ((id_eq-Decides x id).1 (λ i. record { 0 = p i })) ∙ same))
