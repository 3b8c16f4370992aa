-- Conditions that are closed, and those that are left.
use Rattle.std.proofs.Common.{◌≡◌, ℕ, ◌+◌, Bool, true, false, not, cond, List, [], ◌∷◌, ◌++◌, ◌-◌, ◌<◌, ◌≤◌, length, map, filter, count_by, Option, Some, None, flat_map, take, drop, get_or, add-zero, add-one, refl, sym, ap, ◌∙◌, arith}
use Rattle.std.specs.Prelude.{◌↔◌, filter_map, slice_get}
use Rattle.std.specs.List.{All, AllByRecursion, cons_option, enumerate_from}
use Rattle.std.proofs.lemmas.List.Elements.{All-from_recursion, filter_map-append, recursion_from_All}
use Rattle.std.proofs.Math.Seq.{take-suc}
use Rattle.std.proofs.lemmas.List.{length-map, append-nil, take-append-drop}
use Rattle.std.proofs.lemmas.Grind.{flat_map-append}
use Rattle.std.proofs.lemmas.List.Sums.{length-filter}
use Rattle.std.proofs.lemmas.List.Filters.{length-filter_both}
use Rattle.spx_term.specs.declared.condition.Condition.{Condition}
use Rattle.spx_term.specs.Plain.{closes-Decides, Plain}
use Rattle.spx_paths.specs.Conditions.{conditions_of, ArePlain}
use Rattle.spx_term.specs.Goals.{goal_of}
use Rattle.spx_core.specs.declared.entity.SubId.{SubId}
use Rattle.spx_core.specs.declared.program.Program.{Program}
use Rattle.spx_core.specs.declared.subprogram.Sub.{Sub}
use Rattle.spx_report.specs.declared.limit.LimitName.{LimitName}
use Rattle.spx_report.specs.declared.report.Finding.{Finding}
use Rattle.spx_report.specs.declared.report.Findings.{Findings}
use Rattle.spx_findings.specs.Findings.{findings_of, first_limit_in, is_closed, is_left, limit_at, lines_at, or_else, row_at, row_of, unproved, unproved_of}

-- ---- counts
left_length : (cs : List Condition) → length (unproved_of cs) ≡ count_by is_left cs
left_length cs = length-map (filter is_left cs) unproved ∙ length-filter is_left cs

closed_and_left : (cs : List Condition) → count_by is_closed cs + count_by is_left cs ≡ length cs
closed_and_left cs =
    (λ i. sym (length-filter is_closed cs) i + sym (length-filter is_left cs) i) ∙ length-filter_both is_closed is_left (λ c. refl) cs

pub left_within : (cs : List Condition) → length (unproved_of cs) ≤ length cs
left_within cs = omega (arith, left_length cs, closed_and_left cs)

pub row_of_counts : (id : SubId) (cs : List Condition) → row_of id.0 cs ≡ record { sub = id; total = length cs; simplified = length cs - length (unproved_of cs); scripted = 0; left = length (unproved_of cs) }
unfolding row_of
row_of_counts id cs =
    let left = left_length cs in
    let closed : count_by is_closed cs ≡ length cs - length (unproved_of cs) = omega (arith, left, closed_and_left cs) in
    λ i. record { sub = id; total = length cs; simplified = closed i; scripted = 0; left = sym left i }

-- ---- numbered lists
pub enumerate_from-push : {A : Type 0} (n : ℕ) (xs : List A) (x : A) → enumerate_from n (xs ++ x ∷ []) ≡ enumerate_from n xs ++ (n + length xs, x) ∷ []
enumerate_from-push n [] x = ap (λ k. (k, x) ∷ []) (sym (add-zero n))
enumerate_from-push n (y ∷ xs) x =
    ap (λ es. (n, y) ∷ es) (enumerate_from-push (n + 1) xs x ∙ ap (λ k. enumerate_from (n + 1) xs ++ (k, x) ∷ []) (let e : n + 1 + length xs ≡ n + length (y ∷ xs) = omega arith in e))

-- ---- lines and rows, body by body
module _ (p : Program) where
  abbrev pub lines_of : List Sub → List Finding
  lines_of subs = flat_map (λ sub. unproved_of (conditions_of p sub)) subs

  abbrev pub lines_in : List SubId → List Finding
  lines_in ids = flat_map (λ (id : SubId). lines_at p (slice_get p.subs id.0)) ids

  abbrev pub limit_in : List SubId → Option LimitName
  limit_in [] = None
  limit_in (id ∷ ids) = or_else (limit_at p (slice_get p.subs id.0)) (limit_in ids)

  abbrev pub subs_in : List SubId → List Sub
  subs_in ids = filter_map (λ (id : SubId). slice_get p.subs id.0) ids

  pub lines_by_body : (ids : List SubId) → lines_in ids ≡ lines_of (subs_in ids)
  lines_by_body [] = refl
  lines_by_body (id ∷ ids) = ap (λ found. lines_at p (slice_get p.subs id.0) ++ found) (lines_by_body ids) ∙ first (slice_get p.subs id.0)
    where
      first : (o : Option Sub) → lines_at p o ++ lines_of (subs_in ids) ≡ lines_of (cons_option o (subs_in ids))
      first (Some sub) = refl
      first None = refl

  pub limit_by_body : (ids : List SubId) → limit_in ids ≡ first_limit_in p (subs_in ids)
  limit_by_body [] = refl
  limit_by_body (id ∷ ids) = ap (or_else (limit_at p (slice_get p.subs id.0))) (limit_by_body ids) ∙ first (slice_get p.subs id.0)
    where
      first : (o : Option Sub) → or_else (limit_at p o) (first_limit_in p (subs_in ids)) ≡ first_limit_in p (cons_option o (subs_in ids))
      first (Some sub) = refl
      first None = refl

  -- the first limit of two parts is that of the first part, if it has one
  limit_append : (ids more : List SubId) → limit_in (ids ++ more) ≡ or_else (limit_in ids) (limit_in more)
  limit_append [] more = refl
  limit_append (id ∷ ids) more = ap (or_else (limit_at p (slice_get p.subs id.0))) (limit_append ids more) ∙ by (limit_at p (slice_get p.subs id.0))
    where
      by : (o : Option LimitName) → or_else o (or_else (limit_in ids) (limit_in more)) ≡ or_else (or_else o (limit_in ids)) (limit_in more)
      by (Some name) = refl
      by None = refl

  or_none : (o : Option LimitName) → or_else o None ≡ o
  or_none (Some name) = refl
  or_none None = refl

  or_some : (o other : Option LimitName) (name : LimitName) → o ≡ Some name → or_else o other ≡ Some name
  or_some (Some x) other name is = is
  or_some None other name is = absurd (cc)

  -- what is found in all bodies is what is found in the program
  pub findings_are : (found : Findings) → found.lines ≡ lines_in p.bodies → found.subs ≡ filter_map (row_at p) p.bodies → found ≡ findings_of p
  unfolding findings_of
  findings_are found lines rows = λ i. record { lines = (lines ∙ lines_by_body p.bodies) i; subs = rows i }

  -- one more body
  one_more : (ids : List SubId) (i : ℕ) (d : SubId) → i < length ids → take (i + 1) ids ≡ take i ids ++ get_or ids i d ∷ []
  one_more ids i d within = ap (λ k. take k ids) (add-one i) ∙ take-suc ids i d within

  pub lines_more : (ids : List SubId) (i : ℕ) (d : SubId) → i < length ids → lines_in (take (i + 1) ids) ≡ lines_in (take i ids) ++ lines_at p (slice_get p.subs (get_or ids i d).0)
  lines_more ids i d within =
      ap lines_in (one_more ids i d within)
      ∙ flat_map-append (λ (id : SubId). lines_at p (slice_get p.subs id.0)) (take i ids) (get_or ids i d ∷ [])
      ∙ ap (λ found. lines_in (take i ids) ++ found) (append-nil (lines_at p (slice_get p.subs (get_or ids i d).0)))

  pub limit_more : (ids : List SubId) (i : ℕ) (d : SubId) → i < length ids → limit_in (take i ids) ≡ None → limit_in (take (i + 1) ids) ≡ limit_at p (slice_get p.subs (get_or ids i d).0)
  limit_more ids i d within none =
      ap limit_in (one_more ids i d within)
      ∙ limit_append (take i ids) (get_or ids i d ∷ [])
      ∙ ap (λ o. or_else o (or_else (limit_at p (slice_get p.subs (get_or ids i d).0)) None)) none
      ∙ or_none (limit_at p (slice_get p.subs (get_or ids i d).0))

  -- the limit that a body passes, where none before it passes one, is the first
  pub limit_here : (ids : List SubId) (i : ℕ) (d : SubId) (name : LimitName) → i < length ids → limit_in (take i ids) ≡ None → limit_at p (slice_get p.subs (get_or ids i d).0) ≡ Some name → limit_in ids ≡ Some name
  limit_here ids i d name within none here =
      ap limit_in (sym (take-append-drop (i + 1) ids))
      ∙ limit_append (take (i + 1) ids) (drop (i + 1) ids)
      ∙ or_some (limit_in (take (i + 1) ids)) (limit_in (drop (i + 1) ids)) name (limit_more ids i d within none ∙ here)

  pub rows_more : (ids : List SubId) (i : ℕ) (d : SubId) → i < length ids → filter_map (row_at p) (take (i + 1) ids) ≡ filter_map (row_at p) (take i ids) ++ cons_option (row_at p (get_or ids i d)) []
  rows_more ids i d within = ap (filter_map (row_at p)) (one_more ids i d within) ∙ filter_map-append (row_at p) (take i ids) (get_or ids i d ∷ [])

-- ---- no line
abbrev IsPlain : Condition → Type 0
IsPlain c = Plain c.hyps (goal_of c.goals)

none_or : (c : Condition) (cs : List Condition) (b : Bool) → is_closed c ≡ b → map unproved (cond (not b) (c ∷ filter is_left cs) (filter is_left cs)) ≡ [] → (unproved_of cs ≡ [] → AllByRecursion IsPlain cs) → AllByRecursion IsPlain (c ∷ cs)
none_or c cs true closed none more = ((closes-Decides c.hyps (goal_of c.goals)).0 closed, more none)
none_or c cs false closed none more = absurd (cc)

plain_from_none : (cs : List Condition) → unproved_of cs ≡ [] → AllByRecursion IsPlain cs
plain_from_none [] none = tt
plain_from_none (c ∷ cs) none = none_or c cs (is_closed c) refl none (plain_from_none cs)

none_from_plain : (cs : List Condition) → AllByRecursion IsPlain cs → unproved_of cs ≡ []
none_from_plain [] plain = refl
none_from_plain (c ∷ cs) plain =
    ap (λ b. map unproved (cond (not b) (c ∷ filter is_left cs) (filter is_left cs))) ((closes-Decides c.hyps (goal_of c.goals)).1 plain.0)
    ∙ none_from_plain cs plain.1

first_none : {A : Type 0} (xs ys : List A) → xs ++ ys ≡ [] → (xs ≡ []) × (ys ≡ [])
first_none [] ys none = (refl, none)
first_none (x ∷ xs) ys none = absurd (cc)

module _ (p : Program) where
  abbrev pub IsPlainSub : Sub → Type 0
  IsPlainSub sub = ArePlain (conditions_of p sub)

  all_plain_from_none : (subs : List Sub) → lines_of p subs ≡ [] → AllByRecursion IsPlainSub subs
  all_plain_from_none [] none = tt
  all_plain_from_none (sub ∷ subs) none =
      let parts = first_none (unproved_of (conditions_of p sub)) (lines_of p subs) none in
      (All-from_recursion IsPlain (conditions_of p sub) (plain_from_none (conditions_of p sub) parts.0), all_plain_from_none subs parts.1)

  none_from_all_plain : (subs : List Sub) → AllByRecursion IsPlainSub subs → lines_of p subs ≡ []
  none_from_all_plain [] plain = refl
  none_from_all_plain (sub ∷ subs) plain =
      ap (λ found. found ++ lines_of p subs) (none_from_plain (conditions_of p sub) (recursion_from_All IsPlain (conditions_of p sub) plain.0))
      ∙ none_from_all_plain subs plain.1

  pub none_left : (subs : List Sub) → (lines_of p subs ≡ []) ↔ All IsPlainSub subs
  none_left subs =
      (λ none. All-from_recursion IsPlainSub subs (all_plain_from_none subs none), λ plain. none_from_all_plain subs (recursion_from_All IsPlainSub subs plain))
