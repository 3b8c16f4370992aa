-- The sum `X + 1` needs no proof where X lies below a number on entry.
use Rattle.std.proofs.Common.{◌≡◌, ℤ, pos, ◌+ℤ◌, Bool, true, false, ◌||◌, ◌&&◌, if◌then◌else◌, List, [], ◌∷◌, ◌++◌, Some, map, refl, ap, ap₂, ◌∙◌}
use Rattle.std.specs.Prelude.{int_le}
use Rattle.std.proofs.lemmas.Bool.{or_right}
use denote.Hole.Carrier.{hidden}
use Rattle.spx_core.specs.declared.entity.TheConstants.{INTEGER_FIRST, INTEGER_LAST}
use Rattle.spx_term.specs.declared.interval.Interval.{Interval}
use Rattle.spx_term.specs.declared.term.Symbol.TheVariants as symbol
use Rattle.spx_term.specs.declared.term.Sort.TheVariants.{Integer}
use Rattle.spx_term.specs.declared.term.TermOp.{TermOp}
use Rattle.spx_term.specs.declared.term.TermOp.TheVariants as sign
use Rattle.spx_term.specs.declared.term.Term.{Term}
use Rattle.spx_term.specs.declared.term.Term.TheBlock.{hidden-the_row-Term-0}
use Rattle.spx_term.specs.declared.term.Term.TheVariants as term
use Rattle.spx_term.specs.declared.term.Term.TheVariants.{outs-Infix}
use Rattle.spx_term.specs.Equality.{same_term}
use Rattle.spx_term.specs.Folding.{before_literal, of_itself, simplified, folded_step, folded}
use Rattle.spx_term.specs.Goals.{goal_of}
use Rattle.spx_term.specs.declared.value.Literal.TheVariants as literal
use Rattle.spx_term.specs.Conjuncts.{conjuncts}
use Rattle.spx_term.specs.Intervals.{unbounded, point, meet, allowed, bounds_in, bounds, bounded, structural, interval, interval-Number, interval-Variable, interval-Infix}
use Rattle.spx_term.specs.Plain.{closes, settled, is_among, joined, is_plain, is_plain-Infix, Plain}
use Rattle.spx_term.proofs.Terms.{fold-Number, fold-Variable, fold-Infix}
use Rattle.spx_examples.specs.Increment.{entry_x, next_x, at_least_first, at_most_last, entry_below, known_below, sum_goals}
use Rattle.spx_examples.proofs.TermEquality.{same_as_itself, not_same, no_infix, no_number, is_first, is_later}

-- ---- folding leaves each term as it is

folded_entry : folded entry_x ≡ entry_x
folded_entry = fold-Variable folded_step (record { symbol = symbol.Entry 0; sort = Integer })

folded_before : (o : TermOp) (a : Term) (n : ℤ) → folded a ≡ a → simplified o a (term.Number n) ≡ term.Infix o a (term.Number n) → folded (term.Infix o a (term.Number n)) ≡ term.Infix o a (term.Number n)
folded_before o a n is stays = fold-Infix folded_step o a (term.Number n) ∙ ap₂ (simplified o) is (fold-Number folded_step n) ∙ stays

folded_next : folded next_x ≡ next_x
unfolding simplified before_literal hidden-the_row-Term-0 hidden
folded_next = folded_before sign.Add entry_x (pos 1) folded_entry refl

folded_least : (a : Term) → folded a ≡ a → simplified sign.GreaterOrEqual a (term.Number INTEGER_FIRST) ≡ at_least_first a → folded (at_least_first a) ≡ at_least_first a
folded_least a = folded_before sign.GreaterOrEqual a INTEGER_FIRST

folded_most : (a : Term) → folded a ≡ a → simplified sign.LessOrEqual a (term.Number INTEGER_LAST) ≡ at_most_last a → folded (at_most_last a) ≡ at_most_last a
folded_most a = folded_before sign.LessOrEqual a INTEGER_LAST

folded_goals : map folded sum_goals ≡ sum_goals
unfolding simplified before_literal hidden-the_row-Term-0 hidden
folded_goals = ap₂ (λ (s t : Term). s ∷ t ∷ []) (folded_least next_x folded_next refl) (folded_most next_x folded_next refl)

folded_with : (n : ℤ) (rest : List Term) → map folded rest ≡ rest → map folded (known_below n ++ rest) ≡ known_below n ++ rest
unfolding simplified before_literal hidden-the_row-Term-0 hidden
folded_with n rest is =
    ap₂ (λ (s : Term) (ts : List Term). s ∷ ts) (folded_least entry_x folded_entry refl)
    (ap₂ (λ (s : Term) (ts : List Term). s ∷ ts) (folded_most entry_x folded_entry refl)
    (ap₂ (λ (s : Term) (ts : List Term). s ∷ ts) (folded_before sign.Less entry_x n folded_entry refl) is))

folded_goal : folded (goal_of sum_goals) ≡ goal_of sum_goals
unfolding simplified of_itself before_literal hidden-the_row-Term-0 hidden
folded_goal =
    fold-Infix folded_step sign.And (at_least_first next_x) (at_most_last next_x)
    ∙ ap₂ (simplified sign.And) (folded_least next_x folded_next refl) (folded_most next_x folded_next refl)

plain_from : (hyps : List Term) (goal : Term) → map folded hyps ≡ hyps → folded goal ≡ goal → is_plain hyps goal ≡ true → Plain hyps goal
unfolding Plain closes
plain_from hyps goal hyps_stay goal_stays h = or_right (is_among (map folded hyps) (term.Truth false)) (is_plain (map folded hyps) (folded goal)) (ap₂ is_plain hyps_stay goal_stays ∙ h)

-- ---- goals that need no proof

both_plain : (hyps : List Term) (g h : Term) → is_plain hyps g ≡ true → is_plain hyps h ≡ true → is_plain hyps (term.Infix sign.And g h) ≡ true
unfolding joined
both_plain hyps g h p q =
    is_plain-Infix hyps sign.And g h
    ∙ or_right (is_among hyps (term.Infix sign.And g h)) (is_plain hyps g && is_plain hyps h) (ap₂ ◌&&◌ p q)

among_plain : (hyps : List Term) (o : TermOp) (a b : Term) → is_among hyps (term.Infix o a b) ≡ true → is_plain hyps (term.Infix o a b) ≡ true
among_plain hyps o a b h = is_plain-Infix hyps o a b ∙ ap (λ c. c || joined o (is_plain hyps a) (is_plain hyps b) (is_plain (hyps ++ conjuncts a) b) (interval hyps a) (interval hyps b)) h

-- the goals are among what is known after the first check
shown_plain : (n : ℤ) → is_plain (known_below n ++ sum_goals) (goal_of sum_goals) ≡ true
shown_plain n =
    let all = known_below n ++ sum_goals in
    let first : Term = at_least_first next_x in
    let last : Term = at_most_last next_x in
    let low : Term = at_least_first entry_x in
    let high : Term = at_most_last entry_x in
    both_plain all first last
    (among_plain all sign.GreaterOrEqual next_x (term.Number INTEGER_FIRST)
    (is_later first low (high ∷ entry_below n ∷ sum_goals) (is_later first high (entry_below n ∷ sum_goals) (is_later first (entry_below n) sum_goals (is_first first (last ∷ []))))))
    (among_plain all sign.LessOrEqual next_x (term.Number INTEGER_LAST)
    (is_later last low (high ∷ entry_below n ∷ sum_goals) (is_later last high (entry_below n ∷ sum_goals) (is_later last (entry_below n) sum_goals (is_later last first (last ∷ []) (is_first last []))))))

pub range_plain : (n : ℤ) → Plain (known_below n ++ sum_goals) (goal_of sum_goals)
range_plain n = plain_from (known_below n ++ sum_goals) (goal_of sum_goals) (folded_with n sum_goals folded_goals) folded_goal (shown_plain n)

-- ---- intervals

-- what a comparison of X~ with a number says of a term that is X~, or is not
abbrev limits : TermOp → ℤ → Bool → Interval
limits o n is_entry = meet (if is_entry then allowed o n else unbounded) unbounded

bounds_are : (o : TermOp) (n : ℤ) (t : Term) (is_entry : Bool) → same_term entry_x t ≡ is_entry → bounds t (term.Infix o entry_x (term.Number n)) ≡ limits o n is_entry
unfolding bounds hidden-the_row-Term-0 hidden
bounds_are o n t is_entry is = ap (bounds_in t) (outs-Infix o entry_x (term.Number n)) ∙ ap (limits o n) is

-- an interval within what all hypotheses say of such a term
abbrev pub narrowed : ℤ → Interval → Bool → Interval
narrowed n i is_entry = meet (meet (meet i (limits sign.GreaterOrEqual INTEGER_FIRST is_entry)) (limits sign.LessOrEqual INTEGER_LAST is_entry)) (limits sign.Less n is_entry)

abbrev pub from_to : ℤ → ℤ → Interval
from_to m n = record { low = Some m; high = Some n }

-- below n the highest number is this, and one more lies in the type
pub record Fits (n high : ℤ) : Type 0 where
  pub below : narrowed n unbounded true ≡ from_to INTEGER_FIRST high
  pub sums : structural sign.Add (from_to INTEGER_FIRST high) (point (pos 1)) (Some (literal.Number (pos 1))) ≡ from_to (INTEGER_FIRST +ℤ pos 1) (high +ℤ pos 1)
  pub in_type : int_le (high +ℤ pos 1) INTEGER_LAST ≡ true

module _ (n high : ℤ) (fit : Fits n high) where
  bounded_is : (i : Interval) (t : Term) (is_entry : Bool) → same_term entry_x t ≡ is_entry → bounded i (known_below n) t ≡ narrowed n i is_entry
  unfolding bounded
  bounded_is i t is_entry is =
      ap₂ (λ (a b : Interval). meet (meet (meet i a) b) (bounds t (entry_below n))) (bounds_are sign.GreaterOrEqual INTEGER_FIRST t is_entry is) (bounds_are sign.LessOrEqual INTEGER_LAST t is_entry is)
      ∙ ap (meet (meet (meet i (limits sign.GreaterOrEqual INTEGER_FIRST is_entry)) (limits sign.LessOrEqual INTEGER_LAST is_entry))) (bounds_are sign.Less n t is_entry is)

  interval_entry : interval (known_below n) entry_x ≡ from_to INTEGER_FIRST high
  interval_entry = interval-Variable (known_below n) (record { symbol = symbol.Entry 0; sort = Integer }) ∙ bounded_is unbounded entry_x true (same_as_itself entry_x) ∙ fit.below

  interval_number : (m : ℤ) → interval (known_below n) (term.Number m) ≡ point m
  interval_number m =
      interval-Number (known_below n) m
      ∙ bounded_is (point m) (term.Number m) false (not_same entry_x (term.Number m) (no_number (record { symbol = symbol.Entry 0; sort = Integer }) m))

  interval_next : interval (known_below n) next_x ≡ from_to (INTEGER_FIRST +ℤ pos 1) (high +ℤ pos 1)
  interval_next =
      interval-Infix (known_below n) sign.Add entry_x (term.Number (pos 1))
      ∙ ap₂ (λ i j. bounded (structural sign.Add i j (Some (literal.Number (pos 1)))) (known_below n) next_x) interval_entry (interval_number (pos 1))
      ∙ ap (λ i. bounded i (known_below n) next_x) fit.sums
      ∙ bounded_is (from_to (INTEGER_FIRST +ℤ pos 1) (high +ℤ pos 1)) next_x false (not_same entry_x next_x (no_infix (record { symbol = symbol.Entry 0; sort = Integer }) sign.Add entry_x (term.Number (pos 1))))

  settled_plain : (o : TermOp) (m : ℤ) → joined o (is_plain (known_below n) next_x) (is_plain (known_below n) (term.Number m)) (is_plain (known_below n ++ conjuncts next_x) (term.Number m)) (from_to (INTEGER_FIRST +ℤ pos 1) (high +ℤ pos 1)) (point m) ≡ true → is_plain (known_below n) (term.Infix o next_x (term.Number m)) ≡ true
  settled_plain o m h =
      is_plain-Infix (known_below n) o next_x (term.Number m)
      ∙ or_right (is_among (known_below n) (term.Infix o next_x (term.Number m))) (joined o (is_plain (known_below n) next_x) (is_plain (known_below n) (term.Number m)) (is_plain (known_below n ++ conjuncts next_x) (term.Number m)) (interval (known_below n) next_x) (interval (known_below n) (term.Number m)))
      (ap₂ (joined o (is_plain (known_below n) next_x) (is_plain (known_below n) (term.Number m)) (is_plain (known_below n ++ conjuncts next_x) (term.Number m))) interval_next (interval_number m) ∙ h)

  goals_plain : is_plain (known_below n) (goal_of sum_goals) ≡ true
  unfolding joined settled
  goals_plain = both_plain (known_below n) (at_least_first next_x) (at_most_last next_x) (settled_plain sign.GreaterOrEqual INTEGER_FIRST refl) (settled_plain sign.LessOrEqual INTEGER_LAST fit.in_type)

  pub overflow_plain : Plain (known_below n) (goal_of sum_goals)
  overflow_plain = plain_from (known_below n) (goal_of sum_goals) (folded_with n [] refl) folded_goal goals_plain
