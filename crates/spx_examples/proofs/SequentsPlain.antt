-- Which sequents need no proof.
use Rattle.std.proofs.Common.{◌≡◌, ℕ, ℤ, pos, true, false, ◌||◌, List, [], ◌∷◌, map, refl, ap, ap₂, ◌∙◌}
use denote.Hole.Carrier.{hidden, out, fold, shown}
use denote.Hole.Rolled.{depth}
use Rattle.spx_term.specs.declared.term.Sort.{Sort}
use Rattle.spx_term.specs.declared.term.Sort.TheVariants.{Integer, Boolean}
use Rattle.spx_term.specs.declared.term.Symbol.TheVariants as symbol
use Rattle.spx_term.specs.declared.term.TermOp.{TermOp}
use Rattle.spx_term.specs.declared.term.TermOp.TheVariants as sign
use Rattle.spx_term.specs.declared.term.TermPrefix.TheVariants.{Not}
use Rattle.spx_term.specs.declared.term.Term.{Term}
use Rattle.spx_term.specs.declared.term.Term as forms
use Rattle.spx_term.specs.declared.term.Term.TheBlock as block
use Rattle.spx_term.specs.declared.term.Term.TheVariants as term
use Rattle.spx_term.specs.Equality.{same_by, same_term}
use Rattle.spx_term.specs.Folding.{folded, folded_step, simplified, of_itself, before_literal, prefixed}
use Rattle.spx_term.specs.Intervals.{allowed, bounds, bounded, interval, mirrored}
use Rattle.spx_term.specs.Negation.{negated}
use Rattle.spx_term.specs.Plain.{closes, is_among, is_plain, joined, settled, Plain}
use Rattle.spx_term.proofs.Terms as terms
use Rattle.spx_examples.specs.Increment.{entry_x}
use Rattle.spx_examples.specs.Sequents.{entry_of, entry_y, entry_z, entry_b, entry_c, at_most, x_at_most, in_order, in_both_cases, contradictory}

-- ---- folding leaves the terms as they are

folded_entry : (k : ℕ) (s : Sort) → folded (entry_of k s) ≡ entry_of k s
folded_entry k s = terms.fold-Variable folded_step (record { symbol = symbol.Entry k; sort = s })

folded_by : (o : TermOp) (a b c : Term) → folded a ≡ a → folded b ≡ b → simplified o a b ≡ c → folded (term.Infix o a b) ≡ c
folded_by o a b c a_is b_is is = terms.fold-Infix folded_step o a b ∙ ap₂ (simplified o) a_is b_is ∙ is

-- whether the sequent needs no proof, where folding leaves it as it is
closed_is : (hyps : List Term) (goal : Term) → map folded hyps ≡ hyps → folded goal ≡ goal → closes hyps goal ≡ (is_among hyps (term.Truth false) || is_plain hyps goal)
unfolding closes
closed_is hyps goal hyps_are goal_is = ap₂ (λ hs g. is_among hs (term.Truth false) || is_plain hs g) hyps_are goal_is

two : (a b : Term) → folded a ≡ a → folded b ≡ b → map folded (a ∷ b ∷ []) ≡ a ∷ b ∷ []
two a b p q = ap₂ (λ (s t : Term). s ∷ t ∷ []) p q

-- ---- the answers of the test

answers : (closes (x_at_most (pos 5) ∷ []) (x_at_most (pos 10)) ≡ true) × (closes [] (at_most entry_x entry_x) ≡ true) × (closes in_order (at_most entry_x entry_z) ≡ false) × (closes in_both_cases entry_c ≡ false) × (closes contradictory (term.Truth false) ≡ false)
unfolding closes allowed negated prefixed simplified of_itself before_literal is_plain joined settled interval bounded bounds mirrored same_term same_by hidden block.hidden-the_row-Term-0 forms.out-Term out block.the_depth depth fold block.shown-the_row-Term-0 shown
answers =
    let x = folded_entry 0 Integer in
    let y = folded_entry 1 Integer in
    let z = folded_entry 2 Integer in
    let b = folded_entry 3 Boolean in
    let c = folded_entry 4 Boolean in
    let not_b = terms.fold-Prefix folded_step Not entry_b ∙ ap (prefixed Not) b in
    let number = terms.fold-Number folded_step in
    let most = λ (n : ℤ) (is : simplified sign.LessOrEqual entry_x (term.Number n) ≡ x_at_most n). folded_by sign.LessOrEqual entry_x (term.Number n) (x_at_most n) x (number n) is in
    let least = folded_by sign.GreaterOrEqual entry_x (term.Number (pos 1)) _ x (number (pos 1)) refl in (
      closed_is (x_at_most (pos 5) ∷ []) (x_at_most (pos 10)) (ap (λ (s : Term). s ∷ []) (most (pos 5) refl)) (most (pos 10) refl),
      ap (λ g. is_among [] (term.Truth false) || is_plain [] g) (folded_by sign.LessOrEqual entry_x entry_x (term.Truth true) x x refl),
      closed_is in_order (at_most entry_x entry_z) (two _ _ (folded_by sign.LessOrEqual entry_x entry_y _ x y refl) (folded_by sign.LessOrEqual entry_y entry_z _ y z refl)) (folded_by sign.LessOrEqual entry_x entry_z _ x z refl),
      closed_is in_both_cases entry_c (two _ _ (folded_by sign.Implies entry_b entry_c _ b c refl) (folded_by sign.Implies (term.Prefix Not entry_b) entry_c _ not_b c refl)) c,
      closed_is contradictory (term.Truth false) (two _ _ (most (pos 0) refl) least) (terms.fold-Truth folded_step false),
    )

closed : (hyps : List Term) (goal : Term) → closes hyps goal ≡ true → Plain hyps goal
unfolding Plain
closed hyps goal h = h

open_is : (hyps : List Term) (goal : Term) → closes hyps goal ≡ false → ¬ Plain hyps goal
unfolding Plain
open_is hyps goal none plain = absurd (let e : closes hyps goal ≡ true = plain in let f = none in cc)

pub bound_plain : Plain (x_at_most (pos 5) ∷ []) (x_at_most (pos 10))
bound_plain = closed _ _ answers.0

pub itself_plain : Plain [] (at_most entry_x entry_x)
itself_plain = closed _ _ answers.1

pub chain_not_plain : ¬ Plain in_order (at_most entry_x entry_z)
chain_not_plain = open_is _ _ answers.2

pub cases_not_plain : ¬ Plain in_both_cases entry_c
cases_not_plain = open_is _ _ answers.3

pub contradictory_not_plain : ¬ Plain contradictory (term.Truth false)
contradictory_not_plain = open_is _ _ answers.4
