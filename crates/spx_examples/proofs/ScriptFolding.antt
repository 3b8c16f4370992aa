-- What steps do to sequents whose terms fold to themselves.
use Rattle.std.proofs.Common.{◌≡◌, ℤ, false, ◌||◌, Ok, Option, Some, List, [], ◌∷◌, map, refl, ap₂}
use denote.Hole.Carrier.{out, fold, shown, hidden}
use denote.Hole.Rolled.{depth}
use Rattle.spx_term.specs.declared.term.Term.{Term, out-Term}
use Rattle.spx_term.specs.declared.term.Term.TheBlock.{the_depth, shown-the_row-Term-0, hidden-the_row-Term-0}
use Rattle.spx_term.specs.declared.term.Term.TheVariants.{Truth}
use Rattle.spx_term.specs.Equality.{same_term, same_by}
use Rattle.spx_term.specs.Folding.{folded, simplified, of_itself, before_literal, after_literal}
use Rattle.spx_term.specs.Plain.{closes, is_among, is_plain}
use Rattle.spx_kernel.specs.Sequents.{Answer}
use Rattle.spx_kernel.specs.Certificates.{opposite_of, listed, with_term, by_terms}
use Rattle.spx_kernel.specs.Steps.{only_if}
use Rattle.spx_examples.specs.LinearExamples.{integer_s, integer_i, integer_n, number, equal, less, at_most, at_least, s_is_doubled, i_in_range, n_is_natural, n_is_small}
use Rattle.spx_examples.specs.ScriptExamples.{from_first, to_last, s_and_two, twice_next, twice_n, before_sum}
use Rattle.spx_examples.proofs.CompositeFolding.{number_to, variable_to, infix_to}

-- ---- steps on folded terms

-- what the hypotheses with these multipliers are listed as
abbrev hyps_listed : List ℤ → List Term → Option (List Term)
hyps_listed [] hs = Some []
hyps_listed (n ∷ ns) [] = Some []
hyps_listed (n ∷ ns) (h ∷ hs) = with_term (listed n (Some h)) (hyps_listed ns hs)

-- the step `linear` with this goal and these hypotheses, all folded
abbrev pub by_folded : ℤ → List ℤ → Term → List Term → Answer
by_folded m ns g hs = by_terms (m ∷ ns) (with_term (listed m (opposite_of g)) (hyps_listed ns hs))

-- terms that fold to themselves
abbrev pub Stays : Term → Type 0
Stays t = folded t ≡ t

abbrev pub AllStay : List Term → Type 0
AllStay ts = map folded ts ≡ ts

pub none_stay : AllStay []
none_stay = refl

pub and_stays : {t : Term} {ts : List Term} → Stays t → AllStay ts → AllStay (t ∷ ts)
and_stays p q = ap₂ (λ (s : Term) (ss : List Term). s ∷ ss) p q

pub linear_is : (m : ℤ) (ns : List ℤ) {g : Term} {hs : List Term} → Stays g → AllStay hs → by_folded m ns (folded g) (map folded hs) ≡ by_folded m ns g hs
linear_is m ns p q = ap₂ (by_folded m ns) p q

pub plain_is : {hs : List Term} {g : Term} → AllStay hs → Stays g → only_if (closes hs g) (Ok []) ≡ only_if (is_among hs (Truth false) || is_plain hs g) (Ok [])
unfolding closes
plain_is p q = ap₂ (λ hs g. only_if (is_among hs (Truth false) || is_plain hs g) (Ok [])) p q

-- ---- the terms of the loop

pub record TermsStay : Type 0 where
  pub n_from_first : Stays (from_first integer_n)
  pub n_to_last : Stays (to_last integer_n)
  pub s_from_first : Stays (from_first integer_s)
  pub s_to_last : Stays (to_last integer_s)
  pub i_from_first : Stays (from_first integer_i)
  pub i_to_last : Stays (to_last integer_i)
  pub i_from_one : Stays (at_least integer_i (number 1))
  pub i_to_n : Stays i_in_range
  pub n_natural : Stays n_is_natural
  pub n_small : Stays n_is_small
  pub s_doubled : Stays s_is_doubled
  pub i_less : Stays (less integer_i integer_n)
  pub i_last : Stays (equal integer_i integer_n)
  pub sum_from_first : Stays (from_first s_and_two)
  pub sum_to_last : Stays (to_last s_and_two)
  pub sum_at_most : Stays (at_most s_and_two twice_next)
  pub sum_at_least : Stays (at_least s_and_two twice_next)
  pub s_at_most : Stays (at_most integer_s twice_n)
  pub s_at_least : Stays (at_least integer_s twice_n)

pub stay : TermsStay
unfolding simplified of_itself before_literal after_literal same_term same_by out-Term out the_depth depth fold shown-the_row-Term-0 shown hidden-the_row-Term-0 hidden
stay =
    let two_more : Stays s_and_two = infix_to _ _ _ variable_to number_to refl in
    let next : Stays twice_next = infix_to _ _ _ number_to (infix_to _ _ _ variable_to number_to refl) refl in
    let twice : Stays twice_n = infix_to _ _ _ number_to variable_to refl in
    record {
      n_from_first = infix_to _ _ _ variable_to number_to refl;
      n_to_last = infix_to _ _ _ variable_to number_to refl;
      s_from_first = infix_to _ _ _ variable_to number_to refl;
      s_to_last = infix_to _ _ _ variable_to number_to refl;
      i_from_first = infix_to _ _ _ variable_to number_to refl;
      i_to_last = infix_to _ _ _ variable_to number_to refl;
      i_from_one = infix_to _ _ _ variable_to number_to refl;
      i_to_n = infix_to _ _ _ variable_to variable_to refl;
      n_natural = infix_to _ _ _ number_to variable_to refl;
      n_small = infix_to _ _ _ variable_to number_to refl;
      s_doubled = infix_to _ _ _ variable_to (infix_to _ _ _ number_to variable_to refl) refl;
      i_less = infix_to _ _ _ variable_to variable_to refl;
      i_last = infix_to _ _ _ variable_to variable_to refl;
      sum_from_first = infix_to _ _ _ two_more number_to refl;
      sum_to_last = infix_to _ _ _ two_more number_to refl;
      sum_at_most = infix_to _ _ _ two_more next refl;
      sum_at_least = infix_to _ _ _ two_more next refl;
      s_at_most = infix_to _ _ _ variable_to twice refl;
      s_at_least = infix_to _ _ _ variable_to twice refl;
    }

-- the hypotheses before the sum
pub before_sum_stays : AllStay before_sum
before_sum_stays =
    and_stays stay.n_from_first (and_stays stay.n_to_last (and_stays stay.s_from_first (and_stays stay.s_to_last (and_stays stay.i_from_first (and_stays stay.i_to_last
    (and_stays stay.i_from_one (and_stays stay.i_to_n (and_stays stay.n_natural (and_stays stay.n_small (and_stays stay.s_doubled (and_stays stay.i_less none_stay)))))))))))
