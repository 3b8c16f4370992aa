-- Sequents of a loop that doubles, and what their steps list.
use Rattle.std.specs.Prelude.{ℕ, ℤ, pos, negsuc, Some, None, List, [], ◌∷◌}
use Rattle.spx_term.specs.declared.condition.Sequent.{Sequent}
use Rattle.spx_term.specs.declared.term.TermOp.TheVariants as op
use Rattle.spx_term.specs.declared.term.Term.{Term}
use Rattle.spx_term.specs.declared.term.Term.TheVariants.{Number, Infix}
use Rattle.spx_kernel.specs.declared.rule.Entry.{Entry}
use Rattle.spx_examples.specs.LinearExamples.{integer_s, integer_i, integer_n, number, sum, product, equal, less, at_most, at_least, s_is_doubled, i_in_range, n_is_natural, n_is_small}

-- ---- terms

-- `a and b`
abbrev pub both : Term → Term → Term
both a b = Infix op.And a b

-- `a >= -2147483648`
abbrev pub from_first : Term → Term
from_first a = at_least a (Number (negsuc 2147483647))

-- `a <= 2147483647`
abbrev pub to_last : Term → Term
to_last a = at_most a (number 2147483647)

-- `S + 2`
abbrev pub s_and_two : Term
s_and_two = sum integer_s (number 2)

-- `2 * (I + 1)`
abbrev pub twice_next : Term
twice_next = product (number 2) (sum integer_i (number 1))

-- `2 * N`
abbrev pub twice_n : Term
twice_n = product (number 2) integer_n

-- ---- sequents

-- under these hypotheses this goal holds
abbrev pub sequent : List Term → Term → Sequent
sequent hypotheses goal = record { hyps = hypotheses; goal = goal }

-- N, S and I are in range, I is at least 1 and at most N, and N is at least 0 and at most 1000; then others
abbrev pub after_ranges : List Term → List Term
after_ranges others =
    from_first integer_n
    ∷ to_last integer_n
    ∷ from_first integer_s
    ∷ to_last integer_s
    ∷ from_first integer_i
    ∷ to_last integer_i
    ∷ at_least integer_i (number 1)
    ∷ i_in_range
    ∷ n_is_natural
    ∷ n_is_small
    ∷ others

-- before the sum `S + 2`: `S = 2 * I` and `I < N`
abbrev pub before_sum : List Term
before_sum = after_ranges (s_is_doubled ∷ less integer_i integer_n ∷ [])

-- after the sum: the same, and `S + 2` is in range
abbrev pub after_sum : List Term
after_sum = after_ranges (s_is_doubled ∷ less integer_i integer_n ∷ from_first s_and_two ∷ to_last s_and_two ∷ [])

-- after the loop: `S = 2 * I` and `I = N`
abbrev pub after_loop : List Term
after_loop = after_ranges (s_is_doubled ∷ equal integer_i integer_n ∷ [])

-- ---- entries of a linear step

-- a hypothesis with a multiplier
abbrev pub of_hyp : ℕ → ℤ → Entry
of_hyp n by = record { hyp = Some (pos n); by = by }

-- the negation of the goal with a multiplier
abbrev pub of_goal : ℤ → Entry
of_goal by = record { hyp = None; by = by }
