-- The table of what terms were made into.
use Rattle.std.specs.Prelude.{ℕ, ◌≤◌, List, map, Option, Some, None, if◌then◌else◌, eqb, slice_index_or}
use Rattle.spx_arena.specs.declared.terms.TermId.{TermId}
use Rattle.spx_steps.specs.declared.memo.Entry.{Entry}

-- what a term was made into, if that was in this turn
abbrev pub made_in : ℕ → Entry → Option TermId
made_in turn e = if eqb e.turn turn then Some e.into else None

abbrev pub table_of : ℕ → List Entry → List (Option TermId)
table_of turn es = map (made_in turn) es

-- the turn of a term; 0 where there is no term
abbrev pub turn_at : List Entry → ℕ → ℕ
turn_at es i = (slice_index_or es i (record { turn = 0; into = record { 0 = 0 } })).turn

-- no turn is later
pub record NoneLater (turn : ℕ) (es : List Entry) : Type 0 where
  pub turns : (i : ℕ) → turn_at es i ≤ turn
