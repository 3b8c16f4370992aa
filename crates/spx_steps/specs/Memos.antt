-- What terms were made into.
use Rattle.std.specs.Prelude.{◌≡◌, ℕ, Bool, List, length, Option, Some, None, if◌then◌else◌, slice_index_or}
use Rattle.spx_arena.specs.contracts.terms.TermIdPartialEq.TheImpl as id_impl
use Rattle.spx_arena.specs.declared.terms.TermId.{TermId}
use Rattle.spx_steps.specs.declared.memo.Entry.{Entry}
use Rattle.spx_steps.specs.Entries.{turn_at}

-- whether two ids are equal
abbrev pub id_eq : TermId → TermId → Bool
id_eq = (id_impl.ghosts).eq

-- what a term was made into, if it is known
abbrev pub known : List (Option TermId) → TermId → Option TermId
known memo id = slice_index_or memo id.0 None

-- one more is known
pub record IsMade (old new : List (Option TermId)) (id into : TermId) : Type 0 where
  pub count : length new ≡ length old
  pub at : (x : TermId) → known new x ≡ (if id_eq x id then Some into else known old x)

-- nothing is known of so many terms
pub record NothingKnown (count : ℕ) (memo : List (Option TermId)) : Type 0 where
  pub count_is : length memo ≡ count
  pub none : (id : TermId) → known memo id ≡ None

-- so many entries, and none of them was made in any turn
pub record IsNew (count : ℕ) (es : List Entry) : Type 0 where
  pub count_is : length es ≡ count
  pub turns : (i : ℕ) → turn_at es i ≡ 0
