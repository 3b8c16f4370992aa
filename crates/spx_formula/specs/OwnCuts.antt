-- The own cut of a loop.
use Rattle.std.specs.Prelude.{◌≡◌, ℕ, ◌<◌, true, false, List, length, Option, Some, None, slice_get, take}
use Rattle.spx_core.specs.declared.statement.CoreStmt.{CoreStmt}
use Rattle.spx_core.specs.Commands.{command, commands, has_own_cut, is_assert}

-- the position of the first statement that is itself an `assert`
abbrev pub OwnCut : List CoreStmt → Option ℕ → Type 0
OwnCut stmts None = has_own_cut (commands stmts) ≡ false
OwnCut stmts (Some at) = (at < length stmts) × (has_own_cut (commands (take at stmts)) ≡ false) × IsAssert (slice_get stmts at)
  where
    IsAssert : Option CoreStmt → Type 0
    IsAssert None = ⊥
    IsAssert (Some stmt) = is_assert (command stmt) ≡ true
