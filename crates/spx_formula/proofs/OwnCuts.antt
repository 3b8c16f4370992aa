-- The own cut of a loop among its statements.
use Rattle.std.proofs.Common.{◌≡◌, ℕ, ◌+◌, ◌<◌, true, false, ◌||◌, List, [], ◌∷◌, ◌++◌, get_or, length, take, Some, refl, sym, ap, ◌∙◌}
use Rattle.std.proofs.Math.Bool.{or_assoc, or-false}
use Rattle.std.proofs.lemmas.Grind.{take_at_read}
use Rattle.std.proofs.lemmas.Option.{slice_get-get_or}
use Rattle.spx_core.specs.declared.statement.CoreStmt.{CoreStmt}
use Rattle.spx_core.specs.Commands.{command, commands, has_own_cut, is_assert}
use Rattle.spx_formula.specs.OwnCuts.{OwnCut}

-- statements one after the other
pub own_both : (first others : List CoreStmt) → has_own_cut (commands (first ++ others)) ≡ (has_own_cut (commands first) || has_own_cut (commands others))
own_both [] others = refl
own_both (s ∷ first) others = ap (λ b. is_assert (command s) || b) (own_both first others) ∙ sym (or_assoc (is_assert (command s)) (has_own_cut (commands first)) (has_own_cut (commands others)))

one_more : (stmts : List CoreStmt) (i : ℕ) (s : CoreStmt) → i < length stmts → s ≡ get_or stmts i s → take (i + 1) stmts ≡ take i stmts ++ s ∷ []
one_more stmts i s w is = (take_at_read stmts i s w).1 ∙ (λ k. take i stmts ++ sym is k ∷ [])

pub own_more : (stmts : List CoreStmt) (i : ℕ) (s : CoreStmt) → i < length stmts → s ≡ get_or stmts i s → has_own_cut (commands (take i stmts)) ≡ false → has_own_cut (commands (s ∷ [])) ≡ false → has_own_cut (commands (take (i + 1) stmts)) ≡ false
own_more stmts i s w is none not = ap (λ xs. has_own_cut (commands xs)) (one_more stmts i s w is) ∙ own_both (take i stmts) (s ∷ []) ∙ (λ k. none k || not k)

-- the first one
pub own_here : (stmts : List CoreStmt) (i : ℕ) (s : CoreStmt) → i < length stmts → s ≡ get_or stmts i s → has_own_cut (commands (take i stmts)) ≡ false → has_own_cut (commands (s ∷ [])) ≡ true → OwnCut stmts (Some i)
own_here stmts i s w is none own = (w, none, rw (slice_get-get_or stmts i s w, sym is) (sym (or-false (is_assert (command s))) ∙ own))
