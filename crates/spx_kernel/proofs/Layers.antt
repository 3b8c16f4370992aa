-- The layers of terms, and lists past their end.
use Rattle.std.proofs.Common.{◌≡◌, ℕ, zero, suc, ◌≤◌, length, None, List, [], ◌∷◌, slice_get, refl, arith}
use Rattle.spx_term.specs.Plain.{closes-Decides}
use Rattle.spx_term.specs.declared.term.Term.TheVariants.{outs-Number, outs-Truth, outs-Variable, outs-Blank, outs-Prefix, outs-Infix, outs-Unary, outs-Binary, outs-Ternary}

pub ruleset plain_laws = (closes-Decides)

pub ruleset layers = (outs-Number, outs-Truth, outs-Variable, outs-Blank, outs-Prefix, outs-Infix, outs-Unary, outs-Binary, outs-Ternary)

pub past_end : {A : Type 0} (xs : List A) (n : ℕ) → length xs ≤ n → slice_get xs n ≡ None
past_end [] n h = refl
past_end (x ∷ xs) zero h = absurd (omega arith)
past_end (x ∷ xs) (suc n) h = past_end xs n (omega arith)
