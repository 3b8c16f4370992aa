-- Whether a term occurs in another one, and the other one with a third for it.
use Rattle.std.specs.Prelude.{ℕ, Bool}
use Rattle.spx_term.specs.declared.term.Term.{Term}
use Rattle.spx_kernel.specs.Rewriting.{change}

-- whether a occurs in t, which stands under k quantifiers
unfoldable pub occurs : ℕ → Term → Term → Bool
occurs k a t = (change a a t).found k

-- t, which stands under k quantifiers, with b for every a
unfoldable pub replaced : ℕ → Term → Term → Term → Term
replaced k a b t = (change a b t).after k
