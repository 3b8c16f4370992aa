-- How many forms tokens have.
use Rattle.std.proofs.Common.{◌≡◌, ℕ, List, [], ◌∷◌, length, refl, arith}
use Rattle.spx_tree.specs.declared.token.Token.{Token}
use Rattle.spx_tree.specs.Form.{forms_of}

pub forms_length : (source : List ℕ) (ts : List Token) → length (forms_of source ts) ≡ length ts
forms_length source [] = refl
forms_length source (t ∷ ts) = let h = forms_length source ts in omega arith
