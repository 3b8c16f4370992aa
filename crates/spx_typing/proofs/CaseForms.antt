-- The alternatives of a `case` from a position on.
use Rattle.std.proofs.Common.{◌≡◌, ℕ, ◌+◌, ◌<◌, List, ◌∷◌, length, drop, get_or, sym, ap, ◌∙◌}
use Rattle.std.proofs.lemmas.List.{drop_more}
use Rattle.spx_core.specs.declared.statement.CoreAlternative.{CoreAlternative}

pub front : (alternatives : List CoreAlternative) (i : ℕ) (a : CoreAlternative) → i < length alternatives → a ≡ get_or alternatives i a → drop i alternatives ≡ a ∷ drop (i + 1) alternatives
front alternatives i a within is = drop_more alternatives i a within ∙ ap (λ (x : CoreAlternative). x ∷ drop (i + 1) alternatives) (sym is)
