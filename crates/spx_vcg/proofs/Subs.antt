-- What holds of the subprogram that is read holds of the one that is asked for.
use Rattle.std.proofs.Common.{◌≡◌, ℕ, List, Some, ap, get_or, subst, ◌∙◌}
use Rattle.std.specs.Prelude.{slice_get}
use Rattle.std.proofs.lemmas.Option.{get_or_from_slice_get}
use Rattle.spx_core.specs.declared.subprogram.Sub.{Sub}

pub at_sub : (P : Sub → Type 0) (subs list : List Sub) (i : ℕ) (first sub : Sub) → list ≡ subs → first ≡ get_or list i first → slice_get subs i ≡ Some sub → P first → P sub
at_sub P subs list i first sub same is at =
    subst P (is ∙ ap (λ ss. get_or ss i first) same ∙ get_or_from_slice_get subs i sub first at)
