-- What holds of a result.
use Rattle.std.proofs.Common.{◌≡◌, Result, IfOk, sym, subst}
use Rattle.std.proofs.lemmas.Result.{IfOk-weaker}

-- it holds of the one value that the result can have
pub holds_of : {A E : Type 0} (P : A → Type 0) (r : Result A E) (made : A) → IfOk r (λ x. x ≡ made) → P made → IfOk r P
holds_of P r made is holds = IfOk-weaker r (λ x. x ≡ made) P (λ x e. subst P (sym e) holds) is
