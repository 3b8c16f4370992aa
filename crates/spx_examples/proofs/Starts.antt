-- Stores from which the procedure `Inc` may be called, and from which it may not.
use Rattle.std.proofs.Common.{ℕ, zero, suc, pos, negsuc, true, [], ◌∷◌, None, Some, refl, ap, subst, ◌∙◌, sym}
use Rattle.std.specs.Prelude.{IsTrue, IsSome, IfSome}
use Rattle.spx_core.specs.declared.entity.TheConstants.{INTEGER_LAST}
use Rattle.spx_core.specs.declared.entity.VarId.{VarId}
use Rattle.spx_term.specs.declared.value.Value.TheVariants as value
use Rattle.spx_term.specs.Meaning.{as_truth}
use Rattle.spx_meaning.specs.Laws.{Start}
use Rattle.spx_meaning.specs.Stores.{look, type_of, is_in, types_of}
use Rattle.spx_examples.specs.Increment.{x, inc, increment}
use Rattle.spx_examples.specs.Refused.{x_is_last}
use Rattle.spx_examples.specs.Variants.{number}
use Rattle.spx_examples.proofs.IncrementFlows.{only_import}
use Rattle.spx_examples.proofs.IncrementRuns.{precondition_means}
use Rattle.spx_examples.proofs.Successor.{x_is}

in_type : (k : ℕ) → let v : VarId = record { 0 = k } in IfSome (look (x_is (pos 41)) v) (λ y. IsTrue (is_in (types_of increment) (type_of increment v) y))
in_type zero = refl
in_type (suc k) = tt

pub from_41 : Start increment inc (number (pos 41) ∷ [])
from_41 = record {
  precondition = ap as_truth (precondition_means (pos 41));
  imports_set = λ v imported. subst (λ w. IsSome (look (x_is (pos 41)) w)) (only_import v imported) refl;
  in_types = λ v. in_type v.0;
}

-- the precondition is false
pub not_from_last : ¬ Start increment inc x_is_last
not_from_last start = absurd (let is = sym (ap as_truth (precondition_means INTEGER_LAST)) ∙ start.precondition in cc)

-- the import is unset
pub not_from_unset : ¬ Start increment inc (None ∷ [])
not_from_unset start = absurd (let none = start.imports_set x refl in cc)

-- the value lies before the first
pub not_from_below_first : ¬ Start increment inc (number (negsuc 2147483648) ∷ [])
not_from_below_first start = absurd (let none = start.in_types x in cc)

-- the value is no number
pub not_from_truth : ¬ Start increment inc (Some (value.Truth true) ∷ [])
not_from_truth start = absurd (let none = start.in_types x in cc)
