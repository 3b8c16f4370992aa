-- The test for equal values.
use Rattle.std.proofs.Common.{◌≡◌, Bool, true, false, refl, sym, ap, ◌∙◌, Decides}
use Rattle.std.proofs.lemmas.Bool.Decides.{Decides-int_eq}
use Rattle.spx_term.specs.declared.value.Value.{Value}
use Rattle.spx_term.specs.declared.value.Value.TheVariants.{Number, Truth}
use Rattle.spx_term.specs.contracts.value.Value as value
use Rattle.spx_term.specs.Meaning.{as_number, as_truth, same_truth, same_value}
use Rattle.spx_term.proofs.Equality.{same_by-Decides}

abbrev is_number : Value → Bool
is_number (Number n) = true
is_number _ = false

same_truth-true : (a b : Bool) → same_truth a b ≡ true → a ≡ b
same_truth-true true true h = refl
same_truth-true true false h = absurd cc
same_truth-true false true h = absurd cc
same_truth-true false false h = refl

same_truth-refl : (a : Bool) → same_truth a a ≡ true
same_truth-refl true = refl
same_truth-refl false = refl

pub same_value-Decides : (x y : Value) → Decides (same_value x y) (x ≡ y)
same_value-Decides (Number m) (Number n) = (λ h. ap Number ((Decides-int_eq m n).0 h), λ e. (Decides-int_eq m n).1 (ap as_number e))
same_value-Decides (Number m) (Truth b) = (λ h. absurd cc, λ e. absurd (let apart : true ≡ false = ap is_number e in cc))
same_value-Decides (Truth a) (Number n) = (λ h. absurd cc, λ e. absurd (let apart : false ≡ true = ap is_number e in cc))
same_value-Decides (Truth a) (Truth b) = (λ h. ap Truth (same_truth-true a b h), λ e. ap (same_truth a) (sym (ap as_truth e)) ∙ same_truth-refl a)
same_value-Decides x y = same_by-Decides value.the_row.coded x y

pub ruleset value_laws = (same_value-Decides)
