-- Which values lie between two numbers that 128 bits hold.
use Rattle.std.proofs.Common.{◌≡◌, ℤ, Bool, true, false, Some, None, refl, arith}
use Rattle.std.specs.Prelude.{◌&&◌, int_le, FitsSigned, if◌then◌else◌}
use Rattle.std.specs.Int.{w128}
use Rattle.std.proofs.lemmas.Grind.{common_steps}
use Rattle.spx_num.specs.Widths.{fits, fits-Decides}
use Rattle.spx_text.specs.declared.place.Place.{Place}
use Rattle.spx_core.specs.declared.entity.Class.TheVariants.{Integer}
use Rattle.spx_term.specs.declared.value.Value.{Value}
use Rattle.spx_term.specs.declared.value.Value.TheVariants.{Number}
use Rattle.spx_meaning.specs.declared.bad.BadKind.{BadKind}
use Rattle.spx_meaning.specs.Stores.{is_within}
use Rattle.spx_meaning.specs.Evaluation.{Gives, Fails}
use Rattle.spx_meaning.specs.Bits.{held}
use Rattle.spx_interp.specs.Results.{bounded}

-- what lies between two numbers that fit does
between_fits : (first last n : ℤ) → FitsSigned w128 first → FitsSigned w128 last → (int_le first n && int_le n last) ≡ true → fits n ≡ true
between_fits first last n low high within = grind (arith, common_steps, fits-Decides n)

-- and so what does not fit does not
outside : (first last n : ℤ) → FitsSigned w128 first → FitsSigned w128 last → fits n ≡ false → (int_le first n && int_le n last) ≡ false
outside first last n low high not = by_test (int_le first n && int_le n last) refl
  where
    by_test : (b : Bool) → (int_le first n && int_le n last) ≡ b → b ≡ false
    by_test true is = absurd (let fits_it = between_fits first last n low high is in cc)
    by_test false is = refl

pub bounded_is : (first last : ℤ) (kind : BadKind) (place : Place) (x : Value) → FitsSigned w128 first → FitsSigned w128 last
    → bounded first last kind place (held x) ≡ (if is_within Integer first last x then Gives x else Fails kind place)
bounded_is first last kind place (Number n) low high = by_test (fits n) refl
  where
    by_test : (b : Bool) → fits n ≡ b
        → bounded first last kind place (if b then Some (Number n) else None) ≡ (if is_within Integer first last (Number n) then Gives (Number n) else Fails kind place)
    by_test true is = refl
    by_test false is = rw (outside first last n low high is)
bounded_is first last kind place _ low high = refl
