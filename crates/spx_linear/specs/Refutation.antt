-- Which multiples of forms refute them.
use Rattle.std.specs.Prelude.{◌≡◌, Bool, true, false, ◌&&◌, ◌||◌, ℤ, pos, int_lt, int_le, Option, Some, None, option_map, List, [], ◌∷◌, All, if◌then◌else◌}
use Rattle.std.specs.List.{list_all}
use Rattle.std.specs.Ordering.{int_eq}
use Rattle.spx_num.specs.declared.arithmetic.Op.TheVariants.{Add}
use Rattle.spx_term.specs.Values.{Types}
use Rattle.spx_term.specs.Meaning.{Valuation}
use Rattle.spx_linear.specs.declared.form.Part.{Part}
use Rattle.spx_linear.specs.declared.form.Form.{Form}
use Rattle.spx_linear.specs.Forms.{constant_form, joined, scaled, once}
use Rattle.spx_linear.specs.Linear.{FormHolds}

-- whether no inequality has a negative multiplier
abbrev pub is_allowed : List Form → List ℤ → Bool
is_allowed [] ns = true
is_allowed (f ∷ fs) [] = true
is_allowed (f ∷ fs) (n ∷ ns) = (f.equation || int_le (pos 0) n) && is_allowed fs ns

-- the sum so far and a multiple of a form
unfoldable pub with_multiple : Form → Form → ℤ → Option Form
with_multiple sum f n = once (joined Add sum) (scaled n f)

-- the sum of the multiples, in order, from this one on
abbrev pub sum_from : Option Form → List Form → List ℤ → Option Form
sum_from None fs ns = None
sum_from (Some sum) [] ns = Some sum
sum_from (Some sum) (f ∷ fs) [] = Some sum
sum_from (Some sum) (f ∷ fs) (n ∷ ns) = sum_from (with_multiple sum f n) fs ns

abbrev pub has_no_factor : Part → Bool
has_no_factor p = int_eq p.factor (pos 0)

-- whether a form is a constant below 0, or above 0 where it is an equation
unfoldable pub is_never : Form → Bool
is_never f = list_all has_no_factor f.parts && (int_lt f.constant (pos 0) || (f.equation && int_lt (pos 0) f.constant))

-- whether the multiples refute the forms; None where a number is too wide
unfoldable pub refutation : List Form → List ℤ → Option Bool
refutation fs ns = if is_allowed fs ns then option_map is_never (sum_from (Some (constant_form (pos 0))) fs ns) else Some false

-- no values make forms hold that are refuted
abbrev pub RefutationIsSound : Type 0
RefutationIsSound = (types : Types) (v : Valuation) (fs : List Form) (ns : List ℤ) → refutation fs ns ≡ Some true → All (FormHolds types v) fs → ⊥
