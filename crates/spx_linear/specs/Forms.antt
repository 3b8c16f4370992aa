-- Sums and multiples of linear forms. None says that some number does not fit in 128 bits.
use Rattle.std.specs.Prelude.{ℕ, suc, Bool, true, ◌&&◌, ℤ, pos, Option, Some, None, option_map, List, [], ◌∷◌, ◌++◌, slice_get, slice_set, if◌then◌else◌}
use Rattle.spx_num.specs.declared.arithmetic.Op.{Op}
use Rattle.spx_num.specs.declared.arithmetic.Op.TheVariants.{Mul}
use Rattle.spx_num.specs.Exact.{exact}
use Rattle.spx_num.specs.Widths.{fitting}
use Rattle.spx_term.specs.declared.term.Term.{Term}
use Rattle.spx_term.specs.Equality.{same_term}
use Rattle.spx_linear.specs.declared.form.Part.{Part}
use Rattle.spx_linear.specs.declared.form.Form.{Form}

-- a multiple of a term
abbrev pub part : ℤ → Term → Part
part n t = record { factor = n; atom = t }

-- the form of a literal
abbrev pub constant_form : ℤ → Form
constant_form n = record { parts = []; constant = n; equation = true }

-- the form of a term that is an atom
abbrev pub atom_form : Term → Form
atom_form t = record { parts = part (pos 1) t ∷ []; constant = pos 0; equation = true }

-- the place of the first part with this atom, where the first part has place n
abbrev pub place_from : ℕ → Term → List Part → Option ℕ
place_from n t [] = None
place_from n t (p ∷ ps) = if same_term p.atom t then Some n else place_from (suc n) t ps

-- the factor of a part; of no part it is 0
abbrev pub factor_of : Option Part → ℤ
factor_of (Some p) = p.factor
factor_of None = pos 0

-- the factor of the part at a place
abbrev pub factor_at : Option ℕ → List Part → ℤ
factor_at (Some i) ps = factor_of (slice_get ps i)
factor_at None ps = pos 0

-- the parts with another one at a place, or at the end
abbrev pub with_factor : Option ℕ → Term → List Part → ℤ → List Part
with_factor (Some i) t ps n = slice_set ps i (part n t)
with_factor None t ps n = ps ++ part n t ∷ []

-- the sum or the difference of some parts and another one
unfoldable pub with_part : Op → List Part → Part → Option (List Part)
with_part op ps p = option_map (with_factor (place_from 0 p.atom ps) p.atom ps) (fitting (exact op (factor_at (place_from 0 p.atom ps) ps) p.factor))

-- a multiple of a part
unfoldable pub scaled_part : ℤ → Part → Option Part
scaled_part by p = option_map (λ n. part n p.atom) (fitting (exact Mul by p.factor))

-- the sum or the difference of some parts and each of these in turn
abbrev pub with_parts : Op → Option (List Part) → List Part → Option (List Part)
with_parts op None qs = None
with_parts op (Some ps) [] = Some ps
with_parts op (Some ps) (q ∷ qs) = with_parts op (with_part op ps q) qs

-- a part and those after it, where all are there
abbrev pub followed : Option Part → Option (List Part) → Option (List Part)
followed (Some p) (Some ps) = Some (p ∷ ps)
followed (Some p) None = None
followed None ps = None

-- a multiple of each part
abbrev pub scaled_parts : ℤ → List Part → Option (List Part)
scaled_parts by [] = Some []
scaled_parts by (p ∷ ps) = followed (scaled_part by p) (scaled_parts by ps)

-- the form of these, where both are there
abbrev pub form_with : Option (List Part) → Option ℤ → Bool → Option Form
form_with (Some ps) (Some n) equation = Some (record { parts = ps; constant = n; equation = equation })
form_with (Some ps) None equation = None
form_with None n equation = None

-- the sum or the difference of two forms; it is an equation where both are
unfoldable pub joined : Op → Form → Form → Option Form
joined op f g = form_with (with_parts op (Some f.parts) g.parts) (fitting (exact op f.constant g.constant)) (f.equation && g.equation)

-- a multiple of a form
unfoldable pub scaled : ℤ → Form → Option Form
scaled by f = form_with (scaled_parts by f.parts) (fitting (exact Mul by f.constant)) f.equation

-- an operation on two forms, where both are there
abbrev pub two : (Form → Form → Option Form) → Option Form → Option Form → Option Form
two f (Some a) (Some b) = f a b
two f (Some a) None = None
two f None b = None

-- an operation on one form, where it is there
abbrev pub once : (Form → Option Form) → Option Form → Option Form
once f (Some a) = f a
once f None = None
