-- Multiples of the parts of a list, one after the other.
use Rattle.std.proofs.Common.{◌≡◌, Option, Some, None, List, [], ◌∷◌, ◌++◌, append_assoc, refl, sym, ap}
use Rattle.spx_linear.specs.declared.form.Part.{Part}
use Rattle.spx_linear.specs.Forms.{followed}

-- parts that are there before others, where these are
abbrev pub after : List Part → Option (List Part) → Option (List Part)
after ps (Some qs) = Some (ps ++ qs)
after ps None = None

pub after_none : (rest : Option (List Part)) → rest ≡ after [] rest
after_none (Some qs) = refl
after_none None = refl

pub after_more : (ps : List Part) (q : Part) (rest : Option (List Part)) → after ps (followed (Some q) rest) ≡ after (ps ++ q ∷ []) rest
after_more ps q (Some qs) = ap Some (sym (append_assoc ps (q ∷ []) qs))
after_more ps q None = refl

pub ruleset multiples = (after_none, after_more)
