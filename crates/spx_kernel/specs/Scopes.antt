-- What the recursions on terms under quantifiers say of an operation on three terms.
use Rattle.std.specs.Prelude.{◌==◌, Bool, ◌&&◌, [], ◌∷◌, ◌++◌, length}
use Rattle.spx_term.specs.declared.term.TernaryOp.{TernaryOp}
use Rattle.spx_term.specs.declared.term.TernaryOp.TheVariants as ternary
use Rattle.spx_term.specs.declared.term.Term.{Term}
use Rattle.spx_kernel.specs.Quantifiers.{Scope, is_scoped, shallower}

-- whether the last part of an operation is scoped, and a quantifier numbered by its depth
abbrev pub body_scoped : TernaryOp → Scope → Term → Bool
body_scoped (ternary.Quantified q v) scope t = v.depth == length (scope ++ v ∷ []) && is_scoped (scope ++ v ∷ []) t
body_scoped (ternary.Update id) scope t = is_scoped scope t

-- an operation whose quantifier is one level less deep
abbrev pub shallower_op : TernaryOp → TernaryOp
shallower_op (ternary.Quantified q v) = ternary.Quantified q (shallower v)
shallower_op (ternary.Update id) = ternary.Update id
