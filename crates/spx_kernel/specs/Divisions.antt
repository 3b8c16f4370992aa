-- What division says of its results.
use Rattle.std.specs.Prelude.{pos, List, [], ◌∷◌, Option, Some, None}
use Rattle.spx_term.specs.declared.term.TermOp.{TermOp}
use Rattle.spx_term.specs.declared.term.TermOp.TheVariants as op
use Rattle.spx_term.specs.declared.term.TermPrefix.TheVariants as sign
use Rattle.spx_term.specs.declared.term.Term.{Term, Term-F, out-Term}
use Rattle.spx_term.specs.declared.term.Term.TheVariants.{Number, Prefix, Infix}

-- the literal 0
abbrev pub zero_term : Term
zero_term = Number (pos 0)

-- the facts on `a / b`, `a rem b` and `a mod b`, where b is not 0
abbrev pub division_facts : Term → Term → List Term
division_facts a b =
    let q = Infix op.Divide a b in
    let r = Infix op.Rem a b in
    let m = Infix op.Mod a b in
    Infix op.Equal a (Infix op.Add (Infix op.Multiply b q) r)
    ∷ Infix op.Less (Prefix sign.Abs r) (Prefix sign.Abs b)
    ∷ Infix op.Implies (Infix op.GreaterOrEqual a zero_term) (Infix op.GreaterOrEqual r zero_term)
    ∷ Infix op.Implies (Infix op.LessOrEqual a zero_term) (Infix op.LessOrEqual r zero_term)
    ∷ Infix op.Implies (Infix op.Greater b zero_term) (Infix op.And (Infix op.GreaterOrEqual m zero_term) (Infix op.Less m b))
    ∷ Infix op.Implies (Infix op.Less b zero_term) (Infix op.And (Infix op.LessOrEqual m zero_term) (Infix op.Greater m b))
    ∷ Infix op.Or (Infix op.Equal m r) (Infix op.Equal m (Infix op.Add r b))
    ∷ []

-- the operands of a division
pub record Operands : Type 0 where
  pub dividend : Term
  pub divisor : Term

-- the operands of an operation, if it divides
abbrev pub divides : TermOp → Term → Term → Option Operands
divides op.Divide a b = Some (record { dividend = a; divisor = b })
divides op.Rem a b = Some (record { dividend = a; divisor = b })
divides op.Mod a b = Some (record { dividend = a; divisor = b })
divides _ a b = None

-- those of a term of this form
abbrev pub division_in : Term-F Term → Option Operands
division_in (Term-F.Infix op a b) = divides op a b
division_in _ = None

-- those of a term
unfoldable pub division : Term → Option Operands
division t = division_in (out-Term t)
