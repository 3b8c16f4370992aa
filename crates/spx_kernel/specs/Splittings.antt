-- The two goals that the first element of an updated array gives.
use Rattle.std.specs.Prelude.{Bool, true, false, Option, Some, None, Ok, [], ◌∷◌}
use Rattle.spx_term.specs.declared.condition.Sequent.{Sequent}
use Rattle.spx_term.specs.declared.term.TermOp.TheVariants as op
use Rattle.spx_term.specs.declared.term.BinaryOp.{BinaryOp}
use Rattle.spx_term.specs.declared.term.BinaryOp.TheVariants as binary
use Rattle.spx_term.specs.declared.term.TernaryOp.{TernaryOp}
use Rattle.spx_term.specs.declared.term.TernaryOp.TheVariants as ternary
use Rattle.spx_term.specs.declared.term.Term.{Term}
use Rattle.spx_term.specs.declared.term.Term.TheVariants.{Number, Prefix, Infix, Unary, Binary, Ternary}
use Rattle.spx_kernel.specs.declared.element.Around.{Around}
use Rattle.spx_kernel.specs.declared.element.Around.TheVariants as around
use Rattle.spx_kernel.specs.declared.element.Splitting.{Splitting}
use Rattle.spx_kernel.specs.Sequents.{Answer, refused, with_hyp, with_goal}
use Rattle.spx_kernel.specs.Elements.{Spot, read_here, spot_of}
use Rattle.spx_kernel.specs.Steps.{in_range}

-- a spot, as what the step on it makes of it
abbrev pub of_spot : Option Spot → Option Splitting
of_spot (Some s) =
    let r = s.reading in
    Some (record { indexes = record { array = r.array; index = r.index; at = r.at }; equal = s.around r.item; unequal = s.around (Binary (binary.Element r.array) r.of r.at) })
of_spot None = None

-- the whole term with another part in it
abbrev pub filled : Around → Term → Term
filled (around.Prefix op) = λ part. Prefix op part
filled (around.Unary op) = λ part. Unary op part
filled (around.Left op right) = λ part. Infix op part right.now
filled (around.Right op left) = λ part. Infix op left.now part
filled (around.Former op right) = λ part. Binary op part right.now
filled (around.Latter op left) = λ part. Binary op left.now part
filled (around.Before id index item) = λ part. Ternary (ternary.Update id) part index.now item.now
filled (around.Index id before item) = λ part. Ternary (ternary.Update id) before.now part item.now
filled (around.Item id before index) = λ part. Ternary (ternary.Update id) before.now index.now part

-- the same with more around both goals
abbrev pub wrap : (Term → Term) → Option Splitting → Option Splitting
wrap f (Some s) = Some (record { indexes = s.indexes; equal = f s.equal; unequal = f s.unequal })
wrap f None = None

-- the first of two, if it is there
abbrev pub either : Option Splitting → Option Splitting → Option Splitting
either (Some s) other = Some s
either None other = other

-- those of two parts, in the order in which they are printed
abbrev pub ordered : BinaryOp → Option Splitting → Option Splitting → Option Splitting
ordered (binary.Element array) a b = either a b
ordered (binary.Update f) a b = either a b
ordered (binary.Elements t low high) a b = either b a
ordered (binary.Field f) a b = either b a

-- the reading that an operation is
abbrev pub read : BinaryOp → Term → Term → Option Splitting
read op a j = of_spot (read_here op a j)

-- that of a term
unfoldable pub splitting : Term → Option Splitting
splitting t = of_spot (spot_of t)

-- those of the parts of an operation; none of those of a quantifier
abbrev pub in_ternary : TernaryOp → Term → Term → Term → Option Splitting
in_ternary (ternary.Update t) a b c =
    either (wrap (λ x. Ternary (ternary.Update t) x b c) (splitting a)) (either (wrap (λ x. Ternary (ternary.Update t) a x c) (splitting b)) (wrap (λ x. Ternary (ternary.Update t) a b x) (splitting c)))
in_ternary (ternary.Quantified q d) a b c = None

-- whether an operation prints its second part first
abbrev pub prints_second_first : BinaryOp → Bool
prints_second_first (binary.Element array) = false
prints_second_first (binary.Update f) = false
prints_second_first (binary.Elements t low high) = true
prints_second_first (binary.Field f) = true

-- the sequents that are left
abbrev pub split_at : Sequent → Option Splitting → Answer
split_at s (Some x) =
    let i = x.indexes in
    Ok (with_goal (in_range i.index (Number i.array.first) (Number i.array.last)) s
    ∷ with_goal x.equal (with_hyp (Infix op.Equal i.index i.at) s)
    ∷ with_goal x.unequal (with_hyp (Infix op.NotEqual i.index i.at) s)
    ∷ [])
split_at s None = refused
