-- The first element of an updated array.
use Rattle.std.specs.Prelude.{Option, Some, None}
use Rattle.spx_term.specs.declared.term.ArrayType.{ArrayType}
use Rattle.spx_term.specs.declared.term.BinaryOp.{BinaryOp}
use Rattle.spx_term.specs.declared.term.BinaryOp.TheVariants as binary
use Rattle.spx_term.specs.declared.term.TernaryOp.{TernaryOp}
use Rattle.spx_term.specs.declared.term.TernaryOp.TheVariants as ternary
use Rattle.spx_term.specs.declared.term.Term.{Term, Term-F, fold-Term, out-Term}
use Rattle.spx_term.specs.declared.term.Term.TheVariants.{Number, Truth, Variable, Blank, Prefix, Infix, Unary, Binary, Ternary}

-- `A[i => e][j]`
pub record Reading : Type 0 where
  pub array : ArrayType
  pub of : Term
  pub index : Term
  pub item : Term
  pub at : Term

-- a reading, and the term around it with another term in its place
pub record Spot : Type 0 where
  pub reading : Reading
  pub around : Term → Term

-- a term, and its first reading
pub record Search : Type 0 where
  pub whole : Term
  pub spot : Option Spot

-- the same reading in a larger term
abbrev pub within : (Term → Term) → Option Spot → Option Spot
within f (Some s) = Some (record { reading = s.reading; around = λ t. f (s.around t) })
within f None = None

-- the first of two, if it is there
abbrev pub first : Option Spot → Option Spot → Option Spot
first (Some s) other = Some s
first None other = other

-- the element at j of an array of this form, if the array is an update
abbrev pub updated_in : ArrayType → Term → Term-F Term → Option Spot
updated_in array j (Term-F.Ternary (ternary.Update t) a i e) = Some (record { reading = record { array = array; of = a; index = i; item = e; at = j }; around = λ t. t })
updated_in array j _ = None

-- the reading that an operation is
abbrev pub read_here : BinaryOp → Term → Term → Option Spot
read_here (binary.Element array) a j = updated_in array j (out-Term a)
read_here op a j = None

-- the spots of two parts, in the order in which they are printed: an aggregate prints its second part before the others
abbrev pub in_order : BinaryOp → Option Spot → Option Spot → Option Spot
in_order (binary.Element array) a b = first a b
in_order (binary.Update f) a b = first a b
in_order (binary.Elements t low high) a b = first b a
in_order (binary.Field f) a b = first b a

-- the first reading in the parts of an operation; none in those of a quantifier
abbrev pub ternary_spot : TernaryOp → Search → Search → Search → Option Spot
ternary_spot (ternary.Update t) a b c =
    first (within (λ x. Ternary (ternary.Update t) x b.whole c.whole) a.spot)
    (first (within (λ x. Ternary (ternary.Update t) a.whole x c.whole) b.spot) (within (λ x. Ternary (ternary.Update t) a.whole b.whole x) c.spot))
ternary_spot (ternary.Quantified q d) a b c = None

-- one level, whose parts have these first readings
abbrev pub search_step : Term-F Search → Search
search_step (Term-F.Number n) = record { whole = Number n; spot = None }
search_step (Term-F.Truth b) = record { whole = Truth b; spot = None }
search_step (Term-F.Variable name) = record { whole = Variable name; spot = None }
search_step (Term-F.Blank id) = record { whole = Blank id; spot = None }
search_step (Term-F.Prefix op a) = record { whole = Prefix op a.whole; spot = within (Prefix op) a.spot }
search_step (Term-F.Infix op a b) = record { whole = Infix op a.whole b.whole; spot = first (within (λ x. Infix op x b.whole) a.spot) (within (Infix op a.whole) b.spot) }
search_step (Term-F.Unary op a) = record { whole = Unary op a.whole; spot = within (Unary op) a.spot }
search_step (Term-F.Binary op a b) = record {
  whole = Binary op a.whole b.whole;
  spot = first (read_here op a.whole b.whole) (in_order op (within (λ x. Binary op x b.whole) a.spot) (within (Binary op a.whole) b.spot));
}
search_step (Term-F.Ternary op a b c) = record { whole = Ternary op a.whole b.whole c.whole; spot = ternary_spot op a b c }

-- the leftmost reading of an updated array outside quantifiers; of two that begin at one place the outer one
unfoldable pub spot_of : Term → Option Spot
spot_of t = (fold-Term Search search_step t).spot
