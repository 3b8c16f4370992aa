-- The operators that forms are (Ada 95 RM 4.5).
use Rattle.std.specs.Prelude.{⊤, Bool, true, false, Option, Some, None}
use Rattle.spx_tree.specs.declared.token.Kind.{Kind}
use Rattle.spx_tree.specs.declared.token.Kind.TheVariants as k
use Rattle.spx_tree.specs.declared.expression.InfixOp.{InfixOp}
use Rattle.spx_tree.specs.declared.expression.InfixOp.TheVariants as op
use Rattle.spx_tree.specs.declared.expression.PrefixOp.{PrefixOp}
use Rattle.spx_tree.specs.declared.expression.PrefixOp.TheVariants as sign
use Rattle.spx_tree.specs.declared.expression.Layer.{Layer}
use Rattle.spx_tree.specs.declared.expression.Layer.TheVariants as layer
use Rattle.spx_cursor.specs.declared.operators.Chain.{Chain}
use Rattle.spx_cursor.specs.declared.operators.Chain.TheVariants as chain
use Rattle.spx_cursor.specs.declared.operators.Relator.{Relator}
use Rattle.spx_cursor.specs.declared.operators.Relator.TheVariants as relators
use Rattle.spx_cursor.specs.Reading.{Reader, ◌>>=◌, pure, peek, expect}

-- signs (Ada 95 RM 4.5.4)
abbrev pub sign_of : Option Kind → Option PrefixOp
sign_of (Some k.Plus) = Some sign.Plus
sign_of (Some k.Minus) = Some sign.Minus
sign_of _ = None

-- operators of the highest precedence (Ada 95 RM 4.5.6)
abbrev pub abs_or_not : Option Kind → Option PrefixOp
abs_or_not (Some k.Abs) = Some sign.Abs
abs_or_not (Some k.Not) = Some sign.Not
abs_or_not _ = None

abbrev pub power_of : Option Kind → Option InfixOp
power_of (Some k.DoubleAsterisk) = Some op.Power
power_of _ = None

-- multiplying operators (Ada 95 RM 4.5.5)
abbrev pub multiplying : Option Kind → Option InfixOp
multiplying (Some k.Asterisk) = Some op.Multiply
multiplying (Some k.Slash) = Some op.Divide
multiplying (Some k.Mod) = Some op.Mod
multiplying (Some k.Rem) = Some op.Rem
multiplying _ = None

-- adding operators (Ada 95 RM 4.5.3)
abbrev pub adding : Option Kind → Option InfixOp
adding (Some k.Plus) = Some op.Add
adding (Some k.Minus) = Some op.Subtract
adding _ = None

-- relational operators and membership tests (Ada 95 RM 4.5.2)
abbrev pub relator_of : Option Kind → Option Relator
relator_of (Some k.Equal) = Some (relators.Compare op.Equal)
relator_of (Some k.NotEqual) = Some (relators.Compare op.NotEqual)
relator_of (Some k.Less) = Some (relators.Compare op.Less)
relator_of (Some k.LessOrEqual) = Some (relators.Compare op.LessOrEqual)
relator_of (Some k.Greater) = Some (relators.Compare op.Greater)
relator_of (Some k.GreaterOrEqual) = Some (relators.Compare op.GreaterOrEqual)
relator_of (Some k.In) = Some relators.In
relator_of (Some k.Not) = Some relators.NotIn
relator_of _ = None

-- logical operators (Ada 95 RM 4.5.1)
abbrev pub logical : Option Kind → Option InfixOp
logical (Some k.And) = Some op.And
logical (Some k.Or) = Some op.Or
logical (Some k.Xor) = Some op.Xor
logical _ = None

-- connectives of annotation text (Barnes)
abbrev pub connective_of : Option Kind → Option InfixOp
connective_of (Some k.Implication) = Some op.Implies
connective_of (Some k.Equivalence) = Some op.Equivalent
connective_of _ = None

-- the last layer of expressions of program text and of annotation text
abbrev pub last_layer : Bool → Layer
last_layer true = layer.Predicate
last_layer false = layer.Expression

abbrev pub if_then : Option Kind → Option InfixOp
if_then (Some k.Then) = Some op.AndThen
if_then _ = None

abbrev pub if_else : Option Kind → Option InfixOp
if_else (Some k.Else) = Some op.OrElse
if_else _ = None

-- the short-circuit form that a logical operator begins, by the form after it
abbrev pub short_circuit : InfixOp → Option Kind → Option InfixOp
short_circuit op.And kind = if_then kind
short_circuit op.Or kind = if_else kind
short_circuit _ kind = None

abbrev pub if_and : InfixOp → Option Kind → Option InfixOp
if_and o (Some k.And) = Some o
if_and o _ = None

abbrev pub if_or : InfixOp → Option Kind → Option InfixOp
if_or o (Some k.Or) = Some o
if_or o _ = None

abbrev pub if_xor : InfixOp → Option Kind → Option InfixOp
if_xor o (Some k.Xor) = Some o
if_xor o _ = None

-- the same operator once more, by its first form
abbrev pub same_logical : InfixOp → Option Kind → Option InfixOp
same_logical op.And kind = if_and op.And kind
same_logical op.AndThen kind = if_and op.AndThen kind
same_logical op.Or kind = if_or op.Or kind
same_logical op.OrElse kind = if_or op.OrElse kind
same_logical op.Xor kind = if_xor op.Xor kind
same_logical _ kind = None

-- the operator with which a chain goes on: logical operations do so with their first operator only
abbrev pub goes_on : Chain → Option Kind → Option InfixOp
goes_on chain.Multiplying kind = multiplying kind
goes_on chain.Adding kind = adding kind
goes_on (chain.Logical o) kind = same_logical o kind

-- the second word of an operator of two
abbrev pub second : Bool → InfixOp → Reader ⊤
second marked op.AndThen = expect marked k.Then
second marked op.OrElse = expect marked k.Else
second marked _ = pure tt

abbrev pub whole_by : Bool → InfixOp → Option InfixOp → Reader InfixOp
whole_by marked o None = pure o
whole_by marked o (Some whole) = second marked whole >>= λ u. pure whole

-- the operator that a logical operator begins, with its second word
unfoldable pub whole_operator : Bool → InfixOp → Reader InfixOp
whole_operator marked o = λ fs. whole_by marked o (short_circuit o (peek marked fs)) fs
