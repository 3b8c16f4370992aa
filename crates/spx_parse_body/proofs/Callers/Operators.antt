-- What the tables of operators give: the kind that was seen, and the layer.
use Rattle.std.specs.Prelude.{⊤}
use Rattle.std.proofs.Common.{◌≡◌, ◌⊎◌, inl, inr, ◌≤◌, Bool, [], Option, Some, refl, sym, ap, subst}
use Rattle.std.proofs.lemmas.Option.{none-some}
use Rattle.spx_tree.specs.declared.token.Kind.{Kind}
use Rattle.spx_tree.specs.declared.token.Kind.TheVariants as k
use Rattle.spx_tree.specs.declared.expression.InfixOp.{InfixOp}
use Rattle.spx_tree.specs.declared.expression.InfixOp.TheVariants as op
use Rattle.spx_tree.specs.declared.expression.PrefixOp.{PrefixOp}
use Rattle.spx_tree.specs.declared.expression.PrefixOp.TheVariants as sign
use Rattle.spx_tree.specs.declared.expression.Layer.{Layer}
use Rattle.spx_tree.specs.declared.expression.Layer.TheVariants as layer
use Rattle.spx_tree.specs.declared.expression.Expr.{Expr}
use Rattle.spx_tree.specs.Form.{keeps, ItsPlace}
use Rattle.spx_tree.specs.Written.{sign_kind, operator_kind, second_word}
use Rattle.spx_tree.specs.Grammar.{layer_of, layer_before, layer_in, rank, HasOperator, FitsLeft, LeftFits}
use Rattle.spx_cursor.specs.declared.operators.Chain.{Chain}
use Rattle.spx_cursor.specs.declared.operators.Chain.TheVariants as chain
use Rattle.spx_cursor.specs.declared.operators.Relator.{Relator}
use Rattle.spx_cursor.specs.declared.operators.Relator.TheVariants as relators
use Rattle.spx_cursor.specs.Operators.{sign_of, abs_or_not, power_of, multiplying, adding, relator_of, logical, connective_of, if_then, if_else, short_circuit, if_and, if_or, if_xor, same_logical, goes_on}

some_is : {A : Type 0} (x y : A) → Some x ≡ Some y → x ≡ y
some_is x y e = cc

pub op_placed : (o : InfixOp) → keeps (operator_kind o) ≡ ItsPlace
op_placed op.Add = refl
op_placed _ = refl

pub sign_placed : (o : PrefixOp) → keeps (sign_kind o) ≡ ItsPlace
sign_placed sign.Plus = refl
sign_placed _ = refl

-- what an operator of a layer is
pub record Joins (layer : Layer) (kind : Option Kind) (o : InfixOp) : Type 0 where
  pub kind_is : kind ≡ Some (operator_kind o)
  pub layer_is : layer_of o ≡ layer

-- what an operator before its operand is
pub record Signs (layer : Layer) (kind : Option Kind) (o : PrefixOp) : Type 0 where
  pub kind_is : kind ≡ Some (sign_kind o)
  pub layer_is : layer_before o ≡ layer

joins : (layer : Layer) (kind : Option Kind) (found o : InfixOp) → kind ≡ Some (operator_kind found) → layer_of found ≡ layer → Some found ≡ Some o → Joins layer kind o
joins layer kind found o a b e = subst (Joins layer kind) (some_is found o e) (record { kind_is = a; layer_is = b })

signs : (layer : Layer) (kind : Option Kind) (found o : PrefixOp) → kind ≡ Some (sign_kind found) → layer_before found ≡ layer → Some found ≡ Some o → Signs layer kind o
signs layer kind found o a b e = subst (Signs layer kind) (some_is found o e) (record { kind_is = a; layer_is = b })

pub sign_is : (kind : Option Kind) (o : PrefixOp) → sign_of kind ≡ Some o → Signs layer.Sum kind o
sign_is (Some k.Plus) o e = signs layer.Sum (Some k.Plus) sign.Plus o refl refl e
sign_is (Some k.Minus) o e = signs layer.Sum (Some k.Minus) sign.Minus o refl refl e
sign_is _ o e = absurd (none-some o e)

pub word_is : (kind : Option Kind) (o : PrefixOp) → abs_or_not kind ≡ Some o → Signs layer.Factor kind o
word_is (Some k.Abs) o e = signs layer.Factor (Some k.Abs) sign.Abs o refl refl e
word_is (Some k.Not) o e = signs layer.Factor (Some k.Not) sign.Not o refl refl e
word_is _ o e = absurd (none-some o e)

pub power_is : (kind : Option Kind) (o : InfixOp) → power_of kind ≡ Some o → Joins layer.Factor kind o
power_is (Some k.DoubleAsterisk) o e = joins layer.Factor (Some k.DoubleAsterisk) op.Power o refl refl e
power_is _ o e = absurd (none-some o e)

multiplying_is : (kind : Option Kind) (o : InfixOp) → multiplying kind ≡ Some o → Joins layer.Term kind o
multiplying_is (Some k.Asterisk) o e = joins layer.Term (Some k.Asterisk) op.Multiply o refl refl e
multiplying_is (Some k.Slash) o e = joins layer.Term (Some k.Slash) op.Divide o refl refl e
multiplying_is (Some k.Mod) o e = joins layer.Term (Some k.Mod) op.Mod o refl refl e
multiplying_is (Some k.Rem) o e = joins layer.Term (Some k.Rem) op.Rem o refl refl e
multiplying_is _ o e = absurd (none-some o e)

adding_is : (kind : Option Kind) (o : InfixOp) → adding kind ≡ Some o → Joins layer.Sum kind o
adding_is (Some k.Plus) o e = joins layer.Sum (Some k.Plus) op.Add o refl refl e
adding_is (Some k.Minus) o e = joins layer.Sum (Some k.Minus) op.Subtract o refl refl e
adding_is _ o e = absurd (none-some o e)

-- what follows the first operand of a relation
abbrev pub Relates : Option Kind → Relator → Type 0
Relates kind (relators.Compare o) = Joins layer.Relation kind o
Relates kind relators.In = kind ≡ Some k.In
Relates kind relators.NotIn = kind ≡ Some k.Not

relates : (kind : Option Kind) (found x : Relator) → Relates kind found → Some found ≡ Some x → Relates kind x
relates kind found x r e = subst (Relates kind) (some_is found x e) r

compares : (kind : Option Kind) (o : InfixOp) (x : Relator) → kind ≡ Some (operator_kind o) → layer_of o ≡ layer.Relation → Some (relators.Compare o) ≡ Some x → Relates kind x
compares kind o x a b e = relates kind (relators.Compare o) x (record { kind_is = a; layer_is = b }) e

pub relator_is : (kind : Option Kind) (x : Relator) → relator_of kind ≡ Some x → Relates kind x
relator_is (Some k.Equal) x e = compares (Some k.Equal) op.Equal x refl refl e
relator_is (Some k.NotEqual) x e = compares (Some k.NotEqual) op.NotEqual x refl refl e
relator_is (Some k.Less) x e = compares (Some k.Less) op.Less x refl refl e
relator_is (Some k.LessOrEqual) x e = compares (Some k.LessOrEqual) op.LessOrEqual x refl refl e
relator_is (Some k.Greater) x e = compares (Some k.Greater) op.Greater x refl refl e
relator_is (Some k.GreaterOrEqual) x e = compares (Some k.GreaterOrEqual) op.GreaterOrEqual x refl refl e
relator_is (Some k.In) x e = relates (Some k.In) relators.In x refl e
relator_is (Some k.Not) x e = relates (Some k.Not) relators.NotIn x refl e
relator_is _ x e = absurd (none-some x e)

pub connective_is : (kind : Option Kind) (o : InfixOp) → connective_of kind ≡ Some o → Joins layer.Predicate kind o
connective_is (Some k.Implication) o e = joins layer.Predicate (Some k.Implication) op.Implies o refl refl e
connective_is (Some k.Equivalence) o e = joins layer.Predicate (Some k.Equivalence) op.Equivalent o refl refl e
connective_is _ o e = absurd (none-some o e)

-- ---- logical operators

-- a logical operator of one word
pub record Opens (kind : Option Kind) (o : InfixOp) : Type 0 where
  pub joins : Joins layer.Expression kind o
  pub one_word : (marked : Bool) → second_word marked o ≡ []

opens : (kind : Option Kind) (found o : InfixOp) → kind ≡ Some (operator_kind found) → layer_of found ≡ layer.Expression → ((marked : Bool) → second_word marked found ≡ []) → Some found ≡ Some o → Opens kind o
opens kind found o a b w e = subst (Opens kind) (some_is found o e) (record { joins = record { kind_is = a; layer_is = b }; one_word = w })

pub logical_is : (kind : Option Kind) (o : InfixOp) → logical kind ≡ Some o → Opens kind o
logical_is (Some k.And) o e = opens (Some k.And) op.And o refl refl (λ marked. refl) e
logical_is (Some k.Or) o e = opens (Some k.Or) op.Or o refl refl (λ marked. refl) e
logical_is (Some k.Xor) o e = opens (Some k.Xor) op.Xor o refl refl (λ marked. refl) e
logical_is _ o e = absurd (none-some o e)

-- what a logical operator begins, where this comes after it
pub record Completes (o : InfixOp) (kind : Option Kind) (whole : InfixOp) : Type 0 where
  pub same_kind : operator_kind whole ≡ operator_kind o
  pub layer_is : layer_of whole ≡ layer.Expression
  pub second : (whole ≡ op.AndThen) × (kind ≡ Some k.Then) ⊎ (whole ≡ op.OrElse) × (kind ≡ Some k.Else)

then_is : (kind : Option Kind) (whole : InfixOp) → if_then kind ≡ Some whole → Completes op.And kind whole
then_is (Some k.Then) whole e = subst (Completes op.And (Some k.Then)) (some_is op.AndThen whole e) (record { same_kind = refl; layer_is = refl; second = inl (refl, refl) })
then_is _ whole e = absurd (none-some whole e)

else_is : (kind : Option Kind) (whole : InfixOp) → if_else kind ≡ Some whole → Completes op.Or kind whole
else_is (Some k.Else) whole e = subst (Completes op.Or (Some k.Else)) (some_is op.OrElse whole e) (record { same_kind = refl; layer_is = refl; second = inr (refl, refl) })
else_is _ whole e = absurd (none-some whole e)

pub short_circuit_is : (o : InfixOp) (kind : Option Kind) (whole : InfixOp) → short_circuit o kind ≡ Some whole → Completes o kind whole
short_circuit_is op.And kind whole e = then_is kind whole e
short_circuit_is op.Or kind whole e = else_is kind whole e
short_circuit_is _ kind whole e = absurd (none-some whole e)

-- ---- chains

abbrev pub chain_layer : Chain → Layer
chain_layer chain.Multiplying = layer.Term
chain_layer chain.Adding = layer.Sum
chain_layer (chain.Logical o) = layer.Expression

-- what goes on with a chain of logical operations
pub record Continues (o : InfixOp) (kind : Option Kind) (other : InfixOp) : Type 0 where
  pub same : other ≡ o
  pub joins : Joins layer.Expression kind other

continues : (o : InfixOp) (kind : Option Kind) (other : InfixOp) → kind ≡ Some (operator_kind o) → layer_of o ≡ layer.Expression → Some o ≡ Some other → Continues o kind other
continues o kind other a b e = subst (Continues o kind) (some_is o other e) (record { same = refl; joins = record { kind_is = a; layer_is = b } })

and_is : (o : InfixOp) (kind : Option Kind) (other : InfixOp) → operator_kind o ≡ k.And → layer_of o ≡ layer.Expression → if_and o kind ≡ Some other → Continues o kind other
and_is o (Some k.And) other a b e = continues o (Some k.And) other (ap (λ (z : Kind). Some z) (sym a)) b e
and_is o _ other a b e = absurd (none-some other e)

or_is : (o : InfixOp) (kind : Option Kind) (other : InfixOp) → operator_kind o ≡ k.Or → layer_of o ≡ layer.Expression → if_or o kind ≡ Some other → Continues o kind other
or_is o (Some k.Or) other a b e = continues o (Some k.Or) other (ap (λ (z : Kind). Some z) (sym a)) b e
or_is o _ other a b e = absurd (none-some other e)

xor_is : (o : InfixOp) (kind : Option Kind) (other : InfixOp) → operator_kind o ≡ k.Xor → layer_of o ≡ layer.Expression → if_xor o kind ≡ Some other → Continues o kind other
xor_is o (Some k.Xor) other a b e = continues o (Some k.Xor) other (ap (λ (z : Kind). Some z) (sym a)) b e
xor_is o _ other a b e = absurd (none-some other e)

same_is : (o : InfixOp) (kind : Option Kind) (other : InfixOp) → same_logical o kind ≡ Some other → Continues o kind other
same_is op.And kind other e = and_is op.And kind other refl refl e
same_is op.AndThen kind other e = and_is op.AndThen kind other refl refl e
same_is op.Or kind other e = or_is op.Or kind other refl refl e
same_is op.OrElse kind other e = or_is op.OrElse kind other refl refl e
same_is op.Xor kind other e = xor_is op.Xor kind other refl refl e
same_is _ kind other e = absurd (none-some other e)

pub chain_is : (c : Chain) (kind : Option Kind) (o : InfixOp) → goes_on c kind ≡ Some o → Joins (chain_layer c) kind o
chain_is chain.Multiplying kind o e = multiplying_is kind o e
chain_is chain.Adding kind o e = adding_is kind o e
chain_is (chain.Logical other) kind o e = (same_is other kind o e).joins

-- what stands on the left of each operator of a chain
abbrev pub CanLead : Chain → Expr → Type 0
CanLead chain.Multiplying e = ⊤
CanLead chain.Adding e = ⊤
CanLead (chain.Logical o) e = (rank (layer_in e) ≤ 4) ⊎ HasOperator o e

pub leads : (c : Chain) (kind : Option Kind) (o : InfixOp) (e : Expr) → goes_on c kind ≡ Some o → rank (layer_in e) ≤ rank (chain_layer c) → CanLead c e → LeftFits o e
leads chain.Multiplying kind o e is low lead = subst (λ (a : Layer). FitsLeft a o e) (sym (multiplying_is kind o is).layer_is) low
leads chain.Adding kind o e is low lead = subst (λ (a : Layer). FitsLeft a o e) (sym (adding_is kind o is).layer_is) low
leads (chain.Logical other) kind o e is low lead =
    let s = same_is other kind o is in
    subst (λ (a : Layer). FitsLeft a o e) (sym s.joins.layer_is) (subst (λ (p : InfixOp). (rank (layer_in e) ≤ 4) ⊎ HasOperator p e) (sym s.same) lead)

pub leads_again : (c : Chain) (kind : Option Kind) (o : InfixOp) (e : Expr) → goes_on c kind ≡ Some o → HasOperator o e → CanLead c e
leads_again chain.Multiplying kind o e is has = tt
leads_again chain.Adding kind o e is has = tt
leads_again (chain.Logical other) kind o e is has = inr (subst (λ (p : InfixOp). HasOperator p e) (same_is other kind o is).same has)
