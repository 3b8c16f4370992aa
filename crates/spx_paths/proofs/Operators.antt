-- The checks of operations, by their operators.
use Rattle.std.proofs.Common.{◌≡◌, Bool, true, false, true≢false, List, refl, sym}
use Rattle.spx_text.specs.declared.place.Place.{Place}
use Rattle.spx_tree.specs.declared.expression.InfixOp.{InfixOp}
use Rattle.spx_tree.specs.declared.expression.InfixOp.TheVariants as op
use Rattle.spx_core.specs.declared.entity.BaseType.{BaseType}
use Rattle.spx_term.specs.declared.term.Term.{Term}
use Rattle.spx_term.specs.Steps.{Tree}
use Rattle.spx_paths.specs.Checks.{base_check, divisor_check, operation_check, right_lefts}

-- ---- kinds of operations
-- the result is checked
abbrev pub is_base : InfixOp → Bool
is_base op.Add = true
is_base op.Subtract = true
is_base op.Multiply = true
is_base op.Divide = false
is_base op.Mod = false
is_base op.Rem = false
is_base op.Power = false
is_base op.Equal = false
is_base op.NotEqual = false
is_base op.Less = false
is_base op.LessOrEqual = false
is_base op.Greater = false
is_base op.GreaterOrEqual = false
is_base op.And = false
is_base op.Or = false
is_base op.Xor = false
is_base op.AndThen = false
is_base op.OrElse = false
is_base op.Implies = false
is_base op.Equivalent = false

pub op_base : (lefts : List Term) (o : InfixOp) (base : BaseType) (place at : Place) (right whole : Term) → is_base o ≡ true → (rest : Tree) → operation_check lefts o base place at right whole rest ≡ base_check lefts base place whole rest
op_base lefts op.Add base place at right whole is rest = refl
op_base lefts op.Subtract base place at right whole is rest = refl
op_base lefts op.Multiply base place at right whole is rest = refl
op_base lefts op.Divide base place at right whole is rest = absurd (true≢false (sym is))
op_base lefts op.Mod base place at right whole is rest = absurd (true≢false (sym is))
op_base lefts op.Rem base place at right whole is rest = absurd (true≢false (sym is))
op_base lefts op.Power base place at right whole is rest = absurd (true≢false (sym is))
op_base lefts op.Equal base place at right whole is rest = absurd (true≢false (sym is))
op_base lefts op.NotEqual base place at right whole is rest = absurd (true≢false (sym is))
op_base lefts op.Less base place at right whole is rest = absurd (true≢false (sym is))
op_base lefts op.LessOrEqual base place at right whole is rest = absurd (true≢false (sym is))
op_base lefts op.Greater base place at right whole is rest = absurd (true≢false (sym is))
op_base lefts op.GreaterOrEqual base place at right whole is rest = absurd (true≢false (sym is))
op_base lefts op.And base place at right whole is rest = absurd (true≢false (sym is))
op_base lefts op.Or base place at right whole is rest = absurd (true≢false (sym is))
op_base lefts op.Xor base place at right whole is rest = absurd (true≢false (sym is))
op_base lefts op.AndThen base place at right whole is rest = absurd (true≢false (sym is))
op_base lefts op.OrElse base place at right whole is rest = absurd (true≢false (sym is))
op_base lefts op.Implies base place at right whole is rest = absurd (true≢false (sym is))
op_base lefts op.Equivalent base place at right whole is rest = absurd (true≢false (sym is))

-- the divisor is checked
abbrev pub is_rest : InfixOp → Bool
is_rest op.Add = false
is_rest op.Subtract = false
is_rest op.Multiply = false
is_rest op.Divide = false
is_rest op.Mod = true
is_rest op.Rem = true
is_rest op.Power = false
is_rest op.Equal = false
is_rest op.NotEqual = false
is_rest op.Less = false
is_rest op.LessOrEqual = false
is_rest op.Greater = false
is_rest op.GreaterOrEqual = false
is_rest op.And = false
is_rest op.Or = false
is_rest op.Xor = false
is_rest op.AndThen = false
is_rest op.OrElse = false
is_rest op.Implies = false
is_rest op.Equivalent = false

pub op_rest : (lefts : List Term) (o : InfixOp) (base : BaseType) (place at : Place) (right whole : Term) → is_rest o ≡ true → (rest : Tree) → operation_check lefts o base place at right whole rest ≡ divisor_check lefts place right rest
op_rest lefts op.Add base place at right whole is rest = absurd (true≢false (sym is))
op_rest lefts op.Subtract base place at right whole is rest = absurd (true≢false (sym is))
op_rest lefts op.Multiply base place at right whole is rest = absurd (true≢false (sym is))
op_rest lefts op.Divide base place at right whole is rest = absurd (true≢false (sym is))
op_rest lefts op.Mod base place at right whole is rest = refl
op_rest lefts op.Rem base place at right whole is rest = refl
op_rest lefts op.Power base place at right whole is rest = absurd (true≢false (sym is))
op_rest lefts op.Equal base place at right whole is rest = absurd (true≢false (sym is))
op_rest lefts op.NotEqual base place at right whole is rest = absurd (true≢false (sym is))
op_rest lefts op.Less base place at right whole is rest = absurd (true≢false (sym is))
op_rest lefts op.LessOrEqual base place at right whole is rest = absurd (true≢false (sym is))
op_rest lefts op.Greater base place at right whole is rest = absurd (true≢false (sym is))
op_rest lefts op.GreaterOrEqual base place at right whole is rest = absurd (true≢false (sym is))
op_rest lefts op.And base place at right whole is rest = absurd (true≢false (sym is))
op_rest lefts op.Or base place at right whole is rest = absurd (true≢false (sym is))
op_rest lefts op.Xor base place at right whole is rest = absurd (true≢false (sym is))
op_rest lefts op.AndThen base place at right whole is rest = absurd (true≢false (sym is))
op_rest lefts op.OrElse base place at right whole is rest = absurd (true≢false (sym is))
op_rest lefts op.Implies base place at right whole is rest = absurd (true≢false (sym is))
op_rest lefts op.Equivalent base place at right whole is rest = absurd (true≢false (sym is))

-- ---- no checks
pub op_free : (lefts : List Term) (o : InfixOp) (base : BaseType) (place at : Place) (right whole : Term) → (o ≡ op.Add → ⊥) → (o ≡ op.Subtract → ⊥) → (o ≡ op.Multiply → ⊥) → (o ≡ op.Divide → ⊥) → (o ≡ op.Mod → ⊥) → (o ≡ op.Rem → ⊥) → (o ≡ op.Power → ⊥)
    → (rest : Tree) → operation_check lefts o base place at right whole rest ≡ rest
op_free lefts op.Add base place at right whole f1 f2 f3 f4 f5 f6 f7 rest = absurd (f1 refl)
op_free lefts op.Subtract base place at right whole f1 f2 f3 f4 f5 f6 f7 rest = absurd (f2 refl)
op_free lefts op.Multiply base place at right whole f1 f2 f3 f4 f5 f6 f7 rest = absurd (f3 refl)
op_free lefts op.Divide base place at right whole f1 f2 f3 f4 f5 f6 f7 rest = absurd (f4 refl)
op_free lefts op.Mod base place at right whole f1 f2 f3 f4 f5 f6 f7 rest = absurd (f5 refl)
op_free lefts op.Rem base place at right whole f1 f2 f3 f4 f5 f6 f7 rest = absurd (f6 refl)
op_free lefts op.Power base place at right whole f1 f2 f3 f4 f5 f6 f7 rest = absurd (f7 refl)
op_free lefts op.Equal base place at right whole f1 f2 f3 f4 f5 f6 f7 rest = refl
op_free lefts op.NotEqual base place at right whole f1 f2 f3 f4 f5 f6 f7 rest = refl
op_free lefts op.Less base place at right whole f1 f2 f3 f4 f5 f6 f7 rest = refl
op_free lefts op.LessOrEqual base place at right whole f1 f2 f3 f4 f5 f6 f7 rest = refl
op_free lefts op.Greater base place at right whole f1 f2 f3 f4 f5 f6 f7 rest = refl
op_free lefts op.GreaterOrEqual base place at right whole f1 f2 f3 f4 f5 f6 f7 rest = refl
op_free lefts op.And base place at right whole f1 f2 f3 f4 f5 f6 f7 rest = refl
op_free lefts op.Or base place at right whole f1 f2 f3 f4 f5 f6 f7 rest = refl
op_free lefts op.Xor base place at right whole f1 f2 f3 f4 f5 f6 f7 rest = refl
op_free lefts op.AndThen base place at right whole f1 f2 f3 f4 f5 f6 f7 rest = refl
op_free lefts op.OrElse base place at right whole f1 f2 f3 f4 f5 f6 f7 rest = refl
op_free lefts op.Implies base place at right whole f1 f2 f3 f4 f5 f6 f7 rest = refl
op_free lefts op.Equivalent base place at right whole f1 f2 f3 f4 f5 f6 f7 rest = refl

pub same_lefts : (o : InfixOp) (lefts : List Term) (left : Term) → (o ≡ op.AndThen → ⊥) → (o ≡ op.OrElse → ⊥) → right_lefts o lefts left ≡ lefts
same_lefts op.Add lefts left f g = refl
same_lefts op.Subtract lefts left f g = refl
same_lefts op.Multiply lefts left f g = refl
same_lefts op.Divide lefts left f g = refl
same_lefts op.Mod lefts left f g = refl
same_lefts op.Rem lefts left f g = refl
same_lefts op.Power lefts left f g = refl
same_lefts op.Equal lefts left f g = refl
same_lefts op.NotEqual lefts left f g = refl
same_lefts op.Less lefts left f g = refl
same_lefts op.LessOrEqual lefts left f g = refl
same_lefts op.Greater lefts left f g = refl
same_lefts op.GreaterOrEqual lefts left f g = refl
same_lefts op.And lefts left f g = refl
same_lefts op.Or lefts left f g = refl
same_lefts op.Xor lefts left f g = refl
same_lefts op.AndThen lefts left f g = absurd (f refl)
same_lefts op.OrElse lefts left f g = absurd (g refl)
same_lefts op.Implies lefts left f g = refl
same_lefts op.Equivalent lefts left f g = refl
