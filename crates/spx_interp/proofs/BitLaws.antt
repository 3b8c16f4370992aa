-- Values that 128 bits hold.
use Rattle.std.proofs.Common.{◌≡◌, ℤ, pos, ◌+ℤ◌, ◌-ℤ◌, ◌*ℤ◌, Bool, true, false, not, ◌&&◌, ◌||◌, Some, None, refl, ap, FitsSigned}
use Rattle.std.specs.Prelude.{option_map, int_lt, int_le, if◌then◌else◌}
use Rattle.std.specs.Int.{w128}
use Rattle.spx_num.specs.Widths.{fits, fits-Decides, fitting, fits_laws}
use Rattle.spx_num.specs.Exact.{absolute, modulus, or_zero, quotient, raised, remainder}
use Rattle.spx_text.specs.declared.place.Place.{Place}
use Rattle.spx_tree.specs.declared.expression.MemberOp.TheVariants as member_op
use Rattle.spx_meaning.specs.Evaluation.{applied, applied_sign, member}
use Rattle.spx_tree.specs.declared.expression.InfixOp.TheVariants as op
use Rattle.spx_tree.specs.declared.expression.PrefixOp.TheVariants as sign
use Rattle.spx_term.specs.declared.value.Value.{Value}
use Rattle.spx_term.specs.declared.value.Value.TheVariants.{Number, Truth}
use Rattle.spx_term.specs.Meaning.{as_number, as_truth, same_value, same_truth, value_of_op, value_of_prefix}
use Rattle.spx_meaning.specs.Bits.{held}

held_if : (n : ℤ) (b : Bool) → (if b then Some (Number n) else None) ≡ option_map Number (if b then Some n else None)
held_if n true = refl
held_if n false = refl

-- a number is held where it fits
pub held_number : (n : ℤ) → held (Number n) ≡ option_map Number (fitting n)
held_number n = held_if n (fits n)

-- and is what it is
pub held_fitting : (n : ℤ) → FitsSigned w128 n → held (Number n) ≡ Some (Number n)
held_fitting n w = ap (λ b. if b then Some (Number n) else None) ((fits-Decides n).1 w)

-- ---- the value of each operation

pub held-Add : (x y : Value) → held (applied op.Add x y) ≡ option_map Number (fitting (as_number x +ℤ as_number y))
unfolding value_of_op
held-Add x y = held_number (as_number x +ℤ as_number y)

pub held-Subtract : (x y : Value) → held (applied op.Subtract x y) ≡ option_map Number (fitting (as_number x -ℤ as_number y))
unfolding value_of_op
held-Subtract x y = held_number (as_number x -ℤ as_number y)

pub held-Multiply : (x y : Value) → held (applied op.Multiply x y) ≡ option_map Number (fitting (as_number x *ℤ as_number y))
unfolding value_of_op
held-Multiply x y = held_number (as_number x *ℤ as_number y)

pub held-Divide : (x y : Value) → held (applied op.Divide x y) ≡ option_map Number (fitting (or_zero quotient (as_number x) (as_number y)))
unfolding value_of_op
held-Divide x y = held_number (or_zero quotient (as_number x) (as_number y))

pub held-Mod : (x y : Value) → held (applied op.Mod x y) ≡ option_map Number (fitting (or_zero modulus (as_number x) (as_number y)))
unfolding value_of_op
held-Mod x y = held_number (or_zero modulus (as_number x) (as_number y))

pub held-Rem : (x y : Value) → held (applied op.Rem x y) ≡ option_map Number (fitting (or_zero remainder (as_number x) (as_number y)))
unfolding value_of_op
held-Rem x y = held_number (or_zero remainder (as_number x) (as_number y))

pub held-Power : (x y : Value) → held (applied op.Power x y) ≡ option_map Number (fitting (raised (as_number x) (as_number y)))
unfolding value_of_op
held-Power x y = held_number (raised (as_number x) (as_number y))

pub held-Equal : (x y : Value) → held (applied op.Equal x y) ≡ Some (Truth (same_value x y))
unfolding value_of_op
held-Equal x y = refl

pub held-NotEqual : (x y : Value) → held (applied op.NotEqual x y) ≡ Some (Truth (not (same_value x y)))
unfolding value_of_op
held-NotEqual x y = refl

pub held-Less : (x y : Value) → held (applied op.Less x y) ≡ Some (Truth (int_lt (as_number x) (as_number y)))
unfolding value_of_op
held-Less x y = refl

pub held-LessOrEqual : (x y : Value) → held (applied op.LessOrEqual x y) ≡ Some (Truth (int_le (as_number x) (as_number y)))
unfolding value_of_op
held-LessOrEqual x y = refl

pub held-Greater : (x y : Value) → held (applied op.Greater x y) ≡ Some (Truth (int_lt (as_number y) (as_number x)))
unfolding value_of_op
held-Greater x y = refl

pub held-GreaterOrEqual : (x y : Value) → held (applied op.GreaterOrEqual x y) ≡ Some (Truth (int_le (as_number y) (as_number x)))
unfolding value_of_op
held-GreaterOrEqual x y = refl

pub held-And : (x y : Value) → held (applied op.And x y) ≡ Some (Truth (as_truth x && as_truth y))
unfolding value_of_op
held-And x y = refl

pub held-Or : (x y : Value) → held (applied op.Or x y) ≡ Some (Truth (as_truth x || as_truth y))
unfolding value_of_op
held-Or x y = refl

pub held-Xor : (x y : Value) → held (applied op.Xor x y) ≡ Some (Truth (not (same_value x y)))
unfolding value_of_op
held-Xor x y = refl

pub held-AndThen : (x y : Value) → held (applied op.AndThen x y) ≡ Some (Truth (as_truth x && as_truth y))
unfolding value_of_op
held-AndThen x y = refl

pub held-OrElse : (x y : Value) → held (applied op.OrElse x y) ≡ Some (Truth (as_truth x || as_truth y))
unfolding value_of_op
held-OrElse x y = refl

pub held-Implies : (x y : Value) → held (applied op.Implies x y) ≡ Some (Truth (not (as_truth x) || as_truth y))
unfolding value_of_op
held-Implies x y = refl

pub held-Equivalent : (x y : Value) → held (applied op.Equivalent x y) ≡ Some (Truth (same_truth (as_truth x) (as_truth y)))
unfolding value_of_op
held-Equivalent x y = refl

pub held-Minus : (x : Value) → held (applied_sign sign.Minus x) ≡ option_map Number (fitting (pos 0 -ℤ as_number x))
unfolding value_of_prefix
held-Minus x = held_number (pos 0 -ℤ as_number x)

pub held-Abs : (x : Value) → held (applied_sign sign.Abs x) ≡ option_map Number (fitting (absolute (as_number x)))
unfolding value_of_prefix
held-Abs x = held_number (absolute (as_number x))

pub held-Not : (x : Value) → held (applied_sign sign.Not x) ≡ Some (Truth (not (as_truth x)))
unfolding value_of_prefix
held-Not x = refl

pub member-In : (x low high : Value) → member member_op.In x low high ≡ Truth (int_le (as_number low) (as_number x) && int_le (as_number x) (as_number high))
unfolding value_of_op
member-In x low high = refl

pub member-NotIn : (place : Place) (x low high : Value) → member (member_op.NotIn place) x low high ≡ Truth (not (int_le (as_number low) (as_number x) && int_le (as_number x) (as_number high)))
unfolding value_of_op value_of_prefix
member-NotIn place x low high = refl

pub applied-Mod : (x y : Value) → applied op.Mod x y ≡ Number (or_zero modulus (as_number x) (as_number y))
unfolding value_of_op
applied-Mod x y = refl

pub applied-Rem : (x y : Value) → applied op.Rem x y ≡ Number (or_zero remainder (as_number x) (as_number y))
unfolding value_of_op
applied-Rem x y = refl

pub ruleset operation_laws = (applied-Mod, applied-Rem, held-Add, held-Subtract, held-Multiply, held-Divide, held-Mod, held-Rem, held-Power, held-Equal, held-NotEqual, held-Less, held-LessOrEqual, held-Greater, held-GreaterOrEqual, held-And, held-Or, held-Xor, held-AndThen, held-OrElse, held-Implies, held-Equivalent, held-Minus, held-Abs, held-Not, member-In, member-NotIn, fits_laws)
