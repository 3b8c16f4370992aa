-- Operations on two variables A and B of one type, and stores for these. In each expression A stands at column 1, the operator at column 3 and what
-- comes after it at column 12, unless a comment says otherwise.
use Rattle.std.specs.Prelude.{◌≡◌, ℕ, ℤ, pos, ◌-ℤ◌, Bool, [], ◌∷◌, Some, None, codes}
use Rattle.spx_tree.specs.declared.expression.InfixOp.{InfixOp}
use Rattle.spx_tree.specs.declared.expression.InfixOp.TheVariants as op
use Rattle.spx_tree.specs.declared.expression.PrefixOp.{PrefixOp}
use Rattle.spx_tree.specs.declared.expression.MemberOp.{MemberOp}
use Rattle.spx_core.specs.declared.entity.TheConstants.{BOOLEAN, INTEGER, NATURAL}
use Rattle.spx_core.specs.declared.entity.Entity.TheVariants as entity
use Rattle.spx_core.specs.declared.entity.Mode.TheVariants.{In}
use Rattle.spx_core.specs.declared.entity.Subtype.{Subtype}
use Rattle.spx_core.specs.declared.entity.VarId.{VarId}
use Rattle.spx_core.specs.declared.entity.VarKind.TheVariants.{Formal}
use Rattle.spx_core.specs.declared.expression.CoreExpr.{CoreExpr}
use Rattle.spx_core.specs.declared.expression.CoreExpr.TheVariants as expr
use Rattle.spx_core.specs.declared.name.CoreName.{CoreName}
use Rattle.spx_core.specs.declared.name.Reference.{Reference}
use Rattle.spx_term.specs.declared.value.Value.{Value}
use Rattle.spx_term.specs.declared.value.Value.TheVariants as value
use Rattle.spx_meaning.specs.Annotations.{meant}
use Rattle.spx_meaning.specs.Evaluation.{Answer, Gives, eval}
use Rattle.spx_meaning.specs.Frames.{Frame}
use Rattle.spx_meaning.specs.Stores.{Store}
use Rattle.spx_examples.specs.Increment.{place, word}
use Rattle.spx_examples.specs.Flag.{named}

-- `-n`
abbrev pub minus : ℕ → ℤ
minus n = pos 0 -ℤ pos n

-- ---- expressions

-- the variables
abbrev pub a : VarId
a = record { 0 = 0 }

abbrev pub b : VarId
b = record { 0 = 1 }

-- `A` and `B`, of this type, at this column
abbrev pub a_at : Subtype → ℕ → CoreName
a_at subtype column = record { name = word (codes "A") 1 column; entity = Some (entity.Variable a (record { kind = Formal In; subtype = subtype })) }

abbrev pub b_at : Subtype → ℕ → CoreName
b_at subtype column = record { name = word (codes "B") 1 column; entity = Some (entity.Variable b (record { kind = Formal In; subtype = subtype })) }

-- `True`, at this line and column
abbrev pub true_at : ℕ → ℕ → CoreName
true_at line column = record { name = word (codes "True") line column; entity = Some (entity.Literal BOOLEAN (pos 1)) }

-- `A op B`
abbrev pub two : InfixOp → Subtype → CoreExpr
two o subtype = expr.Infix o (place 1 3) (expr.Name (a_at subtype 1)) (expr.Name (b_at subtype 12))

-- `op B`
abbrev pub one : PrefixOp → Subtype → CoreExpr
one o subtype = expr.Prefix o (place 1 3) (expr.Name (b_at subtype 12))

-- `Natural`
abbrev pub natural_named : Reference
natural_named = named (record { name = word (codes "Natural") 1 12; entity = Some (entity.TypeName NATURAL) })

-- `A in Natural`
abbrev pub in_natural : MemberOp → CoreExpr
in_natural o = expr.InType o (place 1 3) (expr.Name (a_at INTEGER 1)) natural_named

-- `A in low .. high`, of numbers, the second at column 17
abbrev pub in_numbers : MemberOp → (low high : ℤ) → CoreExpr
in_numbers o low high = expr.InRange o (place 1 3) (expr.Name (a_at INTEGER 1)) (expr.Number low (place 1 12)) (expr.Number high (place 1 17))

-- numbers `m op n`
abbrev pub static : InfixOp → (m n : ℤ) → CoreExpr
static o m n = expr.Infix o (place 1 3) (expr.Number m (place 1 1)) (expr.Number n (place 1 12))

-- `B /= 0`, with B at column 1
abbrev pub b_is_not_zero : CoreExpr
b_is_not_zero = expr.Infix op.NotEqual (place 1 3) (expr.Name (b_at INTEGER 1)) (expr.Number (pos 0) (place 1 6))

-- `A / B`, with A at column 17
abbrev pub a_over_b : CoreExpr
a_over_b = expr.Infix op.Divide (place 1 19) (expr.Name (a_at INTEGER 17)) (expr.Name (b_at INTEGER 21))

-- `A / B > 1`
abbrev pub above_one : CoreExpr
above_one = expr.Infix op.Greater (place 1 23) a_over_b (expr.Number (pos 1) (place 1 25))

-- `B /= 0 op A / B > 1`
abbrev pub guarded : InfixOp → CoreExpr
guarded o = expr.Infix o (place 1 8) b_is_not_zero above_one

-- ---- stores and answers

abbrev pub number : ℤ → Value
number = value.Number

abbrev pub truth : Bool → Value
truth = value.Truth

-- A and B are these values
abbrev pub values : Value → Value → Store
values x y = Some x ∷ Some y ∷ []

-- A is this value, and B is unset
abbrev pub only_a : Value → Store
only_a x = Some x ∷ None ∷ []

-- in any surroundings the expression gives this answer from this store
abbrev pub Answers : CoreExpr → Store → Answer → Type 0
Answers e s answer = (f : Frame) (n : ℕ) → eval f n s e ≡ answer

-- `A op B` gives this answer where A and B are these numbers, and `op B` where B is this number
abbrev pub OfTwo : InfixOp → (m n : ℤ) → Answer → Type 0
OfTwo o m n answer = Answers (two o INTEGER) (values (number m) (number n)) answer

abbrev pub OfOne : PrefixOp → ℤ → Answer → Type 0
OfOne o n answer = Answers (one o INTEGER) (values (number (pos 0)) (number n)) answer

-- `A op B` is this for each two truth values
abbrev pub HasTable : InfixOp → (Bool → Bool → Bool) → Type 0
HasTable o table = (p q : Bool) → Answers (two o BOOLEAN) (values (truth p) (truth q)) (Gives (truth (table p q)))

-- in an annotation `A op B` has this value where A and B are these numbers
abbrev pub Means : InfixOp → (m n : ℤ) → Value → Type 0
Means o m n v = (f : Frame) → meant f (values (number m) (number n)) (two o INTEGER) ≡ v
