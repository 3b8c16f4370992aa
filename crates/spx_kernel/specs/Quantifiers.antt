-- Variables of quantifiers, numbered by depth, and the body of a quantifier with a term for its variable.
use Rattle.std.specs.Prelude.{ℕ, suc, ◌-◌, ◌==◌, Bool, true, ◌&&◌, List, [], ◌∷◌, ◌++◌, length, if◌then◌else◌}
use Rattle.std.specs.List.{list_any}
use Rattle.spx_term.specs.declared.term.BoundVariable.{BoundVariable}
use Rattle.spx_term.specs.declared.term.Symbol.{Symbol}
use Rattle.spx_term.specs.declared.term.Symbol.TheVariants.{Bound}
use Rattle.spx_term.specs.declared.term.Name.{Name}
use Rattle.spx_term.specs.declared.term.TernaryOp.{TernaryOp}
use Rattle.spx_term.specs.declared.term.TernaryOp.TheVariants as ternary
use Rattle.spx_term.specs.declared.term.Term.{Term, Term-F, fold-Term}
use Rattle.spx_term.specs.declared.term.Term.TheVariants.{Number, Truth, Variable, Blank, Prefix, Infix, Unary, Binary, Ternary}
use Rattle.spx_term.specs.Equality.{same_name}
use Rattle.spx_term.specs.Meaning.{bound}
use Rattle.spx_term.specs.Substitution.{raised}

-- ---- which terms are numbered by depth

-- the variables of the quantifiers around a term, the outermost one first
abbrev pub Scope : Type 0
Scope = List BoundVariable

-- whether two variables of quantifiers are the same
abbrev pub same_bound : BoundVariable → BoundVariable → Bool
same_bound b c = b.depth == c.depth && b.variable == c.variable

-- whether one of the quantifiers has this variable
abbrev pub is_bound_in : Scope → BoundVariable → Bool
is_bound_in scope b = list_any (same_bound b) scope

-- whether a name of a quantifier's variable is that of a quantifier around it
abbrev pub name_scoped : Symbol → Name → Scope → Bool
name_scoped (Bound b) name scope = same_name name (bound b) && is_bound_in scope b
name_scoped _ name scope = true

-- the depth of a quantifier is one more than how many there are around it
abbrev pub ternary_scoped : TernaryOp → (a b c : Scope → Bool) → Scope → Bool
ternary_scoped (ternary.Quantified q v) a b c scope = v.depth == suc (length scope) && (a scope && (b scope && c (scope ++ v ∷ [])))
ternary_scoped (ternary.Update t) a b c scope = a scope && (b scope && c scope)

-- one level, whose parts are scoped or not
abbrev pub scoped_step : Term-F (Scope → Bool) → Scope → Bool
scoped_step (Term-F.Number n) scope = true
scoped_step (Term-F.Truth b) scope = true
scoped_step (Term-F.Variable name) scope = name_scoped name.symbol name scope
scoped_step (Term-F.Blank id) scope = true
scoped_step (Term-F.Prefix op a) scope = a scope
scoped_step (Term-F.Infix op a b) scope = a scope && b scope
scoped_step (Term-F.Unary op a) scope = a scope
scoped_step (Term-F.Binary op a b) scope = a scope && b scope
scoped_step (Term-F.Ternary op a b c) scope = ternary_scoped op a b c scope

-- whether under these quantifiers each variable of a quantifier is that of one around it, and each quantifier is numbered by its depth
unfoldable pub is_scoped : Scope → Term → Bool
is_scoped scope t = fold-Term (Scope → Bool) scoped_step t scope

-- so by itself, under no quantifier
abbrev pub stands_alone : Term → Bool
stands_alone t = is_scoped [] t

-- ---- a term for the first variable

-- a quantifier's variable one level less deep
abbrev pub shallower : BoundVariable → BoundVariable
shallower b = record { depth = b.depth - 1; variable = b.variable }

-- the first variable becomes the term, under k quantifiers; any other one is one level less deep
abbrev pub opened_name : Term → Symbol → Name → ℕ → Term
opened_name t (Bound b) name k = if b.depth == 1 then raised k t else Variable (record { symbol = Bound (shallower b); sort = name.sort })
opened_name t _ name k = Variable name

-- a quantifier one level less deep; its body is under one quantifier more
abbrev pub opened_ternary : TernaryOp → (a b c : ℕ → Term) → ℕ → Term
opened_ternary (ternary.Quantified q v) a b c k = Ternary (ternary.Quantified q (shallower v)) (a k) (b k) (c (suc k))
opened_ternary (ternary.Update t) a b c k = Ternary (ternary.Update t) (a k) (b k) (c k)

-- one level, whose parts have t for the first variable, under k quantifiers
abbrev pub opened_step : Term → Term-F (ℕ → Term) → ℕ → Term
opened_step t (Term-F.Number n) k = Number n
opened_step t (Term-F.Truth b) k = Truth b
opened_step t (Term-F.Variable name) k = opened_name t name.symbol name k
opened_step t (Term-F.Blank id) k = Blank id
opened_step t (Term-F.Prefix op a) k = Prefix op (a k)
opened_step t (Term-F.Infix op a b) k = Infix op (a k) (b k)
opened_step t (Term-F.Unary op a) k = Unary op (a k)
opened_step t (Term-F.Binary op a b) k = Binary op (a k) (b k)
opened_step t (Term-F.Ternary op a b c) k = opened_ternary op a b c k

-- the term under k quantifiers with t for the first variable
unfoldable pub opened_under : ℕ → Term → Term → Term
opened_under k t u = fold-Term (ℕ → Term) (opened_step t) u k

-- the body of a quantifier that stands alone, with t for its variable
abbrev pub opened : Term → Term → Term
opened t body = opened_under 0 t body
