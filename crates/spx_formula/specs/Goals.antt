-- What checks ask to be shown.
use Rattle.std.specs.Prelude.{ℕ, ℤ, List, [], ◌∷◌}
use Rattle.spx_core.specs.declared.entity.Class.{Class}
use Rattle.spx_core.specs.declared.entity.Class.TheVariants as class
use Rattle.spx_core.specs.declared.entity.Subtype.{Subtype}
use Rattle.spx_term.specs.declared.term.TermOp.TheVariants as operator
use Rattle.spx_term.specs.declared.term.UnaryOp.TheVariants as unary
use Rattle.spx_term.specs.declared.term.Term.{Term}
use Rattle.spx_term.specs.declared.term.Term.TheVariants as term
use Rattle.spx_term.specs.Goals.{goal_of}

-- the term lies between these
abbrev pub in_range : (first last : ℤ) → Term → List Term
in_range first last t = term.Infix operator.GreaterOrEqual t (term.Number first) ∷ term.Infix operator.LessOrEqual t (term.Number last) ∷ []

-- what says that a term lies in a type: of truth values there is nothing to say
abbrev pub in_class : Class → ℕ → (first last : ℤ) → Term → List Term
in_class class.Integer id first last t = in_range first last t
in_class class.Boolean id first last t = []
in_class class.Enumeration id first last t = in_range first last t
in_class class.Composite id first last t = term.Unary (unary.In id) t ∷ []

-- the value is one of the subtype, and so are its parts
abbrev pub in_type : Subtype → Term → List Term
in_type subtype t = in_class subtype.base.class subtype.base.id.0 subtype.first subtype.last t

-- where these left sides are true
abbrev pub under : List Term → Term → Term
under [] t = t
under (left ∷ lefts) t = term.Infix operator.Implies left (under lefts t)

-- the goals of a check that stands under these left sides; under one or more they are one goal
abbrev pub guarded : List Term → List Term → List Term
guarded [] goals = goals
guarded (left ∷ lefts) goals = under (left ∷ lefts) (goal_of goals) ∷ []

-- both bounds lie in the type where there is a value between them
abbrev pub range_goal : Subtype → (low high : Term) → Term
range_goal subtype low high =
    term.Infix operator.Implies (term.Infix operator.LessOrEqual low high)
    (term.Infix operator.And (term.Infix operator.GreaterOrEqual low (term.Number subtype.first)) (term.Infix operator.LessOrEqual high (term.Number subtype.last)))
