-- What is known of the value of a selector in an alternative (Ada 95 RM 5.4).
use Rattle.std.specs.Prelude.{false, List, [], ◌∷◌, ◌++◌, map, Option, Some, None}
use Rattle.spx_core.specs.declared.expression.CoreExpr.{CoreExpr}
use Rattle.spx_core.specs.declared.function.Span.{Span}
use Rattle.spx_core.specs.declared.statement.CoreChoice.{CoreChoice}
use Rattle.spx_term.specs.declared.term.TermPrefix.TheVariants.{Not}
use Rattle.spx_term.specs.declared.term.TermOp.TheVariants as operator
use Rattle.spx_term.specs.declared.term.Term.{Term}
use Rattle.spx_term.specs.declared.term.Term.TheVariants as term
use Rattle.spx_term.specs.Conjuncts.{conjuncts}
use Rattle.spx_formula.specs.Terms.{between}

-- the value is the one of a choice, or lies between its bounds
abbrev pub chosen_term : Term → Option CoreExpr → Span → Term
chosen_term t None span = term.Infix operator.Equal t (term.Number span.first)
chosen_term t (Some high) span = between t (term.Number span.first) (term.Number span.last)

-- the selector has one of the values that this choice names
abbrev pub choice_term : Term → CoreChoice → Term
choice_term t choice = chosen_term t choice.high choice.span

-- it is that of a choice, or of one of more
abbrev pub one_of : Term → Term → List CoreChoice → Term
one_of t so_far [] = so_far
one_of t so_far (choice ∷ rest) = one_of t (term.Infix operator.Or so_far (choice_term t choice)) rest

-- it has one of the values that these choices name
abbrev pub choices_term : Term → List CoreChoice → Term
choices_term t [] = term.Truth false
choices_term t (choice ∷ rest) = one_of t (choice_term t choice) rest

-- what is known where choices have the value: those of `others` have it where no earlier ones do
abbrev pub alternative_facts : Term → List Term → Option (List CoreChoice) → List Term
alternative_facts t earlier None = map (term.Prefix Not) earlier
alternative_facts t earlier (Some choices) = conjuncts (choices_term t choices)

-- the earlier ones, and these
abbrev pub and_these : Term → List Term → Option (List CoreChoice) → List Term
and_these t earlier None = earlier
and_these t earlier (Some choices) = earlier ++ choices_term t choices ∷ []
