-- The terms of the bounds of loops that count, and the steps at the end of a turn.
use Rattle.std.proofs.Common.{◌≡◌, ℕ, pos, Bool, true, false, if◌then◌else◌, List, ap, ◌∙◌}
use Rattle.std.specs.List.{filter_map, list_all}
use Rattle.spx_core.specs.declared.expression.CoreExpr.{CoreExpr}
use Rattle.spx_core.specs.declared.expression.CoreExpr.TheVariants as expr
use Rattle.spx_core.specs.declared.name.CoreName.{CoreName}
use Rattle.spx_core.specs.Commands.{Counted}
use Rattle.spx_core.specs.Effects.{Read, read_of}
use Rattle.spx_core.specs.Judged.{expr_step}
use Rattle.spx_core.specs.Reads.{names_step}
use Rattle.spx_core.proofs.Callers.Expressions.{fold-Name, fold-Number}
use Rattle.spx_term.specs.declared.term.Name.{Name}
use Rattle.spx_term.specs.declared.term.Term.{Term}
use Rattle.spx_term.specs.declared.term.Term.TheVariants as term
use Rattle.spx_term.specs.Steps.{Tree}
use Rattle.spx_meaning.specs.Literals.{literal_in}
use Rattle.spx_formula.specs.Terms.{first_name, last_name, literal_or, now_term, term_of, term_with-Name, term_with-Number}
use Rattle.spx_paths.specs.Walks.{again, high_term, is_fixed, keeps_value, low_term}
use Rattle.spx_examples.specs.CountedLoops.{i, number_at, over, to_next, to_previous, up_to_x, up_to_y, with_parameter as p}
use Rattle.spx_examples.specs.Flag.{flag, x_at, y_at}
use Rattle.spx_examples.specs.Increment.{place, x}

-- ---- bounds

-- all variables of these names keep their values
abbrev are_kept : List CoreName → Bool
are_kept names = list_all (λ (r : Read). keeps_value flag r.1) (filter_map read_of names)

x_is_fixed : is_fixed flag (expr.Name (x_at 5 33)) ≡ true
x_is_fixed = ap are_kept (fold-Name names_step (x_at 5 33))

y_is_not : is_fixed flag (expr.Name (y_at 5 33)) ≡ false
y_is_not = ap are_kept (fold-Name names_step (y_at 5 33))

one_is_fixed : is_fixed flag (number_at (pos 1) 28) ≡ true
one_is_fixed = ap are_kept (fold-Number names_step (pos 1) (place 5 28))

-- the term of a bound where this is known of it
abbrev bound_where : Name → CoreExpr → Bool → Term
bound_where name e fixed = if fixed then term_of p (now_term p) e else term.Variable name

term_of_x : term_of p (now_term p) (expr.Name (x_at 5 33)) ≡ now_term p x
term_of_x = term_with-Name (now_term p) (now_term p) (x_at 5 33) ∙ ap (λ j. literal_or (literal_in j) (now_term p x)) (fold-Name expr_step (x_at 5 33))

pub high_x : high_term p flag (over false up_to_x) ≡ now_term p x
high_x = ap (bound_where (last_name i) (expr.Name (x_at 5 33))) x_is_fixed ∙ term_of_x

pub high_y : high_term p flag (over false up_to_y) ≡ term.Variable (last_name i)
high_y = ap (bound_where (last_name i) (expr.Name (y_at 5 33))) y_is_not

low_one : low_term p flag (over true up_to_x) ≡ term.Number (pos 1)
low_one = ap (bound_where (first_name i) (number_at (pos 1) 28)) one_is_fixed ∙ term_with-Number (now_term p) (now_term p) (pos 1) (place 5 28)

-- ---- the end of a turn

module _ (into out : ℕ → Tree) (made : ℕ) where
  pub on_to_next : again p flag (Counted (over false up_to_x)) into out made ≡ to_next (now_term p x) (into made) (out made)
  on_to_next = ap (λ last. to_next last (into made) (out made)) high_x

  pub on_to_previous : again p flag (Counted (over true up_to_x)) into out made ≡ to_previous (term.Number (pos 1)) (into made) (out made)
  on_to_previous = ap (λ first. to_previous first (into made) (out made)) low_one
