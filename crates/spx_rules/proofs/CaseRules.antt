-- The alternatives of a `case`, one after another.
use Rattle.std.proofs.Common.{◌≡◌, ℕ, ◌+◌, ◌<◌, List, [], ◌∷◌, Ok, Err, length, drop, get_or, map, refl, ap, ◌∙◌}
use Rattle.std.specs.Prelude.{⊤}
use Rattle.spx_text.specs.declared.place.Place.{Place}
use Rattle.spx_core.specs.declared.expression.CoreExpr.{CoreExpr}
use Rattle.spx_core.specs.declared.statement.Around.{Around}
use Rattle.spx_core.specs.declared.statement.Around.TheVariants.{Other}
use Rattle.spx_core.specs.declared.statement.CoreAlternative.{CoreAlternative}
use Rattle.spx_core.specs.declared.statement.CoreStmt.{CoreStmt}
use Rattle.spx_core.specs.Commands.{alternative, command, select}
use Rattle.spx_core.specs.Judged.{Judged, ◌>>=◌}
use Rattle.spx_core.specs.Obeyed.{obeyed_alternatives, obeyed_command}
use Rattle.spx_typing.specs.Choices.{alternatives_in, done_in}
use Rattle.spx_typing.proofs.CaseForms.{front}

and_no_more : (x : Judged ⊤) → x ≡ (x >>= λ _. Ok tt)
and_no_more (Ok x) = refl
and_no_more (Err breach) = refl

alternatives_obeyed : (a : CoreAlternative) (rest : List CoreAlternative)
    → obeyed_alternatives (alternatives_in (a ∷ rest)) ≡ (obeyed_command Other (done_in a) >>= λ _. obeyed_alternatives (alternatives_in rest))
alternatives_obeyed a [] = and_no_more (obeyed_command Other (done_in a))
alternatives_obeyed a (b ∷ rest) = refl

pub obeyed_at : (alternatives : List CoreAlternative) (i : ℕ) (a : CoreAlternative) → i < length alternatives → a ≡ get_or alternatives i a
    → obeyed_alternatives (alternatives_in (drop i alternatives)) ≡ (obeyed_command Other (done_in a) >>= λ _. obeyed_alternatives (alternatives_in (drop (i + 1) alternatives)))
obeyed_at alternatives i a within is = ap (λ rest. obeyed_alternatives (alternatives_in rest)) (front alternatives i a within is) ∙ alternatives_obeyed a (drop (i + 1) alternatives)

selection_obeyed : (here : Around) (place : Place) (selector : CoreExpr) (alternatives : List CoreAlternative)
    → obeyed_command here (select place selector (map alternative alternatives)) ≡ obeyed_alternatives (alternatives_in alternatives)
selection_obeyed here place selector [] = refl
selection_obeyed here place selector (a ∷ rest) = refl

pub case_obeyed : (here : Around) (s : CoreStmt) (place : Place) (selector : CoreExpr) (alternatives : List CoreAlternative) → command s ≡ select place selector (map alternative alternatives)
    → obeyed_command here (command s) ≡ obeyed_alternatives (alternatives_in alternatives)
case_obeyed here s place selector alternatives is = ap (obeyed_command here) is ∙ selection_obeyed here place selector alternatives
