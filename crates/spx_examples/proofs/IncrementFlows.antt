-- The procedure `Inc` flows as it declares.
use Rattle.std.proofs.Common.{◌≡◌, ◌↔◌, inl, inr, ⊎_elim, false, ◌||◌, List, [], ◌∷◌, ◌++◌, refl, sym, ap, ap₂, subst, ◌∙◌}
use Rattle.std.specs.Prelude.{IsTrue, Option, ◌&&◌, ◌==◌}
use Rattle.std.proofs.lemmas.List.Elements.{All-cons, All-nil}
use Rattle.spx_text.specs.declared.place.Place.{Place}
use Rattle.spx_core.specs.declared.entity.VarId.{VarId}
use Rattle.spx_core.specs.declared.program.Program.{Program}
use Rattle.spx_core.specs.declared.subprogram.CorePredicate.{CorePredicate}
use Rattle.spx_core.specs.declared.subprogram.Sub.{Sub}
use Rattle.spx_core.specs.Dependency.{imports}
use Rattle.spx_core.specs.Effects.{effect, next, nothing}
use Rattle.spx_core.specs.Flow.{MayFlow}
use Rattle.spx_core.specs.Marks.{Lambda, Occurs, marked}
use Rattle.spx_core.specs.Ways.{Goes, Reaches}
use Rattle.spx_core.specs.FlowRules.{body_effect, mark, HasNoFinding, HasNoFlowFinding}
use Rattle.spx_examples.specs.Increment.{place, x, inc, inc_effect, increment}
use Rattle.spx_examples.proofs.Successor.{step_effect}
use Rattle.spx_examples.proofs.IncrementRules.{inc_command}
use Rattle.spx_examples.proofs.OneVariable.{if_x, XFromX, one_read, no_finding}

-- the procedure, with any precondition, or none, and its program
abbrev pub inc_with : Option CorePredicate → Sub
inc_with pre = record inc { pre = pre }

abbrev pub increment_with : Option CorePredicate → Program
increment_with pre = record increment { subs = inc_with pre ∷ [] }

-- ---- its annotation

-- the only import is X
pub only_import : (v : VarId) → IsTrue (imports v inc) → x ≡ v
only_import = if_x (λ b. b || false) refl

declared : (pre : Option CorePredicate) → XFromX (inc_with pre)
declared pre = record {
  formal = if_x (λ b. b || false) refl;
  export = if_x (λ b. b || false) refl;
  derived = λ u. if_x (λ b. (b && (0 == u.0)) || false) refl;
  imported = refl;
  exported = refl;
  itself = refl;
}

-- ---- its body

pub effect_is : body_effect inc ≡ inc_effect
effect_is = ap effect inc_command ∙ ap (λ e. next e nothing) (step_effect 6 4 9)

x_flows : MayFlow inc_effect x x
x_flows = (x, inl (refl, refl), refl)

-- a mark on the assignment comes to X
mark_flows : MayFlow (marked (place 6 4) (mark increment) inc_effect) (mark increment) x
mark_flows = (x, inl (refl, refl), refl)

x_is_read : (u : VarId) → Lambda inc_effect u (place 6 4) ↔ (x ≡ u)
x_is_read u = (
  λ h. ⊎_elim (λ here. if_x (λ b. b || false) refl u here.2) (λ later. absurd later.2) h,
  λ e. subst (λ v. Lambda inc_effect v (place 6 4)) e (inl (refl, refl, refl)),
)

-- only X comes to the assignment
pub x_comes : (u : VarId) → Lambda (body_effect inc) u (place 6 4) ↔ (x ≡ u)
x_comes u = subst (λ e. Lambda e u (place 6 4) ↔ (x ≡ u)) (sym effect_is) (x_is_read u)

only_occurrence : (at : Place) → Occurs inc_effect at → place 6 4 ≡ at
only_occurrence at (inl here) = here.1
only_occurrence at (inr none) = absurd none

-- the only way sets X
only_way : (way : List VarId) → Goes inc_effect way ↔ (way ≡ x ∷ [])
only_way way = (
  λ h. h.2 ∙ ap₂ (λ (a b : List VarId). a ++ b) h.3 h.4,
  λ is. (x ∷ [], [], is, refl, refl),
)

-- and reads X
only_read : (at : Place) (v : VarId) (way : List VarId) → Reaches inc_effect at v way → x ≡ v
only_read at v way (inl here) = one_read (place 6 9) at v here.0
only_read at v way (inr past) = absurd past.4

-- ---- no finding

mark_comes : (at : Place) → Occurs inc_effect at → MayFlow (marked at (mark increment) inc_effect) (mark increment) x
mark_comes at here = subst (λ q. MayFlow (marked q (mark increment) inc_effect) (mark increment) x) (only_occurrence at here) mark_flows

found : (pre : Option CorePredicate) → HasNoFinding (increment_with pre) (inc_with pre)
found pre = no_finding (increment_with pre) (inc_with pre) inc_effect effect_is (declared pre) (record { flows = x_flows; marks = mark_comes; reads = only_read })

pub flows : (pre : Option CorePredicate) → HasNoFlowFinding (increment_with pre)
flows pre = All-cons (HasNoFinding (increment_with pre)) (inc_with pre) [] (found pre) (All-nil (HasNoFinding (increment_with pre)))

-- ---- what the law says of its body

pub mark_arrives : MayFlow (marked (place 6 4) (mark increment) (body_effect inc)) (mark increment) x
mark_arrives = subst (λ e. MayFlow (marked (place 6 4) (mark increment) e) (mark increment) x) (sym effect_is) mark_flows

pub one_way : (way : List VarId) → Goes (body_effect inc) way ↔ (way ≡ x ∷ [])
one_way way = subst (λ e. Goes e way ↔ (way ≡ x ∷ [])) (sym effect_is) (only_way way)
