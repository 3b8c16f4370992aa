-- The procedure `Next` flows as it declares.
use Rattle.std.proofs.Common.{◌≡◌, ◌↔◌, ◌⊎◌, inl, inr, ⊎_elim, pos, false, ◌||◌, List, [], ◌∷◌, ◌++◌, refl, sym, ap, ap₂, subst, ◌∙◌}
use Rattle.std.specs.Prelude.{◌&&◌, ◌==◌}
use Rattle.std.specs.List.{filter_map}
use Rattle.std.proofs.lemmas.List.Elements.{All-cons, All-nil}
use Rattle.spx_text.specs.declared.place.Place.{Place}
use Rattle.spx_tree.specs.declared.expression.InfixOp.TheVariants as op
use Rattle.spx_core.specs.declared.entity.VarId.{VarId}
use Rattle.spx_core.specs.declared.name.CoreName.{CoreName}
use Rattle.spx_core.specs.declared.expression.CoreExpr.TheVariants.{Name, Number}
use Rattle.spx_core.specs.Reads.{names_step, names_read}
use Rattle.spx_core.specs.Effects.{nothing, choose, effect, next, read_of}
use Rattle.spx_core.specs.Flow.{MayFlow}
use Rattle.spx_core.specs.Marks.{Occurs, marked}
use Rattle.spx_core.specs.Ways.{Goes, Reaches}
use Rattle.spx_core.specs.FlowRules.{body_effect, mark, HasNoFinding, HasNoFlowFinding}
use Rattle.spx_core.proofs.Callers.Expressions.{fold-Name, fold-Number, fold-Infix}
use Rattle.spx_examples.specs.Increment.{place, x, x_at}
use Rattle.spx_examples.specs.Next.{below_hundred, next_sub, next_program, next_effect}
use Rattle.spx_examples.proofs.OneVariable.{if_x, one_read, XFromX, no_finding}
use Rattle.spx_examples.proofs.Successor.{step_effect}
use Rattle.spx_examples.proofs.NextRules.{next_command}

-- ---- its effect

names_read_are : names_read below_hundred ≡ x_at 5 7 ∷ []
names_read_are =
    fold-Infix names_step op.Less (place 5 9) (Name (x_at 5 7)) (Number (pos 100) (place 5 11))
    ∙ ap₂ (λ (a b : List CoreName). a ++ b) (fold-Name names_step (x_at 5 7)) (fold-Number names_step (pos 100) (place 5 11))

pub effect_is : body_effect next_sub ≡ next_effect
effect_is = ap effect next_command ∙ ap₂ (λ names e. next (choose (filter_map read_of names) (next e nothing) nothing (place 5 4)) nothing) names_read_are (step_effect 6 7 12)

-- ---- flow and marks

x_flows : MayFlow next_effect x x
x_flows = (x, inl (x, inl (refl, refl), refl), refl)

-- a mark at this place comes to X
abbrev Arrives : Place → Type 0
Arrives at = MayFlow (marked at (mark next_program) next_effect) (mark next_program) x

-- by the choice that the condition makes
condition_arrives : Arrives (place 5 4)
condition_arrives = (x, inr (inr (refl, refl)), refl)

-- by the value that the assignment gives
step_arrives : Arrives (place 6 7)
step_arrives = (x, inl (x, inl (refl, refl), refl), refl)

marks_arrive : (at : Place) → Occurs next_effect at → Arrives at
marks_arrive at (inl (inl here)) = subst Arrives here condition_arrives
marks_arrive at (inl (inr (inl (inl here)))) = subst Arrives here.1 step_arrives
marks_arrive at (inl (inr (inl (inr none)))) = absurd none
marks_arrive at (inl (inr (inr none))) = absurd none
marks_arrive at (inr none) = absurd none

-- ---- ways

only_read : (at : Place) (v : VarId) (way : List VarId) → Reaches next_effect at v way → x ≡ v
only_read at v way (inl (inl here)) = one_read (place 5 7) at v here.0
only_read at v way (inl (inr (inl (inl here)))) = one_read (place 6 12) at v here.0
only_read at v way (inl (inr (inl (inr past)))) = absurd past.4
only_read at v way (inl (inr (inr none))) = absurd none
only_read at v way (inr past) = absurd past.4

-- one way sets X, the other sets nothing
ways : (way : List VarId) → Goes next_effect way ↔ ((way ≡ x ∷ []) ⊎ (way ≡ []))
ways way = (
  λ h. let after = λ (front : List VarId) (is : h.0 ≡ front). h.2 ∙ ap₂ (λ (a b : List VarId). a ++ b) is h.4 in
      ⊎_elim (λ arm. inl (after (x ∷ []) (arm.2 ∙ ap₂ (λ (a b : List VarId). a ++ b) arm.3 arm.4))) (λ past. inr (after [] past)) h.3,
  λ h. ⊎_elim (λ is. (x ∷ [], [], is, inl (x ∷ [], [], refl, refl, refl), refl)) (λ is. ([], [], is, inr refl, refl)) h,
)

-- ---- no finding

declared : XFromX next_sub
declared = record {
  formal = if_x (λ b. b || false) refl;
  export = if_x (λ b. b || false) refl;
  derived = λ u. if_x (λ b. (b && (0 == u.0)) || false) refl;
  imported = refl;
  exported = refl;
  itself = refl;
}

pub flows : HasNoFlowFinding next_program
flows =
    let found = no_finding next_program next_sub next_effect effect_is declared (record { flows = x_flows; marks = marks_arrive; reads = only_read }) in
    All-cons (HasNoFinding next_program) next_sub [] found (All-nil (HasNoFinding next_program))

-- ---- what the law says of its body

pub mark_arrives : MayFlow (marked (place 5 4) (mark next_program) (body_effect next_sub)) (mark next_program) x
mark_arrives = subst (λ e. MayFlow (marked (place 5 4) (mark next_program) e) (mark next_program) x) (sym effect_is) condition_arrives

pub two_ways : (way : List VarId) → Goes (body_effect next_sub) way ↔ ((way ≡ x ∷ []) ⊎ (way ≡ []))
two_ways way = subst (λ e. Goes e way ↔ ((way ≡ x ∷ []) ⊎ (way ≡ []))) (sym effect_is) (ways way)
