-- The effect of each form, and of what it is lowered from.
use Rattle.std.proofs.Common.{◌≡◌, ℕ, zero, suc, ◌+◌, ◌<◌, List, [], ◌∷◌, map, take, length, get_or, Option, Some, None, refl, sym, ap, ap₂, ◌∙◌, arith}
use Rattle.std.proofs.lemmas.List.{append-nil}
use Rattle.spx_text.specs.declared.place.Place.{Place}
use Rattle.spx_core.specs.declared.expression.CoreExpr.{CoreExpr}
use Rattle.spx_tree.specs.declared.statement.Closing.{Closing}
use Rattle.spx_core.specs.declared.statement.CoreStmt.{CoreStmt}
use Rattle.spx_core.specs.declared.statement.CoreStmt.TheVariants as stmt
use Rattle.spx_core.specs.declared.statement.CoreArm.{CoreArm, out-CoreArm}
use Rattle.spx_core.specs.declared.statement.CoreAlternative.{CoreAlternative, out-CoreAlternative}
use Rattle.spx_core.specs.declared.statement.CoreScheme.{CoreScheme}
use Rattle.spx_core.specs.declared.statement.CoreScheme.TheVariants as scheme
use Rattle.spx_core.specs.Commands.{Command, Skip, alternative, arm_before, arms_before, command, commands, leaves, loop_of, select}
use Rattle.spx_core.specs.Effects.{Effect, Read, nothing, assign, next, choose, observe, chosen, effect, effects, reads_of}
use Rattle.spx_core.proofs.Callers.CommandForms.{command-If, command-If-else, command_arm, select_last, select_more}
use Rattle.spx_lower.specs.declared.item.Item.{Item, Item-F, map-Item, out-Item, fold_out-Item}
use Rattle.spx_lower.specs.declared.item.Item.TheVariants.{Nothing, Assign, Observe, Branch, Loop, outs-Nothing, outs-Assign, outs-Observe, outs-Branch, outs-Loop}
use Rattle.spx_lower.specs.declared.item.Arm.{Arm, out-Arm, fold_out-Arm}
use Rattle.spx_lower.specs.declared.item.Head.{Head}
use Rattle.spx_lower.specs.declared.item.Assignment.{Assignment}
use Rattle.spx_lower.specs.Meaning.{Test, arm_of, arm_step, branch, effect_in, effect_of, ended, given_arm, given_body, given_loop, item_step, loop_over, row}

-- ---- at each form

effect_at : (i : Item) (layer : Item-F Item Arm) → out-Item i ≡ layer → effect_of i ≡ item_step (map-Item Item Arm Effect Test effect_of arm_of layer)
effect_at i layer is = fold_out-Item Effect Test item_step arm_step i ∙ ap (λ x. item_step (map-Item Item Arm Effect Test effect_of arm_of x)) is

pub effect-Nothing : effect_of Nothing ≡ nothing
effect-Nothing = effect_at Nothing Item-F.Nothing outs-Nothing

pub effect-Assign : (a : Assignment) → effect_of (Assign a) ≡ assign a.target a.reads a.place
effect-Assign a = effect_at (Assign a) (Item-F.Assign a) (outs-Assign a)

pub effect-Observe : (reads : List Read) → effect_of (Observe reads) ≡ observe reads
effect-Observe reads = effect_at (Observe reads) (Item-F.Observe reads) (outs-Observe reads)

pub effect-Branch : (selector : List Read) (arms : List Arm) (last : Option Place) (otherwise : List Item) → effect_of (Branch selector arms last otherwise) ≡ branch selector (ended selector last (effect_in otherwise)) (map arm_of arms)
effect-Branch selector arms last otherwise = effect_at (Branch selector arms last otherwise) (Item-F.Branch selector arms last otherwise) (outs-Branch selector arms last otherwise)

pub effect-Loop : (h : Head) (body : List Item) → effect_of (Loop h body) ≡ loop_over h (effect_in body)
effect-Loop h body = effect_at (Loop h body) (Item-F.Loop h body) (outs-Loop h body)

pub test_of : (arm : Arm) → arm_of arm ≡ record { place = (out-Arm arm).place; reads = (out-Arm arm).reads; is_exit = (out-Arm arm).is_exit; done = effect_in (out-Arm arm).body }
test_of arm = fold_out-Arm Effect Test item_step arm_step arm

-- ---- rows

pub row_effects : (stmts : List CoreStmt) → effects stmts ≡ row (map (λ s. effect (command s)) stmts)
row_effects [] = refl
row_effects (s ∷ stmts) = ap (next (effect (command s))) (row_effects stmts)

-- ---- `if`

pub branch_if : (otherwise : Command) (arms : List CoreArm) → effect (arms_before otherwise (map arm_before arms)) ≡ branch [] (effect otherwise) (map given_arm arms)
branch_if otherwise [] = refl
branch_if otherwise (arm ∷ arms) =
    let a = out-CoreArm arm in
    let body = effects a.body in
    let l = leaves (commands a.body) in
    ap effect (command_arm arm (arms_before otherwise (map arm_before arms)))
    ∙ ap₂ (λ reads e. chosen l reads body e a.place) (sym (append-nil (reads_of a.condition))) (branch_if otherwise arms)

pub if_lowered : (s : CoreStmt) (arms : List CoreArm) (o : Option (List CoreStmt)) (closing : Closing) → s ≡ stmt.If arms o closing → o ≡ None
    → (selector : List Read) (made : List Arm) (otherwise : List Item) → selector ≡ [] → otherwise ≡ [] → map arm_of made ≡ map given_arm arms → effect_of (Branch selector made None otherwise) ≡ effect (command s)
if_lowered s arms o closing is none selector made otherwise no_selector nothing_else tests =
    effect-Branch selector made None otherwise
    ∙ ap₂ (λ reads items. branch reads (effect_in items) (map arm_of made)) no_selector nothing_else
    ∙ ap (branch [] nothing) tests
    ∙ sym (ap effect (command-If s arms o closing is none) ∙ branch_if Skip arms)

pub else_lowered : (s : CoreStmt) (arms : List CoreArm) (o : Option (List CoreStmt)) (stmts : List CoreStmt) (closing : Closing) → s ≡ stmt.If arms o closing → o ≡ Some stmts
    → (selector : List Read) (made : List Arm) (otherwise : List Item) → selector ≡ [] → effect_in otherwise ≡ effects stmts → map arm_of made ≡ map given_arm arms → effect_of (Branch selector made None otherwise) ≡ effect (command s)
else_lowered s arms o stmts closing is some selector made otherwise no_selector else_is tests =
    effect-Branch selector made None otherwise
    ∙ ap₂ (λ reads e. branch reads e (map arm_of made)) no_selector else_is
    ∙ ap (branch [] (effects stmts)) tests
    ∙ sym (ap effect (command-If-else s arms o stmts closing is some) ∙ branch_if (commands stmts) arms)

-- ---- `case`

-- the alternatives but the last, which is `a`
pub branch_case : (place : Place) (selector : CoreExpr) (alternatives : List CoreAlternative) (k : ℕ) (a : CoreAlternative) → k + 1 ≡ length alternatives → a ≡ get_or alternatives k a
    → effect (select place selector (map alternative alternatives))
    ≡ branch (reads_of selector) (choose (reads_of selector) (effects (out-CoreAlternative a).body) (effects (out-CoreAlternative a).body) place) (map (λ b. given_body place [] (out-CoreAlternative b).body) (take k alternatives))
branch_case place selector [] k a long is = absurd (omega arith)
branch_case place selector (b ∷ []) zero a long is = select_last place selector b ∙ ap (λ x. choose (reads_of selector) (effects (out-CoreAlternative x).body) (effects (out-CoreAlternative x).body) place) (sym is)
branch_case place selector (b ∷ c ∷ rest) zero a long is = absurd (omega arith)
branch_case place selector (b ∷ []) (suc k) a long is = absurd (omega arith)
branch_case place selector (b ∷ c ∷ rest) (suc k) a long is =
    let body = (out-CoreAlternative b).body in
    let some : 0 < length (c ∷ rest) = omega arith in
    let fewer : k + 1 ≡ length (c ∷ rest) = omega arith in
    select_more place selector b (c ∷ rest) some ∙ ap (λ e. chosen (leaves (commands body)) (reads_of selector) (effects body) e place) (branch_case place selector (c ∷ rest) k a fewer is)

pub case_lowered : (place : Place) (selector : CoreExpr) (alternatives : List CoreAlternative) (k : ℕ) (a : CoreAlternative) → k + 1 ≡ length alternatives → a ≡ get_or alternatives k a
    → (reads : List Read) (made : List Arm) (otherwise : List Item) → reads ≡ reads_of selector → effect_in otherwise ≡ effects (out-CoreAlternative a).body
    → map arm_of made ≡ map (λ b. given_body place [] (out-CoreAlternative b).body) (take k alternatives) → effect_of (Branch reads made (Some place) otherwise) ≡ effect (select place selector (map alternative alternatives))
case_lowered place selector alternatives k a long is reads made otherwise reads_is last tests =
    effect-Branch reads made (Some place) otherwise
    ∙ ap₂ (λ rs e. branch rs (choose rs e e place) (map arm_of made)) reads_is last
    ∙ ap (branch (reads_of selector) (choose (reads_of selector) (effects (out-CoreAlternative a).body) (effects (out-CoreAlternative a).body) place)) tests
    ∙ sym (branch_case place selector alternatives k a long is)

-- ---- loops

pub loop_given : (x : CoreScheme) (body : Command) → effect (loop_of x body) ≡ given_loop x (effect body)
loop_given (scheme.While place condition) body = refl
loop_given (scheme.For c) body = refl
loop_given scheme.Endless body = refl
