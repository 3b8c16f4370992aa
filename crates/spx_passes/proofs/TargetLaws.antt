-- The variables that items set.
use Rattle.std.proofs.Common.{◌≡◌, Bool, true, false, ◌||◌, List, [], ◌∷◌, ◌++◌, map, Option, Some, None, refl, sym, ap, ◌∙◌}
use Rattle.spx_text.specs.declared.place.Place.{Place}
use Rattle.spx_core.specs.declared.entity.VarId.{VarId}
use Rattle.spx_core.specs.Uses.{is_same}
use Rattle.spx_core.specs.Effects.{Effect, Read, sets}
use Rattle.spx_core.proofs.Callers.FlowLaws.{sets_chosen}
use Rattle.spx_lower.specs.declared.item.Item.{Item}
use Rattle.spx_lower.specs.declared.item.Item.TheVariants.{Branch, Loop}
use Rattle.spx_lower.specs.declared.item.Arm.{Arm}
use Rattle.spx_lower.specs.declared.item.Head.{Head}
use Rattle.spx_lower.specs.declared.item.Head.TheVariants as head
use Rattle.spx_lower.specs.Meaning.{arm_of, branch, effect_in, effect_of, ended, loop_over}
use Rattle.spx_lower.proofs.LowerLaws.{effect-Branch, effect-Loop}
use Rattle.spx_passes.specs.Targets.{arms_set, parameter_of}

pub or_assoc : (a b c : Bool) → ((a || b) || c) ≡ (a || (b || c))
or_assoc true b c = refl
or_assoc false b c = refl

pub or_nothing : (a : Bool) → (a || false) ≡ a
or_nothing true = refl
or_nothing false = refl

pub or_same : (a : Bool) → (a || a) ≡ a
or_same true = refl
or_same false = refl

-- the arms, or what is done where no test is true
sets_arms : (v : VarId) (selector : List Read) (e : Effect) (arms : List Arm) → sets v (branch selector e (map arm_of arms)) ≡ (arms_set v arms || sets v e)
sets_arms v selector e [] = refl
sets_arms v selector e (arm ∷ arms) =
    let a = arm_of arm in
    let rest = branch selector e (map arm_of arms) in
    sets_chosen v a.is_exit (a.reads ++ selector) a.done rest a.place ∙ ap (λ b. sets v a.done || b) (sets_arms v selector e arms) ∙ sym (or_assoc (sets v a.done) (arms_set v arms) (sets v e))

sets_ended : (v : VarId) (selector : List Read) (last : Option Place) (e : Effect) → sets v (ended selector last e) ≡ sets v e
sets_ended v selector None e = refl
sets_ended v selector (Some place) e = or_same (sets v e)

pub sets_branch : (i : Item) (selector : List Read) (arms : List Arm) (last : Option Place) (otherwise : List Item) → i ≡ Branch selector arms last otherwise → (v : VarId) → sets v (effect_of i) ≡ (arms_set v arms || sets v (effect_in otherwise))
sets_branch i selector arms last otherwise is v =
    ap (sets v) (ap effect_of is ∙ effect-Branch selector arms last otherwise) ∙ sets_arms v selector (ended selector last (effect_in otherwise)) arms ∙ ap (λ b. arms_set v arms || b) (sets_ended v selector last (effect_in otherwise))

sets_over : (v : VarId) (h : Head) (e : Effect) → sets v (loop_over h e) ≡ (is_same v (parameter_of h) || sets v e)
sets_over v (head.Tested reads place) e = refl
sets_over v (head.Counted parameter bounds place) e = refl
sets_over v head.Endless e = refl

pub sets_loop : (i : Item) (h : Head) (body : List Item) → i ≡ Loop h body → (v : VarId) → sets v (effect_of i) ≡ (is_same v (parameter_of h) || sets v (effect_in body))
sets_loop i h body is v = ap (sets v) (ap effect_of is ∙ effect-Loop h body) ∙ sets_over v h (effect_in body)
