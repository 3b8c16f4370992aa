-- Where items leave the loops around them.
use Rattle.std.proofs.Common.{◌≡◌, Bool, ◌||◌, List, [], ◌∷◌, ◌++◌, map, Option, Some, None, refl, sym, ap, ◌∙◌}
use Rattle.std.specs.Prelude.{◌&&◌}
use Rattle.spx_text.specs.declared.place.Place.{Place}
use Rattle.spx_core.specs.Effects.{Effect, Read}
use Rattle.spx_lower.specs.declared.item.Item.{Item}
use Rattle.spx_lower.specs.declared.item.Item.TheVariants.{Branch, Loop}
use Rattle.spx_lower.specs.declared.item.Arm.{Arm}
use Rattle.spx_lower.specs.declared.item.Head.{Head}
use Rattle.spx_lower.specs.declared.item.Head.TheVariants as head
use Rattle.spx_lower.specs.Meaning.{arm_of, branch, effect_in, effect_of, ended, loop_over}
use Rattle.spx_lower.proofs.LowerLaws.{effect-Branch, effect-Loop}
use Rattle.spx_passes.specs.Positions.{exits_in}
use Rattle.spx_passes.specs.Targets.{arms_exit}
use Rattle.spx_passes.proofs.CoversLaws.{chosen_exits}
use Rattle.spx_passes.proofs.TargetLaws.{or_assoc, or_same}

module _ (deep : Bool) where
  exits_arms : (selector : List Read) (e : Effect) (arms : List Arm) → exits_in deep (branch selector e (map arm_of arms)) ≡ (arms_exit deep arms || exits_in deep e)
  exits_arms selector e [] = refl
  exits_arms selector e (arm ∷ arms) =
      let a = arm_of arm in
      let rest = branch selector e (map arm_of arms) in
      chosen_exits a.is_exit deep (a.reads ++ selector) a.done rest a.place
      ∙ ap (λ b. a.is_exit || (exits_in deep a.done || b)) (exits_arms selector e arms)
      ∙ ap (λ b. a.is_exit || b) (sym (or_assoc (exits_in deep a.done) (arms_exit deep arms) (exits_in deep e)))
      ∙ sym (or_assoc a.is_exit (exits_in deep a.done || arms_exit deep arms) (exits_in deep e))
      ∙ ap (λ b. b || exits_in deep e) (sym (or_assoc a.is_exit (exits_in deep a.done) (arms_exit deep arms)))

  exits_ended : (selector : List Read) (last : Option Place) (e : Effect) → exits_in deep (ended selector last e) ≡ exits_in deep e
  exits_ended selector None e = refl
  exits_ended selector (Some place) e = or_same (exits_in deep e)

  pub exits_branch : (i : Item) (selector : List Read) (arms : List Arm) (last : Option Place) (otherwise : List Item) → i ≡ Branch selector arms last otherwise → exits_in deep (effect_of i) ≡ (arms_exit deep arms || exits_in deep (effect_in otherwise))
  exits_branch i selector arms last otherwise is =
      ap (exits_in deep) (ap effect_of is ∙ effect-Branch selector arms last otherwise) ∙ exits_arms selector (ended selector last (effect_in otherwise)) arms
      ∙ ap (λ b. arms_exit deep arms || b) (exits_ended selector last (effect_in otherwise))

  exits_over : (h : Head) (e : Effect) → exits_in deep (loop_over h e) ≡ (deep && exits_in deep e)
  exits_over (head.Tested reads place) e = refl
  exits_over (head.Counted parameter bounds place) e = refl
  exits_over head.Endless e = refl

  pub exits_loop : (i : Item) (h : Head) (body : List Item) → i ≡ Loop h body → exits_in deep (effect_of i) ≡ (deep && exits_in deep (effect_in body))
  exits_loop i h body is = ap (exits_in deep) (ap effect_of is ∙ effect-Loop h body) ∙ exits_over h (effect_in body)
