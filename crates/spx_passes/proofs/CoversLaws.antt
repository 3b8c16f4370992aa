-- What covers a statement covers its parts.
use Rattle.std.proofs.Common.{◌≡◌, ℕ, zero, suc, Bool, true, false, ◌||◌, List, [], ◌∷◌, ◌++◌, Option, Some, None, ap, drop, map, refl, ◌∙◌}
use Rattle.std.specs.Prelude.{All, Contains}
use Rattle.std.specs.List.{list_any}
use Rattle.std.proofs.lemmas.Bool.{or_left, or_right}
use Rattle.std.proofs.lemmas.List.Elements.{All-cons, All-nil}
use Rattle.spx_text.specs.declared.place.Place.{Place}
use Rattle.spx_core.specs.declared.entity.VarId.{VarId}
use Rattle.spx_core.specs.Effects.{Effect, Read, chosen, is_read, reads, sets}
use Rattle.spx_core.proofs.Callers.FlowLaws.{reads_chosen, sets_chosen}
use Rattle.spx_core.proofs.Callers.ListTests.{passes}
use Rattle.spx_lower.specs.declared.item.Item.{Item}
use Rattle.spx_lower.specs.declared.item.Arm.{Arm}
use Rattle.spx_lower.specs.declared.item.Head.{Head}
use Rattle.spx_lower.specs.declared.item.Head.TheVariants as head
use Rattle.spx_lower.specs.Meaning.{arm_of, branch, effect_in, effect_of, ended, loop_over}
use Rattle.spx_passes.specs.declared.frame.Frame.{Frame}
use Rattle.spx_passes.specs.Positions.{Covers, CoversArm, exits_in}
use Rattle.spx_passes.proofs.LoopPasses.{counted_covered, headless_covered, turn_covered}

pub chosen_exits : (l deep : Bool) (tests : List Read) (a b : Effect) (place : Place) → exits_in deep (chosen l tests a b place) ≡ (l || (exits_in deep a || exits_in deep b))
chosen_exits true deep tests a b place = refl
chosen_exits false deep tests a b place = refl

module _ (frame : Frame) where
  pub first_covered : (l : Bool) (tests : List Read) (a b : Effect) (place : Place) → Covers frame (chosen l tests a b place) → Covers frame a
  first_covered l tests a b place covers = record {
    once = covers.once;
    targets = λ v h. covers.targets v (sets_chosen v l tests a b place ∙ or_left (sets v a) (sets v b) h);
    read = λ v h. covers.read v (reads_chosen v l tests a b place ∙ or_right (is_read v tests) (reads v a || reads v b) (or_left (reads v a) (reads v b) h));
    exits = λ h. covers.exits (chosen_exits l true tests a b place ∙ or_right l (exits_in true a || exits_in true b) (or_left (exits_in true a) (exits_in true b) h));
  }

  -- an arm that is an exit shows that there is one
  pub arm_exits : (l : Bool) (tests : List Read) (a b : Effect) (place : Place) → Covers frame (chosen l tests a b place) → l ≡ true → frame.has_exits ≡ true
  arm_exits l tests a b place covers is = covers.exits (chosen_exits l true tests a b place ∙ or_left l (exits_in true a || exits_in true b) is)

  second_covered : (l : Bool) (tests : List Read) (a b : Effect) (place : Place) → Covers frame (chosen l tests a b place) → Covers frame b
  second_covered l tests a b place covers = record {
    once = covers.once;
    targets = λ v h. covers.targets v (sets_chosen v l tests a b place ∙ or_right (sets v a) (sets v b) h);
    read = λ v h. covers.read v (reads_chosen v l tests a b place ∙ or_right (is_read v tests) (reads v a || reads v b) (or_right (reads v a) (reads v b) h));
    exits = λ h. covers.exits (chosen_exits l true tests a b place ∙ or_right l (exits_in true a || exits_in true b) (or_right (exits_in true a) (exits_in true b) h));
  }

  -- each arm, and what is done where no test is true
  pub branch_covered : (selector : List Read) (e : Effect) (arms : List Arm) → Covers frame (branch selector e (map arm_of arms)) → All (λ (arm : Arm). CoversArm frame (arm_of arm)) arms × Covers frame e
  branch_covered selector e [] covers = (All-nil (λ (arm : Arm). CoversArm frame (arm_of arm)), covers)
  branch_covered selector e (arm ∷ arms) covers =
      let a = arm_of arm in
      let rest = branch selector e (map arm_of arms) in
      let others = branch_covered selector e arms (second_covered a.is_exit (a.reads ++ selector) a.done rest a.place covers) in (
        All-cons (λ (x : Arm). CoversArm frame (arm_of x)) arm arms (record { body = first_covered a.is_exit (a.reads ++ selector) a.done rest a.place covers; exits = arm_exits a.is_exit (a.reads ++ selector) a.done rest a.place covers }) others.0,
        others.1,
      )

  pub ended_covered : (selector : List Read) (last : Option Place) (e : Effect) → Covers frame (ended selector last e) → Covers frame e
  ended_covered selector None e covers = covers
  ended_covered selector (Some place) e covers = first_covered false selector e e place covers

  -- the body of a loop
  pub loop_covered : (h : Head) (body : Effect) → Covers frame (loop_over h body) → Covers frame body
  loop_covered (head.Tested tests place) body covers = turn_covered frame tests body place covers
  loop_covered (head.Counted parameter bounds place) body covers = counted_covered frame parameter bounds body place covers
  loop_covered head.Endless body covers = headless_covered frame body covers

  -- ---- items in a row

  sets_any : (v : VarId) (items : List Item) → sets v (effect_in items) ≡ list_any (λ i. sets v (effect_of i)) items
  sets_any v [] = refl
  sets_any v (i ∷ items) = ap (λ b. sets v (effect_of i) || b) (sets_any v items)

  reads_any : (v : VarId) (items : List Item) → reads v (effect_in items) ≡ list_any (λ i. reads v (effect_of i)) items
  reads_any v [] = refl
  reads_any v (i ∷ items) = ap (λ b. reads v (effect_of i) || b) (reads_any v items)

  exits_any : (deep : Bool) (items : List Item) → exits_in deep (effect_in items) ≡ list_any (λ i. exits_in deep (effect_of i)) items
  exits_any deep [] = refl
  exits_any deep (i ∷ items) = ap (λ b. exits_in deep (effect_of i) || b) (exits_any deep items)

  -- what covers items covers each of them
  pub covers_one : (items : List Item) (i : Item) → Covers frame (effect_in items) → Contains items i → Covers frame (effect_of i)
  covers_one items i covers is = record {
    once = covers.once;
    targets = λ v h. covers.targets v (sets_any v items ∙ passes (λ t. sets v (effect_of t)) items i is h);
    read = λ v h. covers.read v (reads_any v items ∙ passes (λ t. reads v (effect_of t)) items i is h);
    exits = λ h. covers.exits (exits_any true items ∙ passes (λ t. exits_in true (effect_of t)) items i is h);
  }

  -- and what is left of them
  pub covers_left : (k : ℕ) (items : List Item) → Covers frame (effect_in items) → Covers frame (effect_in (drop k items))
  covers_left zero items covers = covers
  covers_left (suc k) [] covers = covers
  covers_left (suc k) (i ∷ items) covers = covers_left k items (record {
    once = covers.once;
    targets = λ v h. covers.targets v (or_right (sets v (effect_of i)) (sets v (effect_in items)) h);
    read = λ v h. covers.read v (or_right (reads v (effect_of i)) (reads v (effect_in items)) h);
    exits = λ h. covers.exits (or_right (exits_in true (effect_of i)) (exits_in true (effect_in items)) h);
  })
