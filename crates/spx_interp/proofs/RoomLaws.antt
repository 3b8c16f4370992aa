-- Stores that have a place for each variable of a subprogram.
use Rattle.std.proofs.Common.{◌≡◌, ℕ, zero, suc, ◌<◌, Bool, true, false, ◌||◌, ◌==◌, List, [], ◌∷◌, length, map, Option, Some, None, refl, sym, ap, subst, ◌∙◌, ⊎_elim, arith}
use Rattle.std.specs.Prelude.{IfSome, option_map, slice_get}
use Rattle.std.proofs.lemmas.Bool.{eq-eqb, or_cases, or_left, or_right}
use Rattle.std.proofs.lemmas.List.{take-append-drop}
use Rattle.std.proofs.lemmas.List.Elements.{All-cons}
use Rattle.std.proofs.lemmas.List.Folds.{list_any-append}
use Rattle.spx_text.specs.declared.place.Place.{Place}
use Rattle.spx_core.specs.declared.entity.VarId.{VarId}
use Rattle.spx_core.specs.declared.expression.CoreExpr.{CoreExpr}
use Rattle.spx_core.specs.declared.program.Program.{Program}
use Rattle.spx_core.specs.declared.program.Var.{Var}
use Rattle.spx_core.specs.declared.statement.CoreAlternative.{CoreAlternative, out-CoreAlternative}
use Rattle.spx_core.specs.declared.statement.CoreArm.{CoreArm, out-CoreArm}
use Rattle.spx_core.specs.declared.statement.CoreStmt.{CoreStmt}
use Rattle.spx_core.specs.declared.statement.CoreStmt.TheVariants.{If}
use Rattle.spx_core.specs.declared.subprogram.Sub.{Sub}
use Rattle.spx_tree.specs.declared.statement.Closing.{Closing}
use Rattle.spx_core.specs.Commands.{Command, Skip, Set, Then, Choose, Select, Assertion, Repeat, Leave, Tested, Counted, Endless, Alternatives, Last, When, alternative, alternatives_of, arm_before, arms_before, command, commands, leaves, select}
use Rattle.spx_core.specs.Effects.{Effect, Read, chosen, effect, effect_among, reads_of, sets}
use Rattle.spx_core.specs.Formals.{formals, inner, is_formal, is_inner, stands_in}
use Rattle.spx_core.specs.Scopes.{Scoped}
use Rattle.spx_core.specs.Uses.{is_same, variable_of}
use Rattle.spx_core.proofs.Callers.CommandForms.{command-If, command-If-else, command_alternative, command_arm}
use Rattle.spx_core.proofs.Callers.Variables.{same_itself}
use Rattle.spx_interp.specs.Rooms.{AllHaveRoom, AlternativesHaveRoom, ArmsHaveRoom, HasRoom, VarsHaveRoom}

module _ (size : ℕ) where
  -- ---- arms and alternatives

  pub room_of_arms : (otherwise : Command) (arms : List CoreArm) → HasRoom size (arms_before otherwise (map arm_before arms)) → ArmsHaveRoom size arms × HasRoom size otherwise
  room_of_arms otherwise [] room = (λ k d within. absurd (omega arith), room)
  room_of_arms otherwise (arm ∷ arms) room =
      let both = subst (HasRoom size) (command_arm arm (arms_before otherwise (map arm_before arms))) room in
      let rest = room_of_arms otherwise arms both.1 in
      (All-cons (λ (a : CoreArm). HasRoom size (commands (out-CoreArm a).body)) arm arms both.0 rest.0, rest.1)

  pub room_of_if : (s : CoreStmt) (arms : List CoreArm) (o : Option (List CoreStmt)) (closing : Closing) → s ≡ If arms o closing → HasRoom size (command s) → ArmsHaveRoom size arms
  room_of_if s arms None closing is room = (room_of_arms Skip arms (subst (HasRoom size) (command-If s arms None closing is refl) room)).0
  room_of_if s arms (Some stmts) closing is room = (room_of_arms (commands stmts) arms (subst (HasRoom size) (command-If-else s arms (Some stmts) stmts closing is refl) room)).0

  room_of : (a : CoreAlternative) → HasRoom size (alternative a).1 → HasRoom size (commands (out-CoreAlternative a).body)
  room_of a room = subst (HasRoom size) (command_alternative a) room

  among : (a : CoreAlternative) (rest : List CoreAlternative) → AllHaveRoom size (alternatives_of (alternative a) (map alternative rest)) → AlternativesHaveRoom size (a ∷ rest)
  among a [] room = All-cons (λ (x : CoreAlternative). HasRoom size (commands (out-CoreAlternative x).body)) a [] (room_of a room) (λ k d within. absurd (omega arith))
  among a (b ∷ rest) room = All-cons (λ (x : CoreAlternative). HasRoom size (commands (out-CoreAlternative x).body)) a (b ∷ rest) (room_of a room.0) (among b rest room.1)

  pub room_of_alternatives : (place : Place) (selector : CoreExpr) (alternatives : List CoreAlternative) → HasRoom size (select place selector (map alternative alternatives)) → AlternativesHaveRoom size alternatives
  room_of_alternatives place selector [] room = λ k d within. absurd (omega arith)
  room_of_alternatives place selector (a ∷ rest) room = among a rest room

  -- ---- what a command sets

  target_room : (o : Option VarId) → ((v : VarId) → is_same v o ≡ true → v.0 < size) → IfSome o (λ (v : VarId). v.0 < size)
  target_room (Some v) each = each v (same_itself v)
  target_room None each = tt

  sets_chosen : (l : Bool) (v : VarId) (tests : List Read) (a b : Effect) (place : Place) → sets v (chosen l tests a b place) ≡ (sets v a || sets v b)
  sets_chosen true v tests a b place = refl
  sets_chosen false v tests a b place = refl

  -- a store has a place for each variable that a command sets, where its size is more than their numbers
  mutual
    pub room_from : (c : Command) → ((v : VarId) → sets v (effect c) ≡ true → v.0 < size) → HasRoom size c
    room_from Skip each = tt
    room_from (Set target e) each = target_room (variable_of target.root.entity) each
    room_from (Then a b) each =
        (room_from a (λ v is. each v (or_left (sets v (effect a)) (sets v (effect b)) is)), room_from b (λ v is. each v (or_right (sets v (effect a)) (sets v (effect b)) is)))
    room_from (Choose place condition a b) each =
        let set = λ (v : VarId). sets_chosen (leaves a) v (reads_of condition) (effect a) (effect b) place in
        (room_from a (λ v is. each v (set v ∙ or_left (sets v (effect a)) (sets v (effect b)) is)), room_from b (λ v is. each v (set v ∙ or_right (sets v (effect a)) (sets v (effect b)) is)))
    room_from (Select place selector alternatives) each = room_among (reads_of selector) place alternatives each
    room_from (Assertion kind place condition) each = tt
    room_from (Repeat (Tested place condition) body) each = (tt, room_from body each)
    room_from (Repeat (Counted c) body) each = (
      each c.parameter (or_left (is_same c.parameter (Some c.parameter)) (sets c.parameter (effect body)) (same_itself c.parameter)),
      room_from body (λ v is. each v (or_right (is_same v (Some c.parameter)) (sets v (effect body)) is)),
    )
    room_from (Repeat Endless body) each = (tt, room_from body each)
    room_from (Leave place) each = tt

    room_among : (tests : List Read) (place : Place) (alternatives : Alternatives) → ((v : VarId) → sets v (effect_among tests place alternatives) ≡ true → v.0 < size) → AllHaveRoom size alternatives
    room_among tests place (Last choices a) each = room_from a (λ v is. each v (or_left (sets v (effect a)) (sets v (effect a)) is))
    room_among tests place (When choices a rest) each =
        let others = effect_among tests place rest in
        let set = λ (v : VarId). sets_chosen (leaves a) v tests (effect a) others place in
        (room_from a (λ v is. each v (set v ∙ or_left (sets v (effect a)) (sets v others) is)), room_among tests place rest (λ v is. each v (set v ∙ or_right (sets v (effect a)) (sets v others) is)))

  vars_room : (vars : List VarId) → ((v : VarId) → stands_in v vars ≡ true → v.0 < size) → VarsHaveRoom size vars
  vars_room [] each = λ k d within. absurd (omega arith)
  vars_room (v ∷ vars) each =
      All-cons (λ (w : VarId). w.0 < size) v vars (each v (or_left (v.0 == v.0) (stands_in v vars) (eq-eqb v.0 v.0 refl)))
      (vars_room vars (λ w is. each w (or_right (v.0 == w.0) (stands_in w vars) is)))

-- ---- scopes

within_list : {X B : Type 0} (xs : List X) (k : ℕ) (g : X → B) (b : B) → option_map g (slice_get xs k) ≡ Some b → k < length xs
within_list [] k g b is = absurd cc
within_list (x ∷ xs) zero g b is = omega arith
within_list (x ∷ xs) (suc k) g b is = let rest = within_list xs k g b is in omega arith

module _ (p : Program) (sub : Sub) (scoped : Scoped p sub) where
  has_place : (v : VarId) → (is_formal v sub || is_inner v sub) ≡ true → v.0 < length p.vars
  has_place v is =
      ⊎_elim
      (λ formal. let kind = scoped.formal_kinds v formal in within_list p.vars v.0 (λ (var : Var). var.kind) _ kind.1)
      (λ inner. let kind = scoped.inner_kinds v inner in within_list p.vars v.0 (λ (var : Var). var.kind) _ kind.1)
      (or_cases (is_formal v sub) (is_inner v sub) is)

  -- each variable that a statement of the subprogram sets has a place
  pub scoped_room : HasRoom (length p.vars) (commands sub.statements)
  scoped_room = room_from (length p.vars) (commands sub.statements) (λ v is. has_place v (scoped.targets v is))

  -- and each of its variables
  pub scoped_vars : VarsHaveRoom (length p.vars) sub.vars
  scoped_vars = vars_room (length p.vars) sub.vars (λ v is.
      has_place v (sym (list_any-append (λ (w : VarId). w.0 == v.0) (formals sub) (inner sub)) ∙ ap (stands_in v) (take-append-drop sub.formal_count sub.vars) ∙ is))
