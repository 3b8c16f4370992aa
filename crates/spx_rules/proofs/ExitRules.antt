-- Where statements and arms stand.
use Rattle.std.proofs.Common.{◌≡◌, ℕ, ◌+◌, ◌-◌, ◌<◌, ◌==◌, List, [], ◌∷◌, length, drop, take, get_or, map, false, refl, sym, ap, ap₂, ◌∙◌}
use Rattle.std.proofs.lemmas.List.{take_rest}
use Rattle.std.specs.Prelude.{⊤}
use Rattle.spx_text.specs.declared.place.Place.{Place}
use Rattle.spx_core.specs.declared.expression.CoreExpr.{CoreExpr}
use Rattle.spx_core.specs.declared.statement.Around.{Around}
use Rattle.spx_core.specs.declared.statement.Around.TheVariants.{Loop, Arm, Other}
use Rattle.spx_core.specs.declared.statement.CoreArm.{CoreArm, out-CoreArm}
use Rattle.spx_core.specs.declared.statement.CoreStmt.{CoreStmt}
use Rattle.spx_core.specs.Commands.{Choose, Command, arm_before, arms_before, commands}
use Rattle.spx_core.specs.Exits.{arm_in, first_in, followed, is_loop}
use Rattle.spx_core.specs.Judged.{Judged, ◌>>=◌}
use Rattle.spx_core.specs.Obeyed.{obeyed_command}
use Rattle.spx_core.proofs.Callers.CommandForms.{command_arm}
use Rattle.spx_rules.proofs.Elements.{left_of}

-- ---- a statement before others

pub before_stmts : (here : Around) (others : List CoreStmt) → (length others == 0) ≡ false → first_in here (commands others) ≡ followed here
before_stmts here [] some = cc
before_stmts here (s ∷ rest) some = refl

-- ---- an arm before others

before_choice : (here : Around) (place : Place) (condition : CoreExpr) (a b : Command) → arm_in here (Choose place condition a b) ≡ Other
before_choice Loop place condition a b = refl
before_choice Arm place condition a b = refl
before_choice Other place condition a b = refl

before_arm : (here : Around) (arm : CoreArm) (otherwise : Command) → arm_in here (arm_before arm otherwise) ≡ Other
before_arm here arm otherwise = ap (arm_in here) (command_arm arm otherwise) ∙ before_choice here (out-CoreArm arm).place (out-CoreArm arm).condition (commands (out-CoreArm arm).body) otherwise

-- other arms follow
pub before_arms : (here : Around) (arms : List CoreArm) (otherwise : Command) → (length arms == 0) ≡ false → arm_in here (arms_before otherwise (map arm_before arms)) ≡ Other
before_arms here [] otherwise some = cc
before_arms here (arm ∷ rest) otherwise some = before_arm here arm (arms_before otherwise (map arm_before rest))

-- statements follow after `else`
pub before_else : (here : Around) (arms : List CoreArm) (otherwise : List CoreStmt) → (length otherwise == 0) ≡ false → arm_in here (arms_before (commands otherwise) (map arm_before arms)) ≡ Other
before_else here (arm ∷ rest) otherwise some = before_arm here arm (arms_before (commands otherwise) (map arm_before rest))
before_else here [] [] some = cc
before_else Loop [] (s ∷ rest) some = refl
before_else Arm [] (s ∷ rest) some = refl
before_else Other [] (s ∷ rest) some = refl

-- not directly in a loop
pub elsewhere : (here : Around) (otherwise : Command) → is_loop here ≡ false → arm_in here otherwise ≡ Other
elsewhere Loop otherwise not_loop = cc
elsewhere Arm otherwise not_loop = refl
elsewhere Other otherwise not_loop = refl

-- ---- what is found in an arm, and then in those after it

choice_obeyed : (here : Around) (place : Place) (condition : CoreExpr) (body : List CoreStmt) (otherwise : Command)
    → obeyed_command here (Choose place condition (commands body) otherwise) ≡ (obeyed_command (arm_in here otherwise) (commands body) >>= λ _. obeyed_command Other otherwise)
choice_obeyed here place condition [] otherwise = refl
choice_obeyed here place condition (s ∷ rest) otherwise = refl

arm_obeyed : (here : Around) (arm : CoreArm) (otherwise : Command)
    → obeyed_command here (arm_before arm otherwise) ≡ (obeyed_command (arm_in here otherwise) (commands (out-CoreArm arm).body) >>= λ _. obeyed_command Other otherwise)
arm_obeyed here arm otherwise = ap (obeyed_command here) (command_arm arm otherwise) ∙ choice_obeyed here (out-CoreArm arm).place (out-CoreArm arm).condition (out-CoreArm arm).body otherwise

-- what the arms from this one on come to, before the statements after `else`
abbrev pub from_arm : List CoreArm → ℕ → List CoreStmt → Command
from_arm arms i otherwise = arms_before (commands otherwise) (map arm_before (drop i arms))

pub arms_from : (here : Around) {inside : Around} (arms : List CoreArm) (i : ℕ) {arm : CoreArm} {body : List CoreStmt} (otherwise : List CoreStmt) {found : Judged ⊤}
    → i < length arms → arm ≡ get_or arms i arm
    → inside ≡ arm_in here (arms_before (commands otherwise) (map arm_before (take (length arms - (i + 1)) (drop (i + 1) arms))))
    → body ≡ (out-CoreArm arm).body → found ≡ obeyed_command inside (commands body)
    → obeyed_command here (from_arm arms i otherwise) ≡ (found >>= λ _. obeyed_command Other (from_arm arms (i + 1) otherwise))
arms_from here arms i {arm = arm} {body = body} otherwise within is is_inside is_body is_found =
    let rest = from_arm arms (i + 1) otherwise in
    let stands = is_inside ∙ ap (λ (left : List CoreArm). arm_in here (arms_before (commands otherwise) (map arm_before left))) (take_rest arms (i + 1)) in
    ap (λ (left : List CoreArm). obeyed_command here (arms_before (commands otherwise) (map arm_before left))) (left_of arms i arm within is)
    ∙ arm_obeyed here arm rest
    ∙ ap (λ (x : Judged ⊤). x >>= λ _. obeyed_command Other rest) (sym (is_found ∙ ap₂ (λ (x : Around) (stmts : List CoreStmt). obeyed_command x (commands stmts)) stands is_body))
