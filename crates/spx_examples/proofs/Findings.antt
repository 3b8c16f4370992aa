-- What is found of the flow of the variants of `Inc` and `Flag`.
use Rattle.std.proofs.Common.{◌≡◌, ℤ, pos, false, List, [], ◌∷◌, ◌++◌, Option, Some, None, refl, ap, ap₂, ◌∙◌, append-nil}
use Rattle.std.specs.List.{filter_map}
use denote.Hole.Carrier.{roll}
use Rattle.spx_text.specs.declared.place.Place.{Place}
use Rattle.spx_tree.specs.declared.expression.InfixOp.TheVariants as op
use Rattle.spx_tree.specs.declared.statement.AssertionKind.TheVariants as assertion
use Rattle.spx_tree.specs.declared.statement.Closing.{Closing}
use Rattle.spx_core.specs.declared.expression.CoreExpr.{CoreExpr}
use Rattle.spx_core.specs.declared.expression.CoreExpr.TheVariants.{Name, Number, Infix}
use Rattle.spx_core.specs.declared.name.CoreName.{CoreName}
use Rattle.spx_core.specs.declared.statement.CoreStmt.{CoreStmt, CoreStmt-F, roll-CoreStmt, fold-roll-CoreStmt}
use Rattle.spx_core.specs.declared.statement.CoreStmt.TheVariants as stmt
use Rattle.spx_core.specs.declared.statement.CoreArm.{fold-roll-CoreArm}
use Rattle.spx_core.specs.declared.statement.CoreChoice.{CoreChoice}
use Rattle.spx_core.specs.Commands.{Command, Skip, Set, Then, Choose, Assertion, alternative_step, arm_step, stmt_step, commands, leaves}
use Rattle.spx_core.specs.Effects.{Effect, assign, choose, effect, effects, next, nothing, observe, read_of, chosen}
use Rattle.spx_core.specs.FlowRules.{body_effect, HasNoFlowFinding}
use Rattle.spx_core.specs.Reads.{names_read, names_step}
use Rattle.spx_core.specs.Uses.{variable_of}
use Rattle.spx_core.proofs.Callers.Expressions.{fold-Name, fold-Number, fold-Infix}
use Rattle.spx_examples.specs.Assertions.{checks_local, checks_import}
use Rattle.spx_examples.specs.Branches.{arm}
use Rattle.spx_examples.specs.Increment.{place, x, x_at, successor, step}
use Rattle.spx_examples.specs.Flag.{y, y_at, positive, setting, closing, flag, flag_program, flag_effect}
use Rattle.spx_examples.specs.Flag as in_flag
use Rattle.spx_examples.specs.Found.{Finds, nothing_found}
use Rattle.spx_examples.specs.Findings.{gives, declared, by_star, undeclared, overdeclared, with_formal, local_y_at, inc_with_local, with_local, positive_at, reads_after_arm, out_with_local, gives_seven, gives_unset, gives_set, overwrites, decides_nothing, sets_in_both, as_flag, seven_program, seven_y_at}
use Rattle.spx_examples.specs.Names.{target_to}
use Rattle.spx_examples.specs.Variants.{out_x_at}
use Rattle.spx_examples.proofs.Statements.{null_is, assignment_is, assertion_is, if_is}
use Rattle.spx_examples.proofs.Successor.{step_effect}
use Rattle.spx_examples.proofs.Flag.{names_read_are as condition_reads, effect_is}
use Rattle.spx_examples.proofs.FlowLists.{found, no_finding}

-- ---- the effects of statements, one after the other

abbrev front : Command → Command
front (Then a b) = a
front c = c

module _ (rest : List CoreStmt) where
  first_effect : (s : CoreStmt) (c : Command) → commands (s ∷ []) ≡ Then c Skip → effects (s ∷ rest) ≡ next (effect c) (effects rest)
  first_effect s c is = ap (λ d. next (effect (front d)) (effects rest)) is

  -- `target := value`, where the value reads these names
  giving : (target : CoreName) (value : CoreExpr) (names : List CoreName) → names_read value ≡ names → effects (gives target value ∷ rest) ≡ next (assign (variable_of target.entity) (filter_map read_of names) target.name.place) (effects rest)
  giving target value names are =
      first_effect (gives target value) (Set (target_to target) value) (assignment_is (target_to target) value)
      ∙ ap (λ names. next (assign (variable_of target.entity) (filter_map read_of names) target.name.place) (effects rest)) (ap (λ (read : List CoreName). read ++ []) are ∙ append-nil names)

  giving_name : (target name : CoreName) → effects (gives target (Name name) ∷ rest) ≡ next (assign (variable_of target.entity) (filter_map read_of (name ∷ [])) target.name.place) (effects rest)
  giving_name target name = giving target (Name name) (name ∷ []) (fold-Name names_step name)

  giving_number : (target : CoreName) (n : ℤ) (at : Place) → effects (gives target (Number n at) ∷ rest) ≡ next (assign (variable_of target.entity) [] target.name.place) (effects rest)
  giving_number target n at = giving target (Number n at) [] (fold-Number names_step n at)

  stepping : effects (step ∷ rest) ≡ next (assign (Some x) ((place 6 9, x) ∷ []) (place 6 4)) (effects rest)
  stepping = first_effect step (Set (target_to (x_at 6 4)) (successor 6 9)) (assignment_is (target_to (x_at 6 4)) (successor 6 9)) ∙ ap (λ e. next e (effects rest)) (step_effect 6 4 9)

  -- an `if` whose condition reads these names
  choosing : (s : CoreStmt) (at : Place) (condition : CoreExpr) (a b : Command) (names : List CoreName) → commands (s ∷ []) ≡ Then (Choose at condition a b) Skip → names_read condition ≡ names → leaves a ≡ false
      → effects (s ∷ rest) ≡ next (choose (filter_map read_of names) (effect a) (effect b) at) (effects rest)
  choosing s at condition a b names is are stays =
      first_effect s (Choose at condition a b) is
      ∙ ap₂ (λ names left. next (chosen left (filter_map read_of names) (effect a) (effect b) at) (effects rest)) are stays

  -- a `check` whose condition reads these names
  looking : (at : Place) (condition : CoreExpr) (names : List CoreName) → names_read condition ≡ names → effects (stmt.Assertion assertion.Check at condition ∷ rest) ≡ next (observe (filter_map read_of names)) (effects rest)
  looking at condition names are =
      first_effect (stmt.Assertion assertion.Check at condition) (Assertion assertion.Check at condition) (assertion_is assertion.Check at condition)
      ∙ ap (λ names. next (observe (filter_map read_of names)) (effects rest)) are

if_else_is : (at : Place) (condition : CoreExpr) (body otherwise : List CoreStmt) (closing : Closing) → commands (stmt.If (arm at condition body ∷ []) (Some otherwise) closing ∷ []) ≡ Then (Choose at condition (commands body) (commands otherwise)) Skip
unfolding roll-CoreStmt roll
if_else_is at condition body otherwise closing =
    ap (λ c. Then c Skip)
    (fold-roll-CoreStmt Command (Option (List CoreChoice) × Command) (Command → Command) stmt_step alternative_step arm_step (CoreStmt-F.If (arm at condition body ∷ []) (Some otherwise) closing)
    ∙ ap (λ choose. choose (commands otherwise)) (fold-roll-CoreArm Command (Option (List CoreChoice) × Command) (Command → Command) stmt_step alternative_step arm_step (record { place = at; condition = condition; body = body })))

-- ---- the bodies

-- `X := X + 1`
abbrev stepped : Effect
stepped = assign (Some x) ((place 6 9, x) ∷ []) (place 6 4)

-- `Y := X` after it
abbrev copied : Effect
copied = assign (Some y) ((place 7 9, x) ∷ []) (place 7 4)

declared_effect : body_effect declared ≡ next stepped (next copied nothing)
declared_effect = stepping (gives (y_at 7 4) (Name (x_at 7 9)) ∷ []) ∙ ap (next stepped) (giving_name [] (y_at 7 4) (x_at 7 9))

overdeclared_effect : body_effect overdeclared ≡ next stepped (next (assign (Some y) [] (place 7 4)) nothing)
overdeclared_effect = stepping (gives (y_at 7 4) (Number (pos 1) (place 7 9)) ∷ []) ∙ ap (next stepped) (giving_number [] (y_at 7 4) (pos 1) (place 7 9))

local_effect : body_effect inc_with_local ≡ next stepped (next copied nothing)
local_effect = stepping (gives (local_y_at 7 4) (Name (x_at 7 9)) ∷ []) ∙ ap (next stepped) (giving_name [] (local_y_at 7 4) (x_at 7 9))

overwrites_effect : body_effect overwrites ≡ next (assign (Some y) [] (place 5 4)) (next (assign (Some y) ((place 6 9, x) ∷ []) (place 6 4)) nothing)
overwrites_effect =
    giving_number (gives (y_at 6 4) (Name (in_flag.x_at 6 9)) ∷ []) (y_at 5 4) (pos 1) (place 5 9)
    ∙ ap (next (assign (Some y) [] (place 5 4))) (giving_name [] (y_at 6 4) (in_flag.x_at 6 9))

-- `if X > 0` with these arms
abbrev where_positive : Effect → Effect → Effect
where_positive a b = choose ((place 5 7, x) ∷ []) a b (place 5 4)

decides_effect : body_effect decides_nothing ≡ next (where_positive (next nothing nothing) nothing) (next (assign (Some y) ((place 8 9, x) ∷ []) (place 8 4)) nothing)
decides_effect =
    let rest = gives (y_at 8 4) (Name (in_flag.x_at 8 9)) ∷ [] in
    let body = stmt.Null (place 6 7) ∷ [] in
    choosing rest (stmt.If (arm (place 5 4) positive body ∷ []) None closing) (place 5 4) positive (commands body) Skip _ (if_is (place 5 4) positive body closing) condition_reads (ap leaves (null_is (place 6 7)))
    ∙ ap₂ (λ body after. next (where_positive body nothing) after) (ap effect (null_is (place 6 7))) (giving_name [] (y_at 8 4) (in_flag.x_at 8 9))

both_effect : body_effect sets_in_both ≡ next (where_positive (next (assign (Some y) [] (place 6 7)) nothing) (next (assign (Some y) [] (place 8 7)) nothing)) nothing
both_effect =
    let first = setting ∷ [] in
    let second = gives (y_at 8 7) (Number (pos 0) (place 8 12)) ∷ [] in
    let closing : Closing = record { end = place 9 4; word = place 9 8 } in
    choosing [] (stmt.If (arm (place 5 4) positive first ∷ []) (Some second) closing) (place 5 4) positive (commands first) (commands second) _ (if_else_is (place 5 4) positive first second closing) condition_reads (ap leaves (assignment_is (target_to (y_at 6 7)) (Number (pos 1) (place 6 12))))
    ∙ ap₂ (λ one other. next (where_positive one other) nothing) (giving_number [] (y_at 6 7) (pos 1) (place 6 12)) (giving_number [] (y_at 8 7) (pos 0) (place 8 12))

arm_effect : body_effect reads_after_arm ≡ next (choose ((place 6 7, x) ∷ []) (next (assign (Some y) [] (place 7 7)) nothing) nothing (place 6 4)) (next (assign (Some x) ((place 9 9, y) ∷ []) (place 9 4)) nothing)
arm_effect =
    let body = gives (local_y_at 7 7) (Number (pos 1) (place 7 12)) ∷ [] in
    let rest = gives (x_at 9 4) (Name (local_y_at 9 9)) ∷ [] in
    let closing : Closing = record { end = place 8 4; word = place 8 8 } in
    let test = fold-Infix names_step op.Greater (place 6 9) (Name (x_at 6 7)) (Number (pos 0) (place 6 11)) ∙ ap₂ (λ (a b : List CoreName). a ++ b) (fold-Name names_step (x_at 6 7)) (fold-Number names_step (pos 0) (place 6 11)) in
    choosing rest (stmt.If (arm (place 6 4) (positive_at 6) body ∷ []) None closing) (place 6 4) (positive_at 6) (commands body) Skip _ (if_is (place 6 4) (positive_at 6) body closing) test (ap leaves (assignment_is (target_to (local_y_at 7 7)) (Number (pos 1) (place 7 12))))
    ∙ ap₂ (λ one after. next (choose ((place 6 7, x) ∷ []) one nothing (place 6 4)) after) (giving_number [] (local_y_at 7 7) (pos 1) (place 7 12)) (giving_name [] (x_at 9 4) (local_y_at 9 9))

unset_effect : body_effect gives_unset ≡ next (assign (Some x) ((place 6 9, y) ∷ []) (place 6 4)) nothing
unset_effect = giving_name [] (out_x_at 6 4) (local_y_at 6 9)

set_effect : body_effect gives_set ≡ next (assign (Some y) [] (place 6 4)) (next (assign (Some x) ((place 7 9, y) ∷ []) (place 7 4)) nothing)
set_effect =
    giving_number (gives (out_x_at 7 4) (Name (local_y_at 7 9)) ∷ []) (local_y_at 6 4) (pos 1) (place 6 9)
    ∙ ap (next (assign (Some y) [] (place 6 4))) (giving_name [] (out_x_at 7 4) (local_y_at 7 9))

seven_effect : body_effect gives_seven ≡ next (assign (Some x) ((place 6 9, y) ∷ []) (place 6 4)) nothing
seven_effect = giving_name [] (out_x_at 6 4) (seven_y_at 6 9)

-- `name > 0` reads the name
pub test_reads : (at zero : Place) (name : CoreName) → names_read (Infix op.Greater at (Name name) (Number (pos 0) zero)) ≡ name ∷ []
test_reads at zero name = fold-Infix names_step op.Greater at (Name name) (Number (pos 0) zero) ∙ ap₂ (λ (a b : List CoreName). a ++ b) (fold-Name names_step name) (fold-Number names_step (pos 0) zero)

local_check_effect : body_effect checks_local ≡ next stepped (next (observe ((place 7 14, y) ∷ [])) nothing)
local_check_effect =
    let condition : CoreExpr = Infix op.Greater (place 7 16) (Name (local_y_at 7 14)) (Number (pos 0) (place 7 18)) in
    stepping (stmt.Assertion assertion.Check (place 7 8) condition ∷ [])
    ∙ ap (next stepped) (looking [] (place 7 8) condition (local_y_at 7 14 ∷ []) (test_reads (place 7 16) (place 7 18) (local_y_at 7 14)))

import_check_effect : body_effect checks_import ≡ next (observe ((place 5 14, x) ∷ [])) (next (assign (Some y) [] (place 6 4)) nothing)
import_check_effect =
    let rest : List CoreStmt = gives (y_at 6 4) (Number (pos 1) (place 6 9)) ∷ [] in
    let condition : CoreExpr = Infix op.Greater (place 5 16) (Name (in_flag.x_at 5 14)) (Number (pos 0) (place 5 18)) in
    looking rest (place 5 8) condition (in_flag.x_at 5 14 ∷ []) (test_reads (place 5 16) (place 5 18) (in_flag.x_at 5 14))
    ∙ ap (next (observe ((place 5 14, x) ∷ []))) (giving_number [] (y_at 6 4) (pos 1) (place 6 9))

-- ---- what is found

pub declared_clean : HasNoFlowFinding (with_formal declared)
declared_clean = no_finding (with_formal declared) declared refl (found (with_formal declared) declared _ declared_effect refl)

pub star_clean : HasNoFlowFinding (with_formal by_star)
star_clean = no_finding (with_formal by_star) by_star refl (found (with_formal by_star) by_star _ declared_effect refl)

pub missing : Finds (with_formal undeclared) undeclared (record nothing_found { missing = (x, y) ∷ [] })
missing = found (with_formal undeclared) undeclared _ declared_effect refl

pub unused : Finds (with_formal overdeclared) overdeclared (record nothing_found { unused = (x, y) ∷ [] })
unused = found (with_formal overdeclared) overdeclared _ overdeclared_effect refl

pub overwritten : Finds (as_flag overwrites) overwrites (record nothing_found { ineffective = place 5 4 ∷ [] })
overwritten = found (as_flag overwrites) overwrites _ overwrites_effect refl

pub of_local : Finds (with_local inc_with_local) inc_with_local (record nothing_found { ineffective = place 7 4 ∷ [] })
of_local = found (with_local inc_with_local) inc_with_local _ local_effect refl

pub undecided : Finds (as_flag decides_nothing) decides_nothing (record nothing_found { ineffective = place 5 4 ∷ [] })
undecided = found (as_flag decides_nothing) decides_nothing _ decides_effect refl

pub both_clean : HasNoFlowFinding (as_flag sets_in_both)
both_clean = no_finding (as_flag sets_in_both) sets_in_both refl (found (as_flag sets_in_both) sets_in_both _ both_effect refl)

pub one_arm : Finds flag_program flag (record nothing_found { missing = (y, y) ∷ []; unset = (flag.end, y) ∷ [] })
one_arm = found flag_program flag flag_effect effect_is refl

pub after_arm : Finds (with_local reads_after_arm) reads_after_arm (record nothing_found { unset = (place 9 9, y) ∷ [] })
after_arm = found (with_local reads_after_arm) reads_after_arm _ arm_effect refl

pub unset : Finds (out_with_local gives_unset) gives_unset (record nothing_found { unset = (place 6 9, y) ∷ [] })
unset = found (out_with_local gives_unset) gives_unset _ unset_effect refl

pub seven_clean : HasNoFlowFinding seven_program
seven_clean = no_finding seven_program gives_seven refl (found seven_program gives_seven _ seven_effect refl)

pub set_clean : HasNoFlowFinding (out_with_local gives_set)
set_clean = no_finding (out_with_local gives_set) gives_set refl (found (out_with_local gives_set) gives_set _ set_effect refl)

pub unset_in_check : Finds (with_local checks_local) checks_local (record nothing_found { unset = (place 7 14, y) ∷ [] })
unset_in_check = found (with_local checks_local) checks_local _ local_check_effect refl

pub unused_in_check : Finds (as_flag checks_import) checks_import (record nothing_found { unused = (x, y) ∷ [] })
unused_in_check = found (as_flag checks_import) checks_import _ import_check_effect refl
